-- Refusals, and their texts.
use Rattle.std.specs.Prelude.{ℕ, List, [], ◌++◌, Option, None, Some, codes, decimal}
use Rattle.plane_geometry.specs.declared.Point.{Point}
use Rattle.plane_geometry.specs.DirView.{dir_number}
use Rattle.cp_text.specs.declared.line.LineFault.{LineFault}
use Rattle.cp_text.specs.declared.line.LineFault.TheVariants as line
use Rattle.cp_text.specs.LineText.{bare_point_text}
use Rattle.crease_store.specs.declared.faults.StoreRefusal.{StoreRefusal}
use Rattle.crease_store.specs.declared.faults.StoreRefusal.TheVariants as store
use Rattle.script_lang.specs.declared.refusal.LoadCause.{LoadCause}
use Rattle.script_lang.specs.declared.refusal.LoadCause.TheVariants.{Line, Add}
use Rattle.script_lang.specs.declared.refusal.Refusal.{Refusal}
use Rattle.script_lang.specs.declared.refusal.Refusal.TheVariants.{LongLine, UnknownWord, BadKind, WrongCount, BadNumber, NotExact, OutOfRange, ZeroLength, BadDirection, EdgeOffBorder, OutsideSheet, OnBorder, Crossing, TooManyPieces, NoSuchPiece, BadSheet, Full, NothingToUndo, NothingToRedo, LoadLine, LoadUnended, TooManyJobs, NotConvex, TooManyFaces, Unreached, DoesNotClose, FoldRange, TooManyLines, TooManyPairs, NoSuchJob, Cancelled, Busy, NothingAsked, TooManyAsks}

-- the refusal of a line
abbrev pub line_refusal : LineFault → Refusal
line_refusal line.LongLine = LongLine
line_refusal line.UnknownWord = UnknownWord
line_refusal line.BadKind = BadKind
line_refusal line.WrongCount = WrongCount
line_refusal (line.BadNumber place) = BadNumber place
line_refusal (line.NotExact place) = NotExact place
line_refusal (line.OutOfRange place) = OutOfRange place

-- the refusal of a change
abbrev pub store_refusal : StoreRefusal → Refusal
store_refusal store.ZeroLength = ZeroLength
store_refusal store.BadDirection = BadDirection
store_refusal store.EdgeOffBorder = EdgeOffBorder
store_refusal store.OutsideSheet = OutsideSheet
store_refusal store.OnBorder = OnBorder
store_refusal (store.Crossing piece) = Crossing piece
store_refusal (store.TooManyPieces pieces) = TooManyPieces pieces
store_refusal store.NoSuchPiece = NoSuchPiece

abbrev pub cause_refusal : LoadCause → Refusal
cause_refusal (Line fault) = line_refusal fault
cause_refusal (Add refusal) = store_refusal refusal

-- the word of a refusal
abbrev pub refusal_word : Refusal → List ℕ
refusal_word LongLine = codes "longline"
refusal_word UnknownWord = codes "unknownword"
refusal_word BadKind = codes "badkind"
refusal_word WrongCount = codes "wrongcount"
refusal_word (BadNumber place) = codes "badnumber"
refusal_word (NotExact place) = codes "notexact"
refusal_word (OutOfRange place) = codes "outofrange"
refusal_word ZeroLength = codes "zerolength"
refusal_word BadDirection = codes "baddirection"
refusal_word EdgeOffBorder = codes "edgeoffborder"
refusal_word OutsideSheet = codes "outsidesheet"
refusal_word OnBorder = codes "onborder"
refusal_word (Crossing piece) = codes "crossing"
refusal_word (TooManyPieces pieces) = codes "toomanypieces"
refusal_word NoSuchPiece = codes "nosuchpiece"
refusal_word (BadSheet corner) = codes "badsheet"
refusal_word Full = codes "full"
refusal_word NothingToUndo = codes "nothingtoundo"
refusal_word NothingToRedo = codes "nothingtoredo"
refusal_word (LoadLine number cause) = codes "load"
refusal_word LoadUnended = codes "load unended"
refusal_word TooManyJobs = codes "toomanyjobs"
refusal_word (NotConvex point direction) = codes "notconvex"
refusal_word (TooManyFaces faces) = codes "toomanyfaces"
refusal_word (Unreached face) = codes "unreached"
refusal_word (DoesNotClose piece) = codes "doesnotclose"
refusal_word (FoldRange face) = codes "foldrange"
refusal_word (TooManyLines lines) = codes "toomanylines"
refusal_word (TooManyPairs pairs) = codes "toomanypairs"
refusal_word (NoSuchJob job) = codes "nosuchjob"
refusal_word (Cancelled job) = codes "cancelled"
refusal_word (Busy job) = codes "busy"
refusal_word (NothingAsked job) = codes "nothingasked"
refusal_word TooManyAsks = codes "toomanyasks"

-- the point that it tells, if any
abbrev pub refusal_point : Refusal → Option Point
refusal_point (NotConvex point direction) = Some point
refusal_point refusal = None

-- the number that it tells, if any
abbrev pub refusal_number : Refusal → Option ℕ
refusal_number (BadNumber place) = Some place
refusal_number (NotExact place) = Some place
refusal_number (OutOfRange place) = Some place
refusal_number (Crossing piece) = Some piece
refusal_number (TooManyPieces pieces) = Some pieces
refusal_number (BadSheet corner) = Some corner
refusal_number (LoadLine number cause) = Some number
refusal_number (NotConvex point direction) = Some (dir_number direction)
refusal_number (TooManyFaces faces) = Some faces
refusal_number (Unreached face) = Some face
refusal_number (DoesNotClose piece) = Some piece
refusal_number (FoldRange face) = Some face
refusal_number (TooManyLines lines) = Some lines
refusal_number (TooManyPairs pairs) = Some pairs
refusal_number (NoSuchJob job) = Some job
refusal_number (Cancelled job) = Some job
refusal_number (Busy job) = Some job
refusal_number (NothingAsked job) = Some job
refusal_number refusal = None

-- why a line of a block is refused, if it is one
abbrev pub refusal_cause : Refusal → Option LoadCause
refusal_cause (LoadLine number cause) = Some cause
refusal_cause refusal = None

abbrev pub point_part : Option Point → List ℕ
point_part None = []
point_part (Some point) = codes " " ++ bare_point_text point

abbrev pub number_part : Option ℕ → List ℕ
number_part None = []
number_part (Some n) = codes " " ++ decimal n

-- the word, the point and the number
abbrev pub plain_text : Refusal → List ℕ
plain_text refusal = refusal_word refusal ++ point_part (refusal_point refusal)
    ++ number_part (refusal_number refusal)

-- the refusal that the line itself would have
abbrev pub cause_text : Option LoadCause → List ℕ
cause_text None = []
cause_text (Some cause) = codes " " ++ plain_text (cause_refusal cause)

abbrev pub refusal_text : Refusal → List ℕ
refusal_text refusal = plain_text refusal ++ cause_text (refusal_cause refusal)
