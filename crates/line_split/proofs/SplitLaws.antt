-- What the definitions of cutting say of the answers of cutting.
use Rattle.std.proofs.Common.{◌≡◌, ◌↔◌, ℕ, List, refl, sym, ap, subst, ◌∙◌}
use Rattle.std.specs.Prelude.{◌≢◌, Ok, Err, Contains, IsErrOf, IsTrue, MatchResult}
use Rattle.std.specs.declared.result.Result.{Result}
use Rattle.plane_geometry.specs.declared.Point.{Point}
use Rattle.plane_geometry.specs.declared.Segment.{Segment}
use Rattle.plane_geometry.specs.SegmentView.{stretch_of}
use Rattle.crease_model.specs.declared.Piece.{Piece}
use Rattle.line_split.specs.declared.cutting.SplitFault.{SplitFault}
use Rattle.line_split.specs.declared.cutting.SplitFault.TheVariants.{OutOfRange, Memory}
use Rattle.line_split.specs.Answer.{IsCutFault}
use Rattle.line_split.specs.Points.{is_rising, HasPointAt}
use Rattle.line_split.specs.Cuts.{is_cut, cuts_of, IsFirstOutOfRange}
use Rattle.plane_geometry.specs.Position.{Position, position_of}
use Rattle.plane_geometry.specs.Direction.{is_zero}
use Rattle.plane_geometry.specs.StretchLaws.{same_is, zero_is, turned_zero}
use Rattle.line_split.specs.Parts.{parts_of, IsPart}
use Rattle.line_split.specs.CutLaws.{cut_same, cuts_are_cuts, cuts_are_all}
use Rattle.line_split.specs.FaultLaws.{fault_is_first, first_is_fault}
use Rattle.line_split.specs.PartLaws.{parts_are_parts, parts_are_all}

-- the cut points are in just those places where the segment is cut
pub cuts_found : (s : Segment) (pieces : List Piece) (points : List Point) → cuts_of s pieces ≡ Ok points
    → (v : Position) → HasPointAt points v ↔ IsTrue (is_cut pieces (stretch_of s) v)
cuts_found s pieces points cut v = (
  λ w. cut_same s pieces (position_of w.0) v
      (turned_zero v (position_of w.0) (zero_is _ (sym (same_is v (position_of w.0)) ∙ w.2)))
      (cuts_are_cuts s pieces points cut w.0 w.1),
  λ e. let w = cuts_are_all s pieces points cut v e in
      (w.0, w.1, same_is v (position_of w.0) ∙ ap is_zero w.2),
)

-- the parts of a piece are just the pieces of its kind between neighbouring points
pub parts_found : (p : Piece) (points : List Point) → IsTrue (is_rising points)
    → (q : Piece) → Contains (parts_of p points) q ↔ IsPart p points q
parts_found p points up q = (parts_are_parts p points up q, parts_are_all p points up q)

-- ---- what an answer tells

-- there is no fault where there are cuts
none_out_of_range : {T : Type 0} (answer : T) (s : Segment) (pieces : List Piece) (points : List Point)
    → cuts_of s pieces ≡ Ok points → (number : ℕ)
    → (◌≡◌ {A = Result T SplitFault} (Ok answer) (Err (OutOfRange number)))
    ↔ ((◌≢◌ {A = Result T SplitFault} (Ok answer) (Err Memory))
    × IsFirstOutOfRange (stretch_of s) pieces number)
none_out_of_range answer s pieces points cut number = (
  (λ same. absurd (cc)),
  λ w. let both : Ok points ≡ Err number = sym cut ∙ first_is_fault s pieces number w.1 in absurd (cc),
)

-- a fault is that of the first piece, or want of memory
first_out_of_range : {T : Type 0} (s : Segment) (pieces : List Piece) (fault : SplitFault)
    → IsCutFault fault (cuts_of s pieces) → (number : ℕ)
    → (◌≡◌ {A = Result T SplitFault} (Err fault) (Err (OutOfRange number)))
    ↔ ((◌≢◌ {A = Result T SplitFault} (Err fault) (Err Memory))
    × IsFirstOutOfRange (stretch_of s) pieces number)
first_out_of_range s pieces (OutOfRange m) e number = (
  (λ same. let one : m ≡ number = cc in (
    (λ h. absurd (cc)),
    subst (IsFirstOutOfRange (stretch_of s) pieces) one (fault_is_first s pieces m e),
  )),
  λ w.
      let both : Err m ≡ Err number = sym e ∙ first_is_fault s pieces number w.1 in
      let one : m ≡ number = cc in
      ap (λ n. Err (OutOfRange n)) one,
)
first_out_of_range s pieces Memory e number = ((λ same. absurd (cc)), λ w. absurd (w.0 refl))

-- an answer tells the first piece whose common point is out of range, exactly where there is one and memory is
-- not wanted
pub answer_where : {T : Type 0} (s : Segment) (pieces : List Piece) (points_of : T → List Point)
    (answer : Result T SplitFault)
    → MatchResult answer (λ v. cuts_of s pieces ≡ Ok (points_of v))
    (λ fault. IsCutFault fault (cuts_of s pieces))
    → (number : ℕ) → IsErrOf answer (OutOfRange number)
    ↔ ((answer ≢ Err Memory) × IsFirstOutOfRange (stretch_of s) pieces number)
answer_where s pieces points_of (Ok v) cut number = none_out_of_range v s pieces (points_of v) cut number
answer_where s pieces points_of (Err fault) e number = first_out_of_range s pieces fault e number
