-- What adding a segment gives.
use Rattle.std.specs.Prelude.{◌≡◌}
use Rattle.plane_geometry.specs.declared.Segment.{Segment}
use Rattle.crease_model.specs.declared.Kind.{Kind}
use Rattle.crease_model.specs.View.{PatternView}
use Rattle.crease_model.specs.Rules.{IsPattern, AllMeetAtEnds}
use Rattle.crease_store.specs.Added.{IsAdded}

-- the pieces meet at ends alone again, whatever is cut
abbrev pub AddedMeet : Type 0
AddedMeet =
    (old : PatternView) (kind : Kind) (s : Segment) (new : PatternView)
    → IsPattern old
    → IsAdded old kind s new
    → AllMeetAtEnds new.pieces

-- there is one pattern at most that is another with a segment added
abbrev pub AddedIsOne : Type 0
AddedIsOne =
    (old : PatternView) (kind : Kind) (s : Segment) (new other : PatternView)
    → IsAdded old kind s new
    → IsAdded old kind s other
    → new ≡ other
