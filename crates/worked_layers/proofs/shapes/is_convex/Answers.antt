use Rattle.std.proofs.Common.{◌≡◌, ◌∙◌, ap, subst, map, List, Option, IfSome, IsTrue, nat_eq, ℕ}
use Rattle.std.specs.List.{list_all, sum}
use Rattle.std.proofs.lemmas.Bool.{and_from}
use Rattle.plane_geometry.specs.declared.Dir.{Dir}
use Rattle.plane_geometry.specs.declared.Point.{Point}
use Rattle.plane_geometry.specs.DirView.{dir_number}
use Rattle.plane_geometry.specs.Polygon.{turns_of, is_convex_turn, directions_of, have_directions, is_convex}
use Rattle.std.specs.declared.vec.Vec.{Vec}
use Rattle.std.specs.declared.alloc.Global.{Global}
use Rattle.worked_layers.proofs.shapes.is_convex.Goals as goal

abbrev TurnsRound : List ℕ → Type 0
TurnsRound ns = IsTrue (list_all is_convex_turn (turns_of ns)) × IsTrue (nat_eq (sum (turns_of ns)) 16)

convex_from : (corners : List Point) (ns : List ℕ) → ns ≡ directions_of corners
    → IsTrue (have_directions corners) → TurnsRound ns → IsTrue (is_convex corners)
unfolding is_convex
convex_from corners ns e directed round =
    let here = subst TurnsRound e round in
    and_from _ _ directed (and_from _ _ here.0 here.1)

pub returns-in-Some : goal.returns-in-Some
returns-in-Some c =
    λ yes.
    let found = subst (λ (o : Option (Vec Dir Global)). IfSome o (λ v. (map dir_number v.items
    ≡ directions_of c.args.corners.now) × IsTrue (have_directions c.args.corners.now))) c.in-Some.is
    c.in_ok-directions.ensures in
    convex_from c.args.corners.now (map dir_number c.as_slice.result.now)
    (ap (λ (l : List Dir). map dir_number l) c.as_slice.ensures.value ∙ found.0) found.1 (c.is_round.ensures yes)
