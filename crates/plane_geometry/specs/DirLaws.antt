-- Directions as values: one for each number, and at most one from one point to another.
use Rattle.std.proofs.Common.{◌≡◌, ◌↔◌, ℕ, ◌<◌, ◌≤◌, Option, None, Some, MatchOption, ap, subst, arith}
use Rattle.std.specs.Bool.{IsFalse, IsTrue}
use Rattle.std.proofs.lemmas.Bool.{both_ways}
use Rattle.std.proofs.Math.Bridge.{le_prop}
use mathlib.Core.HLevel.{is_prop→PathP}
use Rattle.plane_geometry.specs.declared.Dir.{Dir}
use Rattle.plane_geometry.specs.Position.{Position}
use Rattle.plane_geometry.specs.Direction.{is_along}
use Rattle.plane_geometry.specs.DirView.{dir_number}
use Rattle.plane_geometry.specs.DirectionLaws.{along_unique}

-- directions of one number are one direction
pub dir_is : (d e : Dir) → dir_number d ≡ dir_number e → d ≡ e
dir_is d e p = λ i. record {
  number = p i;
  in_range = is_prop→PathP (λ j. p j ≤ 15) (λ j. le_prop) d.in_range e.in_range i;
}

pub direction_exact : (o : Option Dir) (p q : Position)
    → MatchOption o ((n : ℕ) → n < 16 → IsFalse (is_along n p q)) (λ d. IsTrue (is_along (dir_number d) p q))
    → (d : Dir) → (o ≡ Some d) ↔ IsTrue (is_along (dir_number d) p q)
direction_exact None p q none d = (
  (λ e. absurd (cc)),
  λ along. absurd
      (both_ways (is_along (dir_number d) p q) (none (dir_number d) (omega (arith, d.in_range))) along),
)
direction_exact (Some e) p q found d = (
  (λ same. let at : e ≡ d = cc in subst (λ (f : Dir). IsTrue (is_along (dir_number f) p q)) at found),
  λ along. ap Some (dir_is e d
      (along_unique (dir_number e) (dir_number d) p q (omega (arith, e.in_range))
      (omega (arith, d.in_range)) found along)),
)
