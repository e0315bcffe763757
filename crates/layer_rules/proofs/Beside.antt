-- What a face has left of a line, by its region.
use Rattle.std.proofs.Common.{◌≡◌, ℕ, zero, suc, ◌-◌, ◌<◌, ◌≤◌, Bool, true, false, not, List, [], ◌∷◌, length, Option, None, refl, subst, arith}
use Rattle.std.specs.Prelude.{◌↔◌}
use Rattle.std.specs.Bool.{IsTrue}
use Rattle.std.specs.List.{slice_get}
use Rattle.std.specs.Option.{IsSomeAnd}
use Rattle.plane_geometry.specs.declared.Point.{Point}
use Rattle.plane_geometry.specs.Position.{Position, position_of}
use Rattle.open_region.specs.declared.Region.{Region}
use Rattle.open_region.specs.Region.{IsInRegion, IsLeftOf, HasPoint}
use Rattle.isometry_map.specs.declared.folded.CreaseImage.{CreaseImage}
use Rattle.isometry_map.specs.declared.folded.FoldedFace.{FoldedFace}
use Rattle.isometry_map.specs.Folded.{FoldedView}
use Rattle.layer_rules.specs.Faces.{is_inside_face, IsInside}
use Rattle.layer_rules.specs.TacoTaco.{HasNothingLeftOf, HaveNothingLeftOf}

module _ {X : Type 0} where
  get_beyond : (xs : List X) (n : ℕ) → length xs ≤ n → slice_get xs n ≡ None
  get_beyond [] n above = refl
  get_beyond (x ∷ xs) zero above = absurd (omega arith)
  get_beyond (x ∷ xs) (suc n) above = get_beyond xs n (omega arith)

pub not_when : (b : Bool) → (b ≡ true → ⊥) → not b ≡ true
not_when true never = absurd (never refl)
not_when false never = refl

-- a number that no face has
pub not_inside : (shape : FoldedView) (f : ℕ) (p : Position) → length shape.faces < f → IsInside shape f p → ⊥
not_inside shape zero p beyond inside = inside
not_inside shape (suc n) p beyond inside =
    subst (λ (o : Option FoldedFace). IsSomeAnd o (λ face. IsTrue (is_inside_face p face)))
    (get_beyond shape.faces n (omega (arith, beyond))) inside

pub none_left : (shape : FoldedView) (f : ℕ) (q : Position) (n : ℕ) (region cut : Region)
    → ((p : Position) → IsInRegion p region ↔ IsInside shape f p)
    → ((p : Position) → IsInRegion p cut ↔ (IsInRegion p region × IsLeftOf p q n))
    → (¬ HasPoint cut) ↔ HasNothingLeftOf shape q n f
none_left shape f q n region cut same left = (
  λ none p inside side. none (p, (left p).1 ((same p).1 inside, side)),
  λ nothing some.
      let both = (left some.0).0 some.1 in
      nothing some.0 ((same some.0).0 both.0) both.1,
)

-- the same at equal points and directions
pub both_at : (shape : FoldedView) (c d : CreaseImage) (p q : Point) (m n : ℕ) → p ≡ q → m ≡ n
    → HaveNothingLeftOf shape (position_of p) m c × HaveNothingLeftOf shape (position_of p) m d
    → HaveNothingLeftOf shape (position_of q) n c × HaveNothingLeftOf shape (position_of q) n d
both_at shape c d p q m n e f both =
    subst (λ (k : ℕ). HaveNothingLeftOf shape (position_of q) k c × HaveNothingLeftOf shape (position_of q) k d) f
    (subst (λ (t : Point). HaveNothingLeftOf shape (position_of t) m c × HaveNothingLeftOf shape (position_of t) m d) e
    both)
