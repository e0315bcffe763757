-- A map of fans, ray by ray and piece by piece.
use Rattle.std.proofs.Common.{◌≡◌, ◌+◌, Bool, true, false, cond, List, None, Some, refl, sym, ap, ap₂, ◌∙◌}
use Rattle.std.proofs.lemmas.Bool.{both_ways}
use Rattle.plane_geometry.specs.declared.Point.{Point}
use Rattle.plane_geometry.specs.Position.{position_of, is_same_position}
use Rattle.plane_geometry.specs.SegmentView.{lesser_end, greater_end, direction_number}
use Rattle.crease_model.specs.declared.Piece.{Piece}
use Rattle.line_split.specs.SortedLaws.{equal_is}
use Rattle.vertex_checks.specs.declared.fans.Ray.{Ray}
use Rattle.vertex_checks.specs.Fan.{ray_of, ray_at, with_ray, with_ray_if}
use Rattle.line_split.specs.Points.{equal_points}
use Rattle.vertex_checks.proofs.FanLaws.{same_point, same_itself, low, high, onward, back, begins, arrives, ends_differ}

-- both rays of a piece, the second after the first, are the one at each point
module _ (p : Piece) (old mid new : Point → List Ray) (q : Point) where
  abbrev first : Point
  first = low q p

  abbrev second : Point
  second = high q p

  pick : (a b : Bool) → begins q p ≡ a → arrives q p ≡ b
      → cond b (with_ray (old second) (back q p)) (cond a (with_ray (old first) (onward q p)) (old q))
      ≡ with_ray_if (old q) (cond a (Some (onward q p)) (cond b (Some (back q p)) None))
  pick true true e f =
      let one : first ≡ second = same_point first q e ∙ sym (same_point second q f) in
      absurd (both_ways (is_same_position (position_of first) (position_of second)) (ends_differ q p)
      (ap (λ (t : Point). is_same_position (position_of first) (position_of t)) (sym one)
      ∙ same_itself first))
  pick true false e f = ap (λ (t : Point). with_ray (old t) (onward q p)) (same_point first q e)
  pick false true e f = ap (λ (t : Point). with_ray (old t) (back q p)) (same_point second q f)
  pick false false e f = refl

  pub both_rays : ((t : Point)
      → mid t ≡ cond (equal_points first t) (with_ray (old first) (onward q p)) (old t))
      → ((t : Point) → new t ≡ cond (equal_points second t) (with_ray (mid second) (back q p)) (mid t))
      → new q ≡ with_ray_if (old q) (ray_at q p)
  both_rays h k =
      let here : mid q ≡ cond (begins q p) (with_ray (old first) (onward q p)) (old q) = h q
      ∙ ap (λ (b : Bool). cond b (with_ray (old first) (onward q p)) (old q)) (equal_is first q) in
      let there : mid second ≡ old second = h second
      ∙ ap (λ (b : Bool). cond b (with_ray (old first) (onward q p)) (old second))
      (equal_is first second ∙ ends_differ q p) in
      k q
      ∙ ap (λ (b : Bool). cond b (with_ray (mid second) (back q p)) (mid q)) (equal_is second q)
      ∙ ap₂ (λ (r s : List Ray). cond (arrives q p) (with_ray r (back q p)) s) there here
      ∙ pick (begins q p) (arrives q p) refl refl

-- the same where the points and the rays are known by equations
pub piece_rays : (p : Piece) (old mid new : Point → List Ray) (low' high' : Point) (r s : Ray)
    → low' ≡ lesser_end p.segment → high' ≡ greater_end p.segment → r ≡ ray_of p (direction_number p.segment)
    → s ≡ ray_of p (direction_number p.segment + 8)
    → ((t : Point) → mid t ≡ cond (equal_points low' t) (with_ray (old low') r) (old t))
    → ((t : Point) → new t ≡ cond (equal_points high' t) (with_ray (mid high') s) (mid t)) → (q : Point)
    → new q ≡ with_ray_if (old q) (ray_at q p)
piece_rays p old mid new low' high' r s e f g h k l q =
    both_rays p old mid new q
    (λ t. k t ∙ ap₂ (λ (x : Point) (y : Ray). cond (equal_points x t) (with_ray (old x) y) (old t)) e g)
    (λ t. l t ∙ ap₂ (λ (x : Point) (y : Ray). cond (equal_points x t) (with_ray (mid x) y) (mid t)) f h)
