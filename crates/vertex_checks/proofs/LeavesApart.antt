-- Two pieces that meet at ends alone don't leave a point in one direction.
use Rattle.std.proofs.Common.{◌≡◌, ℕ, inl, inr, List, [], ◌∷◌, refl, sym, ap, subst, ◌∙◌}
use Rattle.plane_geometry.specs.declared.Point.{Point}
use Rattle.plane_geometry.specs.SegmentView.{stretch_of}
use Rattle.plane_geometry.specs.Stretch.{MeetAtEnds}
use Rattle.crease_model.specs.ApartLaws.{LeavesIn}
use Rattle.crease_model.specs.ApartLaws as law
use Rattle.crease_model.specs.declared.Piece.{Piece}
use Rattle.crease_model.specs.Rules.{AllMeetAtEnds}
use Rattle.line_split.specs.MemberLaws.{Member, all_member}
use Rattle.vertex_checks.specs.declared.fans.Ray.{Ray}
use Rattle.vertex_checks.specs.Fan.{ray_number, Leaves}

leaves_in : (v : Point) (p : Piece) (r : Ray) (n : ℕ) → Leaves v p r → n ≡ ray_number r → LeavesIn v n p.segment
leaves_in v p r n (inl a) e = inl (a.0, e ∙ ap ray_number a.1)
leaves_in v p r n (inr a) e = inr (a.0, e ∙ ap ray_number a.1)

pub leave_apart : (v : Point) (p q : Piece) → MeetAtEnds (stretch_of p.segment) (stretch_of q.segment)
    → (r t : Ray) → Leaves v p r → Leaves v q t → ray_number r ≡ ray_number t → ⊥
leave_apart v p q meets r t a b e =
    law.leave_apart v (ray_number t) p.segment q.segment meets (leaves_in v p r _ a (sym e))
    (leaves_in v q t _ b refl)

-- two pieces that leave a point in one direction are one piece
pub leave_once : (v : Point) (ps : List Piece) (p q : Piece) (r t : Ray) → AllMeetAtEnds ps → Member ps p
    → Member ps q → Leaves v p r → Leaves v q t → ray_number r ≡ ray_number t → p ≡ q
leave_once v [] p q r t all a b l k e = absurd a
leave_once v (x ∷ xs) p q r t all (inl a) (inl b) l k e = sym a ∙ b
leave_once v (x ∷ xs) p q r t all (inl a) (inr b) l k e =
    absurd (leave_apart v x q
    (all_member (λ (z : Piece). MeetAtEnds (stretch_of x.segment) (stretch_of z.segment)) xs q all.0 b) r
    t (subst (λ (z : Piece). Leaves v z r) (sym a) l) k e)
leave_once v (x ∷ xs) p q r t all (inr a) (inl b) l k e =
    absurd (leave_apart v x p
    (all_member (λ (z : Piece). MeetAtEnds (stretch_of x.segment) (stretch_of z.segment)) xs p all.0 a) t
    r (subst (λ (z : Piece). Leaves v z t) (sym b) k) l (sym e))
leave_once v (x ∷ xs) p q r t all (inr a) (inr b) l k e = leave_once v xs p q r t all.1 a b l k e
