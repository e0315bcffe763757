-- Two pieces that meet at ends alone don't leave a vertex in one direction.
use Rattle.std.proofs.Common.{◌≡◌, ℕ, ◌+◌, ◌⊎◌, inl, inr, List, [], ◌∷◌, refl, sym, ap, subst, ◌∙◌}
use Rattle.plane_geometry.specs.declared.Point.{Point}
use Rattle.plane_geometry.specs.DirView.{dir_number}
use Rattle.plane_geometry.specs.SegmentView.{stretch_of}
use Rattle.plane_geometry.specs.Stretch.{MeetAtEnds}
use Rattle.crease_model.specs.ApartLaws.{LeavesIn, leave_apart}
use Rattle.crease_model.specs.declared.Piece.{Piece}
use Rattle.crease_model.specs.Rules.{AllMeetAtEnds}
use Rattle.line_split.specs.MemberLaws.{Member, all_member}
use Rattle.face_builder.specs.declared.half_edges.HalfEdge.{HalfEdge}
use Rattle.face_builder.specs.HalfEdge.{forward, backward}

-- a half-edge is this piece in one of its directions
abbrev pub IsWayOf : Piece → HalfEdge → Type 0
IsWayOf p h = (j : ℕ) × ((h ≡ forward j p) ⊎ (h ≡ backward j p))

leaves_in : (p : Piece) (h : HalfEdge) (j : ℕ) (v : Point) (n : ℕ) → (h ≡ forward j p) ⊎ (h ≡ backward j p)
    → v ≡ h.start → n ≡ dir_number h.dir → LeavesIn v n p.segment
leaves_in p h j v n (inl a) e f =
    inl (sym (e ∙ ap (λ (k : HalfEdge). k.start) a), f ∙ ap (λ (k : HalfEdge). dir_number k.dir) a)
leaves_in p h j v n (inr a) e f =
    inr (sym (e ∙ ap (λ (k : HalfEdge). k.start) a), f ∙ ap (λ (k : HalfEdge). dir_number k.dir) a)

ways_apart : (p q : Piece) → MeetAtEnds (stretch_of p.segment) (stretch_of q.segment)
    → (g h : HalfEdge) (i j : ℕ) → (g ≡ forward i p) ⊎ (g ≡ backward i p)
    → (h ≡ forward j q) ⊎ (h ≡ backward j q) → g.start ≡ h.start → dir_number g.dir ≡ dir_number h.dir → ⊥
ways_apart p q meets g h i j a b start dir =
    leave_apart h.start (dir_number h.dir) p.segment q.segment meets
    (leaves_in p g i h.start (dir_number h.dir) a (sym start) (sym dir))
    (leaves_in q h j h.start (dir_number h.dir) b refl refl)

-- which piece of a list
abbrev pub IsNumbered : ℕ → List Piece → ℕ → Piece → Type 0
IsNumbered k [] j p = ⊥
IsNumbered k (x ∷ xs) j p = ((k ≡ j) × (x ≡ p)) ⊎ IsNumbered (k + 1) xs j p

pub numbered_member : (k : ℕ) (ps : List Piece) (j : ℕ) (p : Piece) → IsNumbered k ps j p → Member ps p
numbered_member k [] j p w = absurd w
numbered_member k (x ∷ xs) j p (inl e) = inl e.1
numbered_member k (x ∷ xs) j p (inr w) = inr (numbered_member (k + 1) xs j p w)

-- two pieces that leave a vertex in one direction are one, with one number
pub leave_once : (k : ℕ) (ps : List Piece) (i j : ℕ) (p q : Piece) (g h : HalfEdge) → AllMeetAtEnds ps
    → IsNumbered k ps i p → IsNumbered k ps j q
    → (g ≡ forward i p) ⊎ (g ≡ backward i p) → (h ≡ forward j q) ⊎ (h ≡ backward j q) → g.start ≡ h.start
    → dir_number g.dir ≡ dir_number h.dir → (i ≡ j) × (p ≡ q)
leave_once k [] i j p q g h all a b v w start dir = absurd a
leave_once k (x ∷ xs) i j p q g h all (inl a) (inl b) v w start dir = (sym a.0 ∙ b.0, sym a.1 ∙ b.1)
leave_once k (x ∷ xs) i j p q g h all (inl a) (inr b) v w start dir =
    absurd (ways_apart x q
    (all_member (λ (z : Piece). MeetAtEnds (stretch_of x.segment) (stretch_of z.segment)) xs q all.0
    (numbered_member (k + 1) xs j q b))
    g h i j (subst (λ (z : Piece). (g ≡ forward i z) ⊎ (g ≡ backward i z)) (sym a.1) v) w start dir)
leave_once k (x ∷ xs) i j p q g h all (inr a) (inl b) v w start dir =
    absurd (ways_apart x p
    (all_member (λ (z : Piece). MeetAtEnds (stretch_of x.segment) (stretch_of z.segment)) xs p all.0
    (numbered_member (k + 1) xs i p a))
    h g j i (subst (λ (z : Piece). (h ≡ forward j z) ⊎ (h ≡ backward j z)) (sym b.1) w) v (sym start)
    (sym dir))
leave_once k (x ∷ xs) i j p q g h all (inr a) (inr b) v w start dir =
    leave_once (k + 1) xs i j p q g h all.1 a b v w start dir
