-- The walk goes from reached faces across pieces to faces that were not reached.
use Rattle.std.proofs.Common.{◌≡◌, ℕ, zero, suc, ◌+◌, ◌<◌, ◌≤◌, Bool, true, false, cond, nat_eq, inl, inr, List, [], ◌∷◌, ◌++◌, Option, None, Some, refl, sym, subst, arith}
use Rattle.std.specs.Prelude.{⊤, Contains, slice_get}
use Rattle.std.specs.Option.{option_map}
use Rattle.std.proofs.lemmas.Bool.{cases_lt, cond_both, eqb-true, eq-eqb, or_cases, or_left, or_right}
use Rattle.std.proofs.lemmas.List.{append-nil, append_assoc}
use Rattle.line_split.specs.MemberLaws.{Member, member, any_member, member_any}
use Rattle.face_builder.specs.declared.half_edges.HalfEdge.{HalfEdge}
use Rattle.face_builder.specs.declared.shared.SharedPiece.{SharedPiece}
use Rattle.face_builder.specs.declared.walk.Step.{Step}
use Rattle.face_builder.specs.MapRules.{AllAfter, AreAcross, IsStep, IsWalk}
use Rattle.face_builder.specs.Walk.{has_step_to, is_reached, face_across, with_step, with_side, with_neighbours, face_half_edges, walked_face, walked_or, walk_from, walk_of, first_unreached}
use Rattle.face_builder.proofs.Chains.{member_left}
use Rattle.face_builder.proofs.Nexts.{member_of_place}

-- ---- reached faces

pub reached_later : (before : List Step) (s : Step) (f : ℕ) → is_reached before f ≡ true
    → is_reached (before ++ s ∷ []) f ≡ true
reached_later before s f e =
    elim (or_cases (nat_eq f 1) (has_step_to before f) e) [
      | inl one ↦ or_left (nat_eq f 1) _ one
      | inr some ↦
          (let w = any_member (λ (t : Step). nat_eq t.face f) before some in
          or_right (nat_eq f 1) _
          (member_any (λ (t : Step). nat_eq t.face f) (before ++ s ∷ []) w.0
          (member_left before (s ∷ []) w.0 w.1) w.2))
    ]

-- one more step that stands in the relation to those before it
pub all_append : (Follows : List Step → Step → Type 0) (before xs : List Step) (s : Step)
    → AllAfter Follows before xs → Follows (before ++ xs) s → AllAfter Follows before (xs ++ s ∷ [])
all_append Follows before [] s w step = (subst (λ ys. Follows ys s) (append-nil before) step, tt)
all_append Follows before (x ∷ xs) s w step = (
  w.0,
  all_append Follows (before ++ x ∷ []) xs s w.1
      (subst (λ ys. Follows ys s) (sym (append_assoc before (x ∷ []) xs)) step),
)

module _ (shared : List SharedPiece) where
  -- the face that a piece of this half-edge leads to from a face
  abbrev pub LeadsAcross : ℕ → Option ℕ → Type 0
  LeadsAcross from None = ⊤
  LeadsAcross from (Some k) =
      (x : SharedPiece) × Contains shared x × (x.piece ≡ k) × AreAcross x from (face_across shared k from)

  with_step_walks : (steps : List Step) (s : Step) → IsWalk shared [] steps → is_reached steps s.from ≡ true
      → ((x : SharedPiece) × Contains shared x × (x.piece ≡ s.piece) × AreAcross x s.from s.face)
      → IsWalk shared [] (with_step steps s)
  with_step_walks steps s w from across = by (is_reached steps s.face) refl
    where
      by : (b : Bool) → is_reached steps s.face ≡ b → IsWalk shared [] (cond b steps (steps ++ s ∷ []))
      by true e = w
      by false e = all_append (IsStep shared) [] steps s w (record { from = from; new = e; across = across })

  with_step_keeps : (steps : List Step) (s : Step) (f : ℕ) → is_reached steps f ≡ true
      → is_reached (with_step steps s) f ≡ true
  with_step_keeps steps s f e =
      cond_both (is_reached steps s.face) steps (steps ++ s ∷ []) (λ ys. is_reached ys f ≡ true) (λ _. e)
      (λ _. reached_later steps s f e)

  with_side_walks : (from : ℕ) (steps : List Step) (o : Option ℕ) → IsWalk shared [] steps
      → is_reached steps from ≡ true
      → LeadsAcross from o → IsWalk shared [] (with_side shared from steps o)
  with_side_walks from steps None w e across = w
  with_side_walks from steps (Some k) w e across =
      with_step_walks steps (record { face = face_across shared k from; from = from; piece = k }) w e across

  with_side_keeps : (from : ℕ) (steps : List Step) (o : Option ℕ) (f : ℕ) → is_reached steps f ≡ true
      → is_reached (with_side shared from steps o) f ≡ true
  with_side_keeps from steps None f e = e
  with_side_keeps from steps (Some k) f e =
      with_step_keeps steps (record { face = face_across shared k from; from = from; piece = k }) f e

  neighbours_walk : (from : ℕ) (steps : List Step) (hs : List HalfEdge) → IsWalk shared [] steps
      → is_reached steps from ≡ true
      → ((h : HalfEdge) → Member hs h → LeadsAcross from h.piece)
      → IsWalk shared [] (with_neighbours shared from steps hs)
  neighbours_walk from steps [] w e across = w
  neighbours_walk from steps (h ∷ hs) w e across =
      neighbours_walk from (with_side shared from steps h.piece) hs
      (with_side_walks from steps h.piece w e (across h (inl refl)))
      (with_side_keeps from steps h.piece from e) (λ g m. across g (inr m))

  -- a face of the walk is reached
  walked_reached : (steps : List Step) (i f : ℕ) → walked_face steps i ≡ Some f → is_reached steps f ≡ true
  walked_reached steps zero f e =
      let one : 1 ≡ f = some_number 1 f e in
      or_left (nat_eq f 1) _ (eq-eqb f 1 (sym one))
    where
      some_number : (m n : ℕ) → Some m ≡ Some n → m ≡ n
      some_number m n e = cc
  walked_reached steps (suc i) f e = go (slice_get steps i) refl e
    where
      some_number : (m n : ℕ) → Some m ≡ Some n → m ≡ n
      some_number m n e = cc

      go : (o : Option Step) → slice_get steps i ≡ o → option_map (λ (s : Step). s.face) o ≡ Some f
          → is_reached steps f ≡ true
      go None at e = cc
      go (Some s) at e =
          or_right (nat_eq f 1) _
          (member_any (λ (t : Step). nat_eq t.face f) steps s (member_of_place steps i s at)
          (eq-eqb s.face f (some_number s.face f e)))

  -- what holds of the faces on the sides of each shared piece holds of each face that a step leads to
  step_face : (P : ℕ → Type 0) → ((x : SharedPiece) → Member shared x → P x.a × P x.b) → (before : List Step)
      (s : Step) → IsStep shared before s → P s.face
  step_face P all before s step =
      let x = step.across.0 in
      let both = all x (member shared x step.across.1) in
      elim step.across.3 [ inl way ↦ subst P way.1 both.1 | inr back ↦ subst P back.0 both.0 ]

  pub step_faces : (P : ℕ → Type 0) → ((x : SharedPiece) → Member shared x → P x.a × P x.b)
      → (before steps : List Step) → IsWalk shared before steps → (s : Step) → Member steps s → P s.face
  step_faces P all before [] w s m = absurd m
  step_faces P all before (x ∷ xs) w s (inl at) =
      subst (λ (t : Step). P t.face) at (step_face P all before x w.0)
  step_faces P all before (x ∷ xs) w s (inr m) = step_faces P all (before ++ x ∷ []) xs w.1 s m

  module _ (faces : List (List HalfEdge))
      (across : (f : ℕ) (h : HalfEdge) → 1 ≤ f → Member (face_half_edges faces f) h → LeadsAcross f h.piece)
      (positive : (x : SharedPiece) → Member shared x → (1 ≤ x.a) × (1 ≤ x.b)) where
    reached_positive : (steps : List Step) → IsWalk shared [] steps → (f : ℕ) → is_reached steps f ≡ true → 1
        ≤ f
    reached_positive steps w f e =
        elim (or_cases (nat_eq f 1) (has_step_to steps f) e) [
          | inl one ↦ omega (arith, eqb-true f 1 one)
          | inr some ↦
              (let r = any_member (λ (t : Step). nat_eq t.face f) steps some in
              omega (arith, step_faces (λ n. 1 ≤ n) positive [] steps w r.0 r.1, eqb-true r.0.face f r.2))
        ]

    walk_walks : (i : ℕ) (turns : List (List HalfEdge)) (steps : List Step) → IsWalk shared [] steps
        → IsWalk shared [] (walk_from shared faces i turns steps)
    walk_walks i [] steps w = w
    walk_walks i (turn ∷ turns) steps w =
        go (walked_face steps i) refl (λ new v. walk_walks (i + 1) turns new v)
      where
        go : (o : Option ℕ) → walked_face steps i ≡ o
            → ((new : List Step) → IsWalk shared [] new
            → IsWalk shared [] (walk_from shared faces (i + 1) turns new))
            → IsWalk shared []
            (walked_or o steps
            (λ face. walk_from shared faces (i + 1) turns
            (with_neighbours shared face steps (face_half_edges faces face))))
        go None at rest = w
        go (Some f) at rest =
            let e = walked_reached steps i f at in
            rest (with_neighbours shared f steps (face_half_edges faces f))
            (neighbours_walk f steps (face_half_edges faces f) w e
            (λ h m. across f h (reached_positive steps w f e) m))

    pub walks : IsWalk shared [] (walk_of shared faces)
    unfolding walk_of
    walks = walk_walks 0 faces [] tt

-- ---- all are reached

pub all_reached : (steps : List Step) (f n : ℕ) → first_unreached steps f n ≡ None → (g : ℕ) → f ≤ g → g
    < f + n → is_reached steps g ≡ true
all_reached steps f zero e g low high = absurd (omega (arith, low, high))
all_reached steps f (suc n) e g low high =
    go (is_reached steps f) refl e (λ k l. all_reached steps (f + 1) n k g l (omega (arith, high)))
  where
    go : (b : Bool) → is_reached steps f ≡ b → cond b (first_unreached steps (f + 1) n) (Some f) ≡ None
        → (first_unreached steps (f + 1) n ≡ None → f + 1 ≤ g → is_reached steps g ≡ true)
        → is_reached steps g ≡ true
    go true at k rest =
        elim (cases_lt f g) [
          | inl less ↦ rest k (omega (arith, less))
          | inr more ↦ (let same : f ≡ g = omega (arith, low, more) in
              subst (λ m. is_reached steps m ≡ true) same at)
        ]
    go false at k rest = cc
