-- What the rules of faces say of steps: the piece that each goes across, and the faces that are reached.
use Rattle.std.proofs.Common.{◌≡◌, ◌⊎◌, inl, inr, ℕ, ◌+◌, ◌-◌, ◌<◌, ◌≤◌, true, false, ◌||◌, nat_eq, List, [], ◌∷◌, ◌++◌, Some, length, refl, sym, ap, subst, ◌∙◌, arith}
use Rattle.std.specs.Prelude.{slice_get}
use Rattle.std.specs.List.{All}
use Rattle.std.proofs.lemmas.Bool.{both_ways, false≢true, or_cases, or_left, or_right, eqb-true, eq-eqb}
use Rattle.std.proofs.lemmas.List.Folds.{list_any-append}
use Rattle.std.proofs.lemmas.List.Elements.{All-from_recursion}
use Rattle.std.proofs.lemmas.Option.{slice_get-get_or}
use Rattle.line_split.specs.MemberLaws.{Member, member, all_member, all_from_members}
use Rattle.face_builder.specs.declared.shared.SharedPiece.{SharedPiece}
use Rattle.face_builder.specs.declared.walk.Step.{Step}
use Rattle.face_builder.specs.MapRules.{AreAcross, IsShared, IsStep, IsWalk, AreFaces}
use Rattle.face_builder.specs.View.{FaceMapView}
use Rattle.face_builder.specs.Walk.{has_step_to, is_reached}
use Rattle.wireframe_fold.specs.Folding.{HasPlaces, IsStepWithin}

-- ---- the piece that a step goes across

pub record Crossing (m : FaceMapView) (s : Step) : Type 0 where
  pub piece : SharedPiece
  pub there : slice_get m.shared (s.piece - 1) ≡ Some piece
  pub held : Member m.shared piece
  pub between : AreAcross piece s.from s.face
  pub within : IsStepWithin m s

places_by : (m : FaceMapView) (s : Step) (x : SharedPiece) (k : ℕ) → 1 ≤ x.a → x.a < x.b → x.b ≤ length m.faces
    → k < length m.shared → s.piece ≡ k + 1 → AreAcross x s.from s.face → IsStepWithin m s
places_by m s x k first order last few number (inl pair) =
    record {
      face = omega (arith, first, order, pair.1);
      face_most = omega (arith, last, pair.1);
      from = omega (arith, first, pair.0);
      from_most = omega (arith, order, last, pair.0);
      piece = omega (arith, number);
      piece_most = omega (arith, few, number);
    }
places_by m s x k first order last few number (inr pair) =
    record {
      face = omega (arith, first, pair.0);
      face_most = omega (arith, order, last, pair.0);
      from = omega (arith, first, order, pair.1);
      from_most = omega (arith, last, pair.1);
      piece = omega (arith, number);
      piece_most = omega (arith, few, number);
    }

pub crossing : (m : FaceMapView) → AreFaces m → (before : List Step) (s : Step) → IsStep m.shared before s
    → Crossing m s
crossing m rules before s step =
    let x = step.across.0 in
    let k = step.across.1.0 in
    let few = step.across.1.1 in
    let at : slice_get m.shared k ≡ Some x = slice_get-get_or m.shared k x few ∙ ap Some step.across.1.2 in
    let numbered : x.piece ≡ k + 1 = rules.numbered k x at in
    let number : s.piece ≡ k + 1 = sym step.across.2 ∙ numbered in
    let place : k ≡ s.piece - 1 = omega (arith, number) in
    let held : Member m.shared x = member m.shared x step.across.1 in
    let shared = all_member (IsShared m.faces) m.shared x rules.shared held in
    record {
      piece = x;
      there = subst (λ j. slice_get m.shared j ≡ Some x) place at;
      held = held;
      between = step.across.3;
      within = places_by m s x k shared.first shared.order shared.last few number step.across.3;
    }

-- ---- places

steps_from : (m : FaceMapView) → AreFaces m → (before steps : List Step) → IsWalk m.shared before steps
    → (s : Step) → Member steps s → IsStepWithin m s
steps_from m rules before [] w s at = absurd at
steps_from m rules before (t ∷ steps) w s (inl same) =
    subst (IsStepWithin m) same (crossing m rules before t w.0).within
steps_from m rules before (t ∷ steps) w s (inr at) = steps_from m rules (before ++ t ∷ []) steps w.1 s at

pub steps_within : (m : FaceMapView) → AreFaces m → All (IsStepWithin m) m.walk
steps_within m rules =
    All-from_recursion (IsStepWithin m) m.walk
    (all_from_members (IsStepWithin m) m.walk (steps_from m rules [] m.walk rules.walk))

pub shared_within : (m : FaceMapView) → AreFaces m → All (HasPlaces (length m.faces)) m.shared
shared_within m rules =
    All-from_recursion (HasPlaces (length m.faces)) m.shared
    (all_from_members (HasPlaces (length m.faces)) m.shared
    (λ s at. let h = all_member (IsShared m.faces) m.shared s rules.shared at in (h.first, h.order, h.last)))

-- ---- reached faces

module _ (before : List Step) (s : Step) where
  joined : (f : ℕ) → has_step_to (before ++ s ∷ []) f ≡ (has_step_to before f || has_step_to (s ∷ []) f)
  joined f = list_any-append (λ (t : Step). nat_eq t.face f) before (s ∷ [])

  pub reached_later : (f : ℕ) → is_reached before f ≡ true → is_reached (before ++ s ∷ []) f ≡ true
  reached_later f e =
      elim (or_cases (nat_eq f 1) (has_step_to before f) e) [
        | inl one ↦ or_left (nat_eq f 1) (has_step_to (before ++ s ∷ []) f) one
        | inr some ↦
            or_right (nat_eq f 1) (has_step_to (before ++ s ∷ []) f)
            (joined f ∙ or_left (has_step_to before f) (has_step_to (s ∷ []) f) some)
      ]

  pub just_reached : is_reached (before ++ s ∷ []) s.face ≡ true
  just_reached =
      or_right (nat_eq s.face 1) (has_step_to (before ++ s ∷ []) s.face)
      (joined s.face
      ∙ or_right (has_step_to before s.face) (has_step_to (s ∷ []) s.face)
      (or_left (nat_eq s.face s.face) false (eq-eqb s.face s.face refl)))

  pub reached_cases : (f : ℕ) → is_reached (before ++ s ∷ []) f ≡ true → (is_reached before f ≡ true) ⊎ (s.face ≡ f)
  reached_cases f e =
      elim (or_cases (nat_eq f 1) (has_step_to (before ++ s ∷ []) f) e) [
        | inl one ↦ inl (or_left (nat_eq f 1) (has_step_to before f) one)
        | inr some ↦
            elim (or_cases (has_step_to before f) (has_step_to (s ∷ []) f) (sym (joined f) ∙ some)) [
              | inl earlier ↦ inl (or_right (nat_eq f 1) (has_step_to before f) earlier)
              | inr last ↦
                  elim (or_cases (nat_eq s.face f) false last) [
                    | inl same ↦ inr (eqb-true s.face f same)
                    | inr none ↦ absurd (false≢true none)
                  ]
            ]
      ]

-- a face that was reached before a step stands in another place than the one that the step leads to
pub apart : (m : FaceMapView) → AreFaces m → (before : List Step) (s : Step) → IsStep m.shared before s
    → (f : ℕ) → is_reached before f ≡ true → f - 1 ≡ s.face - 1 → ⊥
apart m rules before s step f e same =
    let low = (crossing m rules before s step).within.face in
    let other : s.face ≡ 1 → ⊥ = λ one.
    both_ways (is_reached before s.face) step.new (subst (λ g. is_reached before g ≡ true) (sym one) refl) in
    let at : f ≡ s.face = omega (arith, same, low, other) in
    both_ways (is_reached before s.face) step.new (subst (λ g. is_reached before g ≡ true) at e)
