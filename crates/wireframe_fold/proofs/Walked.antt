-- The isometries along the walk, as a loop makes them.
use Rattle.std.proofs.Common.{◌≡◌, ℕ, zero, suc, ◌-◌, true, List, [], ◌∷◌, ◌++◌, length, replicate, refl, sym, ap, subst, ◌∙◌, arith}
use Rattle.std.specs.Prelude.{slice_set}
use Rattle.std.specs.List.{AllByRecursion}
use Rattle.std.proofs.Math.ListN.{set}
use Rattle.std.proofs.lemmas.List.{get_or-set_same, get_or-set_other, length-set, length-replicate}
use Rattle.isometry_map.specs.Motion.{Motion, IsIdentity, IsComposition, identity_motion}
use Rattle.face_builder.specs.declared.shared.SharedPiece.{SharedPiece}
use Rattle.face_builder.specs.declared.walk.Step.{Step}
use Rattle.face_builder.specs.MapRules.{IsWalk, AreFaces}
use Rattle.face_builder.specs.View.{FaceMapView}
use Rattle.face_builder.specs.Walk.{is_reached}
use Rattle.wireframe_fold.specs.Folding.{motion_at, mirror_in, IsStepTo, IsStepTaken, AreAlongWalk}
use Rattle.wireframe_fold.proofs.Steps.{crossing, reached_later, just_reached, apart}

-- us come of ts along these steps
abbrev pub AreWalked : List SharedPiece → List Motion → List Step → List Motion → Type 0
AreWalked shared ts [] us = us ≡ ts
AreWalked shared ts (s ∷ ss) us =
    (t : Motion) × IsStepTo shared ts s t × AreWalked shared (slice_set ts (s.face - 1) t) ss us

-- us come along the whole walk, where each face stays at first
abbrev pub AreWalkedFromStart : FaceMapView → List Motion → Type 0
AreWalkedFromStart m us = AreWalked m.shared (replicate (length m.faces) identity_motion) m.walk us

walked_count : (shared : List SharedPiece) (steps : List Step) (ts us : List Motion)
    → AreWalked shared ts steps us → length us ≡ length ts
walked_count shared [] ts us h = ap length h
walked_count shared (s ∷ steps) ts us h =
    walked_count shared steps (set ts (s.face - 1) h.0) us h.2 ∙ length-set ts (s.face - 1) h.0

module _ (m : FaceMapView) (rules : AreFaces m) where
  -- a face that was reached keeps its isometry
  keeps : (before steps : List Step) (ts us : List Motion) → IsWalk m.shared before steps
      → AreWalked m.shared ts steps us → (f : ℕ) → is_reached before f ≡ true → motion_at us f ≡ motion_at ts f
  keeps before [] ts us w h f e = ap (λ vs. motion_at vs f) h
  keeps before (s ∷ steps) ts us w h f e =
      keeps (before ++ s ∷ []) steps (set ts (s.face - 1) h.0) us w.1 h.2 f (reached_later before s f e)
      ∙ get_or-set_other ts (s.face - 1) (f - 1) h.0 identity_motion (apart m rules before s w.0 f e)

  steps_taken : (before steps : List Step) (ts us : List Motion) → IsWalk m.shared before steps
      → length ts ≡ length m.faces → AreWalked m.shared ts steps us → AllByRecursion (IsStepTaken m.shared us) steps
  steps_taken before [] ts us w count h = tt
  steps_taken before (s ∷ steps) ts us w count h =
      let t = h.0 in
      let step = h.1 in
      let next = set ts (s.face - 1) t in
      let r = mirror_in step.piece.segment in
      let within = (crossing m rules before s w.0).within in
      let from : motion_at us s.from ≡ motion_at ts s.from =
      keeps before (s ∷ steps) ts us w h s.from w.0.from in
      let here : motion_at us s.face ≡ t =
      keeps (before ++ s ∷ []) steps next us w.1 h.2 s.face (just_reached before s)
      ∙ get_or-set_same ts (s.face - 1) t identity_motion
      (omega (arith, within.face, within.face_most, count)) in
      let P : Motion → Type 0 = λ u. IsComposition t u r in
      let Q : Motion → Type 0 = λ u. IsComposition u (motion_at us s.from) r in (
        record {
          piece = step.piece;
          there = step.there;
          across = record { composed = subst Q (sym here) (subst P (sym from) step.across.composed) };
        },
        steps_taken (before ++ s ∷ []) steps next us w.1 (length-set ts (s.face - 1) t ∙ count) h.2,
      )

  stays_at_first : (n : ℕ) → motion_at (replicate n identity_motion) 1 ≡ identity_motion
  stays_at_first zero = refl
  stays_at_first (suc n) = refl

  pub along_walked : (us : List Motion) → AreWalkedFromStart m us → IsIdentity identity_motion
      → AreAlongWalk m us
  along_walked us h stays =
      let start = replicate (length m.faces) identity_motion in
      let count : length start ≡ length m.faces = length-replicate (length m.faces) identity_motion in
      let first : motion_at us 1 ≡ identity_motion =
      keeps [] m.walk start us rules.walk h 1 refl ∙ stays_at_first (length m.faces) in
      record {
        count = walked_count m.shared m.walk start us h ∙ count;
        fixed = subst (λ t. IsIdentity t) (sym first) stays;
        taken = steps_taken [] m.walk start us rules.walk count h;
      }
