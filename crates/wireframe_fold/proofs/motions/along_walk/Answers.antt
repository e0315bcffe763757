use Rattle.std.proofs.Common.{◌∙◌, ◌+◌, ◌-◌, ◌*◌, ◌^◌, List, ◌≤◌, length, sym, refl, subst, arith, slice_index_or}
use Rattle.std.proofs.lemmas.List.{drop_all}
use Rattle.std.proofs.Math.ListN.{length-set}
use Rattle.isometry_map.specs.MotionLaws.{shift_more}
use Rattle.isometry_map.specs.IsometryView.{motion_of}
use Rattle.face_builder.specs.declared.walk.Step.{Step}
use Rattle.isometry_map.specs.declared.isometries.Isometry.{Isometry}
use Rattle.isometry_map.specs.Motion.{Motion, IsIdentity}
use Rattle.wireframe_fold.specs.Folding.{motions_of, AreWithin}
use Rattle.wireframe_fold.proofs.Walked.{AreWalked, along_walked}
use Rattle.wireframe_fold.proofs.Maps.{walked_on, within_set, walk_begins}
use Rattle.wireframe_fold.proofs.motions.along_walk.Goals as goal

pub loop-step-init : goal.loop-step-init
loop-step-init c =
    walk_begins c.args.faces.now c.in_ok-motions.motions.items c.count.result c.identity.result
    (c.in_ok-motions.ensures.items_if_clones_equal (λ y e. e)) c.count.ensures.value c.identity.ensures.value
    c.identity.ensures.fits

pub loop-step-preserved : goal.loop-step-preserved
loop-step-preserved c =
    let i = c.loop-step.step-index in
    let walk = c.walk-step-items.result.now in
    let ms = c.loop-step.motions.items in
    let d : Step = record { face = 0; from = 0; piece = 0 } in
    let k = (slice_index_or walk i d).face - 1 in
    let r = c.step_motion-motion.result in
    let P : List Isometry → Type 0 = AreWithin (i * 2 ^ 57) in
    let within = c.step_motion-motion.ensures.within (i * 2 ^ 57)
    (subst P (sym c.as_slice.ensures.value) c.loop-step.invariant.1) in
    let here = shift_more (i * 2 ^ 57 + 2 ^ 57) ((i + 1) * 2 ^ 57) (motion_of r) (omega arith) within in (
      length-set ms k r ∙ c.loop-step.invariant.0,
      within_set (i * 2 ^ 57) ((i + 1) * 2 ^ 57) ms k r (omega arith) here c.loop-step.invariant.1,
      walked_on c.args.faces.now walk c.shared-shared.result.now ms c.as_slice.result.now i d r
          c.walk-step-items.ensures.value c.shared-shared.ensures.value c.as_slice.ensures.value
          c.loop-step-test.true c.step_motion-motion.ensures.value c.loop-step.invariant.2,
    )

pub returns-clause-along : goal.returns-clause-along
returns-clause-along c =
    let m = c.args.faces.now in
    let i = c.loop-step.step-index in
    let us = motions_of c.loop-step.motions.items in
    let few : length m.walk ≤ i = subst (λ (ss : List Step). length ss ≤ i) c.walk-step-items.ensures.value
    c.loop-step-test.false in
    let P : List Step → Type 0 = λ ss. AreWalked m.shared us ss us in
    let R : Motion → Type 0 = λ t. IsIdentity t in
    along_walked m c.walk-step-items.ensures.rules us
    (c.loop-step.invariant.2 us (subst P (sym (drop_all i m.walk few)) refl))
    (subst R c.identity.ensures.value c.identity.ensures.stays)
