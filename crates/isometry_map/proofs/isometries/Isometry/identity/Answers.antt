use Rattle.std.proofs.Common.{ap, sym, subst, ◌∙◌, ◌≡◌}
use Rattle.surd_number.specs.Number.{Number}
use Rattle.surd_number.specs.Value.{wide_number_of}
use Rattle.plane_geometry.specs.Direction.{nought}
use Rattle.isometry_map.specs.LinearView.{linear_number}
use Rattle.isometry_map.specs.Motion.{Motion, IsIdentity, identity_motion}
use Rattle.isometry_map.proofs.Mirrors.{identity_stays}
use Rattle.isometry_map.proofs.isometries.Isometry.identity.Goals as goal

pub returns-clause-stays : goal.returns-clause-stays
returns-clause-stays c =
    let n = wide_number_of c.of-nought.result in
    let zero_shift : n ≡ nought = c.of-nought.ensures.value ∙ c.whole.ensures.number in
    let at : Number → Motion = λ x. record {
      linear = linear_number c.identity.result;
      shift = record { x = x; y = x };
    } in
    let same : at n ≡ identity_motion = ap at zero_shift
    ∙ ap (λ k. let t : Motion = record { linear = k; shift = record { x = nought; y = nought } } in t)
    c.identity.ensures in
    subst IsIdentity (sym same) identity_stays
