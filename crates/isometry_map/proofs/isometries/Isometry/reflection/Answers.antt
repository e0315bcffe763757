use Rattle.std.proofs.Common.{◌≡◌, ◌∙◌, ℕ, ap, sym, subst, arith}
use Rattle.plane_geometry.specs.LineView.{line_number}
use Rattle.isometry_map.specs.Linear.{reflection}
use Rattle.isometry_map.specs.LinearView.{linear_number}
use Rattle.isometry_map.specs.Matrix.{matrix_of, IsMirrorOf}
use Rattle.isometry_map.specs.MatrixLaws.{reflections_keep_their_lines}
use Rattle.isometry_map.specs.Motion.{Motion, IsReflectionIn}
use Rattle.isometry_map.specs.WidePointView.{wide_position}
use Rattle.isometry_map.proofs.Widths.{axis_fits, axis_fits_more, axis_image_fits}
use Rattle.isometry_map.proofs.Mirrors.{reflects, reflects_at, reflection_within, reflection_shift}
use Rattle.isometry_map.proofs.isometries.Isometry.reflection.Goals as goal

pub image-requires : goal.image-requires
image-requires c = axis_fits (wide_position c.axis_point-foot.result) c.axis_point-foot.ensures.fits

pub minus-requires-clause-few : goal.minus-requires-clause-few
minus-requires-clause-few c =
    axis_fits_more (wide_position c.axis_point-foot.result) c.axis_point-foot.ensures.fits

pub minus-requires-clause-few_other : goal.minus-requires-clause-few_other
minus-requires-clause-few_other c =
    axis_image_fits (linear_number c.across-linear.result) (wide_position c.image.result)
    (wide_position c.axis_point-foot.result) c.image.ensures c.axis_point-foot.ensures.fits

mirror : (c : goal.After-minus)
    → IsReflectionIn c.args.line.now
    (record { linear = linear_number c.across-linear.result; shift = wide_position c.minus.result })
mirror c =
    let l = c.args.line.now in
    let n = linear_number c.across-linear.result in
    let t : Motion = record { linear = n; shift = wide_position c.minus.result } in
    let number : n ≡ reflection (line_number l) = c.across-linear.ensures ∙ ap reflection c.number.ensures in
    let mirror : IsMirrorOf (line_number l) (matrix_of n) = subst
    (λ (k : ℕ). IsMirrorOf (line_number l) (matrix_of k)) (sym number)
    (reflections_keep_their_lines (line_number l) (omega (arith, l.in_range))) in
    reflects l t (wide_position c.axis_point-foot.result) mirror c.axis_point-foot.ensures.on
    (reflection_shift n (wide_position c.minus.result) (wide_position c.image.result)
    (wide_position c.axis_point-foot.result) c.minus.ensures c.image.ensures)

pub returns-clause-mirror : goal.returns-clause-mirror
returns-clause-mirror c = mirror c

pub returns-clause-at : goal.returns-clause-at
returns-clause-at c =
    let l = c.args.line.now in
    reflects_at l (record {
      linear = linear_number c.across-linear.result;
      shift = wide_position c.minus.result;
    }) (c.across-linear.ensures ∙ ap reflection c.number.ensures)
    (mirror c)

pub returns-clause-fits : goal.returns-clause-fits
returns-clause-fits c =
    reflection_within (record {
      linear = linear_number c.across-linear.result;
      shift = wide_position c.minus.result;
    }) (c.args.line.now, mirror c)
