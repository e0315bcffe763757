use Rattle.std.proofs.Common.{sym, subst, arith}
use Rattle.plane_geometry.specs.declared.Point.{Point}
use Rattle.isometry_map.specs.IsometryView.{motion_of}
use Rattle.isometry_map.specs.Folded.{IsImage}
use Rattle.wireframe_fold.specs.Crease.{HasImage}
use Rattle.wireframe_fold.proofs.Segments.{has_segment}
use Rattle.wireframe_fold.proofs.creases.folded_crease.Goals as goal

pub returns : goal.returns
returns c =
    let t = motion_of c.args.motion.now in
    let q = c.image_of-from.result in
    let r = c.image_of-to.result in
    let P : Point → Type 0 = λ p. IsImage t p q in
    let Q : Point → Type 0 = λ p. IsImage t p r in
    record {
      from = q;
      to = r;
      from_is = subst P c.from.ensures.value c.image_of-from.ensures;
      to_is = subst Q c.to.ensures c.image_of-to.ensures;
      ends = c.in-Ok.ensures.ends;
    }

pub image_of-from-requires-clause-image : goal.image_of-from-requires-clause-image
image_of-from-requires-clause-image c =
    let P : Point → Type 0 = HasImage (motion_of c.args.motion.now)
    in subst P (sym c.from.ensures.value) c.requires.images.0

pub image_of-to-requires-clause-image : goal.image_of-to-requires-clause-image
image_of-to-requires-clause-image c =
    let P : Point → Type 0 = HasImage (motion_of c.args.motion.now)
    in subst P (sym c.to.ensures) c.requires.images.1

pub unreachable-requires : goal.unreachable-requires
unreachable-requires c =
    let t = motion_of c.args.motion.now in
    let q = c.image_of-from.result in
    let r = c.image_of-to.result in
    let P : Point → Type 0 = λ p. IsImage t p q in
    let Q : Point → Type 0 = λ p. IsImage t p r in
    has_segment t c.args.crease.now q r c.new.result c.in-Err.field-0
    (omega (arith, c.args.motion.now.linear.in_range))
    (subst P c.from.ensures.value c.image_of-from.ensures)
    (subst Q c.to.ensures c.image_of-to.ensures) c.in-Err.is
    c.new.ensures.zero_length c.new.ensures.bad_direction
