use Rattle.std.proofs.Common.{◌∙◌, ◌+◌, sym}
use Rattle.surd_number.specs.Value.{wide_number_of}
use Rattle.isometry_map.specs.Entry.{entry_number}
use Rattle.isometry_map.specs.Matrix.{cosine}
use Rattle.isometry_map.specs.WidePointView.{wide_position}
use Rattle.isometry_map.proofs.Widths.{wide_sum, wide_difference, scaled_fits}
use Rattle.isometry_map.proofs.Images.{reflected, rotated, entry_product}
use Rattle.isometry_map.proofs.linear_parts.Linear.image.Goals as goal

pub plus-requires : goal.plus-requires
plus-requires c =
    let x = wide_number_of c.args.v.now.x in
    let y = wide_number_of c.args.v.now.y in
    let m = wide_number_of c.scaled.result in
    let n = wide_number_of c.scaled-then-is_turned.result in
    wide_sum m n (scaled_fits c.cosine-cos.result m x c.scaled.ensures c.requires.0)
    (scaled_fits c.cosine-sin.result n y c.scaled-then-is_turned.ensures c.requires.1)

pub minus-requires : goal.minus-requires
minus-requires c =
    let x = wide_number_of c.args.v.now.x in
    let y = wide_number_of c.args.v.now.y in
    let m = wide_number_of c.scaled-2.result in
    let n = wide_number_of c.scaled-then-is_turned-2.result in
    wide_difference m n (scaled_fits c.cosine-sin.result m x c.scaled-2.ensures c.requires.0)
    (scaled_fits c.cosine-cos.result n y c.scaled-then-is_turned-2.ensures c.requires.1)

pub minus-requires-else-is_turned : goal.minus-requires-else-is_turned
minus-requires-else-is_turned c =
    let x = wide_number_of c.args.v.now.x in
    let y = wide_number_of c.args.v.now.y in
    let m = wide_number_of c.scaled.result in
    let n = wide_number_of c.scaled-else-is_turned.result in
    wide_difference m n (scaled_fits c.cosine-cos.result m x c.scaled.ensures c.requires.0)
    (scaled_fits c.cosine-sin.result n y c.scaled-else-is_turned.ensures c.requires.1)

pub plus-requires-else-is_turned : goal.plus-requires-else-is_turned
plus-requires-else-is_turned c =
    let x = wide_number_of c.args.v.now.x in
    let y = wide_number_of c.args.v.now.y in
    let m = wide_number_of c.scaled-2.result in
    let n = wide_number_of c.scaled-else-is_turned-2.result in
    wide_sum m n (scaled_fits c.cosine-sin.result m x c.scaled-2.ensures c.requires.0)
    (scaled_fits c.cosine-cos.result n y c.scaled-else-is_turned-2.ensures c.requires.1)

pub returns-then-is_turned : goal.returns-then-is_turned
returns-then-is_turned c =
    let n = c.args.self.number in
    let v = wide_position c.args.v.now in
    let cx = wide_number_of c.scaled.result in
    let sx = wide_number_of c.scaled-2.result in
    let cy = wide_number_of c.scaled-then-is_turned-2.result in
    let sy = wide_number_of c.scaled-then-is_turned.result in
    let cos = entry_number c.cosine-cos.result in
    let sin = entry_number c.cosine-sin.result in
    reflected n v cx sx cy sy (wide_number_of c.plus.result) (wide_number_of c.minus.result)
    (sym c.is_turned.ensures ∙ c.if-is_turned.true)
    (record {
      cx_is = entry_product cx v.x cos (cosine n) c.cosine-cos.ensures c.scaled.ensures;
      sx_is = entry_product sx v.x sin (cosine (n + 6)) c.cosine-sin.ensures c.scaled-2.ensures;
      cy_is = entry_product cy v.y cos (cosine n) c.cosine-cos.ensures c.scaled-then-is_turned-2.ensures;
      sy_is = entry_product sy v.y sin (cosine (n + 6)) c.cosine-sin.ensures c.scaled-then-is_turned.ensures;
    }) c.plus.ensures c.minus.ensures

pub returns-else-is_turned : goal.returns-else-is_turned
returns-else-is_turned c =
    let n = c.args.self.number in
    let v = wide_position c.args.v.now in
    let cx = wide_number_of c.scaled.result in
    let sx = wide_number_of c.scaled-2.result in
    let cy = wide_number_of c.scaled-else-is_turned-2.result in
    let sy = wide_number_of c.scaled-else-is_turned.result in
    let cos = entry_number c.cosine-cos.result in
    let sin = entry_number c.cosine-sin.result in
    rotated n v cx sx cy sy (wide_number_of c.minus-else-is_turned.result)
    (wide_number_of c.plus-else-is_turned.result) (sym c.is_turned.ensures ∙ c.if-is_turned.false)
    (record {
      cx_is = entry_product cx v.x cos (cosine n) c.cosine-cos.ensures c.scaled.ensures;
      sx_is = entry_product sx v.x sin (cosine (n + 6)) c.cosine-sin.ensures c.scaled-2.ensures;
      cy_is = entry_product cy v.y cos (cosine n) c.cosine-cos.ensures c.scaled-else-is_turned-2.ensures;
      sy_is = entry_product sy v.y sin (cosine (n + 6)) c.cosine-sin.ensures c.scaled-else-is_turned.ensures;
    }) c.minus-else-is_turned.ensures c.plus-else-is_turned.ensures
