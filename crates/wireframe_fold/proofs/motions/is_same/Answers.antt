use Rattle.std.proofs.Common.{◌↔◌, Bool, sym, subst}
use Rattle.std.specs.Bool.{IsTrue}
use Rattle.isometry_map.specs.Motion.{IsSameMap}
use Rattle.isometry_map.specs.IsometryView.{motion_of}
use Rattle.wireframe_fold.proofs.Maps.{same_says}
use Rattle.wireframe_fold.proofs.motions.is_same.Goals as goal

pub returns : goal.returns
returns c =
    let s = c.args.s.now in
    let t = c.args.t.now in
    let P : Bool → Type 0 = λ b. IsTrue b ↔ IsSameMap (motion_of s) (motion_of t) in
    subst P (sym c.eq.ensures) (same_says s t)
