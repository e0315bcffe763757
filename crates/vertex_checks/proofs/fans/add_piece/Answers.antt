use Rattle.std.proofs.Common.{◌+◌, ap, ◌∙◌}
use Rattle.std.proofs.lemmas.Result.{on_ok_weaker}
use Rattle.vertex_checks.specs.Fan.{ray_of}
use Rattle.vertex_checks.specs.FanMap.{kept_fan}
use Rattle.vertex_checks.proofs.FanMapLaws.{piece_rays}
use Rattle.vertex_checks.proofs.fans.add_piece.Goals as goal

pub returns : goal.returns
returns c =
    let p = c.args.piece.now in
    let number = c.number-number.ensures ∙ c.dir.ensures.value in
    on_ok_weaker c.add_ray-2.result
    (λ k. piece_rays p (kept_fan c.args.fans.now) (kept_fan c.add_ray.new.fans)
    (kept_fan c.add_ray-2.new.fans) c.from.result.now c.to.result.now c.ray_to.result c.ray_to-2.result
    c.from.ensures.value c.to.ensures (c.ray_to.ensures ∙ ap (ray_of p) number)
    (c.ray_to-2.ensures ∙ ap (λ n. ray_of p (n + 8)) number) c.in_ok-add_ray.ensures k)
    c.add_ray-2.ensures
