use Rattle.std.proofs.Common.{◌≡◌, length, ap, ◌∙◌, arith}
use Rattle.vertex_checks.specs.Fan.{fan_of}
use Rattle.vertex_checks.proofs.Lengths.{fan_length}
use Rattle.vertex_checks.proofs.checking.push_vertex.Goals as goal

pub push_fan-requires : goal.push_fan-requires
push_fan-requires c =
    let v = c.args.v.now in
    let e : length c.fan_in.result.now
    ≡ length (fan_of v c.args.pieces.now) = ap length (c.fan_in.ensures ∙ c.requires.kept v) in
    omega (arith, e, fan_length v c.args.pieces.now, c.requires.few)
