use Rattle.vertex_checks.proofs.FanLaws.{fan_is_small}
use Rattle.vertex_checks.proofs.laws.fan_is_small.Goals as goal

pub returns : goal.returns
returns c = fan_is_small
