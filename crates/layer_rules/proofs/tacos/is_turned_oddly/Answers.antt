use Rattle.std.proofs.Common.{◌∙◌, not, ap, ap₂}
use Rattle.std.specs.Prelude.{nat_lt}
use Rattle.std.proofs.Math.Bool.{beq}
use Rattle.sign_rules.specs.Rule.{is_same}
use Rattle.layer_rules.proofs.TortillaRules.{beq_same}
use Rattle.layer_rules.proofs.tacos.is_turned_oddly.Goals as goal

pub returns : goal.returns
returns c =
    let first = c.args.c.now in
    let second = c.args.d.now in
    let aa = nat_lt first.a second.a in
    let ba = nat_lt first.b second.a in
    let ab = nat_lt first.a second.b in
    let bb = nat_lt first.b second.b in
    ap not (beq_same (beq aa ba) (beq ab bb) ∙ ap₂ is_same (beq_same aa ba) (beq_same ab bb))
