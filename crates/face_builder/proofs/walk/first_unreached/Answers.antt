use Rattle.std.proofs.Common.{rules, sym, ◌∙◌}
use Rattle.face_builder.proofs.Walks.{reached_step}
use Rattle.face_builder.proofs.walk.first_unreached.Goals as goal

pub loop-i-preserved : goal.loop-i-preserved
loop-i-preserved c = sym (reached_step c.args.steps.now c.loop-i.i c.args.faces (search rules) (search rules))
    ∙ c.loop-i.invariant
