use Rattle.wireframe_fold.proofs.Steps.{steps_within, shared_within}
use Rattle.wireframe_fold.proofs.motions.tell_places.Goals as goal

pub returns-clause-steps : goal.returns-clause-steps
returns-clause-steps c = steps_within c.args.faces.now c.count.ensures.rules

pub returns-clause-shared : goal.returns-clause-shared
returns-clause-shared c = shared_within c.args.faces.now c.count.ensures.rules
