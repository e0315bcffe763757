use Rattle.fold_jobs.proofs.Own.{shows_orders}
use Rattle.fold_jobs.proofs.laws.legal_records_enumerate.Goals as goal

pub returns : goal.returns
returns c = λ most number version r es before after legal parts.
    shows_orders most number version r es before after legal parts
    (λ own own_legal. c.legal_records_enumerate.ensures number version r most own own_legal)
