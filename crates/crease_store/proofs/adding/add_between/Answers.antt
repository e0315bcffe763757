use Rattle.std.proofs.Common.{◌∙◌, rules, ap, sym, subst}
use Rattle.std.specs.Prelude.{Err}
use Rattle.std.proofs.lemmas.Result.{err_from_is_err_and}
use Rattle.crease_store.specs.Adding.{add_of}
use Rattle.crease_store.specs.Answer.{IsAnswer}
use Rattle.crease_store.proofs.Refused.{no_segment_told}
use Rattle.crease_store.proofs.adding.add_between.Goals as goal

pub returns-in_err-s : goal.returns-in_err-s
returns-in_err-s c =
    let old = c.args.pattern in
    let from = c.args.from.now in
    let to = c.args.to.now in
    let cause = c.in_err-s.field-0.0 in
    let told = err_from_is_err_and c.from_residual.result c.from_residual.ensures.1 in
    subst (λ r. IsAnswer r (add_of old c.args.kind from to)) (sym (told.1 ∙ ap Err told.2))
    (no_segment_told old c.args.kind from to (search rules) cause c.in_err-s.ensures.zero_length c.in_err-s.ensures.bad_direction)
