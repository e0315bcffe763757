use Rattle.std.proofs.Common.{◌≡◌, ◌∙◌, true, is_some, sym, ap, subst}
use Rattle.std.specs.Arc.{arc_value}
use Rattle.std.specs.List.{All}
use Rattle.sign_rules.specs.Signs.{OrderView}
use Rattle.sign_rules.specs.Rules.{is_consistent}
use Rattle.search_cursor.specs.Place.{SearchPlace}
use Rattle.order_search.specs.Invariant.{IsConsistentWithin}
use Rattle.worker_split.specs.Job.{JobView}
use Rattle.worker_split.specs.Invariant.{IsPiece, WasAsked}
use Rattle.worker_split.proofs.Jobs.{piece_known, piece_asked, budget_of_ask}
use Rattle.worker_split.proofs.job.JobState.task.Goals as goal

pub invariant_of-result : goal.invariant_of-result
invariant_of-result c =
    let j = c.args.self.now in
    let kept = c.in-Some.kept.now in
    let each = subst (λ (v : JobView). All (IsPiece v.rules) v.pieces) c.self.view_is c.self.invariant.each in
    let known = piece_known j c.args.piece kept each c.in-Some.ensures in
    let rules : j.rules ≡ arc_value c.in_ok-try_clone-in-Open-Asked.field-0 =
    sym (c.in_ok-try_clone-in-Open-Asked.ensures ∙ ap (λ (v : JobView). v.rules) c.self.view_is) in
    let prefix : kept.prefix.list ≡ c.in_ok-copy-in-Open-Asked.field-0.list =
    sym (ap (λ (o : OrderView). o.list) c.in_ok-copy-in-Open-Asked.ensures) in
    let signs : kept.kept.signs.list ≡ c.in_ok-copy-in-Open-Asked-2.field-0.signs.list =
    sym (ap (λ (q : SearchPlace). q.signs) c.in_ok-copy-in-Open-Asked-2.ensures) in
    record {
      consistent =
          subst (λ l. is_consistent (arc_value c.in_ok-try_clone-in-Open-Asked.field-0) l ≡ true) prefix
          (subst (λ r. is_consistent r kept.prefix.list ≡ true) rules known.consistent);
      within =
          subst (λ l. IsConsistentWithin (arc_value c.in_ok-try_clone-in-Open-Asked.field-0) c.in_ok-copy-in-Open-Asked.field-0.list l) signs
          (subst (λ l. IsConsistentWithin (arc_value c.in_ok-try_clone-in-Open-Asked.field-0) l kept.kept.signs.list) prefix
          (subst (λ r. IsConsistentWithin r kept.prefix.list kept.kept.signs.list) rules known.within));
      some_budget = known.budget c.in-Open-Asked.budget c.in-Open-Asked.is-1;
    }

pub returns-in_ok-copy-in-Open-Asked-2-clause-budget : goal.returns-in_ok-copy-in-Open-Asked-2-clause-budget
returns-in_ok-copy-in-Open-Asked-2-clause-budget c =
    let j = c.args.self.now in
    let kept = c.in-Some.kept.now in
    let asked = subst (λ (v : JobView). All (WasAsked v.ask) v.pieces) c.self.view_is c.self.invariant.asked in
    let some = subst (λ (v : JobView). is_some v.ask ≡ true) c.self.view_is c.if-is_none.ensures in
    budget_of_ask j.ask kept c.in-Open-Asked.budget some (piece_asked j c.args.piece kept asked c.in-Some.ensures)
    c.in-Open-Asked.is-0 c.in-Open-Asked.is-1
