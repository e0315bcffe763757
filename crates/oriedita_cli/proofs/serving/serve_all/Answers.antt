use Rattle.std.proofs.Common.{◌≡◌, true, ◌∷◌, [], ◌++◌, List, append_assoc, refl, sym, ap, subst, ◌∙◌, arith}
use Rattle.std.specs.List.{list_all}
use Rattle.std.proofs.lemmas.Bool.{and_parts}
use Rattle.std.proofs.lemmas.Result.{MatchResult-from_err}
use Rattle.script_lang.specs.declared.command.Command.{Command}
use Rattle.script_lang.specs.Script.{meets_condition}
use Rattle.oriedita_cli.specs.Serving.{StopsIn}
use Rattle.oriedita_cli.proofs.Misses.{misses_none, misses_both}
use Rattle.oriedita_cli.proofs.Stopping.{serves_none, serves_both, serves_then_stops}
use Rattle.oriedita_cli.proofs.serving.serve_all.Goals as goal

pub loop-command-init : goal.loop-command-init
loop-command-init g c = record {
  split = sym c.into_iter-command-iterator.ensures.into_iter_gives.0;
  condition = subst (λ (xs : List Command). list_all meets_condition xs ≡ true)
      (sym c.into_iter-command-iterator.ensures.into_iter_gives.0) c.requires.condition;
  served = serves_none c.args.session.now.events (g.K.Sink.taken c.args.out.now);
  most = refl;
  helped = c.requires.helped;
  misses = omega arith;
  running = misses_none _ _ c.args.session.now.events c.args.session.now.events (omega arith) refl;
  faults = refl;
}

pub serve_command-requires : goal.serve_command-requires
serve_command-requires g c = (
  c.type_bounds.sync-R,
  (
    (and_parts (meets_condition c.in-Some.command) _
        (subst (λ (xs : List Command). list_all meets_condition xs ≡ true) c.in-Some.ensures.steps.0
        c.loop-command.invariant.condition)).0,
    c.loop-command.invariant.helped,
  ),
)

pub loop-command-preserved : goal.loop-command-preserved
loop-command-preserved g c =
    let taken = g.K.Sink.taken in
    let command = c.in-Some.command in
    let steps = c.in-Some.ensures.steps.0 in
    record {
      split = c.loop-command.invariant.split ∙ ap (λ (xs : List Command). c.loop-command.yielded ++ xs) steps
          ∙ sym (append_assoc c.loop-command.yielded (command ∷ []) c.next.new.self.rest.items);
      condition = (and_parts (meets_condition command) _
          (subst (λ (xs : List Command). list_all meets_condition xs ≡ true) steps
          c.loop-command.invariant.condition)).1;
      served = serves_both c.args.session.now.events c.loop-command.session.events c.serve_command.new.session.events
          (taken c.args.out.now) (taken c.loop-command.out) (taken c.serve_command.new.out)
          c.loop-command.yielded (command ∷ []) c.loop-command.invariant.served c.in_ok-serve_command.ensures.serves;
      most = c.serve_command.ensures.most ∙ c.loop-command.invariant.most;
      helped = c.serve_command.ensures.helped;
      misses = omega (arith, c.loop-command.invariant.misses, c.serve_command.ensures.misses);
      running = misses_both _ _ _ c.args.session.now.events c.loop-command.session.events c.serve_command.new.session.events
          c.serve_command.ensures.misses c.loop-command.invariant.running c.serve_command.ensures.running;
      faults = c.in_ok-serve_command.ensures.faults_stay (λ is. absurd (cc)) ∙ c.loop-command.invariant.faults;
    }

pub returns-in_err-serve_command-clause-serves : goal.returns-in_err-serve_command-clause-serves
returns-in_err-serve_command-clause-serves g c =
    let taken = g.K.Sink.taken in
    MatchResult-from_err c.from_residual.result _ _ c.from_residual.ensures.0 (λ _. subst (λ (xs : List Command). StopsIn c.args.session.now.events c.serve_command.new.session.events (taken c.args.out.now)
    (taken c.serve_command.new.out) xs)
    (sym (c.loop-command.invariant.split
    ∙ ap (λ (xs : List Command). c.loop-command.yielded ++ xs) c.in-Some.ensures.steps.0))
    (serves_then_stops c.args.session.now.events c.loop-command.session.events c.serve_command.new.session.events (taken c.args.out.now)
    (taken c.loop-command.out) (taken c.serve_command.new.out)
    c.loop-command.yielded
    (c.in-Some.command ∷ []) c.next.new.self.rest.items c.loop-command.invariant.served
    c.in_err-serve_command.ensures.serves))
