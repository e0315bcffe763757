use Rattle.std.proofs.Common.{◌+◌, ◌∙◌, arith}
use Rattle.oriedita_cli.proofs.Misses.{misses_both}
use Rattle.oriedita_cli.proofs.Sampling.{asked_more, asks_after}
use Rattle.oriedita_cli.proofs.samples.ask_all.Goals as goal

pub returns-in_err-ask_next-clause-asks : goal.returns-in_err-ask_next-clause-asks
returns-in_err-ask_next-clause-asks g c =
    asks_after c.args.session.now.events c.loop.session.events c.ask_next.new.session.events
    c.loop.invariant.asks.0 c.loop.invariant.asks.1 c.ask_next.ensures.asks

pub loop-preserved : goal.loop-preserved
loop-preserved g c =
    let next = c.in_ok-ask_next.ensures.next c.if-branch.true in
    record {
      helped = c.ask_next.ensures.helped;
      unended = next.unended;
      asks = (
        c.loop.invariant.asks.0 + 1,
        asked_more c.args.session.now.events c.loop.session.events c.ask_next.new.session.events
            c.loop.invariant.asks.0 c.loop.invariant.asks.1 next.commands,
      );
      most = c.ask_next.ensures.most ∙ c.loop.invariant.most;
      misses = omega (arith, c.loop.invariant.misses, c.ask_next.ensures.misses);
      running = misses_both _ _ _ c.args.session.now.events c.loop.session.events c.ask_next.new.session.events
          c.ask_next.ensures.misses c.loop.invariant.running c.ask_next.ensures.running;
    }

pub returns-clause-asks : goal.returns-clause-asks
returns-clause-asks g c =
    asks_after c.args.session.now.events c.loop.session.events c.ask_next.new.session.events
    c.loop.invariant.asks.0 c.loop.invariant.asks.1 c.ask_next.ensures.asks
