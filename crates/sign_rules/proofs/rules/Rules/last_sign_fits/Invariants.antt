use Rattle.sign_rules.proofs.Chains.{HasFit}
use Rattle.sign_rules.proofs.rules.Rules.last_sign_fits.Given as goal

abbrev pub invariant-loop-next : goal.invariant-loop-next
invariant-loop-next l = HasFit l.self-inside.rules.items l.signs l.next

abbrev pub decreases-loop-next : goal.decreases-loop-next
decreases-loop-next l = l.next
