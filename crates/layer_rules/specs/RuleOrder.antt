-- The order of rules: those of creases, of taco-tortilla, of taco-taco, of transitivity; of one form by the pairs that
-- they name, in the order in which the form names them; of the same pairs Over first, or false first.
use Rattle.std.specs.Prelude.{false, not}
use Rattle.std.specs.Ordering.{nat_cmp, bool_cmp, ordering_then}
use Rattle.std.specs.declared.cmp.Ordering.{Ordering}
use Rattle.sign_rules.specs.Signs.{is_over}
use Rattle.sign_rules.specs.declared.rule.Rule.{Rule}
use Rattle.sign_rules.specs.declared.rule.Rule.TheVariants.{Fixed, Equal, Even, NotCyclic}
use Rattle.layer_rules.specs.declared.rule_order.RuleKey.{RuleKey}

abbrev pub key_of : Rule → RuleKey
key_of (Fixed p sign) = record { form = 0; p = p; q = 0; r = 0; s = 0; last = not (is_over sign) }
key_of (Equal p q same) = record { form = 1; p = p; q = q; r = 0; s = 0; last = same }
key_of (Even p q r s odd) = record { form = 2; p = p; q = q; r = r; s = s; last = odd }
key_of (NotCyclic ij jk ik) = record { form = 3; p = ij; q = jk; r = ik; s = 0; last = false }

-- part by part
abbrev pub compare_keys : RuleKey → RuleKey → Ordering
compare_keys a b =
    ordering_then (nat_cmp a.form b.form)
    (ordering_then (nat_cmp a.p b.p)
    (ordering_then (nat_cmp a.q b.q)
    (ordering_then (nat_cmp a.r b.r) (ordering_then (nat_cmp a.s b.s) (bool_cmp a.last b.last)))))

abbrev pub compare_rules : Rule → Rule → Ordering
compare_rules r s = compare_keys (key_of r) (key_of s)
