use Rattle.std.proofs.Common.{◌≡◌, List, ℕ, Option, Some, subst, rules, option_map, string_bytes}
use Rattle.std.specs.Prelude.{IfOk, Err}
use Rattle.oriedita_cli.specs.declared.opening.Unread.TheVariants.{TooLong}
use Rattle.oriedita_cli.specs.Clauses.{IsFirst, IsTooLong}
use Rattle.oriedita_cli.proofs.opening.first_commands.Goals as goal

pub returns-in-Some-clause-ok : goal.returns-in-Some-clause-ok
returns-in-Some-clause-ok g c =
    let named : Some c.as_str.result.now ≡ option_map string_bytes c.args.path.now = search rules in
    subst (λ (p : Option (List ℕ)). IfOk c.load_file.result (λ first. IsFirst (g.O.Opener.file c.args.files.now) p first))
    named c.load_file.ensures.ok

pub returns-in-Some-clause-long : goal.returns-in-Some-clause-long
returns-in-Some-clause-long g c =
    let named : Some c.as_str.result.now ≡ option_map string_bytes c.args.path.now = search rules in
    subst (λ (p : Option (List ℕ)). c.load_file.result ≡ Err TooLong → IsTooLong (g.O.Opener.file c.args.files.now) p)
    named c.load_file.ensures.long
