use Rattle.std.proofs.Common.{◌≡◌, ℕ, false, Option, None, sym, subst}
use Rattle.std.specs.Prelude.{◌↔◌, IfSome}
use Rattle.std.specs.List.{list_any}
use Rattle.oriedita_cli.specs.Tickets.{IsListed, is_for}
use Rattle.oriedita_cli.proofs.FirstTickets.{first_listed, first_none}
use Rattle.oriedita_cli.proofs.tickets.Tickets.find.Goals as goal

pub returns-clause-none : goal.returns-clause-none
returns-clause-none c =
    let ts = c.args.self.now.list.items in
    subst (λ (o : Option ℕ). (o ≡ None) ↔ (list_any (is_for c.args.job c.args.piece c.args.budget) ts ≡ false))
    (sym c.first_number.ensures) (first_none c.args.job c.args.piece c.args.budget ts)

pub returns-clause-listed : goal.returns-clause-listed
returns-clause-listed c =
    let ts = c.args.self.now.list.items in
    subst (λ (o : Option ℕ). IfSome o (λ number. IsListed number c.args.job ts)) (sym c.first_number.ensures)
    (first_listed c.args.job c.args.piece c.args.budget ts)
