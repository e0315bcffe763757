use Rattle.std.proofs.Common.{◌≡◌, ◌↔◌, ◌∙◌, Bool, true, sym, ap}
use Rattle.search_cursor.specs.Place.{SearchPlace, search_place, is_earlier, stands_before}
use Rattle.search_cursor.specs.Cases.{IsBefore}
use Rattle.search_cursor.proofs.FourCases.{four_cases}
use Rattle.search_cursor.proofs.position.Position.before.Goals as goal

by_cases : (p q : SearchPlace) (b : Bool) → b ≡ is_earlier p q → (b ≡ true) ↔ IsBefore p q
by_cases p q b e = let f = four_cases p q in (λ h. f.0 (sym e ∙ h), λ h. e ∙ f.1 h)

pub returns-clause-cases : goal.returns-clause-cases
returns-clause-cases c =
    by_cases (search_place c.args.self.now) (search_place c.args.other.now) c.stands_before.result
    (
    c.stands_before.ensures
    ∙ ap (λ l. stands_before l c.args.self.now.past c.as_slice-2.result.now c.args.other.now.past)
    c.as_slice.ensures
    ∙ ap (λ l. stands_before c.args.self.now.signs.list c.args.self.now.past l c.args.other.now.past)
    c.as_slice-2.ensures
    )
