use Rattle.std.proofs.Common.{◌≡◌, ◌++◌, codes, decimal, sym, subst, string_bytes, IfOk, ◌∙◌}
use Rattle.oriedita_cli.specs.Samples.{folded_text, orders_shown}
use Rattle.oriedita_cli.proofs.samples.sample_text.Goals as goal

pub returns-in-None : goal.returns-in-None
returns-in-None c =
    let orders = orders_shown c.args.events.now in
    subst (λ shape. IfOk c.stopped_line.result (λ text. string_bytes text
    ≡ codes "sample " ++ decimal c.args.n ++ folded_text shape orders))
    (sym c.in-None.is ∙ c.folded_shape.ensures) (c.stopped_line.ensures orders)
