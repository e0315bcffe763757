use Rattle.std.proofs.Common.{sym, subst, ◌≡◌, ◌∙◌, ◌^◌}
use Rattle.surd_number.specs.Number.{Number, FitsOver}
use Rattle.surd_number.specs.Stored.{IsStoredWide}
use Rattle.surd_number.specs.CanonicalLaws.{stored_wide_from_stored}
use Rattle.surd_number.specs.FitsLaws.{fits_stored}
use Rattle.surd_number.specs.Value.{number_of, wide_number_of}
use Rattle.surd_number.proofs.Wide.of.Goals as goal

pub kept-requires : goal.kept-requires
kept-requires c =
    let P : Number → Type 0 = IsStoredWide in
    subst P (sym c.triple.ensures) (stored_wide_from_stored (number_of c.args.n.now) c.args.n.now.stored)

pub returns-clause-fits : goal.returns-clause-fits
returns-clause-fits c =
    let P : Number → Type 0 = FitsOver (2 ^ 52) 16 in
    let value : wide_number_of c.kept.result ≡ number_of c.args.n.now = c.kept.ensures ∙ c.triple.ensures in
    subst P (sym value) (fits_stored (number_of c.args.n.now) c.args.n.now.stored)
