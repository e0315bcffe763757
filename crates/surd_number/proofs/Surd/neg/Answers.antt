use Rattle.std.proofs.Common.{subst, sym, ap, ◌∙◌, ◌≡◌}
use Rattle.surd_number.specs.Number.{Number, negative_of}
use Rattle.surd_number.specs.Stored.{IsStored}
use Rattle.surd_number.specs.CanonicalLaws.{canonical_negative, within_negative}
use Rattle.surd_number.specs.Value.{number_of, triple_number_of}
use Rattle.surd_number.proofs.Surd.neg.Goals as goal

pub kept-requires : goal.kept-requires
kept-requires c =
    let x = number_of c.args.self.now in
    let P : Number → Type 0 = IsStored in
    let value : triple_number_of c.negated.result ≡ negative_of x = c.negated.ensures.value
    ∙ ap negative_of c.triple.ensures in
    subst P (sym value) (
      canonical_negative x c.args.self.now.stored.0,
      within_negative 36 16 x c.args.self.now.stored.1,
    )
