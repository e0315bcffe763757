-- What a sink tells of being finished, after the bytes of two calls.
use Rattle.std.proofs.Common.{ℕ, zero, suc, ◌+◌, Option, Bool, false, refl, sym, subst, ◌∙◌, arith}
use Rattle.oriedita_io.specs.Told.{Tells, FinishedAfter}

pub FinishedAfter-add : (before middle after : Option Bool) (m n : ℕ) → FinishedAfter before middle m
    → FinishedAfter middle after n → FinishedAfter before after (m + n)
FinishedAfter-add before middle after m zero first second = (
  λ none. second.0 refl ∙ first.0 (omega arith),
  λ some. subst (λ told. Tells told false) (sym (second.0 refl)) (first.1 (omega arith)),
)
FinishedAfter-add before middle after m (suc n) first second =
    (λ none. absurd (omega arith), λ some. second.1 (omega arith))
