-- The walk over faces.
use Rattle.std.proofs.Common.{◌≡◌, ℕ, suc, ◌+◌, ◌-◌, ◌<◌, true, cond, List, Some, ap, ◌∙◌, arith}
use Rattle.face_builder.specs.declared.walk.Step.{Step}
use Rattle.face_builder.specs.Walk.{is_reached, first_unreached}

-- a face that is reached is passed over
pub reached_step : (steps : List Step) (i n : ℕ) → i < n → is_reached steps (i + 1) ≡ true
    → first_unreached steps (i + 1) (n - i) ≡ first_unreached steps (i + 1 + 1) (n - (i + 1))
reached_step steps i n less e =
    let more : n - i ≡ suc (n - (i + 1)) = omega (arith, less) in
    ap (first_unreached steps (i + 1)) more
    ∙ ap (λ b. cond b (first_unreached steps (i + 1 + 1) (n - (i + 1))) (Some (i + 1))) e
