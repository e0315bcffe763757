-- What helpers hold, and what they answer.
use Rattle.std.specs.Prelude.{◌≡◌, ℕ, ◌+◌, ◌-◌, ◌^◌, ◌≤◌, min}
use Rattle.std.specs.Arc.{arc_value}
use Rattle.task_board.specs.declared.helpers.Obtained.{Obtained}
use Rattle.task_board.specs.declared.helpers.Obtained.TheVariants.{Posted, Yours}

-- a count after one rise, which stands still at its last value
abbrev pub raised : ℕ → ℕ
raised count = min (count + 1) (2 ^ 64 - 1)

-- an outcome that is right for what the task says, or the task itself where the count of returns rose by one at least, or
-- stands at its last value
abbrev pub IsObtained : {W T O S : Type 0} → (O → Type 0) → Obtained W T O S → T → ℕ → ℕ → Type 0
IsObtained right (Posted outcome) task before now = ∥ right outcome ∥₁
IsObtained right (Yours mine) task before now =
    (arc_value mine ≡ task) × (raised before ≤ now)

-- the count of returns after a ticket was taken out
abbrev pub returned : {W T O S : Type 0} → Obtained W T O S → ℕ → ℕ
returned (Posted outcome) count = count
returned (Yours task) count = raised count
