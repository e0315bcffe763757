-- Replies that no answer was there yet, beside the count of misses.
use Rattle.std.proofs.Common.{◌≡◌, ℕ, ◌+◌, ◌≤◌, Bool, true, false, cond, List, refl, arith}
use Rattle.oriedita_io.specs.Faults.{Rose}
use Rattle.job_register.specs.declared.session.Event.{Event}
use Rattle.job_register.specs.Counts.{running_replies}
use Rattle.oriedita_cli.specs.Tickets.{AreMisses}

pub misses_none : (before now : ℕ) (es fs : List Event) → before ≤ now
    → running_replies fs ≡ running_replies es → AreMisses before now es fs
misses_none before now es fs rises same low = omega (arith, rises, same)

pub misses_both : (a b c : ℕ) (es fs gs : List Event) → b ≤ c → AreMisses a b es fs → AreMisses b c fs gs
    → AreMisses a c es gs
misses_both a b c es fs gs rises first second low =
    let f = first (omega (arith, rises, low)) in
    let s = second low in omega (arith, f, s)

pub misses_step : (a b c : ℕ) (es fs gs : List Event) (early : Bool)
    → running_replies fs ≡ running_replies es → running_replies gs ≡ running_replies fs + cond early 1 0
    → (early ≡ true → Rose a b) → a ≤ b → b ≤ c → AreMisses a c es gs
misses_step a b c es fs gs true same more rose rises later low =
    let risen = rose refl in omega (arith, same, more, risen, later, low)
misses_step a b c es fs gs false same more rose rises later low = omega (arith, same, more, rises, later)
