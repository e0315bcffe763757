-- What a list begins with stays as more is appended.
use Rattle.std.proofs.Common.{ℕ, ◌≤◌, List, ◌++◌, length, take, refl, ap, sym, ◌∙◌, arith}
use Rattle.std.proofs.lemmas.List.{take_all, take_at, take-take, take-append-le, length-append, length-take}
use Rattle.cp_text.specs.Growth.{KeepsFront}

pub keeps_self : (old : List ℕ) → KeepsFront old old
keeps_self old = take_all (length old) old (omega arith)

pub keeps_append : (old ys : List ℕ) → KeepsFront old (old ++ ys)
keeps_append old ys = take_at old ys (length old) refl

pub keeps_first : (old ys new : List ℕ) → KeepsFront (old ++ ys) new → KeepsFront old new
keeps_first old ys new h =
    sym (take-take (length old) (length (old ++ ys)) new (omega (arith, length-append old ys)))
    ∙ ap (take (length old)) h ∙ keeps_append old ys

pub keeps_more : (old new ys : List ℕ) → KeepsFront old new → KeepsFront old (new ++ ys)
keeps_more old new ys h =
    let here : length old ≤ length new = omega (arith, length-take (length old) new, ap length h) in
    take-append-le (length old) new ys here ∙ h

pub ruleset fronts = (keeps_self, keeps_append, keeps_first, keeps_more)
