-- The numbers strictly between two limits.
use Rattle.std.specs.Prelude.{IfSome}
use Rattle.std.specs.Bool.{IsFalse}
use Rattle.surd_number.specs.Number.{Number, IsLess}
use Rattle.open_region.specs.declared.interval.Interval.{Interval}
use Rattle.open_region.specs.EdgeView.{limit_of}

-- above the lower limit and below the upper one, where they are there, and not shut out altogether
abbrev pub IsInInterval : Number → Interval → Type 0
IsInInterval y i =
    IfSome i.lower (λ l. IsLess (limit_of l) y)
    × IfSome i.upper (λ u. IsLess y (limit_of u))
    × IsFalse i.closed
