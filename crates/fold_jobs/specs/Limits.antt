-- How many jobs and asks there may be, and how large a budget.
use Rattle.std.specs.Prelude.{ℕ}

-- jobs, the cancelled ones too
abbrev pub most_jobs : ℕ
most_jobs = 64

-- asks of all jobs together
abbrev pub most_asks : ℕ
most_asks = 10000

abbrev pub first_budget : ℕ
first_budget = 100000

abbrev pub greatest_budget : ℕ
greatest_budget = 1000000000
