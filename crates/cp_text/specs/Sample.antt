-- The sample patterns: creases that part the default sheet into strips of one width, mountains and valleys in turn.
use Rattle.std.specs.Prelude.{ℕ, ◌+◌, ◌-◌, ◌*◌, ◌^◌, ◌%◌, ◌<◌, ◌==◌, pos, negsuc, ◌+ℤ◌, ◌*ℤ◌, List, map, length, get_or, Option, None, Some, if◌then◌else◌}
use Rattle.std.specs.List.{range_with_len}
use Rattle.surd_number.specs.declared.Surd.{Surd}
use Rattle.surd_number.specs.Number.{Number, power}
use Rattle.surd_number.specs.Exact.{IsSurdOf, surd_of}
use Rattle.surd_number.specs.Whole.{whole_surd}
use Rattle.crease_model.specs.declared.Kind.{Kind}
use Rattle.crease_model.specs.declared.Kind.TheVariants.{Mountain, Valley}
use Rattle.cp_text.specs.declared.line.CpLine.{CpLine}
use Rattle.cp_text.specs.LineText.{line_between}

-- (400 k - 200 * 2^n) / 2^n, where the k-th of 2^n strips of the sheet ends: -200 + k * 400 / 2^n
abbrev pub strip_end : ℕ → ℕ → Number
strip_end n k = record { a = pos (400 * k) +ℤ negsuc 199 *ℤ power n; b = pos 0; k = n }

-- the stored number, where there is one
abbrev pub surd_or_zero : Option Surd → Surd
surd_or_zero None = whole_surd (pos 0)
surd_or_zero (Some s) = s

-- mountains at odd places, valleys at even ones
abbrev pub kind_at : ℕ → Kind
kind_at k = if k % 2 == 1 then Mountain else Valley

-- from side to side at this place
abbrev pub line_across : Kind → Surd → CpLine
line_across kind x =
    line_between kind (record { x = x; y = whole_surd (negsuc 199) })
    (record { x = x; y = whole_surd (pos 200) })

-- the crease at the end of the k-th of 2^n strips
abbrev pub sample_line : ℕ → ℕ → CpLine
sample_line n k = line_across (kind_at k) (surd_or_zero (surd_of (strip_end n k)))

-- the creases between 2^n strips
unfoldable pub sample_lines : ℕ → List CpLine
sample_lines n = map (sample_line n) (range_with_len 1 (2 ^ n - 1))

-- the places of the lines are those numbers
abbrev pub AreAtStripEnds : ℕ → List CpLine → Type 0
AreAtStripEnds n lines =
    (i : ℕ) → (line : CpLine) → i < length lines
    → IsSurdOf (get_or lines i line).from.x (strip_end n (i + 1))
