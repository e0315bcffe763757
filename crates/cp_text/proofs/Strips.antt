-- The ends of strips are stored numbers, and the lines of a sample stand there.
use Rattle.std.proofs.Common.{◌≡◌, ℕ, ◌+◌, ◌-◌, ◌^◌, ◌<◌, ◌≤◌, ℤ, pos, List, [], ◌∷◌, ◌++◌, map, length, get_or, ap, ap₂, sym, subst, ◌∙◌, arith}
use Rattle.std.specs.List.{range_with_len}
use Rattle.std.proofs.lemmas.Int.{ints}
use Rattle.std.proofs.lemmas.List.FromFn.{length-map-range_with_len, map-range_with_len_more, get_or-map-range_with_len}
use Rattle.std.proofs.Math.Pow.{pow_mono}
use Rattle.surd_number.specs.declared.Surd.{Surd}
use Rattle.surd_number.specs.Number.{Number, IsWithin}
use Rattle.surd_number.specs.Stored.{IsSurd}
use Rattle.surd_number.specs.Exact.{IsSurdOf, surd_of}
use Rattle.surd_number.specs.ExactLaws.{surd_of-is}
use Rattle.surd_number.specs.CanonicalLaws.{reduction_of}
use Rattle.crease_model.specs.declared.Kind.{Kind}
use Rattle.cp_text.specs.declared.line.CpLine.{CpLine}
use Rattle.cp_text.specs.Sample.{strip_end, surd_or_zero, kind_at, line_across, sample_line, sample_lines, AreAtStripEnds}

-- a triple within the limits stands for a stored number
pub within_is_surd : (x : Number) → IsWithin 36 16 x → IsSurd x
within_is_surd x h =
    let r = reduction_of x in (
      r.form,
      (
        r.least,
        (
          omega (arith, r.a_not_greater, h.0),
          omega (arith, r.b_not_greater, h.1),
          omega (arith, r.k_not_greater, h.2),
        ),
      ),
      r.same,
    )

pub strips_are_few : (n : ℕ) → n ≤ 7 → 2 ^ n ≤ 128
strips_are_few n few = pow_mono few

pub strip_end_is_surd : (n k : ℕ) → n ≤ 7 → 2 ^ n ≤ 128 → k < 2 ^ n → IsSurd (strip_end n k)
strip_end_is_surd n k few strips within =
    within_is_surd (strip_end n k) (omega (arith, ints), omega arith, omega arith)

pub never_refused : (n k : ℕ) (a : ℤ) → n ≤ 7 → k < 2 ^ n → a ≡ (strip_end n k).a
    → ¬ IsSurd (record { a = a; b = pos 0; k = n }) → ⊥
never_refused n k a few within over none =
    let P : ℤ → Type 0 = λ m. IsSurd (record { a = m; b = pos 0; k = n }) in
    none (subst P (sym over) (strip_end_is_surd n k few (strips_are_few n few) within))

-- a number that is one is the value of the stored one
pub surd_there : (x : Number) → IsSurd x → IsSurdOf (surd_or_zero (surd_of x)) x
surd_there x h =
    let s : Surd = record { a = h.0.a; b = h.0.b; k = h.0.k; stored = h.1 } in
    subst (λ found. IsSurdOf (surd_or_zero found) x) (sym (surd_of-is x s h.2)) h.2

pub sample_line_is : (n k : ℕ) (kind : Kind) (x : Surd) (line : CpLine) → kind ≡ kind_at k
    → IsSurdOf x (strip_end n k) → line ≡ line_across kind x → line ≡ sample_line n k
sample_line_is n k kind x line e same is =
    is ∙ ap₂ line_across e (sym (ap surd_or_zero (surd_of-is (strip_end n k) x same)))

-- one line more
pub line_more : (n k : ℕ) (lines more : List CpLine) (line : CpLine) → 1 ≤ k → more ≡ lines ++ line ∷ []
    → line ≡ sample_line n k → lines ≡ map (sample_line n) (range_with_len 1 (k - 1))
    → more ≡ map (sample_line n) (range_with_len 1 (k + 1 - 1))
line_more n k lines more line some pushed is so_far =
    let next : k - 1 + 1 ≡ k + 1 - 1 = omega (arith, some) in
    pushed ∙ ap₂ (λ ls l. ls ++ l ∷ []) so_far is
    ∙ sym (map-range_with_len_more (sample_line n) 1 (k - 1) k (omega (arith, some)))
    ∙ ap (λ m. map (sample_line n) (range_with_len 1 m)) next

pub all_lines : (n k : ℕ) (lines : List CpLine) → k ≡ 2 ^ n
    → lines ≡ map (sample_line n) (range_with_len 1 (k - 1)) → lines ≡ sample_lines n
unfolding sample_lines
all_lines n k lines end is = is ∙ ap (λ m. map (sample_line n) (range_with_len 1 (m - 1))) end

pub line_count : (n : ℕ) (lines : List CpLine) → lines ≡ sample_lines n → length lines ≡ 2 ^ n - 1
unfolding sample_lines
line_count n lines is = ap length is ∙ length-map-range_with_len (sample_line n) 1 (2 ^ n - 1)

pub lines_are_at_strip_ends : (n : ℕ) (lines : List CpLine) → n ≤ 7 → 2 ^ n ≤ 128
    → lines ≡ sample_lines n → AreAtStripEnds n lines
unfolding sample_lines
lines_are_at_strip_ends n lines few strips is i line below =
    let within : i < 2 ^ n - 1 = omega (arith, below, line_count n lines is) in
    let found : get_or lines i line ≡ sample_line n (i + 1) =
    ap (λ ls. get_or ls i line) is
    ∙ get_or-map-range_with_len (sample_line n) 1 (2 ^ n - 1) i (i + 1) line within (omega arith) in
    subst (λ l. IsSurdOf l.from.x (strip_end n (i + 1))) (sym found)
    (surd_there (strip_end n (i + 1)) (strip_end_is_surd n (i + 1) few strips (omega (arith, within))))
