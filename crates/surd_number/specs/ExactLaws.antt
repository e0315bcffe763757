-- The Surd that has a number's value, as a function of the number, is what an exact result gives.
use Rattle.std.specs.Prelude.{Result, Ok, Err, Some, None}
use Rattle.std.specs.Result.{result_ok}
use Rattle.std.proofs.Common.{◌≡◌, ◌⊎◌, inl, inr, refl, ap, subst}
use Rattle.surd_number.specs.declared.Surd.{Surd}
use Rattle.surd_number.specs.declared.OutOfRange.{OutOfRange}
use Rattle.surd_number.specs.Number.{Number, IsWithin}
use Rattle.surd_number.specs.NumberLaws.{IsSame-refl, IsSame-sym, IsSame-trans}
use Rattle.surd_number.specs.Stored.{IsSurd}
use Rattle.surd_number.specs.CanonicalLaws.{Reduction, reduction_of, within_or_not, stored_from_surd}
use Rattle.surd_number.specs.Value.{number_of}
use Rattle.surd_number.specs.SurdLaws.{surd_is}
use Rattle.surd_number.specs.Exact.{IsSurdOf, IsExactly, surd_within, surd_of}

surd_within-is : (x : Number) (s : Surd) → IsSurdOf s x
    → (r : Reduction x) (d : IsWithin 36 16 r.form ⊎ ¬ IsWithin 36 16 r.form) → surd_within x r d ≡ Some s
unfolding surd_within
surd_within-is x s same r (inl h) =
    ap Some (surd_is (record { a = r.form.a; b = r.form.b; k = r.form.k; stored = (r.least, h) }) s
    (IsSame-trans r.form x (number_of s) r.same (IsSame-sym (number_of s) x same)))
surd_within-is x s same r (inr h) =
    absurd (h (stored_from_surd r.form x r.least r.same (number_of s, s.stored, same)).1)

surd_within-none : (x : Number) → ¬ IsSurd x
    → (r : Reduction x) (d : IsWithin 36 16 r.form ⊎ ¬ IsWithin 36 16 r.form) → surd_within x r d ≡ None
unfolding surd_within
surd_within-none x none r (inl h) = absurd (none (r.form, (r.least, h), r.same))
surd_within-none x none r (inr h) = refl

-- a Surd of the value x is the one
pub surd_of-is : (x : Number) (s : Surd) → IsSurdOf s x → surd_of x ≡ Some s
unfolding surd_of
surd_of-is x s same = surd_within-is x s same (reduction_of x) (within_or_not (reduction_of x).form)

-- there is none exactly where x is no Surd's value
pub surd_of-none : (x : Number) → ¬ IsSurd x → surd_of x ≡ None
unfolding surd_of
surd_of-none x none = surd_within-none x none (reduction_of x) (within_or_not (reduction_of x).form)

pub surd_of-number_of : (s : Surd) → surd_of (number_of s) ≡ Some s
surd_of-number_of s = surd_of-is (number_of s) s (IsSame-refl (number_of s))

-- an exact result is what the function gives
pub surd_of-exactly : (x : Number) (r : Result Surd OutOfRange) → IsExactly r x → surd_of x ≡ result_ok r
surd_of-exactly x (Ok s) h = surd_of-is x s h
surd_of-exactly x (Err e) h = surd_of-none x h

surd_within-value : (x : Number) (s : Surd) (r : Reduction x)
    (d : IsWithin 36 16 r.form ⊎ ¬ IsWithin 36 16 r.form) → surd_within x r d ≡ Some s → IsSurdOf s x
unfolding surd_within
surd_within-value x s r (inl h) e =
    let form : Surd = record { a = r.form.a; b = r.form.b; k = r.form.k; stored = (r.least, h) } in
    let P : Surd → Type 0 = λ t. IsSurdOf t x in
    let same : form ≡ s = cc in
    subst P same r.same
surd_within-value x s r (inr h) e = cc

-- the function gives only Surds of the value x
pub surd_of-value : (x : Number) (s : Surd) → surd_of x ≡ Some s → IsSurdOf s x
unfolding surd_of
surd_of-value x s e = surd_within-value x s (reduction_of x) (within_or_not (reduction_of x).form) e
