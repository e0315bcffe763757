-- What stands before a place, as a sign is put behind its signs or taken away.
use Rattle.std.specs.Prelude.{◌≡◌, Bool, true, false, ◌||◌, List, [], ◌∷◌, ◌++◌}
use Rattle.std.proofs.Common.{◌≤◌, length, arith, refl, sym, ap}
use Rattle.std.proofs.lemmas.Bool.{true≢false}
use Rattle.sign_rules.specs.declared.sign.Sign.{Sign}
use Rattle.sign_rules.specs.declared.sign.Sign.TheVariants.{Over, Under}
use Rattle.search_cursor.specs.Place.{stands_before, is_passed, begins_with}

abbrev pub is_list : List Sign → List Sign → Bool
is_list [] [] = true
is_list [] (_ ∷ _) = false
is_list (_ ∷ _) [] = false
is_list (Over ∷ s) (Over ∷ r) = is_list s r
is_list (Under ∷ s) (Under ∷ r) = is_list s r
is_list (Over ∷ _) (Under ∷ _) = false
is_list (Under ∷ _) (Over ∷ _) = false

-- no place stands before itself
pub not_itself : (s : List Sign) (x : Bool) → stands_before s x s x ≡ false
not_itself [] true = refl
not_itself [] false = refl
not_itself (Over ∷ s) x = not_itself s x
not_itself (Under ∷ s) x = not_itself s x

-- every list stands before the end, and none before the start
end-after : (list : List Sign) → stands_before list false [] true ≡ true
end-after [] = refl
end-after (_ ∷ _) = refl

end-before : (list : List Sign) → stands_before list false [] false ≡ false
end-before [] = refl
end-before (_ ∷ _) = refl

-- right after all with Over is right before all with Under
pub passed-turn : (list s : List Sign)
    → is_passed list (s ++ Under ∷ []) false ≡ is_passed list (s ++ Over ∷ []) true
passed-turn [] [] = refl
passed-turn (Over ∷ list) [] = sym (end-after list)
passed-turn (Under ∷ list) [] = end-before list
passed-turn [] (_ ∷ s) = refl
passed-turn (Over ∷ list) (Over ∷ s) = passed-turn list s
passed-turn (Under ∷ list) (Under ∷ s) = passed-turn list s
passed-turn (Over ∷ list) (Under ∷ s) = refl
passed-turn (Under ∷ list) (Over ∷ s) = refl

-- right after all with Under is right after all with the signs before it
pub passed-climb : (list s : List Sign) → is_passed list (s ++ Under ∷ []) true ≡ is_passed list s true
passed-climb [] [] = refl
passed-climb (Over ∷ list) [] = refl
passed-climb (Under ∷ list) [] = end-after list
passed-climb [] (_ ∷ s) = refl
passed-climb (Over ∷ list) (Over ∷ s) = passed-climb list s
passed-climb (Under ∷ list) (Under ∷ s) = passed-climb list s
passed-climb (Over ∷ list) (Under ∷ s) = refl
passed-climb (Under ∷ list) (Over ∷ s) = refl

-- on the way down to Over only the list itself is passed
pub passed-down : (list s : List Sign)
    → is_passed list (s ++ Over ∷ []) false ≡ (is_passed list s false || is_list list s)
passed-down [] [] = refl
passed-down (Over ∷ list) [] = end-before list
passed-down (Under ∷ list) [] = refl
passed-down [] (_ ∷ s) = refl
passed-down (Over ∷ list) (Over ∷ s) = passed-down list s
passed-down (Under ∷ list) (Under ∷ s) = passed-down list s
passed-down (Over ∷ list) (Under ∷ s) = refl
passed-down (Under ∷ list) (Over ∷ s) = refl

-- from before to after, what begins with the signs is passed
pub passed-past : (list s : List Sign)
    → is_passed list s true ≡ (is_passed list s false || begins_with s list)
passed-past [] [] = refl
passed-past (_ ∷ list) [] = refl
passed-past [] (_ ∷ s) = refl
passed-past (Over ∷ list) (Over ∷ s) = passed-past list s
passed-past (Under ∷ list) (Under ∷ s) = passed-past list s
passed-past (Over ∷ list) (Under ∷ s) = refl
passed-past (Under ∷ list) (Over ∷ s) = refl

-- what begins with a front has something behind it
pub begins_with-split : (front list : List Sign) → begins_with front list ≡ true
    → (rest : List Sign) × (list ≡ front ++ rest)
begins_with-split [] list e = (list, refl)
begins_with-split (_ ∷ front) [] e = absurd (true≢false (sym e))
begins_with-split (Over ∷ front) (Over ∷ list) e =
    let s = begins_with-split front list e in (s.0, ap (λ l. Over ∷ l) s.1)
begins_with-split (Under ∷ front) (Under ∷ list) e =
    let s = begins_with-split front list e in (s.0, ap (λ l. Under ∷ l) s.1)
begins_with-split (Over ∷ front) (Under ∷ list) e = absurd (true≢false (sym e))
begins_with-split (Under ∷ front) (Over ∷ list) e = absurd (true≢false (sym e))

pub begins_with-append : (front rest : List Sign) → begins_with front (front ++ rest) ≡ true
begins_with-append [] rest = refl
begins_with-append (Over ∷ front) rest = begins_with-append front rest
begins_with-append (Under ∷ front) rest = begins_with-append front rest

pub is_list-same : (list s : List Sign) → is_list list s ≡ true → list ≡ s
is_list-same [] [] e = refl
is_list-same [] (_ ∷ _) e = absurd (true≢false (sym e))
is_list-same (_ ∷ _) [] e = absurd (true≢false (sym e))
is_list-same (Over ∷ list) (Over ∷ s) e = ap (λ l. Over ∷ l) (is_list-same list s e)
is_list-same (Under ∷ list) (Under ∷ s) e = ap (λ l. Under ∷ l) (is_list-same list s e)
is_list-same (Over ∷ list) (Under ∷ s) e = absurd (true≢false (sym e))
is_list-same (Under ∷ list) (Over ∷ s) e = absurd (true≢false (sym e))

pub is_list-refl : (list : List Sign) → is_list list list ≡ true
is_list-refl [] = refl
is_list-refl (Over ∷ list) = is_list-refl list
is_list-refl (Under ∷ list) = is_list-refl list

pub begins_with-longer : (front list rest : List Sign) → begins_with front list ≡ true
    → begins_with front (list ++ rest) ≡ true
begins_with-longer [] list rest e = refl
begins_with-longer (_ ∷ front) [] rest e = absurd (true≢false (sym e))
begins_with-longer (Over ∷ front) (Over ∷ list) rest e = begins_with-longer front list rest e
begins_with-longer (Under ∷ front) (Under ∷ list) rest e = begins_with-longer front list rest e
begins_with-longer (Over ∷ front) (Under ∷ list) rest e = absurd (true≢false (sym e))
begins_with-longer (Under ∷ front) (Over ∷ list) rest e = absurd (true≢false (sym e))

pub begins_with-shorter : (front list rest : List Sign) → begins_with front (list ++ rest) ≡ true
    → length front ≤ length list
    → begins_with front list ≡ true
begins_with-shorter [] list rest e short = refl
begins_with-shorter (_ ∷ front) [] rest e short = absurd (omega (arith, short))
begins_with-shorter (Over ∷ front) (Over ∷ list) rest e short =
    begins_with-shorter front list rest e (omega (arith, short))
begins_with-shorter (Under ∷ front) (Under ∷ list) rest e short =
    begins_with-shorter front list rest e (omega (arith, short))
begins_with-shorter (Over ∷ front) (Under ∷ list) rest e short = absurd (true≢false (sym e))
begins_with-shorter (Under ∷ front) (Over ∷ list) rest e short = absurd (true≢false (sym e))

pub begins_with-same : (front list : List Sign) → begins_with front list ≡ true → length list ≤ length front
    → list ≡ front
begins_with-same [] [] e short = refl
begins_with-same [] (_ ∷ list) e short = absurd (omega (arith, short))
begins_with-same (_ ∷ front) [] e short = absurd (true≢false (sym e))
begins_with-same (Over ∷ front) (Over ∷ list) e short =
    ap (λ l. Over ∷ l) (begins_with-same front list e (omega (arith, short)))
begins_with-same (Under ∷ front) (Under ∷ list) e short =
    ap (λ l. Under ∷ l) (begins_with-same front list e (omega (arith, short)))
begins_with-same (Over ∷ front) (Under ∷ list) e short = absurd (true≢false (sym e))
begins_with-same (Under ∷ front) (Over ∷ list) e short = absurd (true≢false (sym e))
