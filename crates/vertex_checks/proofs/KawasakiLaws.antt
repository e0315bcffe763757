-- The reflections in the creases give the identity exactly where the number of creases is even and every other sector adds
-- to 180 degrees.
use Rattle.std.proofs.Common.{◌≡◌, ◌↔◌, ℕ, ◌+◌, ◌-◌, ◌%◌, ◌<◌, ◌≤◌, cond, leb, ◌⊎◌, inl, inr, List, [], ◌∷◌, length, refl, sym, ap, subst, ◌∙◌, arith}
use Rattle.std.specs.List.Sorted.{IsStrictlySortedBy}
use Rattle.std.proofs.lemmas.Bool.{cond-true, cond-false, le-leb, lt-leb, cases_eq}
use Rattle.isometry_map.specs.Linear.{reflection, composed}
use Rattle.line_split.specs.SortedLaws.{before_members, sorted_rest}
use Rattle.vertex_checks.specs.declared.fans.Ray.{Ray}
use Rattle.vertex_checks.specs.Fan.{ray_number, compare_rays}
use Rattle.vertex_checks.specs.Sectors.{sector, reflected_from, ComesRound, every_other, IsStraight}
use Rattle.vertex_checks.proofs.FanLaws.{before_ray}

-- ---- two reflections

-- a reflection after a rotation, and one after a reflection
after_rotation : (m done : ℕ) → done < 8 → composed (reflection m) done ≡ 8 + (16 + m % 8 - done) % 8
after_rotation m done few =
    cond-true (leb 8 (8 + m % 8))
    (cond (leb 8 done) ((8 + m % 8 + 8 - done) % 8) (8 + (8 + m % 8 + 8 - done) % 8))
    (cond (leb 8 done) (8 + (8 + m % 8 + done) % 8) ((8 + m % 8 + done) % 8))
    (le-leb 8 (8 + m % 8) (omega arith))
    ∙ cond-false (leb 8 done) ((8 + m % 8 + 8 - done) % 8) (8 + (8 + m % 8 + 8 - done) % 8)
    (lt-leb 8 done few)
    ∙ omega arith

after_reflection : (n done : ℕ) → 8 ≤ done → composed (reflection n) done ≡ (16 + n % 8 - done) % 8
after_reflection n done many =
    cond-true (leb 8 (8 + n % 8))
    (cond (leb 8 done) ((8 + n % 8 + 8 - done) % 8) (8 + (8 + n % 8 + 8 - done) % 8))
    (cond (leb 8 done) (8 + (8 + n % 8 + done) % 8) ((8 + n % 8 + done) % 8))
    (le-leb 8 (8 + n % 8) (omega arith))
    ∙ cond-true (leb 8 done) ((8 + n % 8 + 8 - done) % 8) (8 + (8 + n % 8 + 8 - done) % 8)
    (le-leb 8 done many)
    ∙ omega arith

-- two reflections are a rotation by the difference of their directions
differences : (m n done : ℕ) → m ≤ 15 → n ≤ 15 → done < 8
    → (16 + n % 8 - (8 + (16 + m % 8 - done) % 8)) % 8 ≡ ((n + 16 - m) % 16 + done) % 8
differences m n done m_fits n_fits few = omega arith

two_reflections : (m n done : ℕ) → m ≤ 15 → n ≤ 15 → done < 8
    → composed (reflection n) (composed (reflection m) done) ≡ ((n + 16 - m) % 16 + done) % 8
two_reflections m n done m_fits n_fits few =
    ap (composed (reflection n)) (after_rotation m done few)
    ∙ after_reflection n (8 + (16 + m % 8 - done) % 8) (omega arith)
    ∙ differences m n done m_fits n_fits few

-- ---- an even number of reflections is the rotation by every other sector, and an odd number is a reflection

even_reflections : (fan : List Ray) (done : ℕ) → done < 8 → length fan % 2 ≡ 0
    → reflected_from fan done ≡ (done + every_other fan) % 8
even_reflections [] done few even = omega arith
even_reflections (q ∷ []) done few even = absurd (omega arith)
even_reflections (q ∷ r ∷ rs) done few even =
    let turned = ((ray_number r + 16 - ray_number q) % 16 + done) % 8 in
    ap (reflected_from rs)
    (two_reflections (ray_number q) (ray_number r) done q.dir.in_range r.dir.in_range few)
    ∙ even_reflections rs turned (omega arith) (omega arith)
    ∙ omega arith

odd_reflections : (fan : List Ray) (done : ℕ) → done < 8 → length fan % 2 ≡ 1 → 8 ≤ reflected_from fan done
odd_reflections [] done few odd = absurd (omega arith)
odd_reflections (q ∷ []) done few odd = omega (arith, after_rotation (ray_number q) done few)
odd_reflections (q ∷ r ∷ rs) done few odd =
    let turned = ((ray_number r + 16 - ray_number q) % 16 + done) % 8 in
    subst (λ (n : ℕ). 8 ≤ reflected_from rs n)
    (sym (two_reflections (ray_number q) (ray_number r) done q.dir.in_range r.dir.in_range few))
    (odd_reflections rs turned (omega arith) (omega arith))

-- ---- every other sector of rays that ascend is less than a full turn

sector_is : (q r : Ray) → ray_number q < ray_number r → sector q r ≡ ray_number r - ray_number q
sector_is q r less = let fits = r.dir.in_range in omega (arith, less, fits)

first_before : (q r : Ray) (rs : List Ray) → IsStrictlySortedBy compare_rays (q ∷ r ∷ rs)
    → ray_number q < ray_number r
first_before q r rs up = before_ray q r (before_members compare_rays q (r ∷ rs) r up (inl refl))

within_turn : (q : Ray) (rs : List Ray) → IsStrictlySortedBy compare_rays (q ∷ rs)
    → every_other (q ∷ rs) + ray_number q ≤ 15
within_turn q [] up = let fits = q.dir.in_range in omega (arith, fits)
within_turn q (r ∷ []) up =
    let less = first_before q r [] up in
    let fits = r.dir.in_range in
    omega (arith, less, fits, sector_is q r less)
within_turn q (r ∷ t ∷ ts) up =
    let less = first_before q r (t ∷ ts) up in
    let rest = sorted_rest compare_rays q (r ∷ t ∷ ts) up in
    let next = first_before r t ts rest in
    omega (arith, less, next, sector_is q r less, within_turn t ts (sorted_rest compare_rays r (t ∷ ts) rest))

some_turn : (q r : Ray) (rs : List Ray) → IsStrictlySortedBy compare_rays (q ∷ r ∷ rs)
    → 0 < every_other (q ∷ r ∷ rs)
some_turn q r rs up = let less = first_before q r rs up in omega (arith, less, sector_is q r less)

half_turn : (fan : List Ray) → IsStrictlySortedBy compare_rays fan → 0 < length fan → length fan % 2 ≡ 0
    → every_other fan % 8 ≡ 0 → every_other fan ≡ 8
half_turn [] up some even e = absurd (omega arith)
half_turn (q ∷ []) up some even e = absurd (omega arith)
half_turn (q ∷ r ∷ rs) up some even e = omega (arith, e, within_turn q (r ∷ rs) up, some_turn q r rs up)

-- ---- Kawasaki's theorem

straight_comes_round : (fan : List Ray) → IsStraight fan → ComesRound fan
straight_comes_round fan h =
    let rounds = even_reflections fan 0 (omega arith) h.even in omega (arith, rounds, h.half)

round_is_straight : (fan : List Ray) → IsStrictlySortedBy compare_rays fan → 0 < length fan → ComesRound fan
    → IsStraight fan
round_is_straight fan up some back = go (cases_eq (length fan % 2) 0)
  where
    go : (length fan % 2 ≡ 0) ⊎ (length fan % 2 ≡ 0 → ⊥) → IsStraight fan
    go (inl even) =
        let rounds = even_reflections fan 0 (omega arith) even in
        record { even = even; half = half_turn fan up some even (omega (arith, rounds, back)) }
    go (inr odd) = absurd
        (let many = odd_reflections fan 0 (omega arith) (omega (arith, odd)) in omega (arith, many, back))

pub round_exactly : (fan : List Ray) → IsStrictlySortedBy compare_rays fan → 0 < length fan
    → ComesRound fan ↔ IsStraight fan
round_exactly fan up some = (round_is_straight fan up some, straight_comes_round fan)
