-- The sides of a sheet: their directions differ, and no corner is right of a side.
use Rattle.std.proofs.Common.{◌≡◌, ℕ, ◌+◌, ◌-◌, ◌%◌, ◌<◌, ◌≤◌, true, false, ◌&&◌, nat_eq, ◌⊎◌, inl, inr, List, [], ◌∷◌, ◌++◌, map, length, refl, sym, ap, subst, ◌∙◌, arith}
use Rattle.std.specs.Prelude.{nat_le}
use Rattle.std.specs.List.{list_all, sum}
use Rattle.std.proofs.lemmas.Bool.{cases_lt, cases_eq, and_parts, and_from, leb-true, le-leb, false≢true, true≢false, eqb-true}
use Rattle.std.proofs.lemmas.List.Sums.{sum_by-cons}
use Rattle.surd_number.specs.declared.Sgn.{Sgn}
use Rattle.surd_number.specs.declared.Sgn.TheVariants.{Neg, Zero, Pos}
use Rattle.surd_number.specs.Number.{opposite_sign}
use Rattle.plane_geometry.specs.declared.Point.{Point}
use Rattle.plane_geometry.specs.Position.{Position, position_of}
use Rattle.plane_geometry.specs.Direction.{side_of, is_negative, opposite_number, turn_sign}
use Rattle.plane_geometry.specs.SideLaws.{may_sum, side_chain}
use Rattle.plane_geometry.specs.StretchLaws.{side_self}
use Rattle.plane_geometry.specs.CommonPointLaws.{turn_turned}
use Rattle.plane_geometry.specs.DirectionLaws.{along_parts}
use Rattle.plane_geometry.specs.Polygon.{Side, sides_from, sides_of, side_number, has_direction, have_directions, turn_of, turns_from, turns_of, directions_of, whole_turn, is_right_of}
use Rattle.crease_model.specs.Sheet.{is_left_turn, is_least_first, is_sheet}
use Rattle.crease_model.specs.PartLaws.{direction_is_along, left_turn}
use Rattle.line_split.specs.MemberLaws.{Member}
use Rattle.face_builder.proofs.Apart.{moves, moves_back}
use Rattle.plane_geometry.specs.Ends.{GoesAlong}
use Rattle.face_builder.proofs.Chains.{member_left, member_right, member_either}
use Rattle.face_builder.proofs.Sides.{all_sides}

-- ---- rising angles

-- the sides in order, each in a greater angle than the one before, from low on and below high
abbrev pub Lift : ℕ → ℕ → List Side → Type 0
Lift low high [] = low ≤ high
Lift low high (s ∷ ss) = (a : ℕ) × (low ≤ a) × (side_number s ≡ a % 16) × Lift (a + 1) high ss

lift_low : (l m h : ℕ) (ss : List Side) → l ≤ m → Lift m h ss → Lift l h ss
lift_low l m h [] less f = omega (arith, less, f)
lift_low l m h (s ∷ ss) less f = (f.0, omega (arith, less, f.1), f.2, f.3)

lift_shift : (l h : ℕ) (ss : List Side) → Lift l h ss → Lift (l + 16) (h + 16) ss
lift_shift l h [] f = omega (arith, f)
lift_shift l h (s ∷ ss) f = (
  f.0 + 16,
  omega (arith, f.1),
  omega (arith, f.2),
  subst (λ k. Lift k (h + 16) ss) (let e : f.0 + 1 + 16 ≡ f.0 + 16 + 1 = omega arith in e)
      (lift_shift (f.0 + 1) h ss f.3),
)

lift_bound : (l h : ℕ) (ss : List Side) → Lift l h ss → l ≤ h
lift_bound l h [] f = f
lift_bound l h (s ∷ ss) f = omega (arith, f.1, lift_bound (f.0 + 1) h ss f.3)

lift_append : (l m h : ℕ) (xs ys : List Side) → Lift l m xs → Lift m h ys → Lift l h (xs ++ ys)
lift_append l m h [] ys f g = lift_low l m h ys f g
lift_append l m h (x ∷ xs) ys f g = (f.0, f.1, f.2, lift_append (f.0 + 1) m h xs ys f.3 g)

-- a side of the list, with those before it and behind it
record IsSplit (l h : ℕ) (bs : List Side) (s : Side) (cs : List Side) : Type 0 where
  angle : ℕ
  before : Lift l angle bs
  is_angle : side_number s ≡ angle % 16
  behind : Lift (angle + 1) h cs

lift_split : (l h : ℕ) (bs : List Side) (s : Side) (cs : List Side) → Lift l h (bs ++ s ∷ cs)
    → IsSplit l h bs s cs
lift_split l h [] s cs f = record { angle = f.0; before = f.1; is_angle = f.2; behind = f.3 }
lift_split l h (b ∷ bs) s cs f =
    let r = lift_split (f.0 + 1) h bs s cs f.3 in
    record { angle = r.angle; before = (f.0, f.1, f.2, r.before); is_angle = r.is_angle; behind = r.behind }

lift_member : (l h : ℕ) (ss : List Side) (s : Side) → Lift l h ss → Member ss s
    → (a : ℕ) × (l ≤ a) × (a < h) × (side_number s ≡ a % 16)
lift_member l h [] s f m = absurd m
lift_member l h (t ∷ ts) s f (inl at) =
    (f.0, f.1, omega (arith, lift_bound (f.0 + 1) h ts f.3), sym (ap side_number at) ∙ f.2)
lift_member l h (t ∷ ts) s f (inr m) =
    let r = lift_member (f.0 + 1) h ts s f.3 m in (r.0, omega (arith, r.1, f.1), r.2, r.3)

pub lift_apart : (l h : ℕ) (s : Side) (ss : List Side) (t : Side) → h ≤ l + 16 → Lift l h (s ∷ ss)
    → Member ss t
    → side_number s ≡ side_number t → ⊥
lift_apart l h s ss t near f m e =
    let r = lift_member (f.0 + 1) h ss t f.3 m in
    absurd (omega (arith, near, f.1, f.2, r.1, r.2, r.3, e))

lift_same : (l h : ℕ) (ss : List Side) (s t : Side) → h ≤ l + 16 → Lift l h ss → Member ss s → Member ss t
    → side_number s ≡ side_number t → s ≡ t
lift_same l h [] s t near f m k e = absurd m
lift_same l h (x ∷ xs) s t near f (inl at) (inl too) e = sym at ∙ too
lift_same l h (x ∷ xs) s t near f (inl at) (inr k) e =
    absurd (lift_apart l h x xs t near f k (ap side_number at ∙ e))
lift_same l h (x ∷ xs) s t near f (inr m) (inl too) e =
    absurd (lift_apart l h x xs s near f m (ap side_number too ∙ sym e))
lift_same l h (x ∷ xs) s t near f (inr m) (inr k) e =
    lift_same (f.0 + 1) h xs s t (omega (arith, near, f.1)) f.3 m k e

-- ---- of the turns of a sheet

few_number : (s : Side) → has_direction s ≡ true → side_number s < 16
few_number s e = (direction_is_along (position_of s.start) (position_of s.end) e).1

lift_from : (first a : ℕ) (s : Side) (ss : List Side) → side_number s ≡ a % 16
    → list_all has_direction (s ∷ ss) ≡ true
    → list_all is_left_turn (turns_from first (map side_number (s ∷ ss))) ≡ true
    → Lift a (a + sum (turns_from first (map side_number (s ∷ ss)))) (s ∷ ss)
lift_from first a s [] at has turns =
    let t = turn_of (side_number s) first in
    let left = (and_parts (is_left_turn t) true turns).0 in
    let some : 1 ≤ t = leb-true 1 t (and_parts _ _ left).0 in
    let whole : sum (t ∷ []) ≡ t + sum [] = sum_by-cons (λ k. k) t [] in
    (a, omega arith, at, omega (arith, some, whole))
lift_from first a s (r ∷ rs) at has turns =
    let t = turn_of (side_number s) (side_number r) in
    let ts = turns_from first (map side_number (r ∷ rs)) in
    let parts = and_parts (is_left_turn t) (list_all is_left_turn ts) turns in
    let some : 1 ≤ t = leb-true 1 t (and_parts _ _ parts.0).0 in
    let rest_has = (and_parts (has_direction s) (list_all has_direction (r ∷ rs)) has).1 in
    let few : side_number r < 16 = few_number r (and_parts (has_direction r) _ rest_has).0 in
    let next : side_number r ≡ (a + t) % 16 = omega (arith, at, few) in
    let whole : sum (t ∷ ts) ≡ t + sum ts = sum_by-cons (λ k. k) t ts in
    let high : a + t + sum ts ≡ a + sum (t ∷ ts) = omega (arith, whole) in (
      a,
      omega arith,
      at,
      lift_low (a + 1) (a + t) (a + sum (t ∷ ts)) (r ∷ rs) (omega (arith, some))
          (subst (λ k. Lift (a + t) k (r ∷ rs)) high (lift_from first (a + t) r rs next rest_has parts.1)),
    )

-- ---- joined sides

abbrev pub Joined : Point → List Side → Point → Type 0
Joined q [] r = q ≡ r
Joined q (s ∷ ss) r = (s.start ≡ q) × Joined s.end ss r

joined_from : (f p : Point) (ps : List Point) → Joined p (sides_from f (p ∷ ps)) f
joined_from f p [] = (refl, refl)
joined_from f p (q ∷ ps) = (refl, joined_from f q ps)

joined_append : (q m r : Point) (xs ys : List Side) → Joined q xs m → Joined m ys r → Joined q (xs ++ ys) r
joined_append q m r [] ys f g = subst (λ p. Joined p ys r) (sym f) g
joined_append q m r (x ∷ xs) ys f g = (f.0, joined_append x.end m r xs ys f.1 g)

joined_split : (q r : Point) (bs : List Side) (s : Side) (cs : List Side) → Joined q (bs ++ s ∷ cs) r
    → Joined q bs s.start × Joined s.end cs r
joined_split q r [] s cs f = (sym f.0, f.1)
joined_split q r (b ∷ bs) s cs f = let k = joined_split b.end r bs s cs f.1 in ((f.0, k.0), k.1)

-- ---- not right of a side

pos_neither : {F : Type 0} → (Pos ≡ Zero) ⊎ (Pos ≡ Neg) → F
pos_neither (inl e) = absurd (pos_zero e)
  where
    pos_zero : Pos ≡ Zero → ⊥
    pos_zero e = cc
pos_neither (inr e) = absurd (pos_neg e)
  where
    pos_neg : Pos ≡ Neg → ⊥
    pos_neg e = cc

neg_neither : {F : Type 0} → (Neg ≡ Zero) ⊎ (Neg ≡ Pos) → F
neg_neither (inl e) = absurd (neg_zero e)
  where
    neg_zero : Neg ≡ Zero → ⊥
    neg_zero e = cc
neg_neither (inr e) = absurd (neg_pos e)
  where
    neg_pos : Neg ≡ Pos → ⊥
    neg_pos e = cc

not_neg_before : (x t r : Sgn) → may_sum x t r ≡ true → is_negative r ≡ false → (t ≡ Zero) ⊎ (t ≡ Neg)
    → is_negative x ≡ false
not_neg_before Neg t Neg e f g = absurd (true≢false f)
not_neg_before Neg Neg Zero e f g = absurd (false≢true e)
not_neg_before Neg Neg Pos e f g = absurd (false≢true e)
not_neg_before Neg Zero Zero e f g = absurd (false≢true e)
not_neg_before Neg Zero Pos e f g = absurd (false≢true e)
not_neg_before Neg Pos Zero e f g = pos_neither g
not_neg_before Neg Pos Pos e f g = pos_neither g
not_neg_before Zero t r e f g = refl
not_neg_before Pos t r e f g = refl

not_neg_after : (x t r : Sgn) → may_sum x t r ≡ true → is_negative x ≡ false → (t ≡ Zero) ⊎ (t ≡ Pos)
    → is_negative r ≡ false
not_neg_after x t Zero e f g = refl
not_neg_after x t Pos e f g = refl
not_neg_after Neg t Neg e f g = absurd (true≢false f)
not_neg_after Zero Neg Neg e f g = neg_neither g
not_neg_after Zero Zero Neg e f g = absurd (false≢true e)
not_neg_after Zero Pos Neg e f g = absurd (false≢true e)
not_neg_after Pos Neg Neg e f g = neg_neither g
not_neg_after Pos Zero Neg e f g = absurd (false≢true e)
not_neg_after Pos Pos Neg e f g = absurd (false≢true e)

-- how a direction turns from another that is d steps before it
pub turn_few : (n m d : ℕ) → n < 16 → m < 16 → m ≡ (n + d) % 16 → 0 < d → d < 8 → turn_sign n m ≡ Pos
turn_few n m d few_n few_m at some most =
    let turn : turn_of n m ≡ d = omega (arith, at, most, few_n) in
    left_turn n m few_n few_m
    (and_from _ _ (le-leb 1 (turn_of n m) (omega (arith, turn, some)))
    (le-leb (turn_of n m) 7 (omega (arith, turn, most))))

pub turn_many : (n m d : ℕ) → n < 16 → m < 16 → m ≡ (n + d) % 16 → 8 < d → d < 16 → turn_sign n m ≡ Neg
turn_many n m d few_n few_m at some most =
    turn_turned m n
    ∙ ap opposite_sign
    (turn_few m n (16 - d) few_m few_n (omega (arith, at, some, most, few_n)) (omega (arith, most))
    (omega (arith, some)))

module _ (side : Side) (few : side_number side < 16) (a : ℕ) (is_angle : side_number side ≡ a % 16) where
  abbrev n : ℕ
  n = side_number side

  abbrev u : Position
  u = position_of side.start

  abbrev NotRight : Point → Type 0
  NotRight p = is_negative (side_of u n (position_of p)) ≡ false

  abbrev Runs : Side → Type 0
  Runs s = GoesAlong (side_number s) s.start s.end

  abbrev StepOf : Side → Sgn
  StepOf s = side_of (position_of s.start) n (position_of s.end)

  step : (s : Side) → Runs s → side_number s < 16 → (b : ℕ) → side_number s ≡ b % 16 → a < b → b < a + 16
      → ((b < a + 8) × (StepOf s ≡ Pos))
      ⊎ (((b ≡ a + 8) × (StepOf s ≡ Zero)) ⊎ ((a + 8 < b) × (StepOf s ≡ Neg)))
  step s runs small b at low high =
      let m = side_number s in
      let d : m ≡ (n + (b - a)) % 16 = omega (arith, at, is_angle, low) in
      let moved : StepOf s ≡ turn_sign n m = moves n m (position_of s.start) (position_of s.end) runs in
      elim (cases_lt (b - a) 8) [
        | inl less ↦
            inl (omega (arith, less), moved ∙ turn_few n m (b - a) few small d (omega (arith, low)) less)
        | inr more ↦
            (elim (cases_eq (b - a) 8) [
              | inl eight ↦
                  (let opposite : m ≡ opposite_number n = omega (arith, d, eight) in
                  inr (inl (
                    omega (arith, eight, low),
                    moves_back n m (position_of s.start) (position_of s.end) few opposite runs,
                  )))
              | inr other ↦
                  inr (inr (
                    omega (arith, more, other),
                    moved
                        ∙ turn_many n m (b - a) few small d (omega (arith, more, other))
                        (omega (arith, high, low)),
                  ))
            ])
      ]

  abbrev AllRun : List Side → Type 0
  AllRun ss = (s : Side) → Member ss s → Runs s × (side_number s < 16)

  back : (q r : Point) (ss : List Side) (low : ℕ) → Lift low (a + 16) ss → a + 8 ≤ low → Joined q ss r
      → NotRight r → AllRun ss
      → NotRight q × ((t : Side) → Member ss t → NotRight t.start)
  back q r [] low f far joined right all = (subst (λ p. NotRight p) (sym joined) right, λ t m. absurd m)
  back q r (s ∷ ss) low f far joined right all =
      let rest = back s.end r ss (f.0 + 1) f.3 (omega (arith, far, f.1)) joined.1 right
      (λ t m. all t (inr m)) in
      let runs = all s (inl refl) in
      let start : NotRight s.start =
      not_neg_before _ _ _ (side_chain u n (position_of s.start) (position_of s.end)) rest.0
      (elim (step s runs.0 runs.1 f.0 f.2 (omega (arith, far, f.1))
      (omega (arith, lift_bound (f.0 + 1) (a + 16) ss f.3))) [
        | inl near ↦ absurd (omega (arith, near.0, far, f.1))
        | inr away ↦ (elim away [ inl at ↦ inl at.1 | inr past ↦ inr past.1 ])
      ]) in (
        subst (λ p. NotRight p) joined.0 start,
        λ t m. elim m [ inl at ↦ subst (λ k. NotRight k.start) at start | inr k ↦ rest.1 t k ],
      )

  forth : (q r : Point) (ss : List Side) (low : ℕ) → Lift low (a + 16) ss → a < low → Joined q ss r
      → NotRight q → NotRight r
      → AllRun ss → (t : Side) → Member ss t → NotRight t.start
  forth q r [] low f far joined left right all t m = absurd m
  forth q r (s ∷ ss) low f far joined left right all t (inl at) =
      subst (λ k. NotRight k.start) at (subst (λ p. NotRight p) (sym joined.0) left)
  forth q r (s ∷ ss) low f far joined left right all t (inr m) =
      let runs = all s (inl refl) in
      let start : NotRight s.start = subst (λ p. NotRight p) (sym joined.0) left in
      let go : (StepOf s ≡ Zero) ⊎ (StepOf s ≡ Pos) → NotRight t.start =
      λ sign. forth s.end r ss (f.0 + 1) f.3 (omega (arith, far, f.1)) joined.1
      (not_neg_after _ _ _ (side_chain u n (position_of s.start) (position_of s.end)) start sign) right
      (λ k o. all k (inr o)) t m in
      elim (step s runs.0 runs.1 f.0 f.2 (omega (arith, far, f.1))
      (omega (arith, lift_bound (f.0 + 1) (a + 16) ss f.3))) [
        | inl near ↦ go (inr near.1)
        | inr away ↦
            (elim away [
              | inl at ↦ go (inl at.1)
              | inr past ↦
                  (back s.end r ss (f.0 + 1) f.3 (omega (arith, past.0)) joined.1 right
                  (λ k o. all k (inr o))).1 t m
            ])
      ]

-- ---- corners of a sheet

member_split : {X : Type 0} (xs : List X) (x : X) → Member xs x → (bs : List X) × (cs : List X)
    × (xs ≡ bs ++ x ∷ cs)
member_split [] x m = absurd m
member_split (y ∷ ys) x (inl at) = ([], ys, ap (λ z. z ∷ ys) at)
member_split (y ∷ ys) x (inr m) = let r = member_split ys x m in (y ∷ r.0, r.1, ap (λ zs. y ∷ zs) r.2)

-- what is used of a list of sides
pub record AreSheetSides (sides : List Side) : Type 0 where
  pub low : ℕ
  pub corner : Point
  pub lifted : Lift low (low + 16) sides
  pub joined : Joined corner sides corner
  pub directed : list_all has_direction sides ≡ true

pub record SheetFacts (corners : List Point) : Type 0 where
  pub directed : list_all has_direction (sides_of corners) ≡ true
  pub turns : list_all is_left_turn (turns_of (directions_of corners)) ≡ true
  pub whole : sum (turns_of (directions_of corners)) ≡ 16

pub sheet_facts : (corners : List Point) → is_sheet corners ≡ true → SheetFacts corners
unfolding is_sheet
sheet_facts corners e =
    let a = (and_parts (nat_le 3 (length corners) && nat_le (length corners) 16) _ e).1 in
    let b = and_parts (have_directions corners) _ a in
    let c = and_parts (list_all is_left_turn (turns_of (directions_of corners))) _ b.1 in
    let d = and_parts (nat_eq (whole_turn corners) 16) (is_least_first corners) c.1 in
    record { directed = b.0; turns = c.0; whole = eqb-true (whole_turn corners) 16 d.0 }

lifted_of : (s : Side) (ss : List Side) → list_all has_direction (s ∷ ss) ≡ true
    → list_all is_left_turn (turns_of (map side_number (s ∷ ss))) ≡ true
    → sum (turns_of (map side_number (s ∷ ss))) ≡ 16
    → Lift (side_number s) (side_number s + 16) (s ∷ ss)
lifted_of s ss has turns whole =
    let n = side_number s in
    let few : n < 16 = few_number s (and_parts (has_direction s) _ has).0 in
    let at : n ≡ n % 16 = omega (arith, few) in
    subst (λ k. Lift n (n + k) (s ∷ ss)) whole (lift_from n n s ss at has turns)

pub sheet_sides : (corners : List Point) → is_sheet corners ≡ true → AreSheetSides (sides_of corners)
sheet_sides [] e = absurd (not_sixteen _ refl (sheet_facts [] e).whole)
  where
    not_sixteen : (n : ℕ) → n ≡ 0 → n ≡ 16 → ⊥
    not_sixteen n none whole = absurd (omega (arith, none, whole))
sheet_sides (p ∷ []) e =
    let f = sheet_facts (p ∷ []) e in
    record {
      low = side_number (record { start = p; end = p });
      corner = p;
      lifted = lifted_of (record { start = p; end = p }) [] f.directed f.turns f.whole;
      joined = joined_from p p [];
      directed = f.directed;
    }
sheet_sides (p ∷ q ∷ ps) e =
    let f = sheet_facts (p ∷ q ∷ ps) e in
    record {
      low = side_number (record { start = p; end = q });
      corner = p;
      lifted = lifted_of (record { start = p; end = q }) (sides_from p (q ∷ ps)) f.directed f.turns f.whole;
      joined = joined_from p p (q ∷ ps);
      directed = f.directed;
    }

zero_not_neg : (s : Sgn) → s ≡ Zero → is_negative s ≡ false
zero_not_neg s e = ap is_negative e

module _ (sides : List Side) (sheet : AreSheetSides sides) where
  pub side_runs : (s : Side) → Member sides s → GoesAlong (side_number s) s.start s.end × (side_number s < 16)
  side_runs s m =
      direction_is_along (position_of s.start) (position_of s.end) (all_sides sides s sheet.directed m)

  -- no side begins right of another
  pub start_not_right : (s t : Side) → Member sides s → Member sides t → is_right_of (position_of t.start) s
      ≡ false
  start_not_right s t m k =
      let split = member_split sides s m in
      let bs = split.0 in
      let cs = split.1 in
      let r = lift_split sheet.low (sheet.low + 16) bs s cs
      (subst (Lift sheet.low (sheet.low + 16)) split.2 sheet.lifted) in
      let j = joined_split sheet.corner sheet.corner bs s cs
      (subst (λ ss. Joined sheet.corner ss sheet.corner) split.2 sheet.joined) in
      let runs = side_runs s m in
      let rising : Lift (r.angle + 1) (r.angle + 16) (cs ++ bs) =
      lift_append (r.angle + 1) (sheet.low + 16) (r.angle + 16) cs bs r.behind
      (lift_shift sheet.low r.angle bs r.before) in
      let around : Joined s.end (cs ++ bs) s.start = joined_append s.end sheet.corner s.start cs bs j.1 j.0 in
      let all : (x : Side) → Member (cs ++ bs) x → GoesAlong (side_number x) x.start x.end × (side_number x < 16) =
      λ x o.
      side_runs x
      (subst (λ ss. Member ss x) (sym split.2)
      (elim (member_either cs bs x o) [
        | inl c ↦ member_right bs (s ∷ cs) x (inr c)
        | inr b ↦ member_left bs (s ∷ cs) x b
      ])) in
      let end_ok : is_negative (side_of (position_of s.start) (side_number s) (position_of s.end)) ≡ false =
      zero_not_neg _ (along_parts (side_number s) (position_of s.start) (position_of s.end) runs.0).0 in
      let start_ok : is_negative (side_of (position_of s.start) (side_number s) (position_of s.start))
      ≡ false =
      zero_not_neg _ (side_self (position_of s.start) (side_number s)) in
      let reach : (x : Side) → Member (cs ++ bs) x → is_right_of (position_of x.start) s ≡ false =
      forth s runs.1 r.angle r.is_angle s.end s.start (cs ++ bs) (r.angle + 1) rising
      (omega arith) around end_ok start_ok all in
      elim (member_either bs (s ∷ cs) t (subst (λ ss. Member ss t) split.2 k)) [
        | inl b ↦ reach t (member_right cs bs t b)
        | inr h ↦
            (elim h [
              | inl at ↦ subst (λ x. is_right_of (position_of x.start) s ≡ false) at start_ok
              | inr c ↦ reach t (member_left cs bs t c)
            ])
      ]

  -- sides of one direction are one
  pub one_direction : (s t : Side) → Member sides s → Member sides t → side_number s ≡ side_number t → s ≡ t
  one_direction s t m k e = lift_same sheet.low (sheet.low + 16) sides s t (omega arith) sheet.lifted m k e
