-- Creases that are sorted by their lines: those on one line stand together, and only these have a part in common.
use Rattle.std.proofs.Common.{◌≡◌, ℕ, ◌+◌, ◌-◌, ◌<◌, ◌≤◌, inl, inr, Bool, true, false, List, [], ◌∷◌, length, take, drop, refl, sym, ap, subst, ◌∙◌, get_or, length-drop, arith}
use denote.Param.Members.{Mut}
use denote.Ref.{Bor}
use Rattle.std.specs.Prelude.{◌↔◌, nat_le}
use Rattle.std.specs.List.{AllZip, Contains}
use Rattle.std.specs.List.Sorted.{IsSorted, IsSortedBy, IsPermutation, IsNonDecreasingBy, IsPartitionedBy, IsPartitionPoint}
use Rattle.std.specs.Fn.{Called, ComputesKey}
use Rattle.std.specs.Ordering.{is_lt, is_le, ordering_index}
use Rattle.std.specs.declared.cmp.Ordering.{Ordering}
use Rattle.std.specs.declared.cmp.Ordering.TheVariants.{Less, Equal, Greater}
use Rattle.std.proofs.lemmas.Fn.{always_returns_same}
use Rattle.std.proofs.lemmas.Bool.{cases_lt, true≢false}
use Rattle.std.proofs.lemmas.List.{length-take-le, get_or-take, get_or-drop}
use Rattle.std.proofs.lemmas.List.Sorted.{searchable_from_sorted, IsNonDecreasingBy-drop, IsPartitionedBy-leb, Contains-permutation, IsPermutation-sym}
use Rattle.plane_geometry.specs.declared.Line.{Line}
use Rattle.plane_geometry.specs.Order.{compare_lines}
use Rattle.plane_geometry.specs.OrderLaws.{compare_lines_total, compare_lines-equal}
use Rattle.plane_geometry.specs.LineLaws.{line_is}
use Rattle.plane_geometry.specs.Stretch.{ShareTwoPoints}
use Rattle.plane_geometry.specs.SegmentView.{stretch_of}
use Rattle.isometry_map.specs.declared.folded.CreaseImage.{CreaseImage}
use Rattle.sign_rules.specs.declared.sign.Sign.{Sign}
use Rattle.layer_rules.specs.declared.crease_lines.LinedCrease.{LinedCrease}
use Rattle.layer_rules.specs.CreaseLines.{IsLineThrough, IsWithLine, compare_by_line, AreByLine}
use Rattle.layer_rules.proofs.OneLine.{one_line}
use Rattle.layer_rules.proofs.Ordered.{here, there, either, none}

-- ---- creases with their lines, sorted by these

line_found : (cs : List CreaseImage) (xs : List LinedCrease) → AllZip IsWithLine cs xs → (c : CreaseImage)
    → Contains cs c → (x : LinedCrease) × Contains xs x × IsWithLine c x
line_found [] xs h c m = absurd (none c m)
line_found (d ∷ cs) [] h c m = absurd h
line_found (d ∷ cs) (x ∷ xs) h c m =
    elim (either d cs c m) [
      | inl e ↦ (x, here x xs, subst (λ (t : CreaseImage). IsWithLine t x) e h.0)
      | inr rest ↦
          (let found = line_found cs xs h.1 c rest in (found.0, there x xs found.0 found.1, found.2))
    ]

crease_found : (cs : List CreaseImage) (xs : List LinedCrease) → AllZip IsWithLine cs xs → (x : LinedCrease)
    → Contains xs x → Contains cs x.crease
crease_found cs [] h x m = absurd (none x m)
crease_found [] (y ∷ xs) h x m = absurd h
crease_found (d ∷ cs) (y ∷ xs) h x m =
    elim (either y xs x m) [
      | inl e ↦
          subst (λ (t : CreaseImage). Contains (d ∷ cs) t)
          (sym h.0.crease ∙ ap (λ (t : LinedCrease). t.crease) e) (here d cs)
      | inr rest ↦ there d cs x.crease (crease_found cs xs h.1 x rest)
    ]

pub by_line_is : {F : Type 0} {g : Mut F (Bor LinedCrease × Unit {0}) Line} {f : F} (cs : List CreaseImage)
    (xs ys : List LinedCrease) → AllZip IsWithLine cs xs → IsPermutation xs ys
    → ((key : LinedCrease → Line) → ComputesKey g key f → IsSortedBy (λ x y. is_lt (compare_lines (key x) (key y))) ys)
    → ((a : Bor LinedCrease × Unit {0}) (r : Line) (f' : F) → Called g f a r f' → (r ≡ a.0.now.line) × (f' ≡ f))
    → AreByLine cs ys
by_line_is {g = g} {f = f} cs xs ys h moved sorted called = record {
  all = λ c m.
      let found = line_found cs xs h c m in (found.0, Contains-permutation xs ys found.0 moved found.1, found.2);
  only = λ x m. crease_found cs xs h x (Contains-permutation ys xs x (IsPermutation-sym xs ys moved) m);
  order = sorted (λ x. x.line) (always_returns_same g (λ a r. r ≡ a.0.now.line) f called);
}

-- ---- in front of a partition point, and behind it

abbrev pub IsPointBy : {X : Type 0} → (X → Bool) → List X → ℕ → Type 0
IsPointBy p xs i = IsPartitionPoint (λ y. p y ≡ true) (λ y. p y ≡ false) xs i

module _ {X : Type 0} (p : X → Bool) (xs : List X) (i : ℕ) (point : IsPointBy p xs i) (within : i ≤ length xs)
    (x : X) where
  in_front : Contains (take i xs) x ↔ (Contains xs x × (p x ≡ true))
  in_front = (to, from)
    where
      long : length (take i xs) ≡ i
      long = length-take-le i xs within

      to : Contains (take i xs) x → Contains xs x × (p x ≡ true)
      to m =
          let below : m.0 < i = omega (arith, long, m.1) in
          let same = sym (get_or-take i xs m.0 x below) ∙ m.2 in (
            (m.0, omega (arith, below, within), same),
            subst (λ (y : X). p y ≡ true) same (point.0 m.0 x (omega arith) below),
          )

      from : Contains xs x × (p x ≡ true) → Contains (take i xs) x
      from h =
          elim (cases_lt h.0.0 i) [
            | inl less ↦ (h.0.0, omega (arith, long, less), get_or-take i xs h.0.0 x less ∙ h.0.2)
            | inr more ↦
                absurd
                (true≢false
                (sym h.1 ∙ subst (λ (y : X). p y ≡ false) h.0.2 (point.1 h.0.0 x more h.0.1)))
          ]

  in_back : Contains (drop i xs) x ↔ (Contains xs x × (p x ≡ false))
  in_back = (to, from)
    where
      long : length (drop i xs) ≡ length xs - i
      long = length-drop i xs

      to : Contains (drop i xs) x → Contains xs x × (p x ≡ false)
      to m =
          let below : i + m.0 < length xs = omega (arith, long, m.1) in
          let same = sym (get_or-drop i xs m.0 x) ∙ m.2 in (
            (i + m.0, below, same),
            subst (λ (y : X). p y ≡ false) same (point.1 (i + m.0) x (omega arith) below),
          )

      from : Contains xs x × (p x ≡ false) → Contains (drop i xs) x
      from h =
          elim (cases_lt h.0.0 i) [
            | inl less ↦
                absurd
                (true≢false
                (sym (subst (λ (y : X). p y ≡ true) h.0.2 (point.0 h.0.0 x (omega arith) less)) ∙ h.1))
            | inr more ↦
                (let k = h.0.0 - i in
                let place : i + k ≡ h.0.0 = omega (arith, more) in (
                  k,
                  omega (arith, long, more, h.0.1),
                  get_or-drop i xs k x ∙ ap (λ (j : ℕ). get_or xs j x) place ∙ h.0.2,
                ))
          ]

-- ---- those on one line

lt_is : (o : Ordering) → nat_le (ordering_index o) 0 ≡ is_lt o
lt_is Less = refl
lt_is Equal = refl
lt_is Greater = refl

le_is : (o : Ordering) → nat_le (ordering_index o) 1 ≡ is_le o
le_is Less = refl
le_is Equal = refl
le_is Greater = refl

tied : (o : Ordering) → is_lt o ≡ false → is_le o ≡ true → o ≡ Equal
tied Less e f = absurd (true≢false e)
tied Equal e f = refl
tied Greater e f = absurd (true≢false (sym f))

module _ (lined : List LinedCrease) (l : Line) where
  abbrev pub is_before : LinedCrease → Bool
  is_before x = is_lt (compare_lines x.line l)

  abbrev pub is_upto : LinedCrease → Bool
  is_upto x = is_le (compare_lines x.line l)

  abbrev Rise : List LinedCrease → Type 0
  Rise xs = IsNonDecreasingBy (λ x. ordering_index (compare_lines x.line l)) xs

  rise : IsSorted compare_by_line lined → Rise lined
  rise = searchable_from_sorted compare_lines_total (λ (x : LinedCrease). x.line) lined l

  pub before_first : IsSorted compare_by_line lined → IsPartitionedBy is_before lined
  before_first sorted =
      subst (λ (p : LinedCrease → Bool). IsPartitionedBy p lined) (λ i x. lt_is (compare_lines x.line l) i)
      (IsPartitionedBy-leb (λ (x : LinedCrease). ordering_index (compare_lines x.line l)) lined 0 (rise sorted))

  pub upto_first : (start : ℕ) → IsSorted compare_by_line lined → IsPartitionedBy is_upto (drop start lined)
  upto_first start sorted =
      let rank : LinedCrease → ℕ = λ x. ordering_index (compare_lines x.line l) in
      subst (λ (p : LinedCrease → Bool). IsPartitionedBy p (drop start lined)) (λ i x. le_is (compare_lines x.line l) i)
      (IsPartitionedBy-leb rank (drop start lined) 1 (IsNonDecreasingBy-drop rank start lined (rise sorted)))

  pub on_line_is : (start end : ℕ) → IsPointBy is_before lined start → IsPointBy is_upto (drop start lined) end
      → start ≤ length lined → end ≤ length (drop start lined) → (x : LinedCrease)
      → Contains (take end (drop start lined)) x ↔ (Contains lined x × (x.line ≡ l))
  on_line_is start end first last some within x = (to, from)
    where
      front : Contains (take end (drop start lined)) x ↔ (Contains (drop start lined) x × (is_upto x ≡ true))
      front = in_front is_upto (drop start lined) end last within x

      back : Contains (drop start lined) x ↔ (Contains lined x × (is_before x ≡ false))
      back = in_back is_before lined start first some x

      to : Contains (take end (drop start lined)) x → Contains lined x × (x.line ≡ l)
      to m =
          let upto = front.0 m in
          let rest = back.0 upto.0 in (
            rest.0,
            (line_is x.line l).1
                ((compare_lines-equal x.line l).0 (tied (compare_lines x.line l) rest.1 upto.1)),
          )

      from : Contains lined x × (x.line ≡ l) → Contains (take end (drop start lined)) x
      from h =
          let equal = (compare_lines-equal x.line l).1 ((line_is x.line l).0 h.1) in
          front.1 (back.1 (h.0, ap is_lt equal), ap is_le equal)

-- ---- what needs a part in common

module _ (creases : List CreaseImage) (lined near : List LinedCrease) (by : AreByLine creases lined)
    (c : CreaseImage) (l : Line) (line : IsLineThrough c.image l)
    (on_line : (x : LinedCrease) → Contains near x ↔ (Contains lined x × (x.line ≡ l)))
    (Breaks : CreaseImage → List Sign → Type 0)
    (common : (d : CreaseImage) (signs : List Sign) → Breaks d signs
    → ShareTwoPoints (stretch_of c.image) (stretch_of d.image)) where
  pub near_breaks : (signs : List Sign)
      → ((x : LinedCrease) × Contains near x × Breaks x.crease signs)
      ↔ ((d : CreaseImage) × Contains creases d × Breaks d signs)
  near_breaks signs = (
    λ h. (h.0.crease, by.only h.0 ((on_line h.0).0 h.1).0, h.2),
    λ h.
        let found = by.all h.0 h.1 in
        let x = found.0 in
        let same : x.line ≡ l =
        sym (one_line c.image h.0.image l x.line line found.2.line (common h.0 signs h.2)) in (
          x,
          (on_line x).1 (found.1, same),
          subst (λ (d : CreaseImage). Breaks d signs) (sym found.2.crease) h.2,
        ),
  )
