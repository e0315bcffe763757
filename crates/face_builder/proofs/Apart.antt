-- No face has a half-edge and its reverse: from the one on, a convex face stays left of it.
use Rattle.std.proofs.Common.{◌≡◌, ℕ, ◌+◌, ◌%◌, ◌<◌, ◌≤◌, true, ◌⊎◌, inl, inr, List, [], ◌∷◌, refl, sym, ap, subst, ◌∙◌, arith}
use Rattle.std.specs.List.{list_all, sum}
use Rattle.std.proofs.lemmas.Bool.{cases_lt, cases_eq, false≢true, leb-true, and_from, and_parts, le-leb}
use Rattle.std.proofs.lemmas.List.Sums.{sum_by-cons}
use Rattle.surd_number.specs.declared.Sgn.{Sgn}
use Rattle.surd_number.specs.declared.Sgn.TheVariants.{Neg, Zero, Pos}
use Rattle.surd_number.specs.Number.{opposite_sign, times_sign}
use Rattle.plane_geometry.specs.declared.Point.{Point}
use Rattle.plane_geometry.specs.DirView.{dir_number}
use Rattle.plane_geometry.specs.Position.{Position, position_of, vector_of}
use Rattle.plane_geometry.specs.Direction.{direction_vector, side_of, is_along, opposite_number, turn_sign}
use Rattle.plane_geometry.specs.SideLaws.{may_sum, side_chain, side_from, side_turned, square_sign, along_cross}
use Rattle.plane_geometry.specs.StretchLaws.{side_self}
use Rattle.plane_geometry.specs.DirectionLaws.{along_parts, along_back}
use Rattle.plane_geometry.specs.Polygon.{turn_of, turns_from, is_convex_turn}
use Rattle.crease_model.specs.PartLaws.{left_turn}
use Rattle.line_split.specs.MemberLaws.{Member}
use Rattle.face_builder.specs.declared.half_edges.HalfEdge.{HalfEdge}
use Rattle.face_builder.specs.Faces.{directions_round}
use Rattle.face_builder.proofs.Border.{Runs}
use Rattle.face_builder.proofs.Nexts.{GoesOn}
use Rattle.face_builder.proofs.Rounds.{Follows}

pos_not_zero : Pos ≡ Zero → ⊥
pos_not_zero e = cc

-- ---- how a half-edge moves against a line

-- along direction m, as far as the line turns
pub moves : (n m : ℕ) (u v : Position) → is_along m u v ≡ true → side_of u n v ≡ turn_sign n m
moves n m u v along =
    let k = along_parts m u v along in
    along_cross (direction_vector m) (vector_of u v) (square_sign m) k.0 (direction_vector n)
    ∙ ap (λ (t : Sgn). times_sign t (turn_sign n m)) k.1

pub moves_back : (n m : ℕ) (u v : Position) → n < 16 → m ≡ opposite_number n → is_along m u v ≡ true
    → side_of u n v ≡ Zero
moves_back n m u v few opposite along =
    let back : is_along n v u ≡ true = sym (along_back n v u few)
    ∙ subst (λ k. is_along k u v ≡ true) opposite along in
    side_turned v n u ∙ ap opposite_sign (along_parts n v u back).0

pub pos_stays : (s t r : Sgn) → may_sum s t r ≡ true → s ≡ Pos → (t ≡ Zero) ⊎ (t ≡ Pos) → r ≡ Pos
pos_stays Neg t r e f g = cc
pos_stays Zero t r e f g = cc
pos_stays Pos Neg r e f (inl g) = cc
pos_stays Pos Neg r e f (inr g) = cc
pos_stays Pos Zero Neg e f g = absurd (false≢true e)
pos_stays Pos Zero Zero e f g = absurd (false≢true e)
pos_stays Pos Zero Pos e f g = refl
pos_stays Pos Pos Neg e f g = absurd (false≢true e)
pos_stays Pos Pos Zero e f g = absurd (false≢true e)
pos_stays Pos Pos Pos e f g = refl

-- ---- once around

-- where the boundary is to the line in direction n through u, once it has turned by c: on it, left of it, or
-- c is past 8
abbrev pub Stand : ℕ → Position → Position → ℕ → Type 0
Stand n u v c = ((c ≡ 0) × (side_of u n v ≡ Zero)) ⊎ (((0 < c) × (c ≤ 8) × (side_of u n v ≡ Pos)) ⊎ (8 < c))

module _ (n : ℕ) (few : n < 16) (u : Position) where
  few_turn : (m t : ℕ) → m < 16 → m ≡ (n + t) % 16 → 0 < t → t ≤ 7 → turn_sign n m ≡ Pos
  few_turn m t small at some most =
      let turn : turn_of n m ≡ t = omega (arith, at, most, few) in
      left_turn n m few small
      (and_from _ _ (le-leb 1 (turn_of n m) (omega (arith, turn, some)))
      (le-leb (turn_of n m) 7 (omega (arith, turn, most))))

  -- a step from v to w in a direction that has turned by c in all, 1 to 8
  step_sign : (c m : ℕ) (v w : Position) → 0 < c → c ≤ 8 → m < 16 → m ≡ (n + c) % 16 → is_along m v w ≡ true
      → (side_of v n w ≡ Zero) ⊎ (side_of v n w ≡ Pos)
  step_sign c m v w some most small at along =
      elim (cases_eq c 8) [
        | inl eight ↦
            (let opposite : m ≡ opposite_number n = omega (arith, at, eight) in
            inl (moves_back n m v w few opposite along))
        | inr other ↦
            (let turned : turn_sign n m ≡ Pos = few_turn m c small at some (omega (arith, most, other)) in
            inr (moves n m v w along ∙ turned))
      ]

  after_step : (c t m : ℕ) (v w : Position) → t ≤ 7 → m < 16 → m ≡ (n + (c + t)) % 16 → is_along m v w ≡ true
      → Stand n u v c → Stand n u w (c + t)
  after_step c t m v w few_t small at along (inl (none, zero)) =
      elim (cases_eq t 0) [
        | inl still ↦
            (let same : m ≡ n = omega (arith, at, none, still, few, small) in
            inl (
              omega (arith, none, still),
              side_from u n v w zero
                  ∙ (along_parts n v w (subst (λ k. is_along k v w ≡ true) same along)).0,
            ))
        | inr turns ↦
            (let turned : turn_sign n m ≡ Pos =
            few_turn m t small (omega (arith, at, none)) (omega (arith, turns)) few_t in
            inr (inl (
              omega (arith, turns),
              omega (arith, few_t, none),
              side_from u n v w zero
                  ∙ moves n m v w along ∙ turned,
            )))
      ]
  after_step c t m v w few_t small at along (inr (inl (some, most, pos))) =
      elim (cases_lt 8 (c + t)) [
        | inl over ↦ inr (inr over)
        | inr within ↦
            inr (inl (
              omega (arith, some),
              within,
              pos_stays _ _ _ (side_chain u n v w) pos
                  (step_sign (c + t) m v w (omega (arith, some)) within small at along),
            ))
      ]
  after_step c t m v w few_t small at along (inr (inr over)) = inr (inr (omega (arith, over)))

-- ---- along a face

few_dir : (h : HalfEdge) → dir_number h.dir < 16
few_dir h = omega (arith, h.dir.in_range)

-- y goes the way of x back
pub record IsBack (x y : HalfEdge) : Type 0 where
  pub start : y.start ≡ x.end
  pub end : y.end ≡ x.start
  pub dir : dir_number y.dir ≡ opposite_number (dir_number x.dir)

pub back_back : (x y : HalfEdge) → IsBack x y → IsBack y x
back_back x y b =
    record {
      start = sym b.end;
      end = sym b.start;
      dir = omega (arith, b.dir, few_dir x, few_dir y);
    }

module _ (hs : List HalfEdge) (goes : (h : HalfEdge) → Member hs h → (g : HalfEdge) × GoesOn hs h g)
    (first : HalfEdge) where
  -- the turns from here to the end of the face
  abbrev TurnsOf : HalfEdge → List HalfEdge → List ℕ
  TurnsOf h gs = turns_from (dir_number first.dir) (directions_round (h ∷ gs))

  module _ (x y : HalfEdge) (back : IsBack x y) where
    abbrev n : ℕ
    n = dir_number x.dir

    abbrev u : Position
    u = position_of x.end

    -- y does not come
    not_here : (h g : HalfEdge) (c t : ℕ) → g.start ≡ h.end → y ≡ g → t ≤ 7 → c + t ≤ 16
        → dir_number g.dir ≡ (n + (c + t)) % 16 → Stand n u (position_of h.end) c → ⊥
    not_here h g c t joined here few_t most at stand =
        let turned : dir_number g.dir ≡ opposite_number n = sym (ap (λ (k : HalfEdge). dir_number k.dir) here)
        ∙ back.dir in
        let eight : c + t ≡ 8 = omega (arith, turned, at, most, few_dir x) in
        let there : position_of h.end ≡ u =
        ap position_of (sym joined ∙ sym (ap (λ (k : HalfEdge). k.start) here) ∙ back.start) in
        elim stand [
          | inl on ↦ absurd (omega (arith, on.0, eight, few_t))
          | inr off ↦
              (elim off [
                | inl left ↦ pos_not_zero (sym left.2 ∙ ap (side_of u n) there ∙ side_self u n)
                | inr over ↦ absurd (omega (arith, over, eight))
              ])
        ]

    never : (h : HalfEdge) (gs : List HalfEdge) (c : ℕ) → Follows hs goes first h gs
        → ((g : HalfEdge) → Member gs g → Runs g)
        → list_all is_convex_turn (TurnsOf h gs) ≡ true → c + sum (TurnsOf h gs) ≤ 16 → dir_number h.dir
        ≡ (n + c) % 16
        → Stand n u (position_of h.end) c → Member gs y → ⊥
    never h [] c f runs turns most at stand m = absurd m
    never h (g ∷ gs) c f runs turns most at stand m =
        let t = turn_of (dir_number h.dir) (dir_number g.dir) in
        let parts = and_parts (is_convex_turn t) (list_all is_convex_turn (TurnsOf g gs)) turns in
        let few_t : t ≤ 7 = leb-true t 7 parts.0 in
        let whole : c + (t + sum (TurnsOf g gs)) ≤ 16 =
        subst (λ k. c + k ≤ 16) (sum_by-cons (λ k. k) t (TurnsOf g gs)) most in
        let next : dir_number g.dir ≡ (n + (c + t)) % 16 = omega (arith, at, few_dir g, few_dir h) in
        elim m [
          | inl here ↦ not_here h g c t f.0.joined (sym here) few_t (omega (arith, whole)) next stand
          | inr later ↦
              never g gs (c + t) f.1 (λ k o. runs k (inr o)) parts.1 (omega (arith, whole)) next
              (after_step n (few_dir x) u c t (dir_number g.dir) (position_of h.end) (position_of g.end) few_t
              (few_dir g) next
              (subst (λ (p : Point). is_along (dir_number g.dir) (position_of p) (position_of g.end)
              ≡ true) f.0.joined (runs g (inl refl))) stand)
              later
        ]

    from_here : (gs : List HalfEdge) → Follows hs goes first x gs → ((g : HalfEdge) → Member gs g → Runs g)
        → list_all is_convex_turn (TurnsOf x gs) ≡ true → sum (TurnsOf x gs) ≤ 16 → Member gs y → ⊥
    from_here gs f runs turns most m =
        never x gs 0 f runs turns (omega (arith, most)) (omega (arith, few_dir x))
        (inl (refl, side_self u n)) m

  pub apart : (x y : HalfEdge) → IsBack x y → (h : HalfEdge) (gs : List HalfEdge) → Follows hs goes first h gs
      → ((g : HalfEdge) → Member gs g → Runs g) → list_all is_convex_turn (TurnsOf h gs) ≡ true
      → sum (TurnsOf h gs) ≤ 16
      → Member (h ∷ gs) x → Member (h ∷ gs) y → ⊥
  apart x y back h gs f runs turns most (inl e) (inl g) =
      let same : dir_number y.dir ≡ dir_number x.dir = ap (λ (k : HalfEdge). dir_number k.dir) (sym g ∙ e) in
      absurd (omega (arith, same, back.dir, few_dir x))
  apart x y back h gs f runs turns most (inl e) (inr m) =
      from_here x y back gs (subst (λ (k : HalfEdge). Follows hs goes first k gs) e f) runs
      (subst (λ (k : HalfEdge). list_all is_convex_turn (TurnsOf k gs) ≡ true) e turns)
      (subst (λ (k : HalfEdge). sum (TurnsOf k gs) ≤ 16) e most) m
  apart x y back h gs f runs turns most (inr m) (inl e) =
      from_here y x (back_back x y back) gs (subst (λ (k : HalfEdge). Follows hs goes first k gs) e f) runs
      (subst (λ (k : HalfEdge). list_all is_convex_turn (TurnsOf k gs) ≡ true) e turns)
      (subst (λ (k : HalfEdge). sum (TurnsOf k gs) ≤ 16) e most) m
  apart x y back h [] f runs turns most (inr m) (inr k) = absurd m
  apart x y back h (g ∷ gs) f runs turns most (inr m) (inr k) =
      let t = turn_of (dir_number h.dir) (dir_number g.dir) in
      let parts = and_parts (is_convex_turn t) (list_all is_convex_turn (TurnsOf g gs)) turns in
      let whole : t + sum (TurnsOf g gs) ≤ 16 =
      subst (λ j. j ≤ 16) (sum_by-cons (λ j. j) t (TurnsOf g gs)) most in
      apart x y back g gs f.1 (λ j o. runs j (inr o)) parts.1 (omega (arith, whole)) m k
