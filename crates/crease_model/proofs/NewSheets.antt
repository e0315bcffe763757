-- Corners of which none is bad, and whose turns add to 16, are those of a sheet, from the least one on.
use Rattle.std.proofs.Common.{◌≡◌, ℕ, ◌+◌, ◌≤◌, Bool, true, false, cond, not, ◌&&◌, nat_eq, List, [], ◌∷◌, ◌++◌, map, take, drop, length, get_or, Option, None, Some, is_some, Ok, refl, sym, ap, ap₂, subst, ◌∙◌, arith}
use Rattle.std.specs.Prelude.{nat_le, unwrap_or}
use Rattle.std.specs.Option.{option_or}
use Rattle.std.specs.List.{list_all, sum}
use Rattle.std.specs.Ordering.{is_lt}
use Rattle.std.proofs.lemmas.Bool.{true≢false, and_parts, and_from, le-leb, eqb-true}
use Rattle.std.proofs.lemmas.List.{append-nil, length-append, take-append-drop, drop_more}
use Rattle.std.proofs.lemmas.List.Folds.{list_all-append, list_all-map}
use Rattle.std.proofs.lemmas.List.Sums.{sum_by-append, sum_by-cons, position_or_len_is}
use Rattle.plane_geometry.specs.declared.Point.{Point}
use Rattle.plane_geometry.specs.Position.{position_of, compare_positions}
use Rattle.plane_geometry.specs.Polygon.{Side, sides_of, side_direction, side_number, turn_of, turns_from, turns_of, directions_of}
use Rattle.crease_model.specs.Sheet.{is_left_turn, is_least, is_least_first, is_sheet}
use Rattle.crease_model.specs.NewSheet.{bends_from, last_direction, side_directions, is_bad_turn, turn_between, bend_turn, first_bad, turn_fault, sheet_fault, least_place, from_least, unless_fault, sheet_of}
use Rattle.crease_model.proofs.LeastCorners.{least_is_first}
use Rattle.crease_model.proofs.Rotations.{IsTurnable, turned_sides, turned_directions}

-- ---- no bad corner

abbrev number_or_0 : Option ℕ → ℕ
number_or_0 o = unwrap_or o 0

-- of sums that have t as their first part
regroup : (t : ℕ) (ts us : List ℕ) (b : ℕ) → sum ts ≡ sum us + b → sum (t ∷ ts) ≡ sum (t ∷ us) + b
regroup t ts us b e =
    sum_by-cons (λ x. x) t ts ∙ regrouped (sum ts) (sum us) e
    ∙ ap (λ s. s + b) (sym (sum_by-cons (λ x. x) t us))
  where
    regrouped : (m n : ℕ) → m ≡ n + b → t + m ≡ t + n + b
    regrouped m n f = omega arith

closed : (t : ℕ) (ts us : List ℕ) (b : ℕ) → sum ts ≡ sum us + b → sum (t ∷ us) ≡ 16 → t ≡ b → sum ts ≡ 16
closed t ts us b e f g = whole (sum ts) (sum us) e (sym (sum_by-cons (λ x. x) t us) ∙ f)
  where
    whole : (m n : ℕ) → m ≡ n + b → t + n ≡ 16 → m ≡ 16
    whole m n h k = omega arith

not_bad : (b : Bool) (n : ℕ) (o : Option ℕ) → cond b (Some n) o ≡ None → (b ≡ false) × (o ≡ None)
not_bad true n o e = cc
not_bad false n o e = (refl, e)

opened : (t : ℕ) (ts us : List ℕ) (b : ℕ) → sum ts ≡ sum us + b → sum ts ≡ 16 → t ≡ b → sum (t ∷ us) ≡ 16
opened t ts us b e f g = sum_by-cons (λ x. x) t us ∙ whole (sum ts) (sum us) e f
  where
    whole : (m n : ℕ) → m ≡ n + b → m ≡ 16 → t + n ≡ 16
    whole m n h k = omega arith

all_directed : (n : ℕ) (before : Option ℕ) (ds : List (Option ℕ)) → first_bad n (bends_from before ds) ≡ None
    → list_all is_some ds ≡ true
all_directed n before [] e = refl
all_directed n before (None ∷ ds) e = cc
all_directed n before (Some d ∷ ds) e =
    all_directed (n + 1) (Some d) ds (not_bad (is_bad_turn before (Some d)) n _ e).1

left_turn : (t : ℕ) → not (is_left_turn t) ≡ false → is_left_turn t ≡ true
left_turn t e = go (is_left_turn t) e
  where
    go : (b : Bool) → not b ≡ false → b ≡ true
    go true f = refl
    go false f = absurd (true≢false f)

all_left : (n first b : ℕ) (ds : List (Option ℕ)) → first_bad n (bends_from (Some b) ds) ≡ None
    → is_left_turn (turn_of (number_or_0 (last_direction (Some b) ds)) first) ≡ true
    → list_all is_left_turn (turns_from first (b ∷ map number_or_0 ds)) ≡ true
all_left n first b [] e last = and_from _ true last refl
all_left n first b (None ∷ ds) e last = cc
all_left n first b (Some d ∷ ds) e last =
    let k = not_bad (is_bad_turn (Some b) (Some d)) n _ e in
    and_from _ _ (left_turn (turn_of b d) k.0) (all_left (n + 1) first d ds k.1 last)

all_turns : (first b : ℕ) (ds : List (Option ℕ)) → list_all is_some ds ≡ true
    → sum (turns_from first (b ∷ map number_or_0 ds))
    ≡ sum (map bend_turn (bends_from (Some b) ds)) + turn_of (number_or_0 (last_direction (Some b) ds)) first
all_turns first b [] e = omega arith
all_turns first b (None ∷ ds) e = absurd (true≢false (sym e))
all_turns first b (Some d ∷ ds) e =
    regroup (turn_of b d) (turns_from first (d ∷ map number_or_0 ds)) (map bend_turn (bends_from (Some d) ds))
    (turn_of (number_or_0 (last_direction (Some d) ds)) first) (all_turns first d ds e)

last_directed : (b : ℕ) (ds : List (Option ℕ)) → list_all is_some ds ≡ true
    → last_direction (Some b) ds ≡ Some (number_or_0 (last_direction (Some b) ds))
last_directed b [] e = refl
last_directed b (None ∷ ds) e = absurd (true≢false (sym e))
last_directed b (Some d ∷ ds) e = last_directed d ds e

record AreGood (ds : List (Option ℕ)) : Type 0 where
  directed : list_all is_some ds ≡ true
  left : list_all is_left_turn (turns_of (map number_or_0 ds)) ≡ true
  whole : sum (turns_of (map number_or_0 ds)) ≡ 16

whole_turn : (t : ℕ) → turn_fault t ≡ None → t ≡ 16
whole_turn t e = go (nat_eq t 16) refl e
  where
    go : (b : Bool) → nat_eq t 16 ≡ b → cond {A = Option ℕ} b None (Some 0) ≡ None → t ≡ 16
    go true f g = eqb-true t 16 f
    go false f g = cc

no_fault : (o p : Option ℕ) → option_or o p ≡ None → (o ≡ None) × (p ≡ None)
no_fault None p e = (refl, e)
no_fault (Some n) p e = cc

good : (ds : List (Option ℕ))
    → option_or (first_bad 1 (bends_from (last_direction None ds) ds))
    (turn_fault (sum (map bend_turn (bends_from (last_direction None ds) ds)))) ≡ None → AreGood ds
good [] e = cc
good (None ∷ ds) e = cc
good (Some n ∷ ds) e =
    let k = no_fault (first_bad 1 (bends_from (last_direction (Some n) ds) (Some n ∷ ds))) _ e in
    let directed = all_directed 1 (last_direction (Some n) ds) (Some n ∷ ds) k.0 in
    by_last (number_or_0 (last_direction (Some n) ds)) (last_directed n ds directed) directed k.0
    (whole_turn _ k.1)
  where
    by_last : (l : ℕ) → last_direction (Some n) ds ≡ Some l → list_all is_some ds ≡ true
        → first_bad 1 (bends_from (last_direction (Some n) ds) (Some n ∷ ds)) ≡ None
        → sum (map bend_turn (bends_from (last_direction (Some n) ds) (Some n ∷ ds))) ≡ 16
        → AreGood (Some n ∷ ds)
    by_last l last directed none turns =
        let at : is_bad_turn (Some l) (Some n) ≡ false = ap (λ o. is_bad_turn o (Some n)) (sym last)
        ∙ (not_bad (is_bad_turn (last_direction (Some n) ds) (Some n)) 1 _ none).0 in
        let closing : is_left_turn (turn_of (number_or_0 (last_direction (Some n) ds)) n)
        ≡ true = ap (λ o. is_left_turn (turn_of (number_or_0 o) n)) last ∙ left_turn (turn_of l n) at in
        record {
          directed = directed;
          left = all_left 2 n n ds
              (not_bad (is_bad_turn (last_direction (Some n) ds) (Some n)) 1 _ none).1 closing;
          whole =
              closed (turn_between (last_direction (Some n) ds) (Some n))
              (turns_from n (n ∷ map number_or_0 ds)) (map bend_turn (bends_from (Some n) ds))
              (turn_of (number_or_0 (last_direction (Some n) ds)) n) (all_turns n n ds directed) turns
              (ap (λ o. turn_between o (Some n)) last ∙ sym (ap (λ o. turn_of (number_or_0 o) n) last));
        }

-- ---- from the least corner on

map_twice : (sides : List Side) → map side_number sides ≡ map number_or_0 (map side_direction sides)
map_twice [] = refl
map_twice (side ∷ sides) = ap (λ l. side_number side ∷ l) (map_twice sides)

and_turned : (x y : Bool) → (x && y) ≡ (y && x)
and_turned true true = refl
and_turned true false = refl
and_turned false true = refl
and_turned false false = refl

turned_all : {A : Type 0} (test : A → Bool) → IsTurnable (list_all test)
turned_all test u v =
    list_all-append test u v ∙ and_turned (list_all test u) (list_all test v) ∙ sym (list_all-append test v u)

plus_turned : (m n : ℕ) → m + n ≡ n + m
plus_turned m n = omega arith

turned_sum : IsTurnable sum
turned_sum u v = sum_by-append (λ x. x) u v ∙ plus_turned (sum u) (sum v) ∙ sym (sum_by-append (λ x. x) v u)

turned_length : IsTurnable (length {A = Point})
turned_length u v = length-append u v ∙ plus_turned (length u) (length v) ∙ sym (length-append v u)

first_of : (v u : List Point) (p : Point) (rest : List Point) → v ≡ p ∷ rest → is_least (v ++ u) p ≡ true
    → is_least_first (v ++ u) ≡ true
first_of v u p rest e =
    subst (λ w. is_least (w ++ u) p ≡ true → is_least_first (w ++ u) ≡ true) (sym e) (λ h. h)

least_leads : (corners : List Point) → 1 ≤ length corners → is_least_first (from_least corners) ≡ true
least_leads [] few = absurd (omega arith)
least_leads (p ∷ ps) few =
    let corners = p ∷ ps in
    let k = least_place corners in
    let least = least_is_first p ps in
    let first = get_or corners k p in
    let turned : is_least (drop k corners ++ take k corners) first ≡ is_least corners first =
    turned_all (λ q. not (is_lt (compare_positions (position_of q) (position_of first)))) (drop k corners)
    (take k corners) ∙ ap (λ l. is_least l first) (take-append-drop k corners) in
    first_of (drop k corners) (take k corners) first (drop (k + 1) corners) (drop_more corners k p least.0)
    (turned ∙ least.1)

-- a test of corners that is the same from each corner on
at_least : {X : Type 0} (h : List Point → X) → IsTurnable h → (corners : List Point)
    → h (from_least corners) ≡ h corners
at_least h turn corners =
    let k = least_place corners in
    turn (drop k corners) (take k corners) ∙ ap h (take-append-drop k corners)

pub new_sheet : (corners : List Point) → 3 ≤ length corners → length corners ≤ 16 → sheet_fault corners ≡ None
    → is_sheet (from_least corners) ≡ true
unfolding is_sheet
new_sheet corners least most none =
    let k = good (side_directions corners) none in
    let sides = sides_of corners in
    let same = ap turns_of (map_twice sides) in
    let count = at_least length turned_length corners in
    and_from _ _ (and_from _ _ (ap (nat_le 3) count ∙ le-leb 3 (length corners) least)
    (ap (λ n. nat_le n 16) count ∙ le-leb (length corners) 16 most))
    (and_from _ _ (at_least (λ l. list_all (λ side. is_some (side_direction side)) (sides_of l))
    (turned_sides (list_all (λ side. is_some (side_direction side)))
    (turned_all (λ side. is_some (side_direction side)))) corners
    ∙ sym (list_all-map is_some side_direction sides) ∙ k.directed)
    (and_from _ _ (at_least (λ l. list_all is_left_turn (turns_of (directions_of l)))
    (turned_directions (list_all is_left_turn) (turned_all is_left_turn)) corners
    ∙ ap (list_all is_left_turn) same ∙ k.left)
    (and_from _ _ (ap (λ n. nat_eq n 16)
    (at_least (λ l. sum (turns_of (directions_of l))) (turned_directions sum turned_sum) corners
    ∙ ap sum same ∙ k.whole))
    (least_leads corners (omega arith)))))

-- ---- the corners of a sheet are taken

sheet_is_good : (corners : List Point) → is_sheet corners ≡ true
    → (list_all (λ side. is_some (side_direction side)) (sides_of corners) ≡ true)
    × (list_all is_left_turn (turns_of (directions_of corners)) ≡ true)
    × (sum (turns_of (directions_of corners)) ≡ 16) × (is_least_first corners ≡ true)
unfolding is_sheet
sheet_is_good corners e =
    let a = (and_parts (nat_le 3 (length corners) && nat_le (length corners) 16) _ e).1 in
    let b = and_parts (list_all (λ side. is_some (side_direction side)) (sides_of corners)) _ a in
    let c = and_parts (list_all is_left_turn (turns_of (directions_of corners))) _ b.1 in
    let d = and_parts (nat_eq (sum (turns_of (directions_of corners))) 16) (is_least_first corners) c.1 in
    (b.0, c.0, eqb-true (sum (turns_of (directions_of corners))) 16 d.0, d.1)

none_bad : (n first b : ℕ) (ds : List (Option ℕ)) → list_all is_some ds ≡ true
    → list_all is_left_turn (turns_from first (b ∷ map number_or_0 ds)) ≡ true
    → (first_bad n (bends_from (Some b) ds) ≡ None)
    × (is_left_turn (turn_of (number_or_0 (last_direction (Some b) ds)) first) ≡ true)
none_bad n first b [] directed left = (refl, (and_parts (is_left_turn (turn_of b first)) true left).0)
none_bad n first b (None ∷ ds) directed left = absurd (true≢false (sym directed))
none_bad n first b (Some d ∷ ds) directed left =
    let k = and_parts (is_left_turn (turn_of b d)) _ left in
    let rest = none_bad (n + 1) first d ds directed k.1 in
    (ap (λ t. cond (not t) (Some n) (first_bad (n + 1) (bends_from (Some d) ds))) k.0 ∙ rest.0, rest.1)

apart : (n : ℕ) → n ≡ 0 → n ≡ 16 → ⊥
apart n e f = omega arith

free : (ds : List (Option ℕ)) → AreGood ds
    → option_or (first_bad 1 (bends_from (last_direction None ds) ds))
    (turn_fault (sum (map bend_turn (bends_from (last_direction None ds) ds)))) ≡ None
free [] g = absurd (apart 0 refl g.whole)
free (None ∷ ds) g = absurd (true≢false (sym g.directed))
free (Some n ∷ ds) g =
    by_last (number_or_0 (last_direction (Some n) ds)) (last_directed n ds g.directed)
    (none_bad 2 n n ds g.directed g.left)
  where
    by_last : (l : ℕ) → last_direction (Some n) ds ≡ Some l
        → (first_bad 2 (bends_from (Some n) ds) ≡ None)
        × (is_left_turn (turn_of (number_or_0 (last_direction (Some n) ds)) n) ≡ true)
        → option_or (first_bad 1 (bends_from (last_direction (Some n) ds) (Some n ∷ ds)))
        (turn_fault (sum (map bend_turn (bends_from (last_direction (Some n) ds) (Some n ∷ ds))))) ≡ None
    by_last l last none =
        let left : is_left_turn (turn_of l n)
        ≡ true = ap (λ o. is_left_turn (turn_of (number_or_0 o) n)) (sym last) ∙ none.1 in
        let not_bad : first_bad 1 (bends_from (last_direction (Some n) ds) (Some n ∷ ds)) ≡ None =
        ap (λ o. cond (is_bad_turn o (Some n)) (Some 1) (first_bad 2 (bends_from (Some n) ds))) last
        ∙ ap (λ t. cond (not t) (Some 1) (first_bad 2 (bends_from (Some n) ds))) left ∙ none.0 in
        let turns : sum (map bend_turn (bends_from (last_direction (Some n) ds) (Some n ∷ ds))) ≡ 16 =
        opened (turn_between (last_direction (Some n) ds) (Some n)) (turns_from n (n ∷ map number_or_0 ds))
        (map bend_turn (bends_from (Some n) ds)) (turn_of (number_or_0 (last_direction (Some n) ds)) n)
        (all_turns n n ds g.directed) g.whole
        (ap (λ o. turn_between o (Some n)) last ∙ sym (ap (λ o. turn_of (number_or_0 o) n) last)) in
        ap₂ option_or not_bad (ap turn_fault turns)

-- from any corner of a sheet on
pub taken : (u v : List Point) → is_sheet (v ++ u) ≡ true → sheet_fault (u ++ v) ≡ None
taken u v sheet =
    let k = sheet_is_good (v ++ u) sheet in
    let sides = sides_of (u ++ v) in
    let same = ap turns_of (sym (map_twice sides)) in
    free (side_directions (u ++ v)) (record {
      directed = list_all-map is_some side_direction sides
          ∙ turned_sides (list_all (λ side. is_some (side_direction side)))
          (turned_all (λ side. is_some (side_direction side))) u v ∙ k.0;
      left = ap (list_all is_left_turn) same
          ∙ turned_directions (list_all is_left_turn) (turned_all is_left_turn) u v ∙ k.1;
      whole = ap sum same ∙ turned_directions sum turned_sum u v ∙ k.2;
    })

from_first : (corners : List Point) → is_least_first corners ≡ true → from_least corners ≡ corners
from_first [] e = absurd (true≢false (sym e))
from_first (p ∷ ps) e =
    let at : least_place (p ∷ ps)
    ≡ 0 = position_or_len_is (is_least (p ∷ ps)) (p ∷ ps) 0 p (omega arith)
    (λ k before. absurd (omega arith)) (λ _. e) in
    ap (λ k. drop k (p ∷ ps) ++ take k (p ∷ ps)) at ∙ append-nil (p ∷ ps)

pub sheet_is_new : (corners : List Point) → is_sheet corners ≡ true → sheet_of corners ≡ Ok corners
unfolding sheet_of
sheet_is_new corners sheet =
    let fault : sheet_fault corners ≡ None = taken [] corners (ap is_sheet (append-nil corners) ∙ sheet) in
    ap₂ unless_fault fault (from_first corners (sheet_is_good corners sheet).3)

pub new_is_sheet : (corners sheet : List Point) → 3 ≤ length corners → length corners ≤ 16
    → sheet_of corners ≡ Ok sheet → is_sheet sheet ≡ true
unfolding sheet_of
new_is_sheet corners sheet least most made = go (sheet_fault corners) refl made
  where
    go : (o : Option ℕ) → sheet_fault corners ≡ o → unless_fault o (from_least corners) ≡ Ok sheet
        → is_sheet sheet ≡ true
    go None none e = let at : from_least corners ≡ sheet = cc in ap is_sheet (sym at)
        ∙ new_sheet corners least most none
    go (Some n) fault e = cc
