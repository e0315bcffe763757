-- Where there is no refusal, the corners of each face are a convex polygon.
use Rattle.std.proofs.Common.{◌≡◌, ℕ, ◌<◌, Bool, true, false, cond, not, inl, inr, List, [], ◌∷◌, map, nat_eq, find, ◌≤◌, Option, None, Some, refl, sym, ap, ap₂, subst, ◌∙◌, arith}
use Rattle.std.specs.Prelude.{is_some, unwrap_or, nat_lt}
use Rattle.std.specs.List.{list_all, sum}
use Rattle.std.specs.Option.{option_or, option_map}
use Rattle.std.proofs.lemmas.Bool.{and_from, cond_both, eqb-true, false≢true, ltb-false}
use Rattle.plane_geometry.specs.declared.Point.{Point}
use Rattle.plane_geometry.specs.DirView.{dir_number}
use Rattle.plane_geometry.specs.Position.{position_of}
use Rattle.plane_geometry.specs.Polygon.{Side, sides_from, sides_of, side_direction, side_number, has_direction, turn_of, turns_from, turns_of, directions_of, is_convex_turn, is_convex}
use Rattle.crease_model.specs.PartLaws.{sheet_turns}
use Rattle.crease_model.specs.Sheet.{is_sheet, is_least_first}
use Rattle.crease_model.specs.View.{PatternView}
use Rattle.line_split.specs.MemberLaws.{Member}
use Rattle.face_builder.specs.declared.half_edges.HalfEdge.{HalfEdge}
use Rattle.face_builder.specs.Faces.{corners_of, turns_off, is_reflex, directions_round, is_twisted, first_of, bad_half_edge, convex_refusal, faces_among}
use Rattle.face_builder.specs.Faces.{FaceRefusal, not_convex, too_many, count_refusal}
use Rattle.face_builder.specs.HalfEdge.{half_edges_of}
use Rattle.face_builder.proofs.Apart.{IsBack, apart}
use Rattle.face_builder.proofs.Border.{Runs, direction_along}
use Rattle.face_builder.proofs.LeastFirst.{least_first}
use Rattle.face_builder.proofs.Nexts.{GoesOn, goes_on, next_is, member_of_place}
use Rattle.face_builder.proofs.Rounds.{Follows, IsRound, rounds}
use Rattle.face_builder.proofs.Sides.{runs, leads}

from_not : (b : Bool) → not b ≡ false → b ≡ true
from_not true e = refl
from_not false e = absurd (false≢true (sym e))

-- the side that a half-edge is
abbrev pub side_of_half : HalfEdge → Side
side_of_half h = record { start = h.start; end = h.end }

few_dir : (h : HalfEdge) → dir_number h.dir < 16
few_dir h = omega (arith, h.dir.in_range)

side_direction_is : (h : HalfEdge) → Runs h → side_direction (side_of_half h) ≡ Some (dir_number h.dir)
side_direction_is h runs =
    direction_along (dir_number h.dir) (position_of h.start) (position_of h.end) (few_dir h) runs

pub side_number_is : (h : HalfEdge) → Runs h → side_number (side_of_half h) ≡ dir_number h.dir
side_number_is h runs = ap (λ o. unwrap_or o 0) (side_direction_is h runs)

sides_directed : (face : List HalfEdge) → ((h : HalfEdge) → Member face h → Runs h)
    → list_all has_direction (map side_of_half face) ≡ true
sides_directed [] runs = refl
sides_directed (h ∷ hs) runs =
    and_from _ _ (ap is_some (side_direction_is h (runs h (inl refl))))
    (sides_directed hs (λ g m. runs g (inr m)))

sides_numbers : (face : List HalfEdge) → ((h : HalfEdge) → Member face h → Runs h)
    → map side_number (map side_of_half face) ≡ directions_round face
sides_numbers [] runs = refl
sides_numbers (h ∷ hs) runs =
    ap₂ ◌∷◌ (side_number_is h (runs h (inl refl)))
    (sides_numbers hs (λ g m. runs g (inr m)))

module _ (hs : List HalfEdge) (goes : (h : HalfEdge) → Member hs h → (g : HalfEdge) × GoesOn hs h g) where
  -- the sides of the corners are the half-edges
  pub sides_are : (first h : HalfEdge) (rest : List HalfEdge) → Follows hs goes first h rest
      → sides_from first.start (corners_of (h ∷ rest)) ≡ map side_of_half (h ∷ rest)
  sides_are first h [] f = ap (λ (p : Point). record { start = h.start; end = p } ∷ []) f.joined
  sides_are first h (g ∷ gs) f =
      ap₂ (λ (p : Point) ss. record { start = h.start; end = p } ∷ ss) f.0.joined (sides_are first g gs f.1)

  turn_is : (h g : HalfEdge) → GoesOn hs h g → is_reflex hs h ≡ false
      → is_convex_turn (turn_of (dir_number h.dir) (dir_number g.dir)) ≡ true
  turn_is h g k e =
      from_not _ (sym (ap (turns_off h) (next_is hs h g k)) ∙ e)

  turns_convex : (first h : HalfEdge) (rest : List HalfEdge) → Follows hs goes first h rest
      → ((x : HalfEdge) → Member (h ∷ rest) x → is_reflex hs x ≡ false)
      → list_all is_convex_turn (turns_from (dir_number first.dir) (directions_round (h ∷ rest))) ≡ true
  turns_convex first h [] f flat = and_from _ true (turn_is h first f (flat h (inl refl))) refl
  turns_convex first h (g ∷ gs) f flat =
      and_from _ _ (turn_is h g f.0 (flat h (inl refl))) (turns_convex first g gs f.1 (λ x m. flat x (inr m)))

  follows_members : (first h : HalfEdge) (rest : List HalfEdge) → Follows hs goes first h rest → Member hs h
      → (x : HalfEdge) → Member (h ∷ rest) x → Member hs x
  follows_members first h rest f m x (inl at) = subst (Member hs) at m
  follows_members first h [] f m x (inr none) = absurd none
  follows_members first h (g ∷ gs) f m x (inr n) =
      follows_members first g gs f.1 (member_of_place hs _ g f.0.stands) x n

  module _ (runs : (h : HalfEdge) → Member hs h → Runs h) (flat : (h : HalfEdge) → Member hs h
      → is_reflex hs h ≡ false) where
    round_convex : (face : List HalfEdge) (r : IsRound hs goes face) → is_twisted face ≡ false
        → is_convex (corners_of face) ≡ true
    unfolding is_convex
    round_convex face r straight =
        let all : List HalfEdge = r.first ∷ r.others in
        let members : (x : HalfEdge) → Member all x → Member hs x =
        follows_members r.first r.first r.others r.closed r.member in
        let all_run : (x : HalfEdge) → Member all x → Runs x = λ x m. runs x (members x m) in
        let sides : sides_of (corners_of all) ≡ map side_of_half all =
        sides_are r.first r.first r.others r.closed in
        let numbers : directions_of (corners_of all) ≡ directions_round all = ap (map side_number) sides
        ∙ sides_numbers all all_run in
        let turn : nat_eq (sum (turns_of (directions_round all))) 16 ≡ true =
        from_not _ (sym (ap is_twisted r.whole) ∙ straight) in
        ap (λ f. is_convex (corners_of f)) r.whole
        ∙ and_from _ _ (ap (list_all has_direction) sides ∙ sides_directed all all_run)
        (and_from _ _
        (ap (λ ns. list_all is_convex_turn (turns_of ns)) numbers
        ∙ turns_convex r.first r.first r.others r.closed (λ x m. flat x (members x m)))
        (ap (λ ns. nat_eq (sum (turns_of ns)) 16) numbers ∙ turn))

-- ---- no refusal

find_none : {X : Type 0} (test : X → Bool) (xs : List X) → find test xs ≡ None → (x : X) → Member xs x
    → test x ≡ false
find_none test [] e x m = absurd m
find_none test (y ∷ ys) e x m = go (test y) refl e (λ f n. find_none test ys f x n)
  where
    go : (b : Bool) → test y ≡ b → cond b (Some y) (find test ys) ≡ None
        → (find test ys ≡ None → Member ys x → test x ≡ false) → test x ≡ false
    go true at f rest = cc
    go false at f rest = elim m [ inl same ↦ ap test (sym same) ∙ at | inr n ↦ rest f n ]

find_some : {X : Type 0} (test : X → Bool) (xs : List X) (y : X) → find test xs ≡ Some y → Member xs y
find_some test [] y e = cc
find_some test (x ∷ xs) y e = go (test x) e (λ f. find_some test xs y f)
  where
    go : (b : Bool) → cond b (Some x) (find test xs) ≡ Some y → (find test xs ≡ Some y → Member xs y)
        → Member (x ∷ xs) y
    go true f rest = inl (cc)
    go false f rest = inr (rest f)

some_not_none : {X : Type 0} (x : X) → Some x ≡ None → ⊥
some_not_none x e = cc

pub neither : {X : Type 0} (a b : Option X) → option_or a b ≡ None → (a ≡ None) × (b ≡ None)
neither None b e = (refl, e)
neither (Some x) b e = cc

pub not_mapped : {X Y : Type 0} (f : X → Y) (o : Option X) → option_map f o ≡ None → o ≡ None
not_mapped f None e = refl
not_mapped f (Some x) e = cc

module _ (p : PatternView) (directed : list_all has_direction (sides_of p.corners) ≡ true) where
  abbrev hs : List HalfEdge
  hs = half_edges_of p

  pub goes_round : (h : HalfEdge) → Member hs h → (g : HalfEdge) × GoesOn hs h g
  goes_round h m = let x = leads p directed h m in goes_on hs h x.0 x.1 x.2

  -- what is in a face is a half-edge, and its sides are its half-edges
  pub face_member : (face : List HalfEdge) → Member (faces_among hs) face → (g : HalfEdge) → Member face g
      → Member hs g
  face_member face m g n =
      let r = rounds hs goes_round face m in
      follows_members hs goes_round r.first r.first r.others r.closed r.member g
      (subst (λ f. Member f g) r.whole n)

  pub face_sides : (face : List HalfEdge) → Member (faces_among hs) face → sides_of (corners_of face)
      ≡ map side_of_half face
  face_sides face m =
      let r = rounds hs goes_round face m in
      ap (λ f. sides_of (corners_of f)) r.whole ∙ sides_are hs goes_round r.first r.first r.others r.closed
      ∙ ap (map side_of_half) (sym r.whole)

  module _ (none : convex_refusal hs ≡ None) where
    bad : bad_half_edge hs ≡ None
    bad = not_mapped (λ (h : HalfEdge). not_convex h.start h.dir) (bad_half_edge hs) none

    pub none_reflex : (h : HalfEdge) → Member hs h → is_reflex hs h ≡ false
    none_reflex h m = find_none (is_reflex hs) hs (neither _ _ bad).0 h m

    pub none_twisted : (face : List HalfEdge) → Member (faces_among hs) face → is_twisted face ≡ false
    none_twisted face m = go (find is_twisted (faces_among hs)) refl
      where
        go : (o : Option (List HalfEdge)) → find is_twisted (faces_among hs) ≡ o → is_twisted face ≡ false
        go None e = find_none is_twisted (faces_among hs) e face m
        go (Some twisted) e =
            let r = rounds hs goes_round twisted (find_some is_twisted (faces_among hs) twisted e) in
            absurd (some_not_none r.first (sym (ap first_of (e ∙ ap Some r.whole)) ∙ (neither _ _ bad).1))

    -- no face has a half-edge and its way back
    pub faces_apart : (x y : HalfEdge) → IsBack x y → (face : List HalfEdge) → Member (faces_among hs) face
        → Member face x
        → Member face y → ⊥
    faces_apart x y back face m in_x in_y =
        let r = rounds hs goes_round face m in
        let members : (h : HalfEdge) → Member (r.first ∷ r.others) h → Member hs h =
        follows_members hs goes_round r.first r.first r.others r.closed r.member in
        let turn : sum (turns_of (directions_round (r.first ∷ r.others))) ≡ 16 =
        eqb-true _ 16 (from_not _ (sym (ap is_twisted r.whole) ∙ none_twisted face m)) in
        apart hs goes_round r.first x y back r.first r.others r.closed
        (λ h k. runs p directed h (members h (inr k)))
        (turns_convex hs goes_round r.first r.first r.others r.closed (λ h k. none_reflex h (members h k)))
        (omega (arith, turn))
        (subst (λ f. Member f x) r.whole in_x) (subst (λ f. Member f y) r.whole in_y)

    pub faces_convex : (faces : List (List HalfEdge))
        → ((face : List HalfEdge) → Member faces face → Member (faces_among hs) face)
        → list_all is_convex (map corners_of faces) ≡ true
    faces_convex [] all = refl
    faces_convex (face ∷ faces) all =
        let m = all face (inl refl) in
        and_from _ _
        (round_convex hs goes_round (runs p directed) none_reflex face (rounds hs goes_round face m)
        (none_twisted face m))
        (faces_convex faces (λ f n. all f (inr n)))

-- the faces of a pattern on a sheet
pub all_convex : (p : PatternView) → is_sheet p.corners ≡ true → convex_refusal (half_edges_of p) ≡ None
    → list_all is_convex (map corners_of (faces_among (half_edges_of p))) ≡ true
all_convex p sheet none =
    faces_convex p (sheet_turns p.corners sheet).0 none (faces_among (half_edges_of p)) (λ f m. m)

pub few_by : (n : ℕ) (later : Option FaceRefusal) → option_or (count_refusal n) later ≡ None → n ≤ 256
few_by n later e =
    cond_both (nat_lt 256 n) (Some (too_many n)) None (λ o. option_or o later ≡ None → n ≤ 256) (λ more f. cc)
    (λ less f. ltb-false 256 n less) e

-- each face begins at its least corner
pub faces_least : (p : PatternView) → list_all has_direction (sides_of p.corners) ≡ true
    → (faces : List (List HalfEdge))
    → ((face : List HalfEdge) → Member faces face → Member (faces_among (half_edges_of p)) face)
    → list_all is_least_first (map corners_of faces) ≡ true
faces_least p directed [] all = refl
faces_least p directed (face ∷ faces) all =
    and_from _ _
    (least_first p directed face
    (rounds (half_edges_of p) (goes_round p directed) face (all face (inl refl))))
    (faces_least p directed faces (λ f n. all f (inr n)))
