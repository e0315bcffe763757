-- The lines through sides, gathered one after another, and how many different ones there are.
use Rattle.std.proofs.Common.{◌≡◌, ◌↔◌, ◌⊎◌, inl, inr, ◌&&◌, ◌∙◌, ℕ, ◌%◌, ◌≤◌, Bool, true, List, [], ◌∷◌, ◌++◌, None, Some, length, nat_eq, int_eq, refl, sym, ap, subst, arith}
use Rattle.std.specs.List.{Contains, dedup}
use Rattle.std.specs.List.Retain.{IsFiltered, DiffersFromLast}
use Rattle.std.specs.List.Sorted.{IsSorted, IsPermutation, IsStrictlySortedBy}
use Rattle.std.specs.Cmp.{IsEquivalence}
use Rattle.std.specs.Ordering.{is_eq}
use Rattle.std.specs.declared.cmp.Ordering.{Ordering}
use Rattle.std.specs.declared.cmp.Ordering.TheVariants.{Less, Equal, Greater}
use Rattle.std.proofs.lemmas.Bool.{false≢true}
use Rattle.std.proofs.lemmas.Cmp.{eq_by_cmp_equiv}
use Rattle.std.proofs.lemmas.List.Filters.{dedup_is}
use Rattle.std.proofs.lemmas.List.Kept.{Contains-dedup, Contains-from_dedup, IsStrictlySortedBy-dedup}
use Rattle.std.proofs.lemmas.List.Sorted.{Contains-permutation, IsPermutation-sym}
use Rattle.std.proofs.lemmas.List.{drop_all}
use Rattle.std.proofs.lemmas.List.Elements.{Contains-append_left, Contains-push, Contains-push_cases}
use Rattle.surd_number.specs.Number.{IsSame}
use Rattle.surd_number.specs.NumberLaws.{IsSame-sym, IsSame-trans}
use Rattle.surd_number.specs.SurdLaws.{wide_is}
use Rattle.surd_number.specs.Value.{wide_number_of}
use Rattle.plane_geometry.specs.declared.Line.{Line}
use Rattle.plane_geometry.specs.declared.Point.{Point}
use Rattle.plane_geometry.specs.Order.{compare_lines}
use Rattle.plane_geometry.specs.OrderLaws.{compare_lines_total, compare_lines-equal, line_eq_is}
use Rattle.plane_geometry.specs.Direction.{direction_vector}
use Rattle.plane_geometry.specs.LineLaws.{line_is, line_from_parts}
use Rattle.plane_geometry.specs.LineStored.{IsOffsetAt}
use Rattle.plane_geometry.specs.LineView.{line_number, line_offset}
use Rattle.plane_geometry.specs.MeetLaws.{on_line_offset, on_line_from_offset}
use Rattle.plane_geometry.specs.Polygon.{Side, side_direction, sides_from, sides_of}
use Rattle.plane_geometry.specs.PolygonLaws.{sides_left}
use Rattle.plane_geometry.specs.Position.{position_of, cross_of}
use Rattle.isometry_map.specs.declared.folded.FoldedFace.{FoldedFace}
use Rattle.wireframe_fold.specs.Lines.{IsLineThrough, IsThrough, folded_sides, HasDifferent}

-- how `==` compares lines: part by part
abbrev equal_lines : Line → Line → Bool
equal_lines l m =
    nat_eq l.direction m.direction
    && (int_eq l.offset.a m.offset.a && (int_eq l.offset.b m.offset.b && nat_eq l.offset.k m.offset.k))

lines_equiv : IsEquivalence equal_lines
lines_equiv =
    subst (λ (E : Line → Line → Bool). IsEquivalence E) (λ i l m. sym (line_eq_is l m) i)
    (eq_by_cmp_equiv compare_lines_total)

tied : (o : Ordering) → is_eq o ≡ true → o ≡ Equal
tied Less e = absurd (false≢true e)
tied Equal e = refl
tied Greater e = absurd (false≢true e)

equal_line : (l m : Line) → equal_lines l m ≡ true → l ≡ m
equal_line l m e =
    (line_is l m).1 ((compare_lines-equal l m).0 (tied (compare_lines l m) (sym (line_eq_is l m) ∙ e)))

pub counted : (ls sorted final : List Line) (n : ℕ) → IsPermutation ls sorted → IsSorted compare_lines sorted
    → IsFiltered (DiffersFromLast equal_lines) [] sorted final → n ≡ length final → HasDifferent (Contains ls) n
counted ls sorted final n moved up kept count =
    let final_is : final ≡ dedup equal_lines sorted = dedup_is equal_lines sorted final kept in
    let P : List Line → Type 0 = λ ds. IsStrictlySortedBy compare_lines ds in
    record {
      different = final;
      ascending = subst P (sym final_is) (IsStrictlySortedBy-dedup compare_lines_total line_eq_is sorted up);
      same = λ l.
          let Q : List Line → Type 0 = λ ds. Contains ds l in (
            (λ h. Contains-permutation sorted ls l (IsPermutation-sym ls sorted moved)
                (Contains-from_dedup equal_lines sorted l (subst Q final_is h))),
            λ h. subst Q (sym final_is)
                (Contains-dedup lines_equiv equal_line sorted l (Contains-permutation ls sorted l moved h)),
          );
      count = sym count;
    }

-- so many of one kind are so many of a kind that is the same
pub different_as : (P Q : Line → Type 0) (n : ℕ) → ((l : Line) → P l ↔ Q l) → HasDifferent P n → HasDifferent Q n
different_as P Q n h d =
    record {
      different = d.different;
      ascending = d.ascending;
      same = λ l. (λ c. (h l).0 ((d.same l).0 c), λ q. (d.same l).1 ((h l).1 q));
      count = d.count;
    }

-- ---- the line through a side

some_is : (m n : ℕ) → Some m ≡ Some n → m ≡ n
some_is m n e = cc

one_line : (s : Side) (l m : Line) → IsLineThrough s l → IsLineThrough s m → l ≡ m
one_line s l m h k =
    let p = position_of s.start in
    let same : h.direction ≡ k.direction = some_is h.direction k.direction (sym h.runs ∙ k.runs) in
    let number : line_number l ≡ line_number m = h.number ∙ ap (λ n. n % 8) same ∙ sym k.number in
    let w = wide_number_of (line_offset l) in
    let P : ℕ → Type 0 = λ n. IsSame (cross_of (direction_vector n) p) w in
    let cross = cross_of (direction_vector (line_number m)) p in
    let first : IsSame cross w = subst P number (on_line_offset l p h.start) in
    line_from_parts l m number
    (wide_is (line_offset l) (line_offset m)
    (IsSame-trans w cross (wide_number_of (line_offset m)) (IsSame-sym cross w first)
    (on_line_offset m p k.start)))

-- the line that the code appends
pub line_through : (p q : Point) (n : ℕ) (l : Line) → side_direction (record { start = p; end = q }) ≡ Some n
    → line_number l ≡ n % 8 → IsOffsetAt (line_number l) (line_offset l) p
    → IsLineThrough (record { start = p; end = q }) l
line_through p q n l runs number offset =
    record {
      direction = n;
      runs = runs;
      number = number;
      start = on_line_from_offset l (position_of p)
          (IsSame-sym (wide_number_of (line_offset l))
          (cross_of (direction_vector (line_number l)) (position_of p)) offset);
    }

pub line_appended : (s : Side) (old new : List Line) (m : Line) → new ≡ old ++ m ∷ [] → IsLineThrough s m
    → (l : Line) → Contains new l ↔ (Contains old l ⊎ IsLineThrough s l)
line_appended s old new m e h l =
    let P : List Line → Type 0 = λ ls. Contains ls l ↔ (Contains old l ⊎ IsLineThrough s l) in
    subst P (sym e) (to, from)
  where
    to : Contains (old ++ m ∷ []) l → Contains old l ⊎ IsLineThrough s l
    to c =
        elim (Contains-push_cases old m l c) [
          | inl earlier ↦ inl earlier
          | inr same ↦ inr (subst (IsLineThrough s) same h)
        ]

    from : Contains old l ⊎ IsLineThrough s l → Contains (old ++ m ∷ []) l
    from (inl earlier) = Contains-append_left old (m ∷ []) l earlier
    from (inr through) = subst (Contains (old ++ m ∷ [])) (one_line s m l h through) (Contains-push old m)

none_some : (n : ℕ) → None ≡ Some n → ⊥
none_some n e = absurd (cc)

pub none_appended : (s : Side) (ls : List Line) → side_direction s ≡ None
    → (l : Line) → Contains ls l ↔ (Contains ls l ⊎ IsLineThrough s l)
none_appended s ls none l =
    (inl, λ h. elim h [ inl c ↦ c | inr through ↦ absurd (none_some through.direction (sym none ∙ through.runs)) ])

-- ---- gathering

through_joined : (xs ys : List Side) (l : Line) → IsThrough (xs ++ ys) l ↔ (IsThrough xs l ⊎ IsThrough ys l)
through_joined [] ys l = (inr, λ h. elim h [ inl none ↦ absurd none | inr y ↦ y ])
through_joined (x ∷ xs) ys l =
    let rest = through_joined xs ys l in (
      λ h. elim h [
        | inl here ↦ inl (inl here)
        | inr later ↦ elim (rest.0 later) [ inl a ↦ inl (inr a) | inr b ↦ inr b ]
      ],
      λ h. elim h [
        | inl first ↦ elim first [ inl here ↦ inl here | inr a ↦ inr (rest.1 (inl a)) ]
        | inr b ↦ inr (rest.1 (inr b))
      ],
    )

-- what was gathered, the next, and the rest are the whole; then it is gathered with the next, and the rest are
pub next_gathered : {A B C R W : Type 0} → ((A ⊎ (B ⊎ R)) ↔ W) → (C ↔ (A ⊎ B)) → (C ⊎ R) ↔ W
next_gathered {A = A} {B = B} {C = C} {R = R} {W = W} whole next = (to, from)
  where
    to : C ⊎ R → W
    to (inl c) = elim (next.0 c) [ inl a ↦ whole.0 (inl a) | inr b ↦ whole.0 (inr (inl b)) ]
    to (inr r) = whole.0 (inr (inr r))

    from : W → C ⊎ R
    from w =
        elim (whole.1 w) [
          | inl a ↦ inl (next.1 (inl a))
          | inr later ↦ elim later [ inl b ↦ inl (next.1 (inr b)) | inr r ↦ inr r ]
        ]

pub all_gathered : {A W : Type 0} → ((A ⊎ ⊥) ↔ W) → A ↔ W
all_gathered {A = A} {W = W} whole =
    (λ a. whole.0 (inl a), λ w. elim (whole.1 w) [ inl a ↦ a | inr none ↦ absurd none ])

pub empty_gathered : (W : Type 0) (l : Line) → (Contains [] l ⊎ W) ↔ W
empty_gathered W l = (λ h. elim h [ inl none ↦ absurd (not_in l none) | inr w ↦ w ], inr)
  where
    not_in : (l : Line) → Contains [] l → ⊥
    not_in l c = absurd (omega (arith, c.1))

-- at the first side, and behind the last one
pub all_left : (corners : List Point) → sides_left corners 0 ≡ sides_of corners
all_left [] = refl
all_left (p ∷ ps) = refl

pub none_left : (corners : List Point) (i : ℕ) → length corners ≤ i → sides_left corners i ≡ []
none_left [] i few = refl
none_left (p ∷ ps) i few = ap (sides_from p) (drop_all i (p ∷ ps) few)

-- the sides of one more face
pub face_gathered : {A C W : Type 0} → (f : FoldedFace) (fs : List FoldedFace) (l : Line)
    → ((A ⊎ IsThrough (folded_sides (f ∷ fs)) l) ↔ W) → (C ↔ (A ⊎ IsThrough (sides_of f.corners) l))
    → (C ⊎ IsThrough (folded_sides fs) l) ↔ W
face_gathered {A = A} {C = C} {W = W} f fs l whole next =
    let joined = through_joined (sides_of f.corners) (folded_sides fs) l in
    next_gathered (
      (λ h. whole.0 (elim h [ inl a ↦ inl a | inr parts ↦ inr (joined.1 parts) ])),
      (λ w. elim (whole.1 w) [ inl a ↦ inl a | inr sides ↦ inr (joined.0 sides) ]),
    ) next
