-- The orders of segments and of lines are total, and tie only what is equal.
use Rattle.std.proofs.Common.{◌≡◌, ◌↔◌, ◌&&◌, Bool, true, Decides, int_eq, nat_eq, refl, sym, ap, subst, ◌∙◌}
use Rattle.std.specs.Cmp.{IsTotalOrder, both_tied, unsigned_ties}
use Rattle.std.specs.declared.cmp.Ordering.{Ordering}
use Rattle.std.specs.declared.cmp.Ordering.TheVariants.{Less, Equal, Greater}
use Rattle.std.specs.Ordering.{is_lt, is_eq, eq_by_cmp, ordering_then, ordering_reverse, nat_cmp}
use Rattle.std.proofs.lemmas.Bool.{false≢true}
use Rattle.std.proofs.lemmas.Bool.Decides.{Decides-and, Decides-eqb, same_from_decides}
use Rattle.std.proofs.lemmas.Cmp.{on_total, then_total, tied_itself, nat_cmp_total, ranked}
use Rattle.surd_number.specs.declared.Surd.{Surd}
use Rattle.surd_number.specs.Number.{compare_of}
use Rattle.surd_number.specs.Order.{compare_wides}
use Rattle.surd_number.specs.SignLaws.{compare_of_total}
use Rattle.surd_number.specs.SurdLaws.{surd_eq_is, wide_is, wide_eq_is, compare_wides_total, compare_wides-equal}
use Rattle.surd_number.specs.Value.{number_of}
use Rattle.plane_geometry.specs.declared.Point.{Point}
use Rattle.plane_geometry.specs.declared.Segment.{Segment}
use Rattle.plane_geometry.specs.declared.Line.{Line}
use Rattle.plane_geometry.specs.Position.{Position, position_of, compare_positions, is_same_position}
use Rattle.plane_geometry.specs.Stretch.{Stretch}
use Rattle.plane_geometry.specs.StretchLaws.{zero_is, same_is}
use Rattle.plane_geometry.specs.SegmentView.{stretch_of, lesser_end, greater_end}
use Rattle.plane_geometry.specs.SegmentLaws.{point_is, segment_is}
use Rattle.plane_geometry.specs.LineView.{line_number, line_offset, HaveSamePoints}
use Rattle.plane_geometry.specs.LineLaws.{line_is, line_from_parts}
use Rattle.plane_geometry.specs.Order.{compare_stretches, compare_segments, is_before, compare_lines}

less_is : (o : Ordering) → is_lt o ≡ true → o ≡ Less
less_is Less e = refl
less_is Equal e = absurd (false≢true e)
less_is Greater e = absurd (false≢true e)

equal_is : (o : Ordering) → is_eq o ≡ true → o ≡ Equal
equal_is Less e = absurd (false≢true e)
equal_is Equal e = refl
equal_is Greater e = absurd (false≢true e)

then_equal : (a b : Ordering) → ordering_then a b ≡ Equal → (a ≡ Equal) × (b ≡ Equal)
then_equal Less b e = cc
then_equal Equal b e = (refl, e)
then_equal Greater b e = cc

-- ---- points

compare_positions_total : IsTotalOrder compare_positions
compare_positions_total =
    then_total (on_total (λ (p : Position). p.x) compare_of_total)
    (on_total (λ (p : Position). p.y) compare_of_total)

pub tied_points : (p q : Point) → compare_positions (position_of p) (position_of q) ≡ Equal → p ≡ q
tied_points p q e = point_is p q (zero_is _ (sym (same_is (position_of p) (position_of q)) ∙ ap is_eq e))

pub point_is_place : (p q : Point) → (p ≡ q) ↔ (is_same_position (position_of p) (position_of q) ≡ true)
point_is_place p q = (
  (λ e. ap is_eq (subst (λ (r : Point). compare_positions (position_of p) (position_of r) ≡ Equal) e
      (tied_itself compare_positions_total (position_of p)))),
  λ e. tied_points p q (equal_is _ e),
)

abbrev surd_test : Surd → Surd → Bool
surd_test x y = int_eq x.a y.a && (int_eq x.b y.b && nat_eq x.k y.k)

abbrev point_test : Point → Point → Bool
point_test p q = surd_test p.x q.x && surd_test p.y q.y

point_test_says : (p q : Point) → Decides (point_test p q) (p ≡ q)
point_test_says p q = ((λ e. (point_is_place p q).1 (sym tie ∙ e)), λ e. tie ∙ (point_is_place p q).0 e)
  where
    tie : point_test p q ≡ is_eq (compare_positions (position_of p) (position_of q))
    tie =
        both_tied (surd_test p.x q.x) (surd_test p.y q.y) (compare_of (number_of p.x) (number_of q.x))
        (compare_of (number_of p.y) (number_of q.y))
        (surd_eq_is p.x q.x) (surd_eq_is p.y q.y)

-- ---- segments

compare_stretches_total : IsTotalOrder compare_stretches
compare_stretches_total =
    then_total (on_total (λ (s : Stretch). s.from) compare_positions_total)
    (on_total (λ (s : Stretch). s.to) compare_positions_total)

pub compare_segments_total : IsTotalOrder compare_segments
compare_segments_total = on_total stretch_of compare_stretches_total

abbrev HaveSameEnds : Segment → Segment → Type 0
HaveSameEnds s u = (lesser_end s ≡ lesser_end u) × (greater_end s ≡ greater_end u)

-- segments are tied exactly where both ends are equal
pub compare_segments-equal : (s u : Segment) → (compare_segments s u ≡ Equal) ↔ HaveSameEnds s u
compare_segments-equal s u = (
  (λ e.
      let k = then_equal (compare_positions (stretch_of s).from (stretch_of u).from)
      (compare_positions (stretch_of s).to (stretch_of u).to) e in
      (tied_points s.from u.from k.0, tied_points s.to u.to k.1)),
  λ h. subst (λ (t : Segment). compare_segments s t ≡ Equal) (segment_is s u h.0 h.1)
      (tied_itself compare_segments_total s),
)

pub tied_segments : (s u : Segment) → compare_segments s u ≡ Equal → s ≡ u
tied_segments s u e = let h = (compare_segments-equal s u).0 e in segment_is s u h.0 h.1

pub segment_eq_is : (s u : Segment)
    → (point_test s.from u.from && (point_test s.to u.to && nat_eq s.dir.number u.dir.number))
    ≡ eq_by_cmp compare_segments s u
segment_eq_is s u = same_from_decides _ _ by_parts by_order
  where
    by_parts : Decides (point_test s.from u.from
        && (point_test s.to u.to && nat_eq s.dir.number u.dir.number)) (HaveSameEnds s u)
    by_parts =
        let d =
        Decides-and (point_test s.from u.from) (point_test s.to u.to && nat_eq s.dir.number u.dir.number)
        (point_test_says s.from u.from)
        (Decides-and (point_test s.to u.to) (nat_eq s.dir.number u.dir.number) (point_test_says s.to u.to)
        (Decides-eqb s.dir.number u.dir.number)) in (
          (λ e. let k = d.0 e in (k.0, k.1.0)),
          λ h. d.1 (h.0, (h.1, ap (λ (t : Segment). t.dir.number) (segment_is s u h.0 h.1))),
        )

    by_order : Decides (eq_by_cmp compare_segments s u) (HaveSameEnds s u)
    by_order =
        let tie = compare_segments-equal s u in
        ((λ e. tie.0 (equal_is _ e)), λ h. ap is_eq (tie.1 h))

pub before_trans : (s t u : Segment) → is_before s t ≡ true → is_before t u ≡ true → is_before s u ≡ true
before_trans s t u e f = ap is_lt (compare_segments_total.trans s t u (less_is _ e) (less_is _ f))

pub before_irreflexive : (s : Segment) → is_before s s ≡ true → ⊥
before_irreflexive s e = false≢true (sym (ap is_lt (tied_itself compare_segments_total s)) ∙ e)

-- where s comes after u, u stands before s
pub before_turned : (s u : Segment) → compare_segments s u ≡ Greater → is_before u s ≡ true
before_turned s u e = ap is_lt (compare_segments_total.antisymm u s ∙ ap ordering_reverse e)

-- ---- lines

pub compare_lines_total : IsTotalOrder compare_lines
compare_lines_total =
    then_total (on_total line_number nat_cmp_total) (on_total line_offset compare_wides_total)

-- lines are tied exactly where they have the same points
pub compare_lines-equal : (l m : Line) → (compare_lines l m ≡ Equal) ↔ HaveSamePoints l m
compare_lines-equal l m = (
  (λ e.
      let k = then_equal (nat_cmp (line_number l) (line_number m))
      (compare_wides (line_offset l) (line_offset m)) e in
      (line_is l m).0 (line_from_parts l m (ranked (line_number l) (line_number m) Equal (sym k.0))
      (wide_is (line_offset l) (line_offset m)
      ((compare_wides-equal (line_offset l) (line_offset m)).0 k.1)))),
  λ h. subst (λ (n : Line). compare_lines l n ≡ Equal) ((line_is l m).1 h)
      (tied_itself compare_lines_total l),
)

pub line_eq_is : (l m : Line)
    → (nat_eq l.direction m.direction
    && (int_eq l.offset.a m.offset.a && (int_eq l.offset.b m.offset.b && nat_eq l.offset.k m.offset.k)))
    ≡ eq_by_cmp compare_lines l m
line_eq_is l m =
    both_tied (nat_eq l.direction m.direction) _ (nat_cmp l.direction m.direction)
    (compare_wides l.offset m.offset) (unsigned_ties l.direction m.direction)
    (wide_eq_is l.offset m.offset)
