-- The faults of a pattern ascend by vertex, then by variant, then by direction.
use Rattle.std.proofs.Common.{◌≡◌, ℕ, zero, suc, ◌+◌, ◌<◌, ◌≤◌, true, ltb, inl, inr, List, [], ◌∷◌, ◌++◌, length, map, refl, sym, ap, ap₂, ◌∙◌, arith}
use Rattle.std.specs.List.{range_with_len}
use Rattle.std.specs.List.Sorted.{IsStrictlySortedBy}
use Rattle.std.specs.Ordering.{ordering_then, nat_cmp}
use Rattle.std.specs.declared.cmp.Ordering.{Ordering}
use Rattle.std.specs.declared.cmp.Ordering.TheVariants.{Less}
use Rattle.std.proofs.lemmas.Bool.{cond_both}
use Rattle.std.proofs.lemmas.Map.Keys.{Less-from_sorted}
use Rattle.surd_number.specs.declared.Sgn.TheVariants.{Pos}
use Rattle.surd_number.specs.Number.{ordering_of, opposite_sign}
use Rattle.plane_geometry.specs.declared.Point.{Point}
use Rattle.plane_geometry.specs.Position.{position_of, compare_positions}
use Rattle.plane_geometry.specs.SideLaws.{order_self, order_turned, compare_is}
use Rattle.crease_model.specs.View.{PatternView}
use Rattle.crease_model.specs.Rules.{IsPattern}
use Rattle.line_split.specs.MemberLaws.{Member, member_either}
use Rattle.line_split.specs.Points.{is_rising}
use Rattle.line_split.specs.PointLaws.{point_order, rising_rest, rising_later}
use Rattle.line_split.specs.SortedLaws.{sorted_joined, sorted_cons, sorted_rest, sorted_none, sorted_single, before_members}
use Rattle.vertex_checks.specs.declared.fans.Ray.{Ray}
use Rattle.vertex_checks.specs.declared.faults.LocalFault.{LocalFault}
use Rattle.vertex_checks.specs.declared.faults.LocalFault.TheVariants.{Kawasaki, BigLittleBig}
use Rattle.vertex_checks.specs.declared.faults.VertexFault.{VertexFault}
use Rattle.vertex_checks.specs.Vertices.{vertices_of}
use Rattle.vertex_checks.specs.Fan.{compare_rays, fan_of}
use Rattle.vertex_checks.specs.Sectors.{ray_in, no_ray}
use Rattle.vertex_checks.specs.Faults.{variant_number, fault_direction, compare_local, compare_faults, IsInOrder, comes_round, kawasaki_faults, maekawa_faults, is_small_sector, little_fault_at, little_faults, fan_faults, vertex_fault, faults_at, faults_of}
use Rattle.vertex_checks.proofs.SortedLists.{map_member, AscendBy, sorted_flat, range_member, cmp_less, cmp_same}
use Rattle.vertex_checks.proofs.FanLaws.{before_ray, fan_is}
use Rattle.vertex_checks.proofs.FaultLaws.{kawasaki_only, maekawa_only, little_at_only, little_only, sectors_with_fault}
use Rattle.vertex_checks.proofs.VertexLaws.{vertices_are_inner_ends}

-- ---- the order of the faults of one vertex

by_variant : (f g : LocalFault) → variant_number f < variant_number g → compare_local f g ≡ Less
by_variant f g less =
    ap (λ (o : Ordering). ordering_then o (nat_cmp (fault_direction f) (fault_direction g)))
    (cmp_less (variant_number f) (variant_number g) less)

by_direction : (f g : LocalFault) → variant_number f ≡ variant_number g
    → fault_direction f < fault_direction g → compare_local f g ≡ Less
by_direction f g same less =
    ap₂ ordering_then (cmp_same (variant_number f) (variant_number g) same)
    (cmp_less (fault_direction f) (fault_direction g) less)

kawasaki_sorted : (fan : List Ray) → IsStrictlySortedBy compare_local (kawasaki_faults fan)
kawasaki_sorted fan =
    cond_both (comes_round fan) [] (Kawasaki ∷ []) (λ fs. IsStrictlySortedBy compare_local fs)
    (λ e. sorted_none compare_local) (λ e. sorted_single compare_local Kawasaki)

module _ (fan : List Ray) (up : IsStrictlySortedBy compare_rays fan) where
  maekawa_sorted : IsStrictlySortedBy compare_local (maekawa_faults fan)
  maekawa_sorted = cond_both _ [] _ (λ fs. IsStrictlySortedBy compare_local fs)
      (λ e. sorted_none compare_local) (λ e. sorted_single compare_local _)

  little_sorted_at : (k : ℕ) → IsStrictlySortedBy compare_local (little_fault_at fan k)
  little_sorted_at k =
      cond_both (is_small_sector fan k) (BigLittleBig (ray_in fan k).dir ∷ []) []
      (λ fs. IsStrictlySortedBy compare_local fs)
      (λ e. sorted_single compare_local (BigLittleBig (ray_in fan k).dir)) (λ e. sorted_none compare_local)

  -- places that ascend, below the number of rays
  abbrev Before : ℕ → ℕ → Type 0
  Before i j = (i < j) × (j < length fan)

  range_ascends : (a n : ℕ) → a + n ≤ length fan
      → AscendBy compare_local (little_fault_at fan) Before (range_with_len a n)
  range_ascends a zero few = tt
  range_ascends a (suc n) few = (
    λ j m. let h = range_member (a + 1) n j m in (omega (arith, h.0), omega (arith, h.1, few)),
    range_ascends (a + 1) n (omega (arith, few)),
  )

  sectors_ascend : (i j : ℕ) (f g : LocalFault) → Before i j → Member (little_fault_at fan i) f
      → Member (little_fault_at fan j) g → compare_local f g ≡ Less
  sectors_ascend i j f g before m n =
      let low = (little_at_only fan i f m).1 in
      let high = (little_at_only fan j g n).1 in
      let less = before_ray (ray_in fan i) (ray_in fan j)
      (Less-from_sorted compare_rays fan i j no_ray up before.0 before.1) in
      ap₂ compare_local low high
      ∙ by_direction (BigLittleBig (ray_in fan i).dir) (BigLittleBig (ray_in fan j).dir) refl less

  little_sorted : IsStrictlySortedBy compare_local (little_faults fan)
  little_sorted =
      cond_both (ltb (length fan) 4) [] (sectors_with_fault fan) (λ fs. IsStrictlySortedBy compare_local fs)
      (λ e. sorted_none compare_local)
      (λ e. sorted_flat compare_local (little_fault_at fan) Before (range_with_len 0 (length fan))
      (range_ascends 0 (length fan) (omega arith)) (λ k m. little_sorted_at k) sectors_ascend)

  early_less : (f g : LocalFault) → Member (kawasaki_faults fan ++ maekawa_faults fan) f
      → Member (little_faults fan) g → compare_local f g ≡ Less
  early_less f g m n =
      let h = little_only fan g n in
      let late : variant_number g ≡ 2 = ap variant_number h.1.3 in
      elim (member_either (kawasaki_faults fan) (maekawa_faults fan) f m) [
        | inl k ↦ by_variant f g (omega (arith, late, ap variant_number (kawasaki_only fan f k).1))
        | inr k ↦ by_variant f g (omega (arith, late, ap variant_number (maekawa_only fan f k).1))
      ]

  fan_sorted : IsStrictlySortedBy compare_local (fan_faults fan)
  fan_sorted =
      sorted_joined compare_local (kawasaki_faults fan ++ maekawa_faults fan) (little_faults fan)
      (sorted_joined compare_local (kawasaki_faults fan) (maekawa_faults fan)
      (kawasaki_sorted fan) maekawa_sorted
      (λ f g m n. by_variant f g
      (omega (
        arith,
        ap variant_number (kawasaki_only fan f m).1,
        ap variant_number (maekawa_only fan g n).1,
      ))))
      little_sorted early_less

-- ---- the order of the faults of a pattern

same_vertex : (v : Point) (f g : LocalFault) → compare_local f g ≡ Less
    → compare_faults (vertex_fault v f) (vertex_fault v g) ≡ Less
same_vertex v f g less =
    ap₂ ordering_then (compare_is (position_of v) (position_of v)
    ∙ ap ordering_of (order_self (position_of v))) less

other_vertex : (v w : Point) (f g : LocalFault) → point_order v w ≡ Pos
    → compare_faults (vertex_fault v f) (vertex_fault w g) ≡ Less
other_vertex v w f g e =
    let first : compare_positions (position_of v) (position_of w) ≡ Less =
    compare_is (position_of v) (position_of w)
    ∙ ap ordering_of (order_turned (position_of v) (position_of w) ∙ ap opposite_sign e) in
    ap (λ (o : Ordering). ordering_then o (compare_local f g)) first

vertex_sorted : (v : Point) (fs : List LocalFault) → IsStrictlySortedBy compare_local fs
    → IsInOrder (map (vertex_fault v) fs)
vertex_sorted v [] up = sorted_none compare_faults
vertex_sorted v (f ∷ fs) up =
    sorted_cons compare_faults (vertex_fault v f) (map (vertex_fault v) fs)
    (λ z m. let h = map_member (vertex_fault v) fs z m in ap (compare_faults (vertex_fault v f)) (sym h.2)
    ∙ same_vertex v f h.0 (before_members compare_local f fs h.0 up h.1))
    (vertex_sorted v fs (sorted_rest compare_local f fs up))

module _ (pattern : PatternView) (rules : IsPattern pattern) where
  abbrev Earlier : Point → Point → Type 0
  Earlier v w = point_order v w ≡ Pos

  vertices_ascend : (vs : List Point) → is_rising vs ≡ true
      → AscendBy compare_faults (faults_at pattern) Earlier vs
  vertices_ascend [] up = tt
  vertices_ascend (v ∷ vs) up = (λ w m. rising_later v vs w up m, vertices_ascend vs (rising_rest v vs up))

  between : (v w : Point) (f g : VertexFault) → Earlier v w → Member (faults_at pattern v) f
      → Member (faults_at pattern w) g → compare_faults f g ≡ Less
  between v w f g e m n =
      let h = map_member (vertex_fault v) (fan_faults (fan_of v pattern.pieces)) f m in
      let k = map_member (vertex_fault w) (fan_faults (fan_of w pattern.pieces)) g n in
      ap₂ compare_faults (sym h.2) (sym k.2) ∙ other_vertex v w h.0 k.0 e

  pub faults_sorted : IsInOrder (faults_of pattern)
  unfolding faults_of
  faults_sorted =
      sorted_flat compare_faults (faults_at pattern) Earlier (vertices_of pattern)
      (vertices_ascend (vertices_of pattern) (vertices_are_inner_ends pattern).0)
      (λ v m. vertex_sorted v (fan_faults (fan_of v pattern.pieces))
      (fan_sorted (fan_of v pattern.pieces) (fan_is v pattern.pieces rules.meetings).order)) between
