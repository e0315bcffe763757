-- The faults of a pattern are just those that its inner vertices have.
use Rattle.std.proofs.Common.{◌≡◌, ◌↔◌, ◌≢◌, ℕ, ◌+◌, ◌-◌, ◌<◌, ◌≤◌, true, false, ◌&&◌, eqb, ltb, inl, inr, List, [], ◌∷◌, ◌++◌, length, flat_map, refl, sym, ap, ap₂, subst, ◌∙◌, arith}
use Rattle.std.specs.Prelude.{Contains}
use Rattle.std.specs.List.{range_with_len}
use Rattle.std.proofs.lemmas.Bool.{cond_both, cond-true, cond-false, and_parts, and_from, or_left, or_right, or_cases, eq-eqb, eqb-true, ltb-true, lt-ltb, ltb-false, le-ltb, both_ways, false_from_ne_true}
use Rattle.plane_geometry.specs.declared.Point.{Point}
use Rattle.plane_geometry.specs.declared.Dir.{Dir}
use Rattle.crease_model.specs.declared.Kind.TheVariants.{Mountain, Valley, Unassigned}
use Rattle.crease_model.specs.declared.Piece.{Piece}
use Rattle.crease_model.specs.View.{PatternView}
use Rattle.crease_model.specs.Rules.{IsPattern, IsEndOf}
use Rattle.line_split.specs.MemberLaws.{Member, member, contained, member_left, member_right, member_either, any_member, member_any}
use Rattle.vertex_checks.specs.declared.fans.Ray.{Ray}
use Rattle.vertex_checks.specs.declared.faults.LocalFault.{LocalFault}
use Rattle.vertex_checks.specs.declared.faults.LocalFault.TheVariants.{Kawasaki, Maekawa, BigLittleBig}
use Rattle.vertex_checks.specs.declared.faults.VertexFault.{VertexFault}
use Rattle.vertex_checks.specs.Vertices.{IsInnerEnd, vertices_of}
use Rattle.vertex_checks.specs.Fan.{ray_of, Leaves, IsFan, fan_of}
use Rattle.plane_geometry.specs.SegmentView.{direction_number}
use Rattle.vertex_checks.specs.Sectors.{ray_in, around, sector_at, reflected_from, ComesRound, count_of_kind, DifferByTwo, IsUnbalanced, fold_one_way, IsSmallSector}
use Rattle.vertex_checks.specs.Faults.{HasSmallSector, Breaks, IsFault, KawasakiIsByAngles, comes_round, kawasaki_faults, differ_by_two, balances, can_balance, maekawa_unless_balanced, maekawa_faults, is_small_sector, little_fault_at, little_faults, fan_faults, vertex_fault, faults_at, faults_of}
use Rattle.vertex_checks.proofs.SortedLists.{member_map, map_member, member_flat, flat_member, range_member, member_range}
use Rattle.vertex_checks.proofs.FanLaws.{fan_is, one_fan}
use Rattle.vertex_checks.proofs.KawasakiLaws.{round_exactly}
use Rattle.vertex_checks.proofs.VertexLaws.{vertices_are_inner_ends}

-- ---- numbers of mountains and valleys

differ_words : (m v : ℕ) → differ_by_two m v ≡ true → DifferByTwo m v
differ_words m v e =
    elim (or_cases (eqb m (v + 2)) (eqb v (m + 2)) e) [
      | inl h ↦ inl (eqb-true m (v + 2) h)
      | inr h ↦ inr (eqb-true v (m + 2) h)
    ]

differ_test : (m v : ℕ) → DifferByTwo m v → differ_by_two m v ≡ true
differ_test m v (inl h) = or_left (eqb m (v + 2)) (eqb v (m + 2)) (eq-eqb m (v + 2) h)
differ_test m v (inr h) = or_right (eqb m (v + 2)) (eqb v (m + 2)) (eq-eqb v (m + 2) h)

-- some number of the unassigned creases makes them differ by two
some_balances : (m v u : ℕ) → can_balance m v u ≡ true
    → (x : ℕ) × (x ≤ u) × DifferByTwo (m + x) (v + (u - x))
some_balances m v u e =
    let w = any_member (balances m v u) (range_with_len 0 (u + 1)) e in
    let x = w.0 in
    let few = (range_member 0 (u + 1) x w.1).1 in
    (x, omega (arith, few), differ_words (m + x) (v + (u - x)) w.2)

none_balances : (m v u : ℕ) → can_balance m v u ≡ false
    → (x : ℕ) → x ≤ u → ¬ DifferByTwo (m + x) (v + (u - x))
none_balances m v u e x few differ =
    both_ways (can_balance m v u) e
    (member_any (balances m v u) (range_with_len 0 (u + 1)) x
    (member_range 0 (u + 1) x (omega arith) (omega (arith, few)))
    (differ_test (m + x) (v + (u - x)) differ))

-- ---- each part of the list by itself

pub kawasaki_only : (fan : List Ray) (f : LocalFault) → Member (kawasaki_faults fan) f
    → (comes_round fan ≡ false) × (f ≡ Kawasaki)
kawasaki_only fan f =
    cond_both (comes_round fan) [] (Kawasaki ∷ [])
    (λ fs. Member fs f → (comes_round fan ≡ false) × (f ≡ Kawasaki))
    (λ e m. absurd m)
    (λ e m. elim m [ inl g ↦ (e, sym g) | inr n ↦ absurd n ])

module _ (fan : List Ray) where
  abbrev mountains : ℕ
  mountains = count_of_kind Mountain fan

  abbrev valleys : ℕ
  valleys = count_of_kind Valley fan

  abbrev unassigned : ℕ
  unassigned = count_of_kind Unassigned fan

  abbrev IsMaekawa : LocalFault → Type 0
  IsMaekawa f = (can_balance mountains valleys unassigned ≡ false) × (f ≡ Maekawa mountains valleys unassigned)

  pub maekawa_only : (f : LocalFault) → Member (maekawa_faults fan) f → IsMaekawa f
  maekawa_only f =
      cond_both (can_balance mountains valleys unassigned) [] (Maekawa mountains valleys unassigned ∷ [])
      (λ fs. Member fs f → IsMaekawa f)
      (λ e m. absurd m)
      (λ e m. elim m [ inl g ↦ (e, sym g) | inr n ↦ absurd n ])

  pub little_at_only : (k : ℕ) (f : LocalFault) → Member (little_fault_at fan k) f
      → (is_small_sector fan k ≡ true) × (f ≡ BigLittleBig (ray_in fan k).dir)
  little_at_only k f =
      cond_both (is_small_sector fan k) (BigLittleBig (ray_in fan k).dir ∷ []) []
      (λ fs. Member fs f → (is_small_sector fan k ≡ true) × (f ≡ BigLittleBig (ray_in fan k).dir))
      (λ e m. elim m [ inl g ↦ (e, sym g) | inr n ↦ absurd n ])
      (λ e m. absurd m)

  abbrev pub sectors_with_fault : List LocalFault
  sectors_with_fault = flat_map (little_fault_at fan) (range_with_len 0 (length fan))

  pub little_only : (f : LocalFault) → Member (little_faults fan) f
      → (4 ≤ length fan) × ((k : ℕ) × (k < length fan) × (is_small_sector fan k ≡ true)
      × (f ≡ BigLittleBig (ray_in fan k).dir))
  little_only f =
      cond_both (ltb (length fan) 4) [] sectors_with_fault
      (λ fs. Member fs f → (4 ≤ length fan)
      × ((k : ℕ) × (k < length fan) × (is_small_sector fan k ≡ true)
      × (f ≡ BigLittleBig (ray_in fan k).dir)))
      (λ e m. absurd m)
      (λ e m.
      let h = flat_member (little_fault_at fan) (range_with_len 0 (length fan)) f m in
      let g = little_at_only h.0 f h.2 in
      let few = (range_member 0 (length fan) h.0 h.1).1 in
      (ltb-false (length fan) 4 e, (h.0, omega (arith, few), g.0, g.1)))

  little_there : (k : ℕ) → 4 ≤ length fan → k < length fan → is_small_sector fan k ≡ true
      → Member (little_faults fan) (BigLittleBig (ray_in fan k).dir)
  little_there k many few small =
      let f = BigLittleBig (ray_in fan k).dir in
      let here : Member (little_fault_at fan k) f = subst (λ fs. Member fs f)
      (sym (cond-true (is_small_sector fan k) (f ∷ []) [] small)) (inl refl) in
      subst (λ fs. Member fs f)
      (sym (cond-false (ltb (length fan) 4) [] sectors_with_fault (le-ltb (length fan) 4 many)))
      (member_flat (little_fault_at fan) (range_with_len 0 (length fan)) k f
      (member_range 0 (length fan) k (omega arith) (omega (arith, few))) here)

  -- ---- small sectors

  small_words : (k : ℕ) → is_small_sector fan k ≡ true → IsSmallSector fan k
  small_words k e =
      let size = sector_at fan k in
      let alike = fold_one_way (around fan k).kind (around fan (k + 1)).kind in
      let h = and_parts (ltb size (sector_at fan (k + length fan - 1)))
      (ltb size (sector_at fan (k + 1)) && alike) e in
      let g = and_parts (ltb size (sector_at fan (k + 1))) alike h.1 in
      record {
        before = ltb-true size (sector_at fan (k + length fan - 1)) h.0;
        after = ltb-true size (sector_at fan (k + 1)) g.0;
        alike = g.1;
      }

  small_test : (k : ℕ) → IsSmallSector fan k → is_small_sector fan k ≡ true
  small_test k h =
      let size = sector_at fan k in
      let alike = fold_one_way (around fan k).kind (around fan (k + 1)).kind in
      and_from (ltb size (sector_at fan (k + length fan - 1))) (ltb size (sector_at fan (k + 1)) && alike)
      (lt-ltb size (sector_at fan (k + length fan - 1)) h.before)
      (and_from (ltb size (sector_at fan (k + 1))) alike
      (lt-ltb size (sector_at fan (k + 1)) h.after) h.alike)

  -- ---- the balance of mountains and valleys

  maekawa_is : (m v u : ℕ) → m ≡ mountains → v ≡ valleys → u ≡ unassigned
      → maekawa_faults fan ≡ maekawa_unless_balanced m v u
  maekawa_is m v u e f g =
      ap (λ k. maekawa_unless_balanced k valleys unassigned) (sym e)
      ∙ ap (λ k. maekawa_unless_balanced m k unassigned) (sym f)
      ∙ ap (λ k. maekawa_unless_balanced m v k) (sym g)

  can_balance_is : (m v u : ℕ) → m ≡ mountains → v ≡ valleys → u ≡ unassigned
      → can_balance m v u ≡ can_balance mountains valleys unassigned
  can_balance_is m v u e f g =
      ap (λ k. can_balance k v u) e ∙ ap (λ k. can_balance mountains k u) f
      ∙ ap (λ k. can_balance mountains valleys k) g

  maekawa_words : (m v u : ℕ) → can_balance mountains valleys unassigned ≡ false
      → Maekawa m v u ≡ Maekawa mountains valleys unassigned → IsUnbalanced fan m v u
  maekawa_words m v u e f =
      let first : m ≡ mountains = cc in
      let second : v ≡ valleys = cc in
      let third : u ≡ unassigned = cc in
      record {
        mountains = first;
        valleys = second;
        unassigned = third;
        never = none_balances m v u (can_balance_is m v u first second third ∙ e);
      }

  maekawa_there : (m v u : ℕ) → IsUnbalanced fan m v u → Member (maekawa_faults fan) (Maekawa m v u)
  maekawa_there m v u h =
      let test : can_balance m v u ≡ false = false_from_ne_true (can_balance m v u)
      (λ e. let w = some_balances m v u e in h.never w.0 w.1 w.2) in
      subst (λ fs. Member fs (Maekawa m v u))
      (sym (maekawa_is m v u h.mountains h.valleys h.unassigned
      ∙ cond-false (can_balance m v u) [] (Maekawa m v u ∷ []) test)) (inl refl)

  -- ---- the faults of a fan

  abbrev early_faults : List LocalFault
  early_faults = kawasaki_faults fan ++ maekawa_faults fan

  data FromPart (f : LocalFault) : Type 0 where
    by_kawasaki : comes_round fan ≡ false → f ≡ Kawasaki → FromPart f
    by_maekawa : can_balance mountains valleys unassigned ≡ false → f ≡ Maekawa mountains valleys unassigned
        → FromPart f
    by_sector : (k : ℕ) → 4 ≤ length fan → k < length fan → is_small_sector fan k ≡ true
        → f ≡ BigLittleBig (ray_in fan k).dir → FromPart f

  from_part : (f : LocalFault) → Member (fan_faults fan) f → FromPart f
  from_part f m =
      elim (member_either early_faults (little_faults fan) f m) [
        | inl n ↦ elim (member_either (kawasaki_faults fan) (maekawa_faults fan) f n) [
          | inl k ↦ (let h = kawasaki_only fan f k in by_kawasaki h.0 h.1)
          | inr k ↦ (let h = maekawa_only f k in by_maekawa h.0 h.1)
        ]
        | inr n ↦ (let h = little_only f n in by_sector h.1.0 h.0 h.1.1 h.1.2 h.1.3)
      ]

  -- what the fault is not
  kawasaki_breaks : FromPart Kawasaki → ¬ ComesRound fan
  kawasaki_breaks (by_kawasaki e g) back =
      both_ways (comes_round fan) e (eq-eqb (reflected_from fan 0) 0 back)
  kawasaki_breaks (by_maekawa e g) back = absurd (cc)
  kawasaki_breaks (by_sector k a b e g) back = absurd (cc)

  maekawa_breaks : (m v u : ℕ) → FromPart (Maekawa m v u) → IsUnbalanced fan m v u
  maekawa_breaks m v u (by_kawasaki e g) = absurd (cc)
  maekawa_breaks m v u (by_maekawa e g) = maekawa_words m v u e g
  maekawa_breaks m v u (by_sector k a b e g) = absurd (cc)

  sector_breaks : (d : Dir) → FromPart (BigLittleBig d) → HasSmallSector fan d
  sector_breaks d (by_kawasaki e g) = absurd (cc)
  sector_breaks d (by_maekawa e g) = absurd (cc)
  sector_breaks d (by_sector k a b e g) =
      let same : d ≡ (ray_in fan k).dir = cc in (a, (k, b, small_words k e, same))

  pub breaks : (f : LocalFault) → Member (fan_faults fan) f → Breaks fan f
  breaks Kawasaki m = kawasaki_breaks (from_part Kawasaki m)
  breaks (Maekawa m v u) n = maekawa_breaks m v u (from_part (Maekawa m v u) n)
  breaks (BigLittleBig d) m = sector_breaks d (from_part (BigLittleBig d) m)

  pub broken : (f : LocalFault) → Breaks fan f → Member (fan_faults fan) f
  broken Kawasaki h =
      member_left early_faults (little_faults fan) Kawasaki
      (member_left (kawasaki_faults fan) (maekawa_faults fan) Kawasaki
      (subst (λ fs. Member fs Kawasaki)
      (sym (cond-false (comes_round fan) [] (Kawasaki ∷ [])
      (false_from_ne_true (comes_round fan) (λ e. h (eqb-true (reflected_from fan 0) 0 e))))) (inl refl)))
  broken (Maekawa m v u) h =
      member_left early_faults (little_faults fan) (Maekawa m v u)
      (member_right (kawasaki_faults fan) (maekawa_faults fan) (Maekawa m v u) (maekawa_there m v u h))
  broken (BigLittleBig d) h =
      member_right early_faults (little_faults fan) (BigLittleBig d)
      (subst (λ (e : Dir). Member (little_faults fan) (BigLittleBig e)) (sym h.1.3)
      (little_there h.1.0 h.0 h.1.1 (small_test h.1.0 h.1.2)))

-- ---- the faults of a pattern

module _ (pattern : PatternView) (rules : IsPattern pattern) where
  abbrev fan_at : Point → List Ray
  fan_at v = fan_of v pattern.pieces

  at_vertex : (v : Point) (f : VertexFault) → Member (faults_at pattern v) f
      → (v ≡ f.vertex) × Breaks (fan_at v) f.fault
  at_vertex v f m =
      let h = map_member (vertex_fault v) (fan_faults (fan_at v)) f m in (
        ap (λ (t : VertexFault). t.vertex) h.2,
        subst (λ (t : LocalFault). Breaks (fan_at v) t) (ap (λ (t : VertexFault). t.fault) h.2)
            (breaks (fan_at v) h.0 h.1),
      )

  inner : (v : Point) → Member (vertices_of pattern) v → IsInnerEnd pattern v
  inner v m = (((vertices_are_inner_ends pattern).1 v).0 (contained (vertices_of pattern) v m))

  fault_words : (f : VertexFault) → Member (flat_map (faults_at pattern) (vertices_of pattern)) f
      → IsFault pattern f
  fault_words f m =
      let h = flat_member (faults_at pattern) (vertices_of pattern) f m in
      let g = at_vertex h.0 f h.2 in
      let at : Member (vertices_of pattern) f.vertex = subst
      (λ (t : Point). Member (vertices_of pattern) t) g.0 h.1 in (
        inner f.vertex at,
        (
          fan_at f.vertex,
          fan_is f.vertex pattern.pieces rules.meetings,
          subst (λ (t : Point). Breaks (fan_at t) f.fault) g.0 g.1,
        ),
      )

  fault_there : (f : VertexFault) → IsFault pattern f
      → Member (flat_map (faults_at pattern) (vertices_of pattern)) f
  fault_there f h =
      let v = f.vertex in
      let at = member (vertices_of pattern) v (((vertices_are_inner_ends pattern).1 v).1 h.0) in
      let same : h.1.0 ≡ fan_at v = one_fan v pattern.pieces h.1.0 (fan_at v) h.1.1
      (fan_is v pattern.pieces rules.meetings) in
      let here : Breaks (fan_at v) f.fault = subst (λ (fan : List Ray). Breaks fan f.fault) same h.1.2 in
      member_flat (faults_at pattern) (vertices_of pattern) v f at
      (member_map (vertex_fault v) (fan_faults (fan_at v)) f.fault (broken (fan_at v) f.fault here))

  pub faults_are : (f : VertexFault) → Contains (faults_of pattern) f ↔ IsFault pattern f
  unfolding faults_of
  faults_are f = (
    λ c. fault_words f (member (faults_of pattern) f c),
    λ h. contained (faults_of pattern) f (fault_there f h),
  )

  -- ---- Kawasaki by angles

  some_ray : (v : Point) (fan : List Ray) → IsInnerEnd pattern v → IsFan pattern.pieces v fan → 0 < length fan
  some_ray v fan h k = go (h.ends.2)
    where
      p : Piece
      p = h.ends.0

      some : (r : Ray) → Leaves v p r → 0 < length fan
      some r l = let c = (k.rays r).1 (p, h.ends.1, l) in omega (arith, c.1)

      go : IsEndOf p v → 0 < length fan
      go (inl e) = some (ray_of p (direction_number p.segment)) (inl (e, refl))
      go (inr e) = some (ray_of p (direction_number p.segment + 8)) (inr (e, refl))

  pub by_angles : KawasakiIsByAngles pattern (faults_of pattern)
  by_angles v = (
    λ c.
        let h = (faults_are (vertex_fault v Kawasaki)).0 c in (
          h.0,
          (
            h.1.0,
            h.1.1,
            λ straight. h.1.2 ((round_exactly h.1.0 h.1.1.order (some_ray v h.1.0 h.0 h.1.1)).1 straight),
          ),
        ),
    λ h. (faults_are (vertex_fault v Kawasaki)).1 (
      h.0,
      (
        h.1.0,
        h.1.1,
        λ back. h.1.2
            ((round_exactly h.1.0 h.1.1.order (some_ray v h.1.0 h.0 h.1.1)).0 back),
      ),
    ),
  )
