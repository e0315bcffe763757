-- The half-edge that goes on from another.
use Rattle.std.proofs.Common.{◌≡◌, ℕ, zero, suc, ◌+◌, ◌<◌, ◌≤◌, true, false, inl, inr, List, [], ◌∷◌, length, Some, refl, sym, ap, subst, ◌∙◌, arith}
use Rattle.std.specs.Prelude.{slice_get, nat_lt}
use Rattle.std.proofs.lemmas.Bool.{cond_both, ltb-true, ltb-false}
use Rattle.std.proofs.lemmas.Option.{get_or_from_slice_get}
use Rattle.plane_geometry.specs.declared.Point.{Point}
use Rattle.plane_geometry.specs.declared.Dir.{Dir}
use Rattle.plane_geometry.specs.DirView.{dir_number}
use Rattle.plane_geometry.specs.Position.{position_of, is_same_position}
use Rattle.plane_geometry.specs.OrderLaws.{point_is_place}
use Rattle.line_split.specs.MemberLaws.{Member}
use Rattle.face_builder.specs.declared.half_edges.HalfEdge.{HalfEdge}
use Rattle.face_builder.specs.declared.fans.Exit.{Exit}
use Rattle.face_builder.specs.Fan.{interior_angle, exits_from, exits_at, nearer, nearest_from, nearest_place, next_place}
use Rattle.face_builder.specs.Faces.{next_half_edge}

-- the place of a half-edge of a list
pub place_of_member : {X : Type 0} (xs : List X) (x : X) → Member xs x → (k : ℕ) × (slice_get xs k ≡ Some x)
place_of_member [] x m = absurd m
place_of_member (y ∷ ys) x (inl e) = (zero, ap Some e)
place_of_member (y ∷ ys) x (inr m) = let h = place_of_member ys x m in (suc h.0, h.1)

pub member_of_place : {X : Type 0} (xs : List X) (k : ℕ) (x : X) → slice_get xs k ≡ Some x → Member xs x
member_of_place [] k x e = cc
member_of_place (y ∷ ys) zero x e = inl (cc)
member_of_place (y ∷ ys) (suc k) x e = inr (member_of_place ys k x e)

pub at_place : {X : Type 0} (xs : List X) (k : ℕ) → k < length xs → (x : X) × (slice_get xs k ≡ Some x)
at_place [] k less = absurd (omega (arith, less))
at_place (x ∷ xs) zero less = (x, refl)
at_place (x ∷ xs) (suc k) less = at_place xs k (omega (arith, less))

-- ---- the exits of a vertex

-- an exit is the place of a half-edge that leaves the vertex, the first of which has the place i
record IsExit (i : ℕ) (v : Point) (hs : List HalfEdge) (e : Exit) : Type 0 where
  place : ℕ
  leaver : HalfEdge
  counted : e.place ≡ i + place
  stands : slice_get hs place ≡ Some leaver
  leaves : leaver.start ≡ v
  dir : e.dir ≡ leaver.dir

later_exit : (i : ℕ) (v : Point) (h : HalfEdge) (hs : List HalfEdge) (e : Exit) → IsExit (i + 1) v hs e
    → IsExit i v (h ∷ hs) e
later_exit i v h hs e x =
    record {
      place = suc x.place;
      leaver = x.leaver;
      counted = omega (arith, x.counted);
      stands = x.stands;
      leaves = x.leaves;
      dir = x.dir;
    }

exit_is : (i : ℕ) (v : Point) (hs : List HalfEdge) (e : Exit) → Member (exits_from i v hs) e → IsExit i v hs e
exit_is i v [] e = λ m. absurd m
exit_is i v (h ∷ hs) e =
    cond_both (is_same_position (position_of h.start) (position_of v))
    (record { place = i; dir = h.dir } ∷ exits_from (i + 1) v hs) (exits_from (i + 1) v hs)
    (λ es. Member es e → IsExit i v (h ∷ hs) e)
    (λ same m.
    elim m [
      | inl at ↦
          record {
            place = zero;
            leaver = h;
            counted = sym (ap (λ (x : Exit). x.place) at) ∙ omega arith;
            stands = refl;
            leaves = (point_is_place h.start v).1 same;
            dir = sym (ap (λ (x : Exit). x.dir) at);
          }
      | inr n ↦ later_exit i v h hs e (exit_is (i + 1) v hs e n)
    ])
    (λ other m. later_exit i v h hs e (exit_is (i + 1) v hs e m))

exit_of : (i : ℕ) (v : Point) (hs : List HalfEdge) (h : HalfEdge) → Member hs h → h.start ≡ v
    → (e : Exit) × Member (exits_from i v hs) e × (e.dir ≡ h.dir)
exit_of i v [] h m at = absurd m
exit_of i v (g ∷ hs) h (inl e) at =
    cond_both (is_same_position (position_of g.start) (position_of v))
    (record { place = i; dir = g.dir } ∷ exits_from (i + 1) v hs) (exits_from (i + 1) v hs)
    (λ es. (x : Exit) × Member es x × (x.dir ≡ h.dir))
    (λ same. (record { place = i; dir = g.dir }, inl refl, ap (λ (x : HalfEdge). x.dir) e))
    (λ other. absurd
    (false_true (sym other ∙ (point_is_place g.start v).0 (ap (λ (x : HalfEdge). x.start) e ∙ at))))
  where
    false_true : false ≡ true → ⊥
    false_true c = cc
exit_of i v (g ∷ hs) h (inr m) at =
    let rest = exit_of (i + 1) v hs h m at in
    cond_both (is_same_position (position_of g.start) (position_of v))
    (record { place = i; dir = g.dir } ∷ exits_from (i + 1) v hs) (exits_from (i + 1) v hs)
    (λ es. (x : Exit) × Member es x × (x.dir ≡ h.dir))
    (λ same. (rest.0, inr rest.1, rest.2))
    (λ other. rest)

-- ---- the nearest exit

abbrev angle : ℕ → Exit → ℕ
angle n e = interior_angle n (dir_number e.dir)

nearer_is : (n : ℕ) (best e : Exit) → (angle n (nearer n best e) ≤ angle n best)
    × (angle n (nearer n best e) ≤ angle n e)
nearer_is n best e =
    cond_both (nat_lt (angle n e) (angle n best)) e best
    (λ x. (angle n x ≤ angle n best) × (angle n x ≤ angle n e))
    (λ less. let l = ltb-true (angle n e) (angle n best) less in (omega (arith, l), omega arith))
    (λ more. let l = ltb-false (angle n e) (angle n best) more in (omega arith, omega (arith, l)))

nearer_in : (n : ℕ) (best e : Exit) (es : List Exit) (x : Exit) → Member (nearer n best e ∷ es) x
    → Member (best ∷ e ∷ es) x
nearer_in n best e es x =
    cond_both (nat_lt (angle n e) (angle n best)) e best (λ b. Member (b ∷ es) x → Member (best ∷ e ∷ es) x)
    (λ less m. inr m)
    (λ more m. elim m [ inl at ↦ inl at | inr k ↦ inr (inr k) ])

nearest_in : (n : ℕ) (best : Exit) (es : List Exit) → Member (best ∷ es) (nearest_from n best es)
nearest_in n best [] = inl refl
nearest_in n best (e ∷ es) =
    nearer_in n best e es (nearest_from n (nearer n best e) es) (nearest_in n (nearer n best e) es)

nearest_least : (n : ℕ) (best : Exit) (es : List Exit) (x : Exit) → Member (best ∷ es) x
    → angle n (nearest_from n best es) ≤ angle n x
nearest_least n best [] x (inl at) = subst (λ (y : Exit). angle n best ≤ angle n y) at (omega arith)
nearest_least n best [] x (inr none) = absurd none
nearest_least n best (e ∷ es) x (inl at) =
    let a = nearest_least n (nearer n best e) es (nearer n best e) (inl refl) in
    subst (λ (y : Exit). angle n (nearest_from n (nearer n best e) es) ≤ angle n y) at
    (omega (arith, a, (nearer_is n best e).0))
nearest_least n best (e ∷ es) x (inr (inl at)) =
    let a = nearest_least n (nearer n best e) es (nearer n best e) (inl refl) in
    subst (λ (y : Exit). angle n (nearest_from n (nearer n best e) es) ≤ angle n y) at
    (omega (arith, a, (nearer_is n best e).1))
nearest_least n best (e ∷ es) x (inr (inr m)) = nearest_least n (nearer n best e) es x (inr m)

-- ---- the next half-edge

-- g leaves where h ends, and no other half-edge that does is nearer clockwise from the way back of h
pub record GoesOn (hs : List HalfEdge) (h g : HalfEdge) : Type 0 where
  pub stands : slice_get hs (next_place hs h) ≡ Some g
  pub joined : g.start ≡ h.end
  pub nearest : (e : HalfEdge) → Member hs e → e.start ≡ h.end
      → interior_angle (dir_number h.dir) (dir_number g.dir)
      ≤ interior_angle (dir_number h.dir) (dir_number e.dir)

goes_by : (hs : List HalfEdge) (h : HalfEdge) (es : List Exit) → exits_at h.end hs ≡ es → (e : Exit)
    → Member es e
    → (g : HalfEdge) × GoesOn hs h g
unfolding exits_at
goes_by hs h [] at e m = absurd m
goes_by hs h (best ∷ es) at e m =
    let n = dir_number h.dir in
    let found = nearest_from n best es in
    let x = exit_is 0 h.end hs found
    (subst (λ (ys : List Exit). Member ys found) (sym at) (nearest_in n best es)) in
    let counted : found.place ≡ x.place = omega (arith, x.counted) in
    let place : next_place hs h ≡ x.place = ap (nearest_place n) at ∙ counted in (
      x.leaver,
      record {
        stands = ap (slice_get hs) place ∙ x.stands;
        joined = x.leaves;
        nearest = λ g k leaves.
            let y = exit_of 0 h.end hs g k leaves in
            subst (λ (d : Dir). interior_angle n (dir_number d) ≤ interior_angle n (dir_number g.dir)) x.dir
            (subst (λ (d : Dir). interior_angle n (dir_number found.dir)
            ≤ interior_angle n (dir_number d)) y.2
            (nearest_least n best es y.0 (subst (λ (ys : List Exit). Member ys y.0) at y.1)));
      },
    )

pub goes_on : (hs : List HalfEdge) (h e : HalfEdge) → Member hs e → e.start ≡ h.end → (g : HalfEdge)
    × GoesOn hs h g
unfolding exits_at
goes_on hs h e m at =
    let x = exit_of 0 h.end hs e m at in
    goes_by hs h (exits_at h.end hs) refl x.0 x.1

pub next_is : (hs : List HalfEdge) (h g : HalfEdge) → GoesOn hs h g → next_half_edge hs h ≡ g
next_is hs h g k = get_or_from_slice_get hs (next_place hs h) g h k.stands
