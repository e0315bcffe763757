-- A pattern is refused exactly for the causes.
use Rattle.std.proofs.Common.{◌≡◌, ◌↔◌, ℕ, ◌<◌, ◌≤◌, Bool, true, false, cond, List, Option, None, Some, Ok, Err, length, refl, sym, ap, subst, ◌∙◌, arith}
use Rattle.std.specs.Prelude.{IsErrOf, MatchResult, nat_lt}
use Rattle.std.specs.Option.{option_or, option_map}
use Rattle.std.specs.declared.result.Result.{Result}
use Rattle.std.proofs.lemmas.Bool.{lt-ltb, ltb-true, ltb-false, false_from_ne_true}
use Rattle.plane_geometry.specs.declared.Point.{Point}
use Rattle.plane_geometry.specs.declared.Dir.{Dir}
use Rattle.crease_model.specs.View.{PatternView}
use Rattle.face_builder.specs.declared.half_edges.HalfEdge.{HalfEdge}
use Rattle.face_builder.specs.declared.faults.FaceFault.{FaceFault}
use Rattle.face_builder.specs.declared.faults.FaceFault.TheVariants as fault
use Rattle.face_builder.specs.Faces.{FaceRefusal, not_convex, too_many, unreached, bad_half_edge, faces_among, count_refusal, walk_among, face_refusal, IsNotConvexAt, AreTooMany, IsUnreached, HasMemory, IsFaceMap, IsFaceFault}
use Rattle.face_builder.specs.HalfEdge.{half_edges_of}
use Rattle.face_builder.specs.View.{FaceMapView}
use Rattle.face_builder.specs.Walk.{first_unreached}

-- ---- from a refusal to the result

err_is : (x y : FaceFault) → ◌≡◌ {A = Result FaceMapView FaceFault} (Err x) (Err y) → x ≡ y
err_is x y e = cc

ok_not_err : {F : Type 0} (m : FaceMapView) (y : FaceFault)
    → ◌≡◌ {A = Result FaceMapView FaceFault} (Ok m) (Err y) → F
ok_not_err m y e = absurd (cc)

some_is : (x y : FaceRefusal) → Some x ≡ Some y → x ≡ y
some_is x y e = cc

none_is_some : {F : Type 0} (x : FaceRefusal) → None ≡ Some x → F
none_is_some x e = absurd (cc)

-- the fault that tells a refusal
abbrev fault_of : FaceRefusal → FaceFault
fault_of (not_convex at direction) = fault.NotConvex at direction
fault_of (too_many n) = fault.TooManyFaces n
fault_of (unreached f) = fault.Unreached f

refusal_of : FaceFault → Option FaceRefusal
refusal_of (fault.NotConvex at direction) = Some (not_convex at direction)
refusal_of (fault.TooManyFaces n) = Some (too_many n)
refusal_of (fault.Unreached f) = Some (unreached f)
refusal_of fault.Memory = None

tells : (r : FaceRefusal) → refusal_of (fault_of r) ≡ Some r
unfolding refusal_of
tells (not_convex at direction) = refl
tells (too_many n) = refl
tells (unreached f) = refl

told : (e : FaceFault) (o : Option FaceRefusal) (r : FaceRefusal) → IsFaceFault e o → refusal_of e ≡ Some r → o
    ≡ Some r
unfolding refusal_of
told (fault.NotConvex at direction) o r is e = is ∙ e
told (fault.TooManyFaces n) o r is e = is ∙ e
told (fault.Unreached f) o r is e = is ∙ e
told fault.Memory o r is e = none_is_some r e

telling : (e : FaceFault) (o : Option FaceRefusal) (r : FaceRefusal) → IsFaceFault e o → o ≡ Some r
    → (e ≡ fault.Memory → ⊥) → e ≡ fault_of r
telling (fault.NotConvex a d) o r is at memory = ap fault_of (some_is (not_convex a d) r (sym is ∙ at))
telling (fault.TooManyFaces n) o r is at memory = ap fault_of (some_is (too_many n) r (sym is ∙ at))
telling (fault.Unreached f) o r is at memory = ap fault_of (some_is (unreached f) r (sym is ∙ at))
telling fault.Memory o r is at memory = absurd (memory refl)

memory_tells : {e : FaceFault} {r : FaceRefusal} → e ≡ fault.Memory → refusal_of e ≡ Some r → None ≡ Some r
unfolding refusal_of
memory_tells same is = sym (ap refusal_of same) ∙ is

-- a result tells a refusal exactly where the pattern has it and memory did not run out
refused_as : (p : PatternView) (result : Result FaceMapView FaceFault) (r : FaceRefusal) (Cause : Type 0)
    → MatchResult result (λ m. IsFaceMap m p) (λ e. IsFaceFault e (face_refusal p))
    → (face_refusal p ≡ Some r) ↔ Cause
    → IsErrOf result (fault_of r) ↔ (HasMemory result × Cause)
refused_as p (Ok m) r Cause exact cause = (
  (λ e. ok_not_err m (fault_of r) e),
  λ w. none_is_some r (sym exact.0 ∙ cause.1 w.1),
)
refused_as p (Err e) r Cause exact cause = (to, from)
  where
    to : IsErrOf {T = FaceMapView} (Err e) (fault_of r) → HasMemory (Err e) × Cause
    to same =
        let is : refusal_of e ≡ Some r = ap refusal_of (err_is e (fault_of r) same) ∙ tells r in (
          (λ none. none_is_some r (memory_tells (err_is e fault.Memory none) is)),
          cause.0 (told e (face_refusal p) r exact is),
        )

    from : HasMemory (Err e) × Cause → IsErrOf {T = FaceMapView} (Err e) (fault_of r)
    from w = ap Err (telling e (face_refusal p) r exact (cause.1 w.1) (λ z. w.0 (ap Err z)))

-- ---- from the refusal to its cause

abbrev Value : Option HalfEdge → ℕ → Option ℕ → Option FaceRefusal
Value o n u =
    option_or (option_map (λ h. not_convex h.start h.dir) o)
    (option_or (count_refusal n) (option_map unreached u))

NotConvexPart : Option HalfEdge → Point → Dir → Type 0
NotConvexPart o a d = (h : HalfEdge) × (o ≡ Some h) × (h.start ≡ a) × (h.dir ≡ d)

TooManyPart : Option HalfEdge → ℕ → ℕ → Type 0
TooManyPart o n m = (o ≡ None) × (m ≡ n) × (256 < m)

UnreachedPart : Option HalfEdge → ℕ → Option ℕ → ℕ → Type 0
UnreachedPart o n u f = (o ≡ None) × (n ≤ 256) × (u ≡ Some f)

-- what each refusal of the three says of the parts
Said : Option HalfEdge → ℕ → Option ℕ → FaceRefusal → Type 0
Said o n u (not_convex a d) = NotConvexPart o a d
Said o n u (too_many m) = TooManyPart o n m
Said o n u (unreached f) = UnreachedPart o n u f

said : (o : Option HalfEdge) (n : ℕ) (u : Option ℕ) (r : FaceRefusal) → Value o n u ≡ Some r → Said o n u r
unfolding Said NotConvexPart TooManyPart UnreachedPart
said (Some h) n u r e =
    subst (λ x. Said (Some h) n u x) (some_is (not_convex h.start h.dir) r e) (h, refl, refl, refl)
said None n u r e = by (nat_lt 256 n) refl e
  where
    rest : (u : Option ℕ) → option_map unreached u ≡ Some r → nat_lt 256 n ≡ false → Said None n u r
    rest None f at = none_is_some r f
    rest (Some k) f at =
        subst (λ x. Said None n (Some k) x) (some_is (unreached k) r f) (refl, ltb-false 256 n at, refl)

    by : (b : Bool) → nat_lt 256 n ≡ b → option_or (cond b (Some (too_many n)) None) (option_map unreached u)
        ≡ Some r → Said None n u r
    by true at f = subst (λ x. Said None n u x) (some_is (too_many n) r f) (refl, refl, ltb-true 256 n at)
    by false at f = rest u f at

saying : (o : Option HalfEdge) (n : ℕ) (u : Option ℕ) (r : FaceRefusal) → Said o n u r → Value o n u ≡ Some r
unfolding Said NotConvexPart TooManyPart UnreachedPart
saying o n u (not_convex a d) w =
    ap (λ x. Value x n u) w.1 ∙ ap (λ (x : Point). Some (not_convex x w.0.dir)) w.2
    ∙ ap (λ (x : Dir). Some (not_convex a x)) w.3
saying o n u (too_many m) w =
    let many : nat_lt 256 n ≡ true = lt-ltb 256 n (omega (arith, w.1, w.2)) in
    ap (λ x. Value x n u) w.0
    ∙ ap (λ b. option_or (cond b (Some (too_many n)) None) (option_map unreached u)) many
    ∙ ap (λ k. Some (too_many k)) (sym w.1)
saying o n u (unreached f) w =
    let few : nat_lt 256 n ≡ false =
    false_from_ne_true (nat_lt 256 n) (λ e. absurd (omega (arith, ltb-true 256 n e, w.1))) in
    ap (λ x. Value x n u) w.0
    ∙ ap (λ b. option_or (cond b (Some (too_many n)) None) (option_map unreached u)) few
    ∙ ap (option_map unreached) w.2

module _ (p : PatternView) (result : Result FaceMapView FaceFault)
    (exact : MatchResult result (λ m. IsFaceMap m p) (λ e. IsFaceFault e (face_refusal p))) where
  abbrev faces : List (List HalfEdge)
  faces = faces_among (half_edges_of p)

  abbrev bad : Option HalfEdge
  bad = bad_half_edge (half_edges_of p)

  abbrev late : Option ℕ
  late = first_unreached (walk_among faces p.pieces) 1 (length faces)

  cause : (r : FaceRefusal) → (face_refusal p ≡ Some r) ↔ Said bad (length faces) late r
  unfolding face_refusal
  cause r = (said bad (length faces) late r, saying bad (length faces) late r)

  pub not_convex_where : (at : Point) (d : Dir) → IsErrOf result (fault.NotConvex at d)
      ↔ (HasMemory result × IsNotConvexAt p at d)
  unfolding Said NotConvexPart
  not_convex_where at d =
      refused_as p result (not_convex at d) (IsNotConvexAt p at d) exact (cause (not_convex at d))

  pub too_many_where : (n : ℕ) → IsErrOf result (fault.TooManyFaces n) ↔ (HasMemory result × AreTooMany p n)
  unfolding Said TooManyPart
  too_many_where n = refused_as p result (too_many n) (AreTooMany p n) exact (cause (too_many n))

  pub unreached_where : (f : ℕ) → IsErrOf result (fault.Unreached f) ↔ (HasMemory result × IsUnreached p f)
  unfolding Said UnreachedPart
  unreached_where f = refused_as p result (unreached f) (IsUnreached p f) exact (cause (unreached f))
