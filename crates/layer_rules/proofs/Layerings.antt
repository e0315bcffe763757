-- Why a pattern has no layers, by what the calls below say.
use Rattle.std.specs.Prelude.{Result, Ok, Err, IfOk, ◌↔◌, Option, None, Some}
use Rattle.std.proofs.Common.{◌≡◌, ℕ, ◌<◌, ◌≤◌, List, length, refl, sym, ap, subst, ◌∙◌, arith}
use Rattle.plane_geometry.specs.declared.Point.{Point}
use Rattle.plane_geometry.specs.declared.Dir.{Dir}
use Rattle.crease_model.specs.View.{PatternView}
use Rattle.isometry_map.specs.Folded.{FoldedView}
use Rattle.face_builder.specs.declared.faults.FaceFault.{FaceFault}
use Rattle.face_builder.specs.declared.faults.FaceFault.TheVariants as face
use Rattle.face_builder.specs.Faces.{FaceRefusal, face_refusal, IsFaceMap, IsFaceFault, IsNotConvexAt, AreTooMany, IsUnreached, HasMemory as HasFacesMemory}
use Rattle.face_builder.specs.View.{FaceMapView}
use Rattle.wireframe_fold.specs.declared.faults.WireFault.{WireFault}
use Rattle.wireframe_fold.specs.declared.faults.WireFault.TheVariants as wire
use Rattle.wireframe_fold.specs.Fold.{IsShape, IsWireFault, HasMemory as HasWireMemory}
use Rattle.layer_rules.specs.declared.face_pairs.PairsFault.{PairsFault}
use Rattle.layer_rules.specs.declared.face_pairs.PairsFault.TheVariants as pairs
use Rattle.layer_rules.specs.declared.layering.InstanceFault.{InstanceFault}
use Rattle.layer_rules.specs.declared.layering.InstanceFault.TheVariants.{NotConvex, TooManyFaces, Unreached, DoesNotClose, FoldRange, TooManyLines, TooManyPairs, Memory}
use Rattle.layer_rules.specs.Answer.{HasMemory as HasPairsMemory}
use Rattle.layer_rules.specs.declared.face_pairs.FacePair.{FacePair}
use Rattle.layer_rules.specs.FacePairs.{IsPairList, HasPairCount, most_pairs}
use Rattle.layer_rules.specs.Layering.{LayeringView, IsShapeOf, KeepsInsidesOf, IsFaultBeforePairs, IsInstanceFault, AreTooManyPairs, HasMemory, fault_of_faces, fault_of_folding, fault_of_pairs}
use Rattle.layer_rules.proofs.Refusals.{counted}

-- what `faces` says of a refusal
record SaysWhy (p : PatternView) (r : Result FaceMapView FaceFault) : Type 0 where
  pub convex : (at : Point) (direction : Dir) → r ≡ Err (face.NotConvex at direction)
      → HasFacesMemory r × IsNotConvexAt p at direction
  pub many : (n : ℕ) → r ≡ Err (face.TooManyFaces n) → HasFacesMemory r × AreTooMany p n
  pub unreached : (f : ℕ) → r ≡ Err (face.Unreached f) → HasFacesMemory r × IsUnreached p f

faces_why : (p : PatternView) (r : Result FaceMapView FaceFault) (fault : FaceFault) → SaysWhy p r → r ≡ Err fault
    → IsFaultBeforePairs p (fault_of_faces fault)
faces_why p r (face.NotConvex at direction) why same = (why.convex at direction same).1
faces_why p r (face.TooManyFaces n) why same = (why.many n same).1
faces_why p r (face.Unreached f) why same = (why.unreached f same).1
faces_why p r face.Memory why same = tt

pub no_faces : (p : PatternView) (r : Result FaceMapView FaceFault) (fault : FaceFault)
    → ((at : Point) (direction : Dir) → (r ≡ Err (face.NotConvex at direction))
    ↔ (HasFacesMemory r × IsNotConvexAt p at direction))
    → ((n : ℕ) → (r ≡ Err (face.TooManyFaces n)) ↔ (HasFacesMemory r × AreTooMany p n))
    → ((f : ℕ) → (r ≡ Err (face.Unreached f)) ↔ (HasFacesMemory r × IsUnreached p f)) → r ≡ Err fault
    → IsFaultBeforePairs p (fault_of_faces fault)
no_faces p r fault convex many unreached same =
    faces_why p r fault (record {
      convex = λ at direction e. (convex at direction).0 e;
      many = λ n e. (many n).0 e;
      unreached = λ f e. (unreached f).0 e;
    }) same

pub no_folding : (p : PatternView) (m : FaceMapView) (fault : WireFault) → IsFaceMap m p → IsWireFault m fault
    → IsFaultBeforePairs p (fault_of_folding fault)
no_folding p m (wire.DoesNotClose piece) map h = (m, map, h)
no_folding p m (wire.FoldRange number) map h = (m, map, h)
no_folding p m (wire.TooManyLines lines) map h = (m, map, h)
no_folding p m wire.Memory map h = tt

pub no_shape : (p : PatternView) (fault : InstanceFault) → IsFaultBeforePairs p fault → IsInstanceFault p fault
no_shape p (NotConvex at direction) h = h
no_shape p (TooManyFaces faces) h = h
no_shape p (Unreached number) h = h
no_shape p (DoesNotClose piece) h = h
no_shape p (FoldRange number) h = h
no_shape p (TooManyLines lines) h = h
no_shape p (TooManyPairs count) h = absurd h
no_shape p Memory h = tt

pub no_pairs : {T : Type 0} (p : PatternView) (shape : FoldedView) (r : Result T PairsFault) (fault : PairsFault)
    → IsShapeOf p shape
    → ((n : ℕ) → (r ≡ Err (pairs.TooManyPairs n)) ↔ (HasPairsMemory r × (most_pairs < n) × HasPairCount shape n))
    → r ≡ Err fault → IsInstanceFault p (fault_of_pairs fault)
no_pairs p shape r (pairs.TooManyPairs n) folded many same =
    let found = (many n).0 same in (shape, folded, found.1, found.2)
no_pairs p shape r pairs.Memory folded many same = tt

-- ---- of a result

err_is : {T E : Type 0} (x y : E) → ◌≡◌ {A = Result T E} (Err x) (Err y) → x ≡ y
err_is x y e = cc

ok_is : {T E : Type 0} (x y : T) → ◌≡◌ {A = Result T E} (Ok x) (Ok y) → x ≡ y
ok_is x y e = cc

ok_not_err : {T E F : Type 0} (x : T) (y : E) → ◌≡◌ {A = Result T E} (Ok x) (Err y) → F
ok_not_err x y e = absurd (cc)

refused : {F : Type 0} (o : Option FaceRefusal) (r : FaceRefusal) → o ≡ None → o ≡ Some r → F
refused o r e f = absurd (cc)

-- where a pattern has a shape, nothing but want of memory is told in its place
no_map : (p : PatternView) (fault : FaceFault) (shape : FoldedView) → IsFaceFault fault (face_refusal p)
    → HasMemory {T = FoldedView} (Err (fault_of_faces fault)) → IsShapeOf p shape → ⊥
no_map p (face.NotConvex at direction) shape is some h = refused (face_refusal p) _ h.1.0 is
no_map p (face.TooManyFaces n) shape is some h = refused (face_refusal p) _ h.1.0 is
no_map p (face.Unreached f) shape is some h = refused (face_refusal p) _ h.1.0 is
no_map p face.Memory shape is some h = some refl

pub shape_without_map : (p : PatternView) (fault : FaceFault) (shape : FoldedView)
    → IsFaceFault fault (face_refusal p)
    → (Err (fault_of_faces fault) ≡ Ok shape)
    ↔ (HasMemory {T = FoldedView} (Err (fault_of_faces fault)) × IsShapeOf p shape)
shape_without_map p fault shape is =
    (λ e. ok_not_err shape (fault_of_faces fault) (sym e), λ w. absurd (no_map p fault shape is w.0 w.1))

one_map : (p : PatternView) (m : FaceMapView) (shape : FoldedView) → IsFaceMap m p → IsShapeOf p shape
    → IsShape m shape
one_map p m shape map h = subst (λ (n : FaceMapView). IsShape n shape) (h.1.1 ∙ sym map.1) h.2

not_memory : (fault : WireFault) → HasMemory {T = FoldedView} (Err (fault_of_folding fault))
    → HasWireMemory (Err fault)
not_memory fault some e = some (ap (λ (x : WireFault). Err (fault_of_folding x)) (err_is fault wire.Memory e))

pub shape_without_folding : (p : PatternView) (m : FaceMapView) (fault : WireFault) (shape : FoldedView)
    → IsFaceMap m p → ((f : FoldedView) → (Err fault ≡ Ok f) ↔ (HasWireMemory (Err fault) × IsShape m f))
    → (Err (fault_of_folding fault) ≡ Ok shape)
    ↔ (HasMemory {T = FoldedView} (Err (fault_of_folding fault)) × IsShapeOf p shape)
shape_without_folding p m fault shape map made = (
  λ e. ok_not_err shape (fault_of_folding fault) (sym e),
  λ w. ok_not_err shape fault (sym ((made shape).1 (not_memory fault w.0, one_map p m shape map w.1))),
)

pub shape_folded : (p : PatternView) (m : FaceMapView) (folded shape : FoldedView) → IsFaceMap m p
    → ((f : FoldedView) → (◌≡◌ {A = Result FoldedView WireFault} (Ok folded) (Ok f))
    ↔ (HasWireMemory (Ok folded) × IsShape m f))
    → (◌≡◌ {A = Result FoldedView InstanceFault} (Ok folded) (Ok shape))
    ↔ (HasMemory {T = FoldedView} (Ok folded) × IsShapeOf p shape)
shape_folded p m folded shape map made = (
  λ e. (
    (λ none. ok_not_err folded Memory none),
    (m, map, ((made shape).0 (ap Ok (ok_is folded shape e))).1),
  ),
  λ w. ap Ok (ok_is folded shape ((made shape).1 ((λ none. ok_not_err folded wire.Memory none), one_map p m shape map w.1))),
)

-- ---- too many pairs

number_is : (m n : ℕ) → TooManyPairs m ≡ TooManyPairs n → m ≡ n
number_is m n e = cc

many_not_memory : {F : Type 0} (n : ℕ) → TooManyPairs n ≡ Memory → F
many_not_memory n e = absurd (cc)

pair_number_is : (m n : ℕ) → pairs.TooManyPairs m ≡ pairs.TooManyPairs n → m ≡ n
pair_number_is m n e = cc

-- want of memory is no refusal of pairs
pub memory_is_not_many : {T : Type 0} (shape : FoldedView) (n : ℕ)
    → (◌≡◌ {A = Result T InstanceFault} (Err Memory) (Err (TooManyPairs n)))
    ↔ (HasMemory {T = T} (Err Memory) × (most_pairs < n) × HasPairCount shape n)
memory_is_not_many {T} shape n = (
  λ e. many_not_memory n (sym (err_is {T = T} Memory (TooManyPairs n) e)),
  λ w. absurd (w.0 refl),
)

pub pairs_refused : {T U : Type 0} (shape : FoldedView) (fault : PairsFault) (n : ℕ)
    → ((n : ℕ) → (◌≡◌ {A = Result U PairsFault} (Err fault) (Err (pairs.TooManyPairs n)))
    ↔ (HasPairsMemory {T = U} (Err fault) × (most_pairs < n) × HasPairCount shape n))
    → (◌≡◌ {A = Result T InstanceFault} (Err (fault_of_pairs fault)) (Err (TooManyPairs n)))
    ↔ (HasMemory {T = T} (Err (fault_of_pairs fault)) × (most_pairs < n) × HasPairCount shape n)
pairs_refused {T} {U} shape (pairs.TooManyPairs m) n many = (
  λ e.
      let same = number_is m n (err_is {T = T} (TooManyPairs m) (TooManyPairs n) e) in
      let h = (many n).0 (ap (λ (k : ℕ). Err (pairs.TooManyPairs k)) same) in
      ((λ none. many_not_memory m (err_is {T = T} (TooManyPairs m) Memory none)), h.1, h.2),
  λ w.
      let kept : HasPairsMemory {T = U} (Err (pairs.TooManyPairs m)) =
      λ none. pair_many_not_memory m (err_is {T = U} (pairs.TooManyPairs m) pairs.Memory none) in
      let e = err_is {T = U} (pairs.TooManyPairs m) (pairs.TooManyPairs n) ((many n).1 (kept, w.1, w.2)) in
      ap (λ (k : ℕ). Err (TooManyPairs k)) (pair_number_is m n e),
)
  where
    pair_many_not_memory : {F : Type 0} (n : ℕ) → pairs.TooManyPairs n ≡ pairs.Memory → F
    pair_many_not_memory n e = absurd (cc)
pairs_refused shape pairs.Memory n many = memory_is_not_many shape n

-- a shape with a list of pairs that are not too many has no other number of them
pub pairs_accepted : {T : Type 0} (shape : FoldedView) (list : List FacePair) (answer : T) (n : ℕ)
    → IsPairList shape list → length list ≤ most_pairs
    → (◌≡◌ {A = Result T InstanceFault} (Ok answer) (Err (TooManyPairs n)))
    ↔ (HasMemory {T = T} (Ok answer) × (most_pairs < n) × HasPairCount shape n)
pairs_accepted shape list answer n h few = (
  λ e. ok_not_err answer (TooManyPairs n) e,
  λ w. absurd (omega (arith, few, w.1, counted shape list n h w.2)),
)

pub many_before_pairs : {T : Type 0} (p : PatternView) (fault : InstanceFault) (n : ℕ)
    → IsFaultBeforePairs p fault
    → ((shape : FoldedView) → (Err fault ≡ Ok shape) ↔ (HasMemory {T = FoldedView} (Err fault) × IsShapeOf p shape))
    → (◌≡◌ {A = Result T InstanceFault} (Err fault) (Err (TooManyPairs n)))
    ↔ (HasMemory {T = T} (Err fault) × AreTooManyPairs p n)
many_before_pairs {T} p fault n before made = (
  λ e.
      absurd
      (subst (IsFaultBeforePairs p) (err_is {T = T} fault (TooManyPairs n) e) before),
  λ w.
      let none : HasMemory {T = FoldedView} (Err fault) =
      λ e. w.0 (ap (λ (x : InstanceFault). Err x) (err_is {T = FoldedView} fault Memory e)) in
      ok_not_err w.1.0 fault (sym ((made w.1.0).1 (none, w.1.1))),
)

pub many_of_shape : {T : Type 0} (p : PatternView) (folded : FoldedView) (r : Result T InstanceFault) (n : ℕ)
    → IsShapeOf p folded
    → ((shape : FoldedView) → (◌≡◌ {A = Result FoldedView InstanceFault} (Ok folded) (Ok shape))
    ↔ (HasMemory {T = FoldedView} (Ok folded) × IsShapeOf p shape))
    → (r ≡ Err (TooManyPairs n)) ↔ (HasMemory r × (most_pairs < n) × HasPairCount folded n)
    → (r ≡ Err (TooManyPairs n)) ↔ (HasMemory r × AreTooManyPairs p n)
many_of_shape p folded r n is made many = (
  λ e. let h = many.0 e in (h.0, (folded, is, h.1, h.2)),
  λ w.
      let same : folded ≡ w.1.0 =
      ok_is folded w.1.0 ((made w.1.0).1 ((λ none. ok_not_err folded Memory none), w.1.1)) in
      many.1 (w.0, w.1.2, subst (λ (s : FoldedView). HasPairCount s n) (sym same) w.1.3),
)

-- what holds of a shape holds of the layers of it
pub insides_of_layers : (p : PatternView) (folded : FoldedView) (r : Result LayeringView InstanceFault)
    → KeepsInsidesOf p folded → IfOk r (λ l. l.shape ≡ folded) → IfOk r (λ l. KeepsInsidesOf p l.shape)
insides_of_layers p folded (Ok l) kept same = subst (KeepsInsidesOf p) (sym same) kept
insides_of_layers p folded (Err fault) kept same = tt
