-- The layer orders of a pattern with unassigned creases are those of its assignments.
use Rattle.std.proofs.Common.{◌≡◌, ℕ, zero, suc, ◌+◌, inl, inr, Bool, true, false, cond, not, List, [], ◌∷◌, Option, Some, None, refl, sym, ap, subst, ◌∙◌, arith}
use Rattle.std.specs.Prelude.{◌&&◌, ◌==◌}
use Rattle.std.specs.Bool.{IsTrue}
use Rattle.std.specs.List.{AllZip, Contains, slice_get}
use Rattle.std.proofs.lemmas.Bool.{and_parts, or_cases, eqb-true, true≢false, false≢true}
use Rattle.crease_model.specs.declared.Kind.{Kind}
use Rattle.crease_model.specs.declared.Kind.TheVariants.{Edge, Mountain, Valley, Aux, Unassigned}
use Rattle.crease_model.specs.declared.Piece.{Piece}
use Rattle.crease_model.specs.View.{PatternView}
use Rattle.isometry_map.specs.declared.folded.CreaseImage.{CreaseImage}
use Rattle.isometry_map.specs.Folded.{FoldedView}
use Rattle.isometry_map.specs.Motion.{Motion}
use Rattle.face_builder.specs.declared.half_edges.HalfEdge.{HalfEdge}
use Rattle.face_builder.specs.declared.shared.SharedPiece.{SharedPiece}
use Rattle.face_builder.specs.Faces.{faces_among, face_map_of}
use Rattle.face_builder.specs.HalfEdge.{half_edges_of}
use Rattle.face_builder.specs.Shared.{shared_from}
use Rattle.face_builder.specs.View.{FaceMapView}
use Rattle.wireframe_fold.specs.Crease.{IsSharedImage}
use Rattle.sign_rules.specs.declared.sign.Sign.{Sign}
use Rattle.layer_rules.specs.declared.face_pairs.FacePair.{FacePair}
use Rattle.layer_rules.specs.Faces.{numbered, turned_at, is_shared_by}
use Rattle.layer_rules.specs.Above.{above}
use Rattle.layer_rules.specs.CreaseCondition.{front_is_above, BreaksCreaseCondition}
use Rattle.layer_rules.specs.LayerOrder.{IsLayerOrder}
use Rattle.layer_rules.specs.Layering.{kinds_of, IsShapeOf}
use Rattle.layer_rules.specs.Assignment.{IsAssigned, IsAssignment}
use Rattle.layer_rules.specs.Laws.{OrdersAreOfAssignments}
use Rattle.layer_rules.proofs.SignPlaces.{some_is, none_is_not_some, read_get}

-- ---- creases by their pieces

-- the creases of a shape stand at the places of their pieces
abbrev pub AreByPiece : ℕ → List CreaseImage → Type 0
AreByPiece k creases = (n : ℕ) (c : CreaseImage) → slice_get creases n ≡ Some c → c.piece ≡ k + n

images_by_piece : (faces : List (List HalfEdge)) (k : ℕ) (pieces : List Piece) (ts : List Motion) (creases : List CreaseImage)
    → AllZip (IsSharedImage ts) (shared_from faces k pieces) creases → AreByPiece k creases
images_by_piece faces k [] ts [] h n c e = absurd (none_is_not_some c e)
images_by_piece faces k [] ts (d ∷ creases) h n c e = absurd h
images_by_piece faces k (p ∷ ps) ts [] h n c e = absurd h
images_by_piece faces k (p ∷ ps) ts (d ∷ creases) h zero c e =
    let same : k ≡ k + 0 = omega arith in
    ap (λ (t : CreaseImage). t.piece) (sym (some_is d c e)) ∙ h.0.piece ∙ same
images_by_piece faces k (p ∷ ps) ts (d ∷ creases) h (suc n) c e =
    let same : (k + 1) + n ≡ k + suc n = omega arith in
    images_by_piece faces (k + 1) ps ts creases h.1 n c e ∙ same

shared_is : (p : PatternView) → (face_map_of p).shared ≡ shared_from (faces_among (half_edges_of p)) 1 p.pieces
unfolding face_map_of
shared_is p = refl

pub by_piece : (p : PatternView) (shape : FoldedView) → IsShapeOf p shape → AreByPiece 1 shape.creases
by_piece p shape h =
    let shared : h.0.shared ≡ shared_from (faces_among (half_edges_of p)) 1 p.pieces =
    ap (λ (m : FaceMapView). m.shared) h.1.1 ∙ shared_is p in
    let ts = h.2.0 in
    images_by_piece (faces_among (half_edges_of p)) 1 p.pieces ts shape.creases
    (subst (λ (s : List SharedPiece). AllZip (IsSharedImage ts) s shape.creases) shared h.2.2.creases)

-- ---- assignments, place by place

-- a known kind stays
known_stays : (k kind : Kind) (x : Bool) → front_is_above k ≡ Some x → IsAssigned k kind → kind ≡ k
known_stays Edge kind x e h = h
known_stays Mountain kind x e h = h
known_stays Valley kind x e h = h
known_stays Aux kind x e h = h
known_stays Unassigned kind x e h = absurd (none_is_not_some x e)

known_there : (kinds assigned : List Kind) (n : ℕ) (k : Kind) (x : Bool) → IsAssignment kinds assigned
    → front_is_above k ≡ Some x → slice_get kinds n ≡ Some k → slice_get assigned n ≡ Some k
known_there [] [] n k x h front e = absurd (none_is_not_some k e)
known_there [] (b ∷ bs) n k x h front e = absurd h
known_there (a ∷ rest) [] n k x h front e = absurd h
known_there (a ∷ rest) (b ∷ bs) zero k x h front e =
    let same : a ≡ k = some_is a k e in
    ap Some (known_stays a b x (ap front_is_above same ∙ front) h.0 ∙ same)
known_there (a ∷ rest) (b ∷ bs) (suc n) k x h front e = known_there rest bs n k x h.1 front e

known_numbered : (kinds assigned : List Kind) (n : ℕ) (k : Kind) (x : Bool) → IsAssignment kinds assigned
    → front_is_above k ≡ Some x → numbered kinds n ≡ Some k → numbered assigned n ≡ Some k
known_numbered kinds assigned zero k x h front e = absurd (none_is_not_some k e)
known_numbered kinds assigned (suc n) k x h front e = known_there kinds assigned n k x h front e

-- ---- the assignment that an order makes

-- an unassigned crease as a mountain, or as a valley
abbrev assigned_as : Bool → Kind → Kind
assigned_as up Edge = Edge
assigned_as up Mountain = Mountain
assigned_as up Valley = Valley
assigned_as up Aux = Aux
assigned_as up Unassigned = cond up Mountain Valley

assigned_is : (up : Bool) (k : Kind) → IsAssigned k (assigned_as up k)
assigned_is up Edge = refl
assigned_is up Mountain = refl
assigned_is up Valley = refl
assigned_is up Aux = refl
assigned_is true Unassigned = inl refl
assigned_is false Unassigned = inr refl

-- each crease as the test says
abbrev assigned_by : (CreaseImage → Bool) → List Kind → List CreaseImage → List Kind
assigned_by up [] creases = []
assigned_by up (k ∷ ks) [] = assigned_as true k ∷ assigned_by up ks []
assigned_by up (k ∷ ks) (c ∷ cs) = assigned_as (up c) k ∷ assigned_by up ks cs

by_is_assignment : (up : CreaseImage → Bool) (kinds : List Kind) (creases : List CreaseImage)
    → IsAssignment kinds (assigned_by up kinds creases)
by_is_assignment up [] creases = tt
by_is_assignment up (k ∷ ks) [] = (assigned_is true k, by_is_assignment up ks [])
by_is_assignment up (k ∷ ks) (c ∷ cs) = (assigned_is (up c) k, by_is_assignment up ks cs)

by_at : (up : CreaseImage → Bool) (kinds : List Kind) (creases : List CreaseImage) (n : ℕ) (c : CreaseImage) (kind : Kind)
    → slice_get creases n ≡ Some c → slice_get (assigned_by up kinds creases) n ≡ Some kind
    → (k : Kind) × (slice_get kinds n ≡ Some k) × (kind ≡ assigned_as (up c) k)
by_at up [] creases n c kind at e = absurd (none_is_not_some kind e)
by_at up (k ∷ ks) [] n c kind at e = absurd (none_is_not_some c at)
by_at up (k ∷ ks) (d ∷ ds) zero c kind at e =
    (k, refl, sym (some_is (assigned_as (up d) k) kind e) ∙ ap (λ (t : CreaseImage). assigned_as (up t) k) (some_is d c at))
by_at up (k ∷ ks) (d ∷ ds) (suc n) c kind at e = by_at up ks ds n c kind at e

-- ---- which face is above

abbrev is_said : Option Bool → Bool
is_said None = false
is_said (Some x) = x

module _ (shape : FoldedView) (pairs : List FacePair) (signs : List Sign) where
  -- whether the face with its front up is above the other, where the first of them is turned so
  abbrev front_by : Option Bool → CreaseImage → Option Bool
  front_by None c = above pairs signs c.b c.a
  front_by (Some true) c = above pairs signs c.b c.a
  front_by (Some false) c = above pairs signs c.a c.b

  abbrev front_says : CreaseImage → Option Bool
  front_says c = front_by (turned_at shape.faces c.a) c

  abbrev is_up : CreaseImage → Bool
  is_up c = is_said (front_says c)

  says_as : (f g : ℕ) (c : CreaseImage) → IsTrue (is_shared_by f g c) → turned_at shape.faces f ≡ Some false
      → turned_at shape.faces g ≡ Some true → front_says c ≡ above pairs signs f g
  says_as f g c shared front back =
      elim (or_cases (c.a == f && c.b == g) (c.a == g && c.b == f) shared) [
        | inl h ↦ (let parts = and_parts (c.a == f) (c.b == g) h in straight (eqb-true c.a f parts.0) (eqb-true c.b g parts.1))
        | inr h ↦ (let parts = and_parts (c.a == g) (c.b == f) h in crossed (eqb-true c.a g parts.0) (eqb-true c.b f parts.1))
      ]
    where
      straight : c.a ≡ f → c.b ≡ g → front_says c ≡ above pairs signs f g
      straight e d =
          ap (λ (o : Option Bool). front_by o c) (ap (turned_at shape.faces) e ∙ front)
          ∙ ap (λ (k : ℕ). above pairs signs k c.b) e ∙ ap (above pairs signs f) d

      crossed : c.a ≡ g → c.b ≡ f → front_says c ≡ above pairs signs f g
      crossed e d =
          ap (λ (o : Option Bool). front_by o c) (ap (turned_at shape.faces) e ∙ back)
          ∙ ap (λ (k : ℕ). above pairs signs k c.a) d ∙ ap (above pairs signs f) e

  module _ (kinds : List Kind) where
    abbrev made : List Kind
    made = assigned_by is_up kinds shape.creases

    -- a broken crease of the assignment is broken in the pattern
    known_breaks : (f g : ℕ) (k kind : Kind) (wanted : Bool) (c : CreaseImage)
        → Contains shape.creases c → IsTrue (is_shared_by f g c) → turned_at shape.faces f ≡ Some false
        → turned_at shape.faces g ≡ Some true → numbered kinds c.piece ≡ Some k
        → front_is_above kind ≡ Some wanted → above pairs signs f g ≡ Some (not wanted)
        → kind ≡ assigned_as (not wanted) k
        → BreaksCreaseCondition shape kinds pairs signs
    known_breaks f g Unassigned kind true c there shared front back at e says is =
        absurd (false≢true (some_is false true (ap front_is_above (sym is) ∙ e)))
    known_breaks f g Unassigned kind false c there shared front back at e says is =
        absurd (true≢false (some_is true false (ap front_is_above (sym is) ∙ e)))
    known_breaks f g Edge kind wanted c there shared front back at e says is =
        absurd (none_is_not_some wanted (ap front_is_above (sym is) ∙ e))
    known_breaks f g Aux kind wanted c there shared front back at e says is =
        absurd (none_is_not_some wanted (ap front_is_above (sym is) ∙ e))
    known_breaks f g Mountain kind wanted c there shared front back at e says is = (
      f,
      g,
      Mountain,
      wanted,
      record { crease = c; there = there; shared = shared; front = front; back = back; folded = at },
      ap front_is_above (sym is) ∙ e,
      says,
    )
    known_breaks f g Valley kind wanted c there shared front back at e says is = (
      f,
      g,
      Valley,
      wanted,
      record { crease = c; there = there; shared = shared; front = front; back = back; folded = at },
      ap front_is_above (sym is) ∙ e,
      says,
    )

    made_breaks : AreByPiece 1 shape.creases → BreaksCreaseCondition shape made pairs signs
        → BreaksCreaseCondition shape kinds pairs signs
    made_breaks by h =
        let fold = h.4 in
        let c = fold.crease in
        let n = fold.there.0 in
        let here : slice_get shape.creases n ≡ Some c =
        read_get shape.creases n c fold.there.1 ∙ ap Some fold.there.2 in
        let piece : c.piece ≡ suc n = by n c here ∙ omega arith in
        let w = by_at is_up kinds shape.creases n c h.2 here (ap (numbered made) (sym piece) ∙ fold.folded) in
        let up : is_up c ≡ not h.3 =
        ap is_said (says_as h.0 h.1 c fold.shared fold.front fold.back ∙ h.6) in
        known_breaks h.0 h.1 w.0 h.2 h.3 c fold.there fold.shared fold.front fold.back
        (ap (numbered kinds) piece ∙ w.1) h.5 h.6 (w.2 ∙ ap (λ (b : Bool). assigned_as b w.0) up)

    -- what the pattern breaks, each assignment breaks
    pattern_breaks : (assigned : List Kind) → IsAssignment kinds assigned
        → BreaksCreaseCondition shape kinds pairs signs → BreaksCreaseCondition shape assigned pairs signs
    pattern_breaks assigned is h =
        let fold = h.4 in (
          h.0,
          h.1,
          h.2,
          h.3,
          record {
            crease = fold.crease;
            there = fold.there;
            shared = fold.shared;
            front = fold.front;
            back = fold.back;
            folded = known_numbered kinds assigned fold.crease.piece h.2 h.3 is h.5 fold.folded;
          },
          h.5,
          h.6,
        )

-- with other kinds, where the crease condition is met
with_kinds : (shape : FoldedView) (kinds others : List Kind) (pairs : List FacePair) (signs : List Sign)
    → (BreaksCreaseCondition shape others pairs signs → BreaksCreaseCondition shape kinds pairs signs)
    → IsLayerOrder shape kinds pairs signs → IsLayerOrder shape others pairs signs
with_kinds shape kinds others pairs signs breaks order = record {
  whole = order.whole;
  consistent = record {
    within = order.consistent.within;
    creases = λ h. order.consistent.creases (breaks h);
    tortillas = order.consistent.tortillas;
    tacos = order.consistent.tacos;
    triples = order.consistent.triples;
  };
}

pub orders_are_of_assignments : OrdersAreOfAssignments
orders_are_of_assignments p shape pairs signs is_shape =
    let kinds = kinds_of p.pieces in (
      λ order.
          let made = assigned_by (is_up shape pairs signs) kinds shape.creases in (
            made,
            by_is_assignment (is_up shape pairs signs) kinds shape.creases,
            with_kinds shape kinds made pairs signs (made_breaks shape pairs signs kinds (by_piece p shape is_shape)) order,
          ),
      λ w. with_kinds shape w.0 kinds pairs signs (pattern_breaks shape pairs signs kinds w.0 w.1) w.2,
    )
