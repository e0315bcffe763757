-- The walk takes the faces in order: each step is the next one.
use Rattle.std.proofs.Common.{◌≡◌, ℕ, zero, suc, ◌+◌, ◌-◌, ◌≤◌, ◌<◌, Bool, true, false, cond, ◌⊎◌, inl, inr, List, [], ◌∷◌, ◌++◌, Option, None, Some, length, refl, sym, ap, subst, ◌∙◌, arith}
use Rattle.std.specs.Prelude.{slice_get}
use Rattle.std.specs.Option.{option_map}
use Rattle.std.proofs.lemmas.Bool.{cases_eq, cases_lt}
use Rattle.std.proofs.lemmas.List.{length-map}
use Rattle.std.proofs.lemmas.Option.{slice_get_within, slice_get-get_or}
use Rattle.crease_model.specs.Rules.{IsPattern}
use Rattle.crease_model.specs.Sheet.{is_sheet}
use Rattle.crease_model.specs.View.{PatternView}
use Rattle.face_builder.specs.declared.half_edges.HalfEdge.{HalfEdge}
use Rattle.face_builder.specs.declared.shared.SharedPiece.{SharedPiece}
use Rattle.face_builder.specs.declared.walk.Step.{Step}
use Rattle.face_builder.specs.Faces.{bad_half_edge, corners_of, faces_among, not_convex}
use Rattle.face_builder.specs.HalfEdge.{half_edges_of}
use Rattle.face_builder.specs.MapRules.{AllAfter}
use Rattle.face_builder.specs.Shared.{shared_from}
use Rattle.face_builder.specs.Walk.{is_reached, face_across, with_step, with_side, with_neighbours, face_half_edges, walked_face, walked_or, walk_from, walk_of}
use Rattle.face_builder.specs.WalkOrder.{IsEarlier, LeadsFrom, IsNextStep, IsWalkOver, IsWalkOf}
use Rattle.face_builder.proofs.AcrossLaws.{few_steps}
use Rattle.face_builder.proofs.ShortWalk.{just_reached}
use Rattle.face_builder.proofs.WalkLaws.{reached_later, all_append}

number_is : (m n : ℕ) → Some m ≡ Some n → m ≡ n
number_is m n e = cc

half_edge_is : (g h : HalfEdge) → Some g ≡ Some h → g ≡ h
half_edge_is g h e = cc

none_is : {F : Type 0} (n : ℕ) → None ≡ Some n → F
none_is n e = absurd (cc)

-- what stands in a list stands there once more is put behind it
get_front : (xs : List Step) (x : Step) (i : ℕ) → i < length xs → slice_get (xs ++ x ∷ []) i ≡ slice_get xs i
get_front [] x i less = absurd (omega (arith, less))
get_front (y ∷ ys) x zero less = refl
get_front (y ∷ ys) x (suc i) less = get_front ys x i (omega (arith, less))

walked_front : (steps : List Step) (s : Step) (i : ℕ) → i ≤ length steps
    → walked_face (steps ++ s ∷ []) i ≡ walked_face steps i
walked_front steps s zero few = refl
walked_front steps s (suc i) few =
    ap (option_map (λ (t : Step). t.face)) (get_front steps s i (omega (arith, few)))

-- a face of the list stands in one of its places
listed_within : (steps : List Step) (i f : ℕ) → walked_face steps i ≡ Some f → i ≤ length steps
listed_within steps zero f e = omega arith
listed_within steps (suc i) f e = go (slice_get steps i) refl e
  where
    go : (o : Option Step) → slice_get steps i ≡ o → option_map (λ (t : Step). t.face) o ≡ Some f
        → suc i ≤ length steps
    go None at k = none_is f k
    go (Some s) at k = omega (arith, slice_get_within steps i s at)

module _ (faces : List (List HalfEdge)) (shared : List SharedPiece) where
  -- from each place before this one a step leads to a face that is listed
  Done : List Step → ℕ → ℕ → Type 0
  Done steps i j =
      (k l : ℕ) (t : Step) → LeadsFrom faces shared steps k l t → IsEarlier k l i j
      → is_reached steps t.face ≡ true

  InOrder : List Step → Type 0
  InOrder steps = AllAfter (IsNextStep faces shared) [] steps

  -- once the half-edge in this place was looked at
  turned_on : (steps : List Step) (i j : ℕ) → Done steps i j
      → ((t : Step) → LeadsFrom faces shared steps i j t → is_reached steps t.face ≡ true)
      → Done steps i (j + 1)
  unfolding Done
  turned_on steps i j done here k l t leads (inl less) = done k l t leads (inl less)
  turned_on steps i j done here k l t leads (inr before) =
      elim (cases_eq l j) [
        | inl same ↦
            here t
            (subst (λ n. LeadsFrom faces shared steps i n t) same
            (subst (λ n. LeadsFrom faces shared steps n l t) before.0 leads))
        | inr other ↦ done k l t leads (inr (before.0, omega (arith, before.1, other)))
      ]

  -- and once a step was put behind the others
  grown : (steps : List Step) (s : Step) (i j : ℕ) → i ≤ length steps → Done steps i j
      → Done (steps ++ s ∷ []) i j
  unfolding Done
  grown steps s i j few done k l t leads before =
      reached_later steps s t.face
      (done k l t
      (leads.0, sym (walked_front steps s k (within before)) ∙ leads.1, leads.2, leads.3, leads.4) before)
    where
      within : IsEarlier k l i j → k ≤ length steps
      within (inl less) = omega (arith, less, few)
      within (inr same) = omega (arith, same.0, few)

  -- what is kept while the half-edges of the i-th face are gone along
  record Holds (steps : List Step) (i j f : ℕ) : Type 0 where
    done : Done steps i j
    order : InOrder steps
    here : walked_face steps i ≡ Some f

  -- the step across the half-edge in this place, if it is of a piece
  step_there : (steps : List Step) (i j f : ℕ) (h : HalfEdge) (t : Step) → walked_face steps i ≡ Some f
      → slice_get (face_half_edges faces f) j ≡ Some h → LeadsFrom faces shared steps i j t
      → (t.from ≡ f) × (h.piece ≡ Some t.piece)
  step_there steps i j f h t here at leads =
      let from : t.from ≡ f = number_is t.from f (sym leads.1 ∙ here) in
      let same : leads.0 ≡ h =
      half_edge_is leads.0 h
      (sym leads.2 ∙ ap (λ n. slice_get (face_half_edges faces n) j) from ∙ at) in
      (from, sym (ap (λ (g : HalfEdge). g.piece) same) ∙ leads.3)

  abbrev step_to : ℕ → ℕ → Step
  step_to f p = record { face = face_across shared p f; from = f; piece = p }

  face_is : (f p : ℕ) (h : HalfEdge) (t : Step) → h.piece ≡ Some p → (t.from ≡ f) × (h.piece ≡ Some t.piece)
      → t.face ≡ face_across shared t.piece t.from → t.face ≡ (step_to f p).face
  face_is f p h t some same face =
      face ∙ ap (face_across shared t.piece) same.0
      ∙ ap (λ n. face_across shared n f) (number_is t.piece p (sym same.1 ∙ some))

  listed_there : (steps : List Step) (i j f p : ℕ) (h : HalfEdge) → slice_get (face_half_edges faces f) j ≡ Some h
      → h.piece ≡ Some p → is_reached steps (step_to f p).face ≡ true → Holds steps i j f
      → Holds steps i (j + 1) f
  listed_there steps i j f p h at some e w =
      record {
        done =
            turned_on steps i j w.done
            (λ t leads.
            let same = face_is f p h t some (step_there steps i j f h t w.here at leads) leads.4 in
            subst (λ n. is_reached steps n ≡ true) (sym same) e);
        order = w.order;
        here = w.here;
      }

  put_behind : (steps : List Step) (i j f p : ℕ) (h : HalfEdge) → slice_get (face_half_edges faces f) j ≡ Some h
      → h.piece ≡ Some p → is_reached steps (step_to f p).face ≡ false → Holds steps i j f
      → Holds (steps ++ step_to f p ∷ []) i (j + 1) f
  unfolding Done InOrder
  put_behind steps i j f p h at some e w =
      let few = listed_within steps i f w.here in
      let new = steps ++ step_to f p ∷ [] in
      let here : walked_face new i ≡ Some f = walked_front steps (step_to f p) i few ∙ w.here in
      record {
        done =
            turned_on new i j (grown steps (step_to f p) i j few w.done)
            (λ t leads.
            let same = face_is f p h t some (step_there new i j f h t here at leads) leads.4 in
            subst (λ n. is_reached new n ≡ true) (sym same) (just_reached shared steps (step_to f p)));
        order =
            all_append (IsNextStep faces shared) [] steps (step_to f p) w.order
            (record {
              i = i;
              j = j;
              leads = (h, w.here, at, some, refl);
              new = e;
              first = λ k l t leads before. w.done k l t leads before;
            });
        here = here;
      }

  along : (steps : List Step) (i j f : ℕ) (h : HalfEdge) → slice_get (face_half_edges faces f) j ≡ Some h
      → Holds steps i j f → Holds (with_side shared f steps h.piece) i (j + 1) f
  along steps i j f h at w = go h.piece refl
    where
      go : (o : Option ℕ) → h.piece ≡ o → Holds (with_side shared f steps o) i (j + 1) f
      go None none =
          record {
            done =
                turned_on steps i j w.done
                (λ t leads.
                none_is t.piece (sym none ∙ (step_there steps i j f h t w.here at leads).1));
            order = w.order;
            here = w.here;
          }
      go (Some p) some = by (is_reached steps (step_to f p).face) refl
        where
          by : (b : Bool) → is_reached steps (step_to f p).face ≡ b
              → Holds (cond b steps (steps ++ step_to f p ∷ [])) i (j + 1) f
          by true e = listed_there steps i j f p h at some e w
          by false e = put_behind steps i j f p h at some e w

  round_face : (steps : List Step) (i j f : ℕ) (hs : List HalfEdge)
      → ((k : ℕ) → slice_get (face_half_edges faces f) (j + k) ≡ slice_get hs k) → Holds steps i j f
      → Holds (with_neighbours shared f steps hs) i (j + length hs) f
  round_face steps i j f [] at w = subst (λ n. Holds steps i n f) (let e : j ≡ j + 0 = omega arith in e) w
  round_face steps i j f (h ∷ hs) at w =
      let first : j + 0 ≡ j = omega arith in
      let more : j + 1 + length hs ≡ j + suc (length hs) = omega arith in
      subst (λ n. Holds (with_neighbours shared f (with_side shared f steps h.piece) hs) i n f) more
      (round_face (with_side shared f steps h.piece) i (j + 1) f hs
      (λ k.
      let shift : j + 1 + k ≡ j + suc k = omega arith in
      ap (slice_get (face_half_edges faces f)) shift ∙ at (suc k))
      (along steps i j f h (sym (ap (slice_get (face_half_edges faces f)) first) ∙ at 0) w))

  next_face : (steps : List Step) (i f : ℕ) → Holds steps i (length (face_half_edges faces f)) f
      → Done steps (i + 1) 0
  unfolding Done
  next_face steps i f w k l t leads (inr none) = absurd (omega (arith, none.1))
  next_face steps i f w k l t leads (inl less) =
      elim (cases_lt k i) [
        | inl before ↦ w.done k l t leads (inl before)
        | inr more ↦
            (let same : k ≡ i = omega (arith, less, more) in
            let from : t.from ≡ f =
            number_is t.from f (sym leads.1 ∙ ap (walked_face steps) same ∙ w.here) in
            let at : slice_get (face_half_edges faces f) l ≡ Some leads.0 =
            sym (ap (λ n. slice_get (face_half_edges faces n) l) from) ∙ leads.2 in
            w.done k l t leads (inr (same, slice_get_within (face_half_edges faces f) l leads.0 at)))
      ]

  -- behind the last listed face there is none
  unlisted : (steps : List Step) (i : ℕ) → walked_face steps i ≡ None → length steps < i
  unlisted steps zero e = none_is 1 (sym e)
  unlisted steps (suc i) e = go (slice_get steps i) refl e
    where
      go : (o : Option Step) → slice_get steps i ≡ o → option_map (λ (t : Step). t.face) o ≡ None
          → length steps < suc i
      go None at k =
          elim (cases_lt i (length steps)) [
            | inl less ↦
                step_none (slice_get steps i) at
                (slice_get-get_or steps i (record { face = 0; from = 0; piece = 0 }) less)
            | inr more ↦ omega (arith, more)
          ]
        where
          step_none : {F : Type 0} {s : Step} (o : Option Step) → o ≡ None → o ≡ Some s → F
          step_none o none some = absurd (cc)
      go (Some s) at k = none_is s.face (sym k)

  no_faces : (fs : List (List HalfEdge)) (f j : ℕ) (h : HalfEdge) → length fs ≡ 0
      → slice_get (face_half_edges fs f) j ≡ Some h → ⊥
  no_faces [] f j h none e = cc
  no_faces (x ∷ xs) f j h none e = omega (arith, none)

  over : (i : ℕ) (turns : List (List HalfEdge)) (steps : List Step) → i + length turns ≡ length faces
      → Done steps i 0 → InOrder steps
      → length (walk_from shared faces i turns steps) ≤ length faces - 1
      → IsWalkOver faces shared (walk_from shared faces i turns steps)
  unfolding Done InOrder
  over i [] steps count done order few =
      record {
        in_order = order;
        whole = λ k l t leads.
            elim (cases_lt 0 (length faces)) [
              | inl some ↦
                  done k l t leads
                  (inl (omega (arith, count, few, some, listed_within steps k t.from leads.1)))
              | inr none ↦ absurd (no_faces faces t.from l leads.0 (omega (arith, none)) leads.2)
            ];
      }
  over i (turn ∷ turns) steps count done order few =
      go (walked_face steps i) refl few
      (λ new d o f. over (i + 1) turns new (omega (arith, count)) d o f)
    where
      go : (o : Option ℕ) → walked_face steps i ≡ o
          → length
          (walked_or o steps
          (λ face. walk_from shared faces (i + 1) turns
          (with_neighbours shared face steps (face_half_edges faces face)))) ≤ length faces - 1
          → ((new : List Step) → Done new (i + 1) 0 → InOrder new
          → length (walk_from shared faces (i + 1) turns new) ≤ length faces - 1
          → IsWalkOver faces shared (walk_from shared faces (i + 1) turns new))
          → IsWalkOver faces shared
          (walked_or o steps
          (λ face. walk_from shared faces (i + 1) turns
          (with_neighbours shared face steps (face_half_edges faces face))))
      go None at f rest =
          record {
            in_order = order;
            whole = λ k l t leads.
                done k l t leads
                (inl (omega (arith, unlisted steps i at, listed_within steps k t.from leads.1)));
          }
      go (Some face) at f rest =
          let hs = face_half_edges faces face in
          let new = with_neighbours shared face steps hs in
          let whole : 0 + length hs ≡ length hs = omega arith in
          let w =
          subst (λ n. Holds new i n face) whole
          (round_face steps i 0 face hs
          (λ k. ap (slice_get hs) (let e : 0 + k ≡ k = omega arith in e))
          (record { done = done; order = order; here = at })) in
          rest new (next_face new i face w) w.order f

  pub is_walk : length (walk_of shared faces) ≤ length faces - 1 → IsWalkOver faces shared (walk_of shared faces)
  unfolding walk_of Done InOrder
  is_walk few =
      let none : 0 + length faces ≡ length faces = omega arith in
      over 0 faces [] none (λ k l t leads before. first k l before) tt few
    where
      first : {F : Type 0} (k l : ℕ) → IsEarlier k l 0 0 → F
      first k l (inl less) = absurd (omega (arith, less))
      first k l (inr less) = absurd (omega (arith, less.1))

-- where each face is convex
pub walk_is : (p : PatternView) → is_sheet p.corners ≡ true → IsPattern p → bad_half_edge (half_edges_of p) ≡ None
    → IsWalkOf p
walk_is p sheet rules convex =
    let faces = faces_among (half_edges_of p) in
    is_walk faces (shared_from faces 1 p.pieces)
    (omega (
      arith,
      few_steps p sheet rules
          (ap (option_map (λ (h : HalfEdge). not_convex h.start h.dir)) convex),
      length-map faces corners_of,
    ))
