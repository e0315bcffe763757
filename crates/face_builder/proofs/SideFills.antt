-- What is filled in face by face is the first face with the half-edge.
use Rattle.std.proofs.Common.{◌≡◌, ℕ, suc, ◌+◌, Bool, true, false, cond, ◌&&◌, ◌||◌, List, [], ◌∷◌, refl, ap, subst, ◌∙◌, arith}
use Rattle.std.specs.List.{list_any}
use Rattle.std.proofs.lemmas.Bool.{ne_eqb}
use Rattle.face_builder.specs.declared.half_edges.HalfEdge.{HalfEdge}
use Rattle.face_builder.specs.declared.shared.Sides.{Sides}
use Rattle.face_builder.specs.Shared.{is_forward, is_backward, face_with_from, left_face, right_face}
use Rattle.face_builder.specs.SideFill.{first_number, sides_with, sides_along, sides_among}

-- the number that one face leaves
number_along : (HalfEdge → Bool) → ℕ → List HalfEdge → ℕ → ℕ
number_along test face [] n = n
number_along test face (h ∷ hs) n = number_along test face hs (first_number n (test h) face)

number_among : (HalfEdge → Bool) → ℕ → List (List HalfEdge) → ℕ → ℕ
number_among test f [] n = n
number_among test f (face ∷ faces) n = number_among test (f + 1) faces (number_along test f face n)

left_along : (k face : ℕ) (hs : List HalfEdge) (s : Sides) → (sides_along k face hs s).left
    ≡ number_along (is_forward k) face hs s.left
unfolding number_along
left_along k face [] s = refl
left_along k face (h ∷ hs) s = left_along k face hs (sides_with k face h s)

right_along : (k face : ℕ) (hs : List HalfEdge) (s : Sides) → (sides_along k face hs s).right
    ≡ number_along (is_backward k) face hs s.right
unfolding number_along
right_along k face [] s = refl
right_along k face (h ∷ hs) s = right_along k face hs (sides_with k face h s)

left_among : (k f : ℕ) (faces : List (List HalfEdge)) (s : Sides) → (sides_among k f faces s).left
    ≡ number_among (is_forward k) f faces s.left
unfolding number_among
left_among k f [] s = refl
left_among k f (face ∷ faces) s =
    left_among k (f + 1) faces (sides_along k f face s)
    ∙ ap (number_among (is_forward k) (f + 1) faces) (left_along k f face s)

right_among : (k f : ℕ) (faces : List (List HalfEdge)) (s : Sides) → (sides_among k f faces s).right
    ≡ number_among (is_backward k) f faces s.right
unfolding number_among
right_among k f [] s = refl
right_among k f (face ∷ faces) s =
    right_among k (f + 1) faces (sides_along k f face s)
    ∙ ap (number_among (is_backward k) (f + 1) faces) (right_along k f face s)

-- a number stays
first_stays : (n face : ℕ) (b : Bool) → first_number (suc n) b face ≡ suc n
first_stays n face b = ap (λ t. cond (t && b) face (suc n)) (ne_eqb (suc n) 0 (λ e. omega arith))

number_along_stays : (test : HalfEdge → Bool) (face n : ℕ) (hs : List HalfEdge)
    → number_along test face hs (suc n) ≡ suc n
unfolding number_along
number_along_stays test face n [] = refl
number_along_stays test face n (h ∷ hs) =
    ap (number_along test face hs) (first_stays n face (test h)) ∙ number_along_stays test face n hs

number_among_stays : (test : HalfEdge → Bool) (f n : ℕ) (faces : List (List HalfEdge))
    → number_among test f faces (suc n) ≡ suc n
unfolding number_among
number_among_stays test f n [] = refl
number_among_stays test f n (face ∷ faces) =
    ap (number_among test (f + 1) faces) (number_along_stays test f n face)
    ∙ number_among_stays test (f + 1) n faces

after_one : (test : HalfEdge → Bool) (face : ℕ) (hs : List HalfEdge) (b : Bool)
    → number_along test (suc face) hs 0 ≡ cond (list_any test hs) (suc face) 0
    → number_along test (suc face) hs (cond b (suc face) 0) ≡ cond (b || list_any test hs) (suc face) 0
after_one test face hs true rest = number_along_stays test (suc face) face hs
after_one test face hs false rest = rest

number_along_is : (test : HalfEdge → Bool) (face : ℕ) (hs : List HalfEdge) → number_along test (suc face) hs 0
    ≡ cond (list_any test hs) (suc face) 0
unfolding number_along
number_along_is test face [] = refl
number_along_is test face (h ∷ hs) = after_one test face hs (test h) (number_along_is test face hs)

after_face : (test : HalfEdge → Bool) (f : ℕ) (faces : List (List HalfEdge)) (b : Bool)
    → number_among test (suc (suc f)) faces 0 ≡ face_with_from (suc (suc f)) test faces
    → number_among test (suc f + 1) faces (cond b (suc f) 0)
    ≡ cond b (suc f) (face_with_from (suc f + 1) test faces)
after_face test f faces true rest = number_among_stays test (suc f + 1) f faces
after_face test f faces false rest =
    let next : suc (suc f) ≡ suc f + 1 = omega arith in
    subst (λ n. number_among test n faces 0 ≡ face_with_from n test faces) next rest

number_among_is : (test : HalfEdge → Bool) (f : ℕ) (faces : List (List HalfEdge))
    → number_among test (suc f) faces 0 ≡ face_with_from (suc f) test faces
unfolding number_among
number_among_is test f [] = refl
number_among_is test f (face ∷ faces) =
    ap (number_among test (suc f + 1) faces) (number_along_is test f face)
    ∙ after_face test f faces (list_any test face) (number_among_is test (suc f) faces)

pub sides_found : (k : ℕ) (faces : List (List HalfEdge))
    → sides_among k 1 faces (record { left = 0; right = 0 })
    ≡ record { left = left_face faces k; right = right_face faces k }
unfolding left_face right_face
sides_found k faces =
    let l = left_among k 1 faces (record { left = 0; right = 0 }) ∙ number_among_is (is_forward k) 0 faces in
    let r = right_among k 1 faces (record { left = 0; right = 0 })
    ∙ number_among_is (is_backward k) 0 faces in
    λ i. record { left = l i; right = r i }
