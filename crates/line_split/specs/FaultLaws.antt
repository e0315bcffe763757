-- A segment has no list of cut points exactly where some common point is not of two Surds; the number is that
-- of the first piece with such a point.
use Rattle.std.proofs.Common.{◌≡◌, ℕ, ◌+◌, Bool, true, false, not, cond, List, [], ◌∷◌, ◌++◌, length, inl, inr, refl, sym, ap, subst, ◌∙◌, arith}
use Rattle.std.specs.Prelude.{Option, None, Some, Err}
use Rattle.std.proofs.lemmas.Bool.{and_parts, and_from, not-true, not_from_false}
use Rattle.plane_geometry.specs.declared.Point.{Point}
use Rattle.plane_geometry.specs.declared.Segment.{Segment}
use Rattle.plane_geometry.specs.Position.{position_of}
use Rattle.plane_geometry.specs.SegmentView.{stretch_of, lesser_end, greater_end}
use Rattle.plane_geometry.specs.Stretch.{is_touching}
use Rattle.plane_geometry.specs.Common.{is_parallel, common_of}
use Rattle.plane_geometry.specs.StretchLaws.{on_parts}
use Rattle.plane_geometry.specs.CommonPointLaws.{touching_is}
use Rattle.plane_geometry.specs.CommonLaws.{common_some}
use Rattle.crease_model.specs.declared.Piece.{Piece}
use Rattle.line_split.specs.MemberLaws.{Member, member, contained}
use Rattle.line_split.specs.Cuts.{is_meeting, with_ends, with_common, with_piece_cuts, points_or, cuts_from, cuts_of, MeetsOutOfRange, IsFirstOutOfRange}
use Rattle.line_split.specs.CutLaws.{common_is_on}

-- ---- at one piece

module _ (s u : Segment) (xs : List Point) where
  out_of_range : is_meeting (stretch_of s) (stretch_of u) ≡ true
      → common_of (stretch_of s) (stretch_of u) ≡ None → MeetsOutOfRange (stretch_of s) (stretch_of u)
  out_of_range e f =
      let k = and_parts (not (is_parallel (stretch_of s) (stretch_of u)))
      (is_touching (stretch_of s) (stretch_of u)) e in
      let turned = not-true _ k.0 in
      record {
        turned = turned;
        shared = (touching_is (stretch_of s) (stretch_of u) s.stretch u.stretch).0 k.1;
        none = λ p on_s on_u.
            let found = common_some (stretch_of s) (stretch_of u) (omega (arith, s.dir.in_range))
            (omega (arith, u.dir.in_range)) turned p (
              (on_parts (position_of p) (stretch_of s) s.stretch on_s).in_line,
              (on_parts (position_of p) (stretch_of u) u.stretch on_u).in_line,
            ) in
            let clash : None ≡ Some p = sym f ∙ found in
            absurd (cc);
      }

  none_out_of_range : with_piece_cuts (stretch_of s) xs u ≡ None
      → MeetsOutOfRange (stretch_of s) (stretch_of u)
  none_out_of_range =
      go (is_meeting (stretch_of s) (stretch_of u)) (common_of (stretch_of s) (stretch_of u)) refl refl
    where
      go : (b : Bool) (o : Option Point) → is_meeting (stretch_of s) (stretch_of u) ≡ b
          → common_of (stretch_of s) (stretch_of u) ≡ o
          → cond b (with_common (with_ends (stretch_of s) xs u) o)
          (Some (with_ends (stretch_of s) xs u)) ≡ None → MeetsOutOfRange (stretch_of s) (stretch_of u)
      go false o f g e = absurd (cc)
      go true None f g e = out_of_range f g
      go true (Some p) f g e = absurd (cc)

  none_from_out_of_range : MeetsOutOfRange (stretch_of s) (stretch_of u)
      → with_piece_cuts (stretch_of s) xs u ≡ None
  none_from_out_of_range out =
      go (is_meeting (stretch_of s) (stretch_of u)) (common_of (stretch_of s) (stretch_of u)) refl refl
    where
      meets : is_meeting (stretch_of s) (stretch_of u) ≡ true
      meets =
          and_from (not (is_parallel (stretch_of s) (stretch_of u))) _ (not_from_false _ out.turned)
          ((touching_is (stretch_of s) (stretch_of u) s.stretch u.stretch).1 out.shared)

      go : (b : Bool) (o : Option Point) → is_meeting (stretch_of s) (stretch_of u) ≡ b
          → common_of (stretch_of s) (stretch_of u) ≡ o
          → cond b (with_common (with_ends (stretch_of s) xs u) o)
          (Some (with_ends (stretch_of s) xs u)) ≡ None
      go false o f g = let clash : false ≡ true = sym f ∙ meets in absurd (cc)
      go true None f g = refl
      go true (Some p) f g = let on = common_is_on s u p f g in absurd (out.none p on.0 on.1)

-- ---- at the first of some pieces

-- as IsFirstOutOfRange, with the numbers from n
record IsFirstFrom (s : Segment) (n : ℕ) (pieces : List Piece) (m : ℕ) : Type 0 where
  earlier : List Piece
  piece : Piece
  later : List Piece
  split : pieces ≡ earlier ++ piece ∷ later
  number_is : m ≡ length earlier + n
  meets : MeetsOutOfRange (stretch_of s) (stretch_of piece.segment)
  first : (p : Piece) → Member earlier p → MeetsOutOfRange (stretch_of s) (stretch_of p.segment) → ⊥

first_from_fault : (s : Segment) (m n : ℕ) (ps : List Piece) (xs : List Point)
    → cuts_from (stretch_of s) n ps xs ≡ Err m → IsFirstFrom s n ps m
first_from_fault s m n [] xs e = absurd (cc)
first_from_fault s m n (p ∷ ps) xs e =
    go (first_from_fault s m (n + 1) ps) (with_piece_cuts (stretch_of s) xs p.segment) refl e
  where
    go : ((all : List Point) → cuts_from (stretch_of s) (n + 1) ps all ≡ Err m → IsFirstFrom s (n + 1) ps m)
        → (o : Option (List Point)) → with_piece_cuts (stretch_of s) xs p.segment ≡ o
        → points_or n o (cuts_from (stretch_of s) (n + 1) ps) ≡ Err m → IsFirstFrom s n (p ∷ ps) m
    go rest None f e =
        let number : n ≡ m = cc in
        record {
          earlier = [];
          piece = p;
          later = ps;
          split = refl;
          number_is = omega (arith, number);
          meets = none_out_of_range s p.segment xs f;
          first = λ q k out. absurd k;
        }
    go rest (Some all) f e =
        let r = rest all e in
        record {
          earlier = p ∷ r.earlier;
          piece = r.piece;
          later = r.later;
          split = ap (λ qs. p ∷ qs) r.split;
          number_is = omega (arith, r.number_is);
          meets = r.meets;
          first = λ q k out. elim k [
            | inl same ↦
                (let here = subst (λ (t : Piece). MeetsOutOfRange (stretch_of s) (stretch_of t.segment))
                (sym same) out in
                let clash : None ≡ Some all = sym (none_from_out_of_range s p.segment xs here) ∙ f in
                absurd (cc))
            | inr k ↦ r.first q k out
          ];
        }

fault_from_first : (s : Segment) (n : ℕ) (earlier : List Piece) (piece : Piece) (later : List Piece)
    (xs : List Point) → MeetsOutOfRange (stretch_of s) (stretch_of piece.segment)
    → ((p : Piece) → Member earlier p → MeetsOutOfRange (stretch_of s) (stretch_of p.segment) → ⊥)
    → cuts_from (stretch_of s) n (earlier ++ piece ∷ later) xs ≡ Err (length earlier + n)
fault_from_first s n [] piece later xs meets first =
    let number : n ≡ length {A = Piece} [] + n = omega arith in
    ap (λ o. points_or n o (cuts_from (stretch_of s) (n + 1) later))
    (none_from_out_of_range s piece.segment xs meets) ∙ ap Err number
fault_from_first s n (q ∷ qs) piece later xs meets first =
    go (λ all. fault_from_first s (n + 1) qs piece later all meets (λ p m. first p (inr m)))
    (with_piece_cuts (stretch_of s) xs q.segment) refl
  where
    go : ((all : List Point)
        → cuts_from (stretch_of s) (n + 1) (qs ++ piece ∷ later) all ≡ Err (length qs + (n + 1)))
        → (o : Option (List Point)) → with_piece_cuts (stretch_of s) xs q.segment ≡ o
        → points_or n o (cuts_from (stretch_of s) (n + 1) (qs ++ piece ∷ later)) ≡ Err (length (q ∷ qs) + n)
    go rest None f = absurd (first q (inl refl) (none_out_of_range s q.segment xs f))
    go rest (Some all) f =
        let number : length qs + (n + 1) ≡ length (q ∷ qs) + n = omega arith in rest all ∙ ap Err number

-- ---- the refusal

pub fault_is_first : (s : Segment) (pieces : List Piece) (number : ℕ) → cuts_of s pieces ≡ Err number
    → IsFirstOutOfRange (stretch_of s) pieces number
unfolding cuts_of
fault_is_first s pieces number e =
    let r = first_from_fault s number 1 pieces (lesser_end s ∷ greater_end s ∷ []) e in
    record {
      earlier = r.earlier;
      piece = r.piece;
      later = r.later;
      split = r.split;
      number_is = r.number_is;
      meets = r.meets;
      first = λ p c. r.first p (member r.earlier p c);
    }

pub first_is_fault : (s : Segment) (pieces : List Piece) (number : ℕ)
    → IsFirstOutOfRange (stretch_of s) pieces number → cuts_of s pieces ≡ Err number
unfolding cuts_of
first_is_fault s pieces number first =
    let start = lesser_end s ∷ greater_end s ∷ [] in
    ap (λ ps. cuts_from (stretch_of s) 1 ps start) first.split
    ∙ fault_from_first s 1 first.earlier first.piece first.later start first.meets
    (λ p m. first.first p (contained first.earlier p m)) ∙ ap Err (sym first.number_is)
