-- What is in lists that are put together, and in lists of pieces that meet at ends alone.
use Rattle.std.proofs.Common.{◌≡◌, ℕ, zero, suc, ◌⊎◌, inl, inr, List, [], ◌∷◌, map, take, drop, refl, sym, ap, subst, ◌∙◌}
use Rattle.std.specs.Prelude.{Contains}
use Rattle.std.specs.List.{flat_map}
use Rattle.plane_geometry.specs.Stretch.{MeetAtEnds}
use Rattle.plane_geometry.specs.SegmentView.{stretch_of}
use Rattle.crease_model.specs.declared.Piece.{Piece}
use Rattle.crease_model.specs.Rules.{AllMeetAtEnds}
use Rattle.line_split.specs.MemberLaws.{Member, member, contained, all_member, member_left, member_right, member_either}

-- ---- any list

pub member_map : {X A : Type 0} (f : X → A) (xs : List X) (x : X) → Member xs x → Member (map f xs) (f x)
member_map f [] x m = absurd m
member_map f (y ∷ ys) x (inl e) = inl (ap f e)
member_map f (y ∷ ys) x (inr m) = inr (member_map f ys x m)

take_member : {X : Type 0} (n : ℕ) (xs : List X) (z : X) → Member (take n xs) z → Member xs z
take_member zero xs z m = absurd m
take_member (suc n) [] z m = absurd m
take_member (suc n) (x ∷ xs) z (inl e) = inl e
take_member (suc n) (x ∷ xs) z (inr m) = inr (take_member n xs z m)

drop_member : {X : Type 0} (n : ℕ) (xs : List X) (z : X) → Member (drop n xs) z → Member xs z
drop_member zero xs z m = m
drop_member (suc n) [] z m = absurd m
drop_member (suc n) (x ∷ xs) z m = inr (drop_member n xs z m)

-- what is in a slice of a front
pub slice_member : {X : Type 0} (length start end : ℕ) (xs : List X) (z : X) → Contains (take length (drop start (take end xs))) z → Contains xs z
slice_member length start end xs z c =
    contained xs z (take_member end xs z (drop_member start (take end xs) z (take_member length (drop start (take end xs)) z (member _ z c))))

module _ {X A : Type 0} (f : X → List A) where
  pub member_flat_map : (xs : List X) (x : X) (z : A) → Member xs x → Member (f x) z → Member (flat_map f xs) z
  member_flat_map [] x z m n = absurd m
  member_flat_map (y ∷ ys) x z (inl e) n = member_left (f y) (flat_map f ys) z (subst (λ (t : X). Member (f t) z) (sym e) n)
  member_flat_map (y ∷ ys) x z (inr m) n = member_right (f y) (flat_map f ys) z (member_flat_map ys x z m n)

  pub flat_map_member : (xs : List X) (z : A) → Member (flat_map f xs) z → (x : X) × Member xs x × Member (f x) z
  flat_map_member [] z m = absurd m
  flat_map_member (y ∷ ys) z m =
      elim (member_either (f y) (flat_map f ys) z m) [
        | inl n ↦ (y, inl refl, n)
        | inr n ↦ (let w = flat_map_member ys z n in (w.0, inr w.1, w.2))
      ]

-- ---- pieces

pub piece_is : (p q : Piece) → p.kind ≡ q.kind → p.segment ≡ q.segment → p ≡ q
piece_is p q e f = λ i. record { kind = e i; segment = f i }

-- of two pieces of a list whose pieces meet at ends alone
pub members_meet : (ps : List Piece) (p q : Piece) → AllMeetAtEnds ps → Member ps p → Member ps q → (p ≡ q) ⊎ MeetAtEnds (stretch_of p.segment) (stretch_of q.segment)
members_meet [] p q all m n = absurd m
members_meet (r ∷ rs) p q all (inl e) (inl f) = inl (sym e ∙ f)
members_meet (r ∷ rs) p q all (inl e) (inr n) =
    inr (subst (λ t. MeetAtEnds (stretch_of t.segment) (stretch_of q.segment)) e (all_member (λ t. MeetAtEnds (stretch_of r.segment) (stretch_of t.segment)) rs q all.0 n))
members_meet (r ∷ rs) p q all (inr m) (inl f) =
    inr (λ v on_p on_q.
    let both = subst (λ t. MeetAtEnds (stretch_of t.segment) (stretch_of p.segment)) f (all_member (λ t. MeetAtEnds (stretch_of r.segment) (stretch_of t.segment)) rs p all.0 m) v on_q on_p in
    (both.1, both.0))
members_meet (r ∷ rs) p q all (inr m) (inr n) = members_meet rs p q all.1 m n
