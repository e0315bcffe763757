-- Chains that are sorted once are the pieces of a merge.
use Rattle.std.proofs.Common.{◌≡◌, ◌⊎◌, Bool, true, false, not, cond, inl, inr, ℕ, ◌≤◌, List, [], ◌∷◌, ◌++◌, length, drop, map, refl, sym, ap, subst, ◌∙◌}
use Rattle.std.specs.Prelude.{Contains}
use Rattle.std.specs.List.{filter}
use Rattle.std.proofs.lemmas.List.{append-nil, drop_all}
use Rattle.plane_geometry.specs.SegmentView.{stretch_of, lesser_end}
use Rattle.plane_geometry.specs.Stretch.{MeetAtEnds}
use Rattle.crease_model.specs.declared.Piece.{Piece}
use Rattle.crease_model.specs.Rules.{AllMeetAtEnds, is_ascending, segments_of}
use Rattle.line_split.specs.MemberLaws.{Member, member, member_filter}
use Rattle.crease_store.specs.InOrder.{segment_at, with_all_in_order, HaveOneOnEach}
use Rattle.crease_store.specs.Merged.{is_loose, merged_from, merged_among}
use Rattle.crease_store.proofs.Ascending.{one_ascending}
use Rattle.crease_store.proofs.InOrderLaws.{placed_all_ascends, placed_all_either, placed_all_has}
use Rattle.crease_store.proofs.Members.{member_map, members_meet}
use Rattle.crease_store.proofs.Merges.{not_itself, IsFrom, differ, from_merged, merged_there, ascending_merged}

-- the chains that begin with one of ps, in the order of their first pieces
abbrev pub chains_among : List Piece → List Piece → List Piece
chains_among pieces ps = map (merged_from pieces) (filter (λ p. not (is_loose pieces (lesser_end p.segment))) ps)

-- once a loop over the pieces is through
pub all_chains : (pieces chains : List Piece) (i : ℕ) → length pieces ≤ i → chains ++ chains_among pieces (drop i pieces) ≡ chains_among pieces pieces → chains ≡ chains_among pieces pieces
all_chains pieces chains i all e = sym (append-nil chains) ∙ ap (λ (l : List Piece). chains ++ chains_among pieces l) (sym (drop_all i pieces all)) ∙ e

chain_from : (pieces ps : List Piece) (z : Piece) → Member (chains_among pieces ps) z → IsFrom pieces ps z
chain_from pieces [] z m = absurd m
chain_from pieces (p ∷ ps) z m = go (is_loose pieces (lesser_end p.segment)) refl m (λ n. later (chain_from pieces ps z n))
  where
    later : IsFrom pieces ps z → IsFrom pieces (p ∷ ps) z
    later w = record { first = w.first; there = inr w.there; begins = w.begins; is = w.is }

    go : (b : Bool) → is_loose pieces (lesser_end p.segment) ≡ b → Member (map (merged_from pieces) (cond (not b) (p ∷ filter (λ p. not (is_loose pieces (lesser_end p.segment))) ps) (filter (λ p. not (is_loose pieces (lesser_end p.segment))) ps))) z
        → (Member (chains_among pieces ps) z → IsFrom pieces (p ∷ ps) z) → IsFrom pieces (p ∷ ps) z
    go true e n rest = rest n
    go false e (inl f) rest = record { first = p; there = inl refl; begins = e; is = f }
    go false e (inr n) rest = rest n

from_chain : (pieces ps : List Piece) (z : Piece) → IsFrom pieces ps z → Member (chains_among pieces ps) z
from_chain pieces ps z w = subst (Member (chains_among pieces ps)) w.is (go ps w.there)
  where
    go : (qs : List Piece) → Member qs w.first → Member (chains_among pieces qs) (merged_from pieces w.first)
    go qs m = member_map (merged_from pieces) (filter (λ p. not (is_loose pieces (lesser_end p.segment))) qs) w.first
        (member_filter (λ p. not (is_loose pieces (lesser_end p.segment))) qs w.first m (ap not w.begins))

module _ (pieces : List Piece) (meetings : AllMeetAtEnds pieces) (up : is_ascending (segments_of pieces) ≡ true) where
  -- two chains on one segment are one chain
  one_chain : (y z : Piece) → Member (chains_among pieces pieces) y → Member (chains_among pieces pieces) z → y.segment ≡ z.segment → y ≡ z
  one_chain y z m n same =
      let w = chain_from pieces pieces y m in
      let u = chain_from pieces pieces z n in
      elim (members_meet pieces w.first u.first meetings w.there u.there) [
        | inl e ↦ sym w.is ∙ ap (merged_from pieces) e ∙ u.is
        | inr meet ↦
            absurd (differ pieces meetings w.first u.first w.there u.there w.begins u.begins
            (λ e. not_itself w.first.segment (subst (λ (t : Piece). MeetAtEnds (stretch_of w.first.segment) (stretch_of t.segment)) (sym e) meet))
            (ap segment_at w.is ∙ same ∙ sym (ap segment_at u.is)))
      ]

  pub one_on_each_chain : HaveOneOnEach [] (chains_among pieces pieces)
  one_on_each_chain y z m n same = one_chain y z (of y m) (of z n) same
    where
      of : (t : Piece) → Contains (chains_among pieces pieces) t ⊎ Contains [] t → Member (chains_among pieces pieces) t
      of t (inl c) = member _ t c
      of t (inr c) = absurd (member [] t c)

  pub merged_once : with_all_in_order segment_at [] (chains_among pieces pieces) ≡ merged_among pieces pieces
  merged_once =
      one_ascending segment_at (with_all_in_order segment_at [] (chains_among pieces pieces)) (merged_among pieces pieces)
      (placed_all_ascends segment_at [] (chains_among pieces pieces) refl) (ascending_merged pieces meetings pieces) to from
    where
      chain : (z : Piece) → Member (chains_among pieces pieces) z ⊎ Member [] z → Member (chains_among pieces pieces) z
      chain z (inl m) = m
      chain z (inr m) = absurd m

      to : (z : Piece) → Member (with_all_in_order segment_at [] (chains_among pieces pieces)) z → Member (merged_among pieces pieces) z
      to z m =
          let w = chain_from pieces pieces z (chain z (placed_all_either segment_at [] (chains_among pieces pieces) z m)) in
          subst (Member (merged_among pieces pieces)) w.is (merged_there pieces meetings pieces (λ t k. k) up w.first w.there w.begins)

      from : (z : Piece) → Member (merged_among pieces pieces) z → Member (with_all_in_order segment_at [] (chains_among pieces pieces)) z
      from z m =
          let there = from_chain pieces pieces z (from_merged pieces pieces z m) in
          placed_all_has segment_at [] (chains_among pieces pieces) z (λ t k same. one_chain t z (chain t k) there same) (inl there)
