-- A segment touches none of the pieces that begin behind its end.
use Rattle.std.proofs.Common.{◌≡◌, ℕ, zero, suc, ◌+◌, ◌<◌, ◌≤◌, Bool, true, false, not, cond, List, [], ◌∷◌, ◌++◌, length, take, drop, get_or, refl, sym, ap, ◌∙◌, arith}
use Rattle.std.specs.Prelude.{Option, None, Some, Ok, filter}
use Rattle.std.specs.Ordering.{is_lt}
use Rattle.std.specs.List.Sorted.{IsPartitionPoint}
use Rattle.std.proofs.lemmas.Bool.{not-false, not_from_false, or_left}
use Rattle.plane_geometry.specs.declared.Point.{Point}
use Rattle.plane_geometry.specs.declared.Segment.{Segment}
use Rattle.plane_geometry.specs.Position.{compare_positions}
use Rattle.plane_geometry.specs.SegmentView.{stretch_of, lesser_end, greater_end}
use Rattle.plane_geometry.specs.CommonPointLaws.{apart_untouched}
use Rattle.crease_model.specs.declared.Piece.{Piece}
use Rattle.line_split.specs.Cuts.{is_touched, touched, untouched, with_piece_cuts, points_or, cuts_from, cuts_of}
use Rattle.line_split.specs.TouchLaws.{untouched_cuts}
use Rattle.crease_store.specs.Rising.{beginning_of, comes_before}
use Rattle.crease_store.proofs.OwnCuts.{filter_taken}

-- each from the place i on fails the test
abbrev FailsFrom : (Piece → Bool) → List Piece → ℕ → Type 0
FailsFrom test xs i = (k : ℕ) (d : Piece) → i ≤ k → k < length xs → test (get_or xs k d) ≡ false

fails_first : (test : Piece → Bool) (x : Piece) (xs : List Piece) → FailsFrom test (x ∷ xs) 0 → test x ≡ false
fails_first test x xs fails = fails 0 x (omega arith) (omega arith)

fails_rest : (test : Piece → Bool) (x : Piece) (xs : List Piece) (i : ℕ) → FailsFrom test (x ∷ xs) (suc i) → FailsFrom test xs i
fails_rest test x xs i fails k d more few = fails (suc k) d (omega (arith, more)) (omega (arith, few))

fails_all : (test : Piece → Bool) (x : Piece) (xs : List Piece) → FailsFrom test (x ∷ xs) 0 → FailsFrom test xs 0
fails_all test x xs fails k d more few = fails (suc k) d (omega arith) (omega (arith, few))

-- ---- the others

module _ (test : Piece → Bool) where
  kept_with : (x : Piece) (xs ys zs : List Piece) → filter test xs ++ ys ≡ filter test zs → filter test (x ∷ xs) ++ ys ≡ filter test (x ∷ zs)
  kept_with x xs ys zs e =
      elim (test x) as (λ b. cond b (x ∷ filter test xs) (filter test xs) ++ ys ≡ cond b (x ∷ filter test zs) (filter test zs))
      [ true ↦ ap (λ (l : List Piece). x ∷ l) e | false ↦ e ]

kept_whole : (test : Piece → Bool) (xs : List Piece) → FailsFrom test xs 0 → xs ≡ filter (λ p. not (test p)) xs
kept_whole test [] fails = refl
kept_whole test (x ∷ xs) fails =
    ap (λ (l : List Piece). x ∷ l) (kept_whole test xs (fails_all test x xs fails))
    ∙ sym (ap (λ (b : Bool). cond b (x ∷ filter (λ p. not (test p)) xs) (filter (λ p. not (test p)) xs)) (not_from_false (test x) (fails_first test x xs fails)))

kept_behind : (test : Piece → Bool) (xs : List Piece) (i : ℕ) → FailsFrom test xs i → filter (λ p. not (test p)) (take i xs) ++ drop i xs ≡ filter (λ p. not (test p)) xs
kept_behind test [] zero fails = refl
kept_behind test [] (suc i) fails = refl
kept_behind test (x ∷ xs) zero fails = kept_whole test (x ∷ xs) fails
kept_behind test (x ∷ xs) (suc i) fails =
    kept_with (λ p. not (test p)) x (take i xs) (drop i xs) xs (kept_behind test xs i (fails_rest test x xs i fails))

-- ---- the cuts

module _ (s : Segment) where
  abbrev is_hit : Piece → Bool
  is_hit p = is_touched (stretch_of s) p

  none_cut : (xs : List Piece) (n : ℕ) (points : List Point) → FailsFrom is_hit xs 0 → Ok points ≡ cuts_from (stretch_of s) n xs points
  none_cut [] n points fails = refl
  none_cut (x ∷ xs) n points fails =
      none_cut xs (n + 1) points (fails_all is_hit x xs fails)
      ∙ sym (ap (λ (o : Option (List Point)). points_or n o (cuts_from (stretch_of s) (n + 1) xs)) (untouched_cuts (stretch_of s) points x.segment (fails_first is_hit x xs fails)))

  cuts_in_reach : (xs : List Piece) (i n : ℕ) (points : List Point) → FailsFrom is_hit xs i → cuts_from (stretch_of s) n (take i xs) points ≡ cuts_from (stretch_of s) n xs points
  cuts_in_reach [] zero n points fails = refl
  cuts_in_reach [] (suc i) n points fails = refl
  cuts_in_reach (x ∷ xs) zero n points fails = none_cut (x ∷ xs) n points fails
  cuts_in_reach (x ∷ xs) (suc i) n points fails =
      elim (with_piece_cuts (stretch_of s) points x.segment) as (λ o. points_or n o (cuts_from (stretch_of s) (n + 1) (take i xs)) ≡ points_or n o (cuts_from (stretch_of s) (n + 1) xs)) [
        | None ↦ refl
        | Some found ↦ cuts_in_reach xs i (n + 1) found (fails_rest is_hit x xs i fails)
      ]

  same_cuts : (xs : List Piece) (i : ℕ) → FailsFrom is_hit xs i → cuts_of s (take i xs) ≡ cuts_of s xs
  unfolding cuts_of
  same_cuts xs i fails = cuts_in_reach xs i 1 (lesser_end s ∷ greater_end s ∷ []) fails

  -- ---- the place where the first piece begins behind the end

  behind_untouched : (p : Piece) → comes_before (greater_end s) (beginning_of p) ≡ true → is_hit p ≡ false
  behind_untouched p e =
      apart_untouched (stretch_of s) (stretch_of p.segment) s.stretch p.segment.stretch
      (or_left (is_lt (compare_positions (stretch_of s).to (stretch_of p.segment).from)) (is_lt (compare_positions (stretch_of p.segment).to (stretch_of s).from)) e)

  abbrev pub begins_in_reach : Piece → Bool
  begins_in_reach p = not (comes_before (greater_end s) (beginning_of p))

  module _ (xs : List Piece) (i : ℕ) (parts : IsPartitionPoint (λ p. begins_in_reach p ≡ true) (λ p. begins_in_reach p ≡ false) xs i) where
    none_behind : FailsFrom is_hit xs i
    none_behind k d more few = behind_untouched (get_or xs k d) (not-false _ (parts.1 k d more few))

    pub reach_cuts : cuts_of s (take i xs) ≡ cuts_of s xs
    reach_cuts = same_cuts xs i none_behind

    pub reach_touched : touched (stretch_of s) (take i xs) ≡ touched (stretch_of s) xs
    reach_touched = filter_taken is_hit xs i none_behind

    pub reach_others : untouched (stretch_of s) (take i xs) ++ drop i xs ≡ untouched (stretch_of s) xs
    reach_others = kept_behind is_hit xs i none_behind
