-- Marks for the cycles of leaders: where next places are a permutation, a place leads exactly where no lesser
-- leader's cycle has it.
use Rattle.std.proofs.Common.{◌≡◌, ℕ, ◌+◌, ◌<◌, ◌≤◌, Bool, true, false, cond, ◌||◌, nat_eq, inl, inr, List, [], ◌∷◌, ◌++◌, drop, length, slice_index_or, refl, sym, ap, subst, ◌∙◌, arith}
use Rattle.std.specs.Prelude.{◌↔◌}
use Rattle.std.specs.List.{list_any}
use Rattle.std.proofs.lemmas.Bool.{cases_lt, cases_eq, both_ways as not_both, eqb-true, eq-eqb, or_cases, or_left, or_right}
use Rattle.std.proofs.lemmas.List.{append_assoc, drop_more}
use Rattle.line_split.specs.MemberLaws.{Member, any_member, member_any}
use Rattle.face_builder.specs.Cycle.{ArePermuted, is_leader, cycle_from, leaders_from}
use Rattle.face_builder.proofs.Partition.{led, leader_least, one_leader}

-- a leader before place n whose cycle has the place k
pub record IsMarkedBy (nexts : List ℕ) (n k : ℕ) : Type 0 where
  pub leader : ℕ
  pub below : leader < n
  pub leads : is_leader nexts leader ≡ true
  pub within : Member (cycle_from nexts leader) k

abbrev pub AreMarked : List ℕ → ℕ → List Bool → Type 0
AreMarked nexts n marks =
    (k : ℕ) (d : Bool) → k < length nexts → (slice_index_or marks k d ≡ true) ↔ IsMarkedBy nexts n k

module _ (nexts : List ℕ) where
  later_mark : (n k : ℕ) → IsMarkedBy nexts n k → IsMarkedBy nexts (n + 1) k
  later_mark n k r =
      record { leader = r.leader; below = omega (arith, r.below); leads = r.leads; within = r.within }

  pub none_marked : (marks : List Bool) → ((k : ℕ) (d : Bool) → k < length nexts
      → slice_index_or marks k d ≡ false) → AreMarked nexts 0 marks
  none_marked marks none k d less = (
    (λ e. absurd (not_both (slice_index_or marks k d) (none k d less) e)),
    (λ r. absurd (omega (arith, r.below))),
  )

  in_own_cycle : (n : ℕ) → Member (cycle_from nexts n) n
  unfolding cycle_from
  in_own_cycle n = inl refl

  -- a marked place does not lead
  pub marked_follows : (n : ℕ) (marks : List Bool) (d : Bool) → AreMarked nexts n marks → n < length nexts
      → slice_index_or marks n d ≡ true → is_leader nexts n ≡ false
  marked_follows n marks d marked less e = go (is_leader nexts n) refl
    where
      go : (b : Bool) → is_leader nexts n ≡ b → b ≡ false
      go true leads =
          let r = (marked n d less).0 e in
          let same = one_leader nexts r.leader n n r.leads leads r.within (in_own_cycle n) in
          absurd (omega (arith, r.below, same))
      go false leads = refl

  -- one that is not marked does
  pub unmarked_leads : ArePermuted nexts → (n : ℕ) (marks : List Bool) (d : Bool) → AreMarked nexts n marks
      → n < length nexts → slice_index_or marks n d ≡ false → is_leader nexts n ≡ true
  unfolding cycle_from
  unmarked_leads permuted n marks d marked less e =
      let r = led nexts permuted.into permuted.apart n less in
      elim (cases_lt r.leader n) [
        | inl before ↦
            (let mark : IsMarkedBy nexts n n =
            record { leader = r.leader; below = before; leads = r.leads; within = r.within_cycle } in
            absurd (not_both (slice_index_or marks n d) e ((marked n d less).1 mark)))
        | inr at ↦
            (let low : r.leader ≤ n = leader_least nexts r.leader r.leads n r.within_cycle in
            let same : r.leader ≡ n = omega (arith, at, low) in
            subst (λ l. is_leader nexts l ≡ true) same r.leads)
      ]

  -- once the cycle of a leader is marked too
  pub cycle_marked : (n : ℕ) (old new : List Bool) → AreMarked nexts n old → is_leader nexts n ≡ true
      → ((k : ℕ) (d : Bool) → k < length nexts
      → slice_index_or new k d ≡ (slice_index_or old k d || list_any (nat_eq k) (cycle_from nexts n)))
      → AreMarked nexts (n + 1) new
  cycle_marked n old new marked leads value k d less = (
    (λ e.
        elim (or_cases (slice_index_or old k d) (list_any (nat_eq k) (cycle_from nexts n))
        (sym (value k d less) ∙ e)) [
          | inl before ↦ later_mark n k ((marked k d less).0 before)
          | inr here ↦
              (let w = any_member (nat_eq k) (cycle_from nexts n) here in
              let same : k ≡ w.0 = eqb-true k w.0 w.2 in
              record {
                leader = n;
                below = omega arith;
                leads = leads;
                within = subst (Member (cycle_from nexts n)) (sym same) w.1;
              })
        ]),
    (λ r.
        value k d less
        ∙ elim (cases_lt r.leader n) [
          | inl before ↦
              (let mark : IsMarkedBy nexts n k =
              record { leader = r.leader; below = before; leads = r.leads; within = r.within } in
              or_left (slice_index_or old k d) _ ((marked k d less).1 mark))
          | inr at ↦
              (let same : r.leader ≡ n = omega (arith, r.below, at) in
              or_right (slice_index_or old k d) _
              (member_any (nat_eq k) (cycle_from nexts n) k
              (subst (λ l. Member (cycle_from nexts l) k) same r.within) (eq-eqb k k refl)))
        ]),
  )

  -- a place that does not lead has no cycle to mark
  pub none_to_mark : (n : ℕ) (marks : List Bool) → AreMarked nexts n marks → is_leader nexts n ≡ false
      → AreMarked nexts (n + 1) marks
  none_to_mark n marks marked none k d less = (
    (λ e. later_mark n k ((marked k d less).0 e)),
    (λ r.
        elim (cases_eq r.leader n) [
          | inl same ↦
              absurd
              (not_both (is_leader nexts n) none (subst (λ l. is_leader nexts l ≡ true) same r.leads))
          | inr other ↦
              (let mark : IsMarkedBy nexts n k =
              record {
                leader = r.leader;
                below = omega (arith, r.below, other);
                leads = r.leads;
                within = r.within;
              } in
              (marked k d less).1 mark)
        ]),
  )

  -- ---- the leaders found so far

  led_on : (i : ℕ) (b : Bool) → i < length nexts → is_leader nexts i ≡ b
      → leaders_from nexts i (drop i nexts)
      ≡ cond b (i ∷ leaders_from nexts (i + 1) (drop (i + 1) nexts))
      (leaders_from nexts (i + 1) (drop (i + 1) nexts))
  led_on i b less e =
      ap (leaders_from nexts i) (drop_more nexts i 0 less)
      ∙ ap (λ c. cond c (i ∷ leaders_from nexts (i + 1) (drop (i + 1) nexts))
      (leaders_from nexts (i + 1) (drop (i + 1) nexts))) e

  pub leader_found : (i : ℕ) (found all : List ℕ) → i < length nexts → is_leader nexts i ≡ true
      → found ++ leaders_from nexts i (drop i nexts) ≡ all
      → (found ++ i ∷ []) ++ leaders_from nexts (i + 1) (drop (i + 1) nexts) ≡ all
  leader_found i found all less e h =
      append_assoc found (i ∷ []) (leaders_from nexts (i + 1) (drop (i + 1) nexts))
      ∙ ap (λ ls. found ++ ls) (sym (led_on i true less e)) ∙ h

  pub none_found : (i : ℕ) (found all : List ℕ) → i < length nexts → is_leader nexts i ≡ false
      → found ++ leaders_from nexts i (drop i nexts) ≡ all
      → found ++ leaders_from nexts (i + 1) (drop (i + 1) nexts) ≡ all
  none_found i found all less e h = ap (λ ls. found ++ ls) (sym (led_on i false less e)) ∙ h
