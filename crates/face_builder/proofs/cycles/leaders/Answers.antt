use Rattle.std.proofs.Common.{rules, ◌≡◌, ℕ, Bool, true, false, ◌||◌, nat_eq, [], ◌∷◌, ◌++◌, ◌+◌, ◌<◌, drop, length, slice_index_or, sym, ap, subst, ◌∙◌, arith}
use Rattle.std.specs.List.{list_any}
use Rattle.face_builder.specs.Cycle.{is_leader, cycle_from, leaders_from}
use Rattle.face_builder.proofs.Marks.{AreMarked, unmarked_leads, marked_follows, cycle_marked, none_to_mark, leader_found, none_found}
use Rattle.face_builder.proofs.cycles.leaders.Goals as goal
use Rattle.face_builder.proofs.cycles.leaders.Goals.{then-not-index+in_ok-push, else-not-index}

pub loop-i-preserved : goal.loop-i-preserved
loop-i-preserved c =
    let nexts = c.args.nexts.now in
    let i = c.loop-i.i in
    let old = c.loop-i.marks.items in
    let known = c.loop-i.invariant in
    let less : i < length nexts = omega arith in
    let rest = leaders_from nexts (i + 1) (drop (i + 1) nexts) in
    let all = leaders_from nexts 0 nexts in
    elim c.if-not-index.branch [
      | then-not-index+in_ok-push w ↦
          (let unmarked : slice_index_or old i false ≡ false = search rules in
          let leads : is_leader nexts i ≡ true =
          unmarked_leads nexts c.requires.permuted i old false known.marked less unmarked in
          let items : c.if-not-index.leaders.items ≡ c.loop-i.leaders.items ++ i ∷ [] = search rules in
          let count : length c.if-not-index.marks.items ≡ length nexts = search rules in
          let value : (k : ℕ) (d : Bool) → k < length nexts
          → slice_index_or c.if-not-index.marks.items k d
          ≡ (slice_index_or old k d || list_any (nat_eq k) (cycle_from nexts i)) =
          λ k d few. search rules in
          record {
            count = count;
            marked = cycle_marked nexts i old c.if-not-index.marks.items known.marked leads value;
            found = ap (λ ls. ls ++ rest) items
                ∙ leader_found nexts i c.loop-i.leaders.items all less leads known.found;
          })
      | else-not-index w ↦
          (let marked : slice_index_or old i false ≡ true = search rules in
          let follows : is_leader nexts i ≡ false =
          marked_follows nexts i old false known.marked less marked in
          let items : c.if-not-index.leaders.items ≡ c.loop-i.leaders.items = search rules in
          let marks : c.if-not-index.marks.items ≡ old = search rules in
          record {
            count = ap length marks ∙ known.count;
            marked = subst (AreMarked nexts (i + 1)) (sym marks)
                (none_to_mark nexts i old known.marked follows);
            found = ap (λ ls. ls ++ rest) items
                ∙ none_found nexts i c.loop-i.leaders.items all less follows known.found;
          })
    ]
