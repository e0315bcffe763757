use Rattle.std.proofs.Common.{◌≡◌, ◌↔◌, ◌≤◌, List, drop, take, sym, ap, subst, ◌∙◌, rules, length, arith}
use Rattle.std.proofs.lemmas.List.{length-take-le, length-drop}
use Rattle.std.specs.List.{Contains}
use Rattle.std.proofs.lemmas.List.Sorted.{IsPartitionPoint-from_clause}
use Rattle.std.specs.List.Sorted.{IsPartitionedBy}
use Rattle.layer_rules.specs.declared.crease_lines.LinedCrease.{LinedCrease}
use Rattle.layer_rules.proofs.CreasesOnLine.{is_before, is_upto, before_first, upto_first, IsPointBy, on_line_is}
use Rattle.layer_rules.proofs.crease_lines.on_line.Goals as goal

pub returns-clause-lined : goal.returns-clause-lined
returns-clause-lined c =
    let lined = c.args.lined.now in
    let line = c.args.line.now in
    let start = c.partition_point-start.result in
    let end = c.partition_point-end.result in
    let back : c.split_at.result.1.now ≡ drop start lined = c.split_at.ensures.back in
    let first : IsPointBy (is_before lined line) lined start =
    IsPartitionPoint-from_clause (is_before lined line) lined start c.partition_point-start.ensures.partitioned
    (before_first lined line c.requires) (λ a r q k. search rules) in
    let upto = subst (λ (xs : List LinedCrease). IsPartitionedBy (is_upto lined line) xs) (sym back)
    (upto_first lined line start c.requires) in
    let last = IsPartitionPoint-from_clause (is_upto lined line) c.split_at.result.1.now end
    c.partition_point-end.ensures.partitioned upto (λ a r q k. search rules) in
    λ x.
    subst (λ (xs : List LinedCrease). Contains xs x ↔ (Contains lined x × (x.line ≡ line)))
    (sym (c.split_at-2.ensures.front ∙ ap (take end) back))
    (on_line_is lined line start end first
    (subst (λ (xs : List LinedCrease). IsPointBy (is_upto lined line) xs end) back last)
    c.partition_point-start.ensures.bound
    (subst (λ (xs : List LinedCrease). end ≤ length xs) back c.partition_point-end.ensures.bound) x)

pub returns-clause-few : goal.returns-clause-few
returns-clause-few c =
    let lined = c.args.lined.now in
    let start = c.partition_point-start.result in
    let back = c.split_at.result.1.now in
    let end = c.partition_point-end.result in
    omega (
      arith,
      ap (λ (l : List LinedCrease). length l) c.split_at-2.ensures.front,
      length-take-le end back c.partition_point-end.ensures.bound,
      ap (λ (l : List LinedCrease). length l) c.split_at.ensures.back,
      length-drop start lined,
    )
