use Rattle.std.proofs.Common.{◌≡◌, ◌+◌, length, sym, ap, ◌∙◌, subst, arith}
use Rattle.std.specs.List.{IsFirstBest}
use Rattle.std.specs.Ordering.{is_lt}
use Rattle.std.proofs.lemmas.List.MinMax.{IsFirstBest-none, IsFirstBest-keeps, IsFirstBest-takes}
use Rattle.crease_model.proofs.LeastCorners.{comes_before, points_rank, first_least}
use Rattle.crease_model.proofs.corners.least_corner.Goals.{then-is_lt, else-is_lt}
use Rattle.crease_model.proofs.corners.least_corner.Goals as goal

pub loop-i-init : goal.loop-i-init
loop-i-init c = IsFirstBest-none points_rank c.args.corners.now

pub loop-i-preserved : goal.loop-i-preserved
loop-i-preserved c =
    let corners = c.args.corners.now in
    let before : comes_before c.index-corners-i.result c.index-corners-least.result
    ≡ c.is_lt.result = sym (c.is_lt.ensures ∙ ap is_lt c.cmp.ensures) in
    elim c.if-is_lt.branch [
      | then-is_lt w ↦ subst (λ b. IsFirstBest comes_before corners (c.loop-i.i + 1) b) (sym w.least-is)
          (IsFirstBest-takes points_rank corners c.loop-i.i c.loop-i.least c.index-corners-i.result
          c.index-corners-least.result c.loop-i.invariant
          (omega arith) c.index-corners-i.is c.index-corners-least.is (before ∙ w.if-is_lt.true))
      | else-is_lt w ↦ subst (λ b. IsFirstBest comes_before corners (c.loop-i.i + 1) b) (sym w.least-is)
          (IsFirstBest-keeps points_rank corners c.loop-i.i c.loop-i.least c.index-corners-i.result
          c.index-corners-least.result c.loop-i.invariant
          (omega arith) c.index-corners-i.is c.index-corners-least.is (before ∙ w.if-is_lt.false))
    ]

pub returns-clause-value : goal.returns-clause-value
returns-clause-value c =
    let corners = c.args.corners.now in
    let end : c.loop-i.i ≡ length corners = omega arith in
    sym (first_least corners c.loop-i.least
    (subst (λ n. IsFirstBest comes_before corners n c.loop-i.least) end c.loop-i.invariant))
