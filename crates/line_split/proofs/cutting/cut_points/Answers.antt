use Rattle.std.proofs.Common.{◌≡◌, arith, ap, sym, ◌∙◌}
use Rattle.std.proofs.lemmas.Grind.{common_steps}
use Rattle.std.specs.Prelude.{Ok, MatchResult}
use Rattle.line_split.specs.declared.cutting.Cutting.{Cutting}
use Rattle.line_split.specs.Answer.{IsCutFault}
use Rattle.line_split.specs.Cuts.{cuts_of}
use Rattle.line_split.specs.CutLaws.{cuts_ascend}
use Rattle.line_split.proofs.SplitLaws.{cuts_found, answer_where}
use Rattle.line_split.proofs.cutting.cut_points.Goals as goal

pub returns-in_err-cutting-clause-out_of_range : goal.returns-in_err-cutting-clause-out_of_range
returns-in_err-cutting-clause-out_of_range c =
    let s = c.args.segment.now in
    let pieces = c.args.pieces.now in
    let answer = c.from_residual.result in
    let exact : MatchResult answer (λ (v : Cutting). cuts_of s pieces ≡ Ok v.points.items)
    (λ fault. IsCutFault fault (cuts_of s pieces)) = grind (arith, common_steps) in
    answer_where s pieces (λ (v : Cutting). v.points.items) answer exact

pub returns-clause-found : goal.returns-clause-found
returns-clause-found c =
    let s = c.args.segment.now in
    let pieces = c.args.pieces.now in
    cuts_found s pieces c.sort_once.new.points.items
    (c.in_ok-cutting.ensures.points ∙ ap Ok (sym c.sort_once.ensures))

pub returns-clause-ascending : goal.returns-clause-ascending
returns-clause-ascending c =
    let s = c.args.segment.now in
    let pieces = c.args.pieces.now in
    cuts_ascend s pieces c.sort_once.new.points.items
    (c.in_ok-cutting.ensures.points ∙ ap Ok (sym c.sort_once.ensures))

pub returns-clause-out_of_range : goal.returns-clause-out_of_range
returns-clause-out_of_range c =
    let s = c.args.segment.now in
    let pieces = c.args.pieces.now in
    let answer = record c.in_ok-cutting.cutting { points = c.sort_once.new.points } in
    answer_where s pieces (λ (v : Cutting). v.points.items) (Ok answer)
    (c.in_ok-cutting.ensures.points ∙ ap Ok (sym c.sort_once.ensures))
