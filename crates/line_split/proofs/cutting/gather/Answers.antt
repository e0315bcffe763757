use Rattle.std.proofs.Common.{◌≡◌, [], ◌∷◌, ◌++◌, rules, ap, ◌∙◌}
use Rattle.line_split.specs.Points.{in_order}
use Rattle.line_split.proofs.Gathered.{in_order_more}
use Rattle.line_split.proofs.cutting.gather.Goals as goal

pub returns-clause-ok : goal.returns-clause-ok
returns-clause-ok c =
    let pushed : c.push.new.self.items ≡ c.args.points.now.items ++ c.args.v.now ∷ [] = search rules in
    ap in_order pushed ∙ in_order_more c.args.points.now.items c.args.v.now
