use Rattle.std.proofs.lemmas.List.Elements.{All-pop, All-weaker}
use Rattle.fold_jobs.specs.Machine.{IsRightIn}
use Rattle.worked_rows.proofs.posts.post.Goals as goal

pub returns-in_err-post : goal.returns-in_err-post
returns-in_err-post c =
    let before = c.args.session.now.state.jobs in
    let after = c.post.new.self.state.jobs in
    let left = c.pop.new.self.items in
    All-weaker (λ x. IsRightIn before x) (λ x. IsRightIn after x) c.post.ensures.right left
    (All-pop (λ x. IsRightIn before x) c.args.kept.now.items left c.pop.result c.pop.ensures.items c.requires).0

pub returns : goal.returns
returns c =
    let before = c.args.session.now.state.jobs in
    let after = c.post.new.self.state.jobs in
    let left = c.pop.new.self.items in
    All-weaker (λ x. IsRightIn before x) (λ x. IsRightIn after x) c.post.ensures.right left
    (All-pop (λ x. IsRightIn before x) c.args.kept.now.items left c.pop.result c.pop.ensures.items c.requires).0
