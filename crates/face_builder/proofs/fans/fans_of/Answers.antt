use Rattle.std.proofs.Common.{◌≡◌, ◌+◌, ◌∷◌, ◌++◌, List, drop, arith, subst, ◌∙◌}
use Rattle.std.proofs.lemmas.Grind.{common_steps}
use Rattle.face_builder.specs.declared.half_edges.HalfEdge.{HalfEdge}
use Rattle.face_builder.specs.Fan.{exits_from, exits_at}
use Rattle.face_builder.specs.FanMap.{exits_in}
use Rattle.face_builder.proofs.FanMaps.{fans_step}
use Rattle.face_builder.proofs.fans.fans_of.Goals as goal

pub loop-i-preserved : goal.loop-i-preserved
loop-i-preserved c = λ u.
    let hs = c.args.half_edges.now in
    let i = c.loop-i.i in
    let h = c.index-half_edges-i.result in
    let rest : drop i hs ≡ h ∷ drop (i + 1) hs = grind (arith, common_steps) in
    fans_step c.loop-i.fans c.put_exit.new.fans i h (drop (i + 1) hs) c.in_ok-put_exit.ensures u
    ∙ subst (λ (t : List HalfEdge). exits_in u c.loop-i.fans ++ exits_from i u t ≡ exits_at u hs) rest
    (c.loop-i.invariant u)
