use Rattle.std.proofs.Common.{◌≡◌, ◌∙◌, ap, sym, subst, arith, List, length, IsTrue}
use Rattle.std.specs.Prelude.{◌↔◌}
use Rattle.std.specs.List.{AllZip}
use Rattle.rayon.specs.Lists.{filter_by_mask}
use Rattle.rayon.proofs.ListFacts.{IfOk-then, AllZip-weaken, length-filter_by_mask}
use Rattle.layer_rules.specs.declared.face_pairs.FacePair.{FacePair}
use Rattle.layer_rules.specs.FacePairs.{IsFacePair, IsPairList}
use Rattle.layer_rules.proofs.PairLists.{kept_pairs}
use Rattle.layer_rules.proofs.face_pairs.meeting.Goals as goal

pub returns : goal.returns
returns g c =
    let shape = c.args.shape.now in
    let candidates = c.args.candidates.now in
    IfOk-then c.collect.result _ _ c.collect.ensures (λ v h.
    let chain = rw (c.filter.ensures.base, c.filter.ensures.f, c.copied.ensures) at h.1 in
    let whole : chain.0 ≡ candidates = chain.2.2 ∙ chain.2.1 ∙ c.par_iter.ensures in
    let tells = AllZip-weaken _ (λ pair b. IsTrue b ↔ IsFacePair shape pair)
    (λ pair b k. subst (λ (t : FacePair). IsTrue b ↔ IsFacePair shape t) k.1 k.2) chain.0 chain.1 chain.3 in
    let kept : v.items ≡ filter_by_mask candidates chain.1 =
    h.2 ∙ chain.4 ∙ ap (λ (l : List FacePair). filter_by_mask l chain.1) whole in (
      subst (λ (l : List FacePair). IsPairList shape l) (sym kept)
          (kept_pairs shape candidates chain.1 c.requires
          (subst (λ (l : List FacePair). AllZip (λ pair b. IsTrue b ↔ IsFacePair shape pair) l chain.1) whole tells)),
      omega (arith, ap length kept, length-filter_by_mask candidates chain.1, c.requires.few),
    ))
