use Rattle.std.proofs.Common.{◌+◌, length, sym, ap, subst, arith, List, ◌∷◌, []}
use Rattle.std.proofs.lemmas.List.{length-append}
use Rattle.layer_rules.specs.declared.face_pairs.FacePair.{FacePair}
use Rattle.layer_rules.specs.Candidates.{ArePreceding}
use Rattle.layer_rules.proofs.PairLists.{row_grows, row_ends}
use Rattle.layer_rules.proofs.face_pairs.push_row.Goals as goal

pub loop-j-preserved : goal.loop-j-preserved
loop-j-preserved c =
    let i = c.args.i in
    let j = c.loop-j.j in
    let items = c.loop-j.candidates.items in
    let grown = row_grows c.args.faces i (j + 1) items c.loop-j.invariant.before in
    record {
      before = subst (λ (pairs : List FacePair). ArePreceding c.args.faces (record { i = i; j = (j + 1) + 1 }) pairs)
          (sym c.in_ok-push.ensures.items) grown;
      few = omega (arith, ap length c.in_ok-push.ensures.items, length-append items (record { i = i; j = j + 1 } ∷ []));
    }

pub returns : goal.returns
returns c = record {
  before = row_ends c.args.faces c.args.i (c.loop-j.j + 1) c.loop-j.candidates.items (omega arith)
      c.loop-j.invariant.before;
  few = omega arith;
}
