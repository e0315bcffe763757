use Rattle.crease_store.specs.declared.faults.StoreRefusal.TheVariants.{ZeroLength, BadDirection, EdgeOffBorder, OutsideSheet, OnBorder, Crossing, TooManyPieces}
use Rattle.crease_store.proofs.Refused.{refused_as, added_where, accepted_where}
use Rattle.crease_store.proofs.adding.add.Goals as goal

pub returns : goal.returns
returns c =
    let old = c.args.pattern.now in
    let kind = c.args.kind in
    let from = c.args.from.now in
    let to = c.args.to.now in
    let rules = c.pieces.ensures.rules in
    let result = c.add_to_copy.result in
    let exact = c.add_to_copy.ensures in
    record {
      added = added_where old kind from to rules result exact;
      zero_length = refused_as old kind from to rules result exact ZeroLength;
      bad_direction = refused_as old kind from to rules result exact BadDirection;
      edge_off_border = refused_as old kind from to rules result exact EdgeOffBorder;
      outside_sheet = refused_as old kind from to rules result exact OutsideSheet;
      on_border = refused_as old kind from to rules result exact OnBorder;
      crossing = λ n. refused_as old kind from to rules result exact (Crossing n);
      too_many = λ n. refused_as old kind from to rules result exact (TooManyPieces n);
      accepted = accepted_where old kind from to rules result exact;
      exact = exact;
    }
