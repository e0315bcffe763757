use Rattle.std.proofs.Common.{◌≡◌, rules, subst, List}
use Rattle.std.specs.List.Sorted.{IsPermutation}
use Rattle.crease_model.specs.declared.Piece.{Piece}
use Rattle.crease_store.specs.Rising.{arrival_of}
use Rattle.crease_store.proofs.Searching.{ascending_rises, rising_by_key}
use Rattle.crease_store.proofs.merging.arrivals_of.Goals as goal

pub returns : goal.returns
returns c =
    let sorted = c.sort_unstable_by_key.new.self.items in
    let copied : c.in_ok-arrivals.arrivals.items ≡ c.args.pieces.now = search rules in
    record {
      by_beginning = ascending_rises c.args.pieces.now c.requires;
      by_arrival = rising_by_key arrival_of sorted c.sort_unstable_by_key.ensures.sorted (λ a r q k. search rules);
      same = subst (λ (ps : List Piece). IsPermutation ps sorted) copied c.sort_unstable_by_key.ensures.permutation;
    }
