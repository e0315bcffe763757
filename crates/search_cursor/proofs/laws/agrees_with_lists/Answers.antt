use Rattle.search_cursor.proofs.Orders.{passed_before, passed_after}
use Rattle.search_cursor.proofs.laws.agrees_with_lists.Goals as goal

pub returns : goal.returns
returns c = record { before = passed_before; after = passed_after }
