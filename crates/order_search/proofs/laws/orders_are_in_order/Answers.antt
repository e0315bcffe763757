use Rattle.order_search.proofs.OrderedLists.{orders_in_order}
use Rattle.order_search.proofs.laws.orders_are_in_order.Goals as goal

pub returns : goal.returns
returns c = orders_in_order
