use Rattle.std.proofs.Common.{◌≡◌, ◌⊎◌, true, inl, inr}
use Rattle.search_cursor.specs.Place.{SearchPlace, is_earlier}
use Rattle.search_cursor.specs.PlaceLaws.{not_itself}
use Rattle.search_cursor.proofs.Orders.{transitive, total, same_place}
use Rattle.search_cursor.proofs.laws.strict_total_order.Goals as goal

of_total : (p q : SearchPlace)
    → (is_earlier p q ≡ true) ⊎ (((p.signs ≡ q.signs) × (p.past ≡ q.past)) ⊎ (is_earlier q p ≡ true))
    → (is_earlier p q ≡ true) ⊎ ((p ≡ q) ⊎ (is_earlier q p ≡ true))
of_total p q (inl h) = inl h
of_total p q (inr (inl e)) = inr (inl (same_place p q e.0 e.1))
of_total p q (inr (inr h)) = inr (inr h)

pub returns : goal.returns
returns c = record {
  not_itself = λ p. not_itself p.signs p.past;
  transitive = λ p q r. transitive p.signs q.signs r.signs p.past q.past r.past;
  total = λ p q. of_total p q (total p.signs q.signs p.past q.past);
}
