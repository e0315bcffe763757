-- Going from piece to piece along a chain.
use Rattle.std.proofs.Common.{◌≡◌, ℕ, zero, suc, List, refl, ap, ◌∙◌}
use Rattle.std.specs.Prelude.{None, Some, unwrap_or}
use Rattle.crease_model.specs.declared.Piece.{Piece}
use Rattle.crease_store.specs.Merged.{next_piece, last_piece}

pub last_on : (n m : ℕ) (pieces : List Piece) (p q : Piece) → n ≡ suc m → next_piece pieces p ≡ Some q → last_piece n pieces p ≡ last_piece m pieces q
last_on n m pieces p q e f = ap (λ k. last_piece k pieces p) e ∙ ap (λ o. last_piece m pieces (unwrap_or o p)) f

pub last_stays : (n : ℕ) (pieces : List Piece) (p : Piece) → next_piece pieces p ≡ None → last_piece n pieces p ≡ p
last_stays zero pieces p e = refl
last_stays (suc n) pieces p e = ap (λ o. last_piece n pieces (unwrap_or o p)) e ∙ last_stays n pieces p e
