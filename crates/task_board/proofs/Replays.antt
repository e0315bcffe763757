-- What one more event does to a history.
use Rattle.std.proofs.Common.{◌≡◌, Bool, true, false, ◌&&◌, List, [], ◌∷◌, ◌++◌, refl}
use Rattle.task_board.specs.declared.event.BoardEvent.{BoardEvent}
use Rattle.task_board.specs.History.{Replay, empty_board, after_event, is_next, is_legal, is_legal_from, replay_of, replay_from}

pub replay_from_more : (r : Replay) (es : List BoardEvent) (e : BoardEvent) → replay_from r (es ++ e ∷ []) ≡ after_event (replay_from r es) e
replay_from_more r [] e = refl
replay_from_more r (x ∷ es) e = replay_from_more (after_event r x) es e

pub replay_more : (es : List BoardEvent) (e : BoardEvent) → replay_of (es ++ e ∷ []) ≡ after_event (replay_of es) e
replay_more es e = replay_from_more empty_board es e

and_left : (a b : Bool) → (a && b) ≡ true → a ≡ true
and_left true b h = refl
and_left false b h = absurd cc

pub and_right : (a b : Bool) → (a && b) ≡ true → b ≡ true
and_right true b h = h
and_right false b h = absurd cc

legal_from_more : (r : Replay) (es : List BoardEvent) (e : BoardEvent) → is_legal_from r es ≡ true → is_next (replay_from r es) e ≡ true → is_legal_from r (es ++ e ∷ []) ≡ true
legal_from_more r [] e legal next = rw next refl
legal_from_more r (x ∷ es) e legal next =
    let first = and_left (is_next r x) (is_legal_from (after_event r x) es) legal in
    rw first (legal_from_more (after_event r x) es e (and_right (is_next r x) (is_legal_from (after_event r x) es) legal) next)

-- a legal history is legal with an event that may come next
pub legal_more : (es : List BoardEvent) (e : BoardEvent) → is_legal es ≡ true → is_next (replay_of es) e ≡ true → is_legal (es ++ e ∷ []) ≡ true
legal_more es e legal next = legal_from_more empty_board es e legal next

-- what is left after one more event
pub replayed_next : (es es' : List BoardEvent) (e : BoardEvent) (r r' : Replay) → replay_of es ≡ r → es' ≡ es ++ e ∷ [] → after_event r e ≡ r' → replay_of es' ≡ r'
replayed_next es es' e r r' is more leaves = rw (more, replay_more es e, is) leaves

pub legal_next : (es es' : List BoardEvent) (e : BoardEvent) (r : Replay) → replay_of es ≡ r → is_legal es ≡ true → es' ≡ es ++ e ∷ [] → is_next r e ≡ true → is_legal es' ≡ true
legal_next es es' e r is legal more next = rw more (legal_more es e legal (rw is next))
