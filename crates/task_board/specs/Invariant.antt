-- What every history keeps beside its events.
use Rattle.std.specs.Prelude.{◌≡◌, ℕ, ◌+◌, ◌<◌, ◌≤◌, true, false, length, slice_get, vec_capacity}
use Rattle.task_board.specs.declared.history.History.TheInside.{Inside}
use Rattle.task_board.specs.History.{Replay, replay_of, is_legal, is_waiting, is_ticket}
use Rattle.task_board.specs.Room.{owed_of}

-- the replay that the fields hold
abbrev pub kept_replay : Inside → Replay
kept_replay h = record {
  tickets = h.tickets.items;
  is_closed = h.is_closed;
  has_closed = h.has_closed;
  was_told = h.was_told;
}

pub record IsHistory (h : Inside) : Type 0 where
  pub replayed : replay_of h.events.items ≡ kept_replay h
  pub legal : is_legal h.events.items ≡ true
  pub seats : (length h.has_closed ≡ 9) × (length h.was_told ≡ 9)
  pub tickets : length h.tickets.items ≤ 4294967295
  pub begun : h.first ≤ length h.tickets.items
  pub passed : (k : ℕ) → k < h.first → is_ticket is_waiting (slice_get h.tickets.items k) ≡ false
  pub owed : h.owed ≡ owed_of (kept_replay h)
  pub room : length h.events.items + h.owed ≤ vec_capacity h.events
