-- What helpers over a board show.
use Rattle.std.specs.Prelude.{◌≡◌, ℕ, Option, None, Some, option_map, vec_len}
use Rattle.std.specs.Arc.{arc_value}
use Rattle.task_board.specs.declared.work.Work.{Ghosts}
use Rattle.task_board.specs.declared.over_board.OverBoard.{OverBoard}
use Rattle.task_board.specs.declared.over_board.Kept.{Kept}
use Rattle.task_board.specs.Numbers.{kept_at}
use Rattle.task_board.specs.Seats.{SeatView}

module _ {W L R T O S : Type 0} {g : Ghosts W T O S} where
  -- the owner's seat
  abbrev pub seat_of : OverBoard W L R T O S g → SeatView
  seat_of s = s.seat

  abbrev pub misses_of : OverBoard W L R T O S g → ℕ
  misses_of s = s.misses

  abbrev pub returns_of : OverBoard W L R T O S g → ℕ
  returns_of s = s.returns

  abbrev pub given_of : OverBoard W L R T O S g → ℕ
  given_of s = vec_len s.kept.places

  abbrev pub held_of : OverBoard W L R T O S g → ℕ → Option T
  held_of s n = option_map (λ k. arc_value k.task) (kept_at s.kept.places.items n)

  -- the task under a ticket is held here alone: the board was closed, or had given all its tickets
  abbrev pub IsOffBoard : OverBoard W L R T O S g → ℕ → Type 0
  IsOffBoard s n = is_off (kept_at s.kept.places.items n)
    where
      is_off : Option (Kept W T O S) → Type 0
      is_off None = ⊥
      is_off (Some k) = k.ticket ≡ None
