use Rattle.std.proofs.Common.{◌≡◌, drop}
use Rattle.search_cursor.specs.Place.{stands_before}
use Rattle.search_cursor.proofs.position.stands_before.Given as goal

abbrev pub invariant-loop-place : goal.invariant-loop-place
invariant-loop-place l =
    stands_before (drop l.place l.first) l.past (drop l.place l.second) l.other_past
    ≡ stands_before l.first l.past l.second l.other_past
