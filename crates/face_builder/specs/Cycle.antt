-- Cycles of a list of next places: round a face.
use Rattle.std.specs.Ordering.{nat_cmp}
use Rattle.line_split.specs.Points.{by_order}
use Rattle.std.specs.Prelude.{◌≡◌, ℕ, ◌+◌, ◌<◌, Bool, true, false, List, [], ◌∷◌, length, nat_eq, slice_index_or, if◌then◌else◌}

-- the place after i; 0 past the end
abbrev pub next_of : List ℕ → ℕ → ℕ
next_of nexts i = slice_index_or nexts i 0

-- after each place comes a place, and after different ones come different ones
pub record ArePermuted (nexts : List ℕ) : Type 0 where
  pub into : (i : ℕ) → i < length nexts → next_of nexts i < length nexts
  pub apart : (i j : ℕ) → i < length nexts → j < length nexts → next_of nexts i ≡ next_of nexts j → i ≡ j

-- whether the walk from place i comes to the first place before it meets a lesser one, in as many steps as
-- there are places in the second list
abbrev pub comes_first : List ℕ → ℕ → List ℕ → ℕ → Bool
comes_first nexts first [] i = false
comes_first nexts first (step ∷ steps) i =
    by_order (nat_cmp i first) false true (comes_first nexts first steps (next_of nexts i))

-- a walk from the place comes back to it, and meets no lesser place on the way: it is the least place of its
-- cycle
unfoldable pub is_leader : List ℕ → ℕ → Bool
is_leader nexts i = comes_first nexts i nexts (next_of nexts i)

-- the walk from place i up to the first place
abbrev pub rest_from : List ℕ → ℕ → List ℕ → ℕ → List ℕ
rest_from nexts first [] i = []
rest_from nexts first (step ∷ steps) i =
    if nat_eq i first then [] else i ∷ rest_from nexts first steps (next_of nexts i)

-- the cycle that a place leads
unfoldable pub cycle_from : List ℕ → ℕ → List ℕ
cycle_from nexts i = i ∷ rest_from nexts i nexts (next_of nexts i)

-- the least places of the cycles, ascending; the first place asked is i
abbrev pub leaders_from : List ℕ → ℕ → List ℕ → List ℕ
leaders_from nexts i [] = []
leaders_from nexts i (next ∷ rest) =
    if is_leader nexts i then i ∷ leaders_from nexts (i + 1) rest else leaders_from nexts (i + 1) rest
