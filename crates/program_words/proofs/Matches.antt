-- What clap makes of words that have the form: it takes them, and its matches have the values.
use Rattle.std.proofs.Common.{◌≡◌, ◌∙◌, ℕ, Bool, true, false, true≢false, cond, not, ◌&&◌, ◌||◌, ◌==◌, is_some, refl, sym, ap, ap₂, subst, List, [], ◌∷◌, ◌++◌, Option, None, Some, option_map, option_and_then, append-nil, codes, bytes_eq, find}
use Rattle.std.specs.Prelude.{slice_get, fold}
use Rattle.std.specs.List.{list_all}
use Rattle.std.specs.Option.{option_or}
use Rattle.std.proofs.lemmas.Slice.Eq.{bytes_eq-Decides}
use Rattle.std.proofs.lemmas.List.Folds.{find-append, list_any-append}
use Rattle.clap.specs.Matches.{found_of}
use Rattle.clap.specs.Simple.{App, HasMatchesOf, Shape, built, entered, filled, is_simple, matches_of}
use Rattle.clap.specs.Takes.{entered_passes, is_valid, default_passes, settle_passes, takes, turn_passes, walk_passes}
use Rattle.clap.specs.Walk.{Held, Row, Rule, Waiting, Walk, at_row, finished, first_of, has_row, idle, option, rows_of, settled_rows, stronger, used, walked, with_default, with_values}
use Rattle.clap.specs.declared.builder.value_parser.Reading.TheVariants.{AsWritten}
use Rattle.clap.specs.declared.parser.matches.ArgMatches.{ArgMatches}
use Rattle.clap.specs.declared.parser.matches.ValueSource.TheVariants.{CommandLine}
use Rattle.program_words.specs.ProgramWords.{Text, Values, begun, is_value, no_values, parted, value_once, values_in, values_of, whole_values, with_option}
use Rattle.program_words.proofs.Parting.{none_is_some, parted_is, some_is}
use Rattle.program_words.specs.Parser.{matched_values, option_rule, words_app}

-- ---- the three options

data Name : Type 0 where
  the_cp : Name
  the_workers : Name
  the_sample : Name

abbrev id_of : Name → Text
id_of the_cp = codes "cp"
id_of the_workers = codes "workers"
id_of the_sample = codes "sample"

abbrev word_of : Name → Text
word_of n = 45 ∷ 45 ∷ id_of n

abbrev value_at : Name → Values → Option Text
value_at the_cp v = v.cp
value_at the_workers v = v.workers
value_at the_sample v = v.sample

abbrev with_value : Name → Text → Values → Values
with_value the_cp value v = record v { cp = Some value }
with_value the_workers value v = record v { workers = Some value }
with_value the_sample value v = record v { sample = Some value }

-- the option of this name gets its value for the first time
record IsUse (name value : Text) (v w : Values) : Type 0 where
  which : Name
  named : name ≡ word_of which
  first : value_at which v ≡ None
  good : is_value value ≡ true
  after : w ≡ with_value which value v

once_is : (before : Option Text) (value : Text) (put : Text → Values) (w : Values)
    → option_map put (value_once before value) ≡ Some w
    → (before ≡ None) × (is_value value ≡ true) × (w ≡ put value)
once_is (Some t) value put w e = none_is_some w e
once_is None value put w e = go (is_value value) refl e
  where
    go : (b : Bool) → is_value value ≡ b → option_map put (cond b (Some value) None) ≡ Some w
        → (◌≡◌ {A = Option Text} None None) × (is_value value ≡ true) × (w ≡ put value)
    go true t e = (refl, t, sym (some_is (put value) w e))
    go false t e = none_is_some w e

-- the values where the name is that of the option, else what comes next
abbrev values_at : Name → Text → Text → Values → Option Values → Option Values
values_at which name value v next =
    cond (bytes_eq name (word_of which)) (option_map (λ t. with_value which t v) (value_once (value_at which v) value)) next

use_is : (name value : Text) (v w : Values) → with_option name value v ≡ Some w → IsUse name value v w
use_is name value v w e =
    by the_cp (values_at the_workers name value v (values_at the_sample name value v None))
    (by the_workers (values_at the_sample name value v None) (by the_sample None (none_is_some w))) e
  where
    by : (which : Name) (next : Option Values) → (next ≡ Some w → IsUse name value v w)
        → values_at which name value v next ≡ Some w → IsUse name value v w
    by which next others e = go (bytes_eq name (word_of which)) refl e
      where
        go : (b : Bool) → bytes_eq name (word_of which) ≡ b
            → cond b (option_map (λ t. with_value which t v) (value_once (value_at which v) value)) next ≡ Some w
            → IsUse name value v w
        go false t e = others e
        go true t e =
            let once = once_is (value_at which v) value (λ t. with_value which t v) w e in
            record {
              which = which;
              named = (bytes_eq-Decides name (word_of which)).0 t;
              first = once.0;
              good = once.1;
              after = once.2;
            }

-- ---- rows of matches

abbrev rule_at : Name → Rule
rule_at n = filled (option_rule (id_of n))

abbrev new_row : Text → Text → Row
new_row id value = record {
  id = id;
  values = value ∷ [];
  count = None;
  source = Some CommandLine;
  reading = AsWritten;
}

at_missing : (id : Text) (change : Row → List Row) (missing rows : List Row) → has_row id rows ≡ false
    → at_row id change missing rows ≡ rows ++ missing
at_missing id change missing [] none = refl
at_missing id change missing (r ∷ rs) none = go (bytes_eq r.id id) (at_missing id change missing rs) none
  where
    go : (b : Bool) → (has_row id rs ≡ false → at_row id change missing rs ≡ rs ++ missing)
        → (b || has_row id rs) ≡ false
        → cond b (change r ++ rs) (r ∷ at_row id change missing rs) ≡ r ∷ rs ++ missing
    go true rest e = absurd (true≢false e)
    go false rest e = ap (λ xs. r ∷ xs) (rest e)

-- the first use of an option puts a row behind the others
used_is : (n : Name) (value : Text) (rows : List Row) → has_row (id_of n) rows ≡ false
    → used (rule_at n) (value ∷ []) rows ≡ rows ++ new_row (id_of n) value ∷ []
used_is n value rows none = go n none
  where
    added : (id : Text) → has_row id rows ≡ false
        → with_values id AsWritten CommandLine (value ∷ []) (at_row id (λ _. []) [] rows) ≡ rows ++ new_row id value ∷ []
    added id none =
        ap (with_values id AsWritten CommandLine (value ∷ [])) (at_missing id (λ _. []) [] rows none ∙ append-nil rows)
        ∙ at_missing id (λ r. record r { values = r.values ++ value ∷ []; source = Some (stronger r.source CommandLine) } ∷ [])
        (new_row id value ∷ []) rows none

    go : (n : Name) → has_row (id_of n) rows ≡ false → used (rule_at n) (value ∷ []) rows ≡ rows ++ new_row (id_of n) value ∷ []
    go the_cp none = added (codes "cp") none
    go the_workers none = added (codes "workers") none
    go the_sample none = added (codes "sample") none

-- the rows have just this value of an option, and just these of all
abbrev HasValue : List Row → Text → Option Text → Type 0
HasValue rows id value = (first_of id rows ≡ value) × (has_row id rows ≡ is_some value)

abbrev Has : List Row → Values → Type 0
Has rows v = (n : Name) → HasValue rows (id_of n) (value_at n v)

abbrev row_first : Option Row → Option Text
row_first o = option_and_then (λ (r : Row). slice_get r.values 0) o

find_none : (id : Text) (rows : List Row) → has_row id rows ≡ false → find (λ r. bytes_eq r.id id) rows ≡ None
find_none id [] none = refl
find_none id (r ∷ rs) none = go (bytes_eq r.id id) (find_none id rs) none
  where
    go : (b : Bool) → (has_row id rs ≡ false → find (λ r. bytes_eq r.id id) rs ≡ None) → (b || has_row id rs) ≡ false
        → cond b (Some r) (find (λ r. bytes_eq r.id id) rs) ≡ None
    go true rest e = absurd (true≢false e)
    go false rest e = rest e

or_none : {X : Type 0} (o : Option X) → option_or o None ≡ o
or_none None = refl
or_none (Some x) = refl

or_false : (b : Bool) → (b || (false || false)) ≡ b
or_false true = refl
or_false false = refl

or_true : (b : Bool) → (b || (true || false)) ≡ true
or_true true = refl
or_true false = refl

module _ (rows : List Row) (value : Text) where
  -- the new row's own value, and those of the others
  own_value : (id : Text) → bytes_eq id id ≡ true → has_row id rows ≡ false
      → HasValue (rows ++ new_row id value ∷ []) id (Some value)
  own_value id same none = (
    ap row_first (find-append (λ (r : Row). bytes_eq r.id id) rows (new_row id value ∷ [])
        ∙ ap₂ option_or (find_none id rows none) (ap (λ b. cond b (Some (new_row id value)) None) same)),
    list_any-append (λ (r : Row). bytes_eq r.id id) rows (new_row id value ∷ [])
        ∙ ap (λ b. has_row id rows || (b || false)) same ∙ or_true (has_row id rows),
  )

  other_value : (id other : Text) (found : Option Text) → bytes_eq id other ≡ false → HasValue rows other found
      → HasValue (rows ++ new_row id value ∷ []) other found
  other_value id other found differ has = (
    ap row_first (find-append (λ (r : Row). bytes_eq r.id other) rows (new_row id value ∷ [])
        ∙ ap (λ b. option_or (find (λ r. bytes_eq r.id other) rows) (cond b (Some (new_row id value)) None)) differ
        ∙ or_none (find (λ r. bytes_eq r.id other) rows)) ∙ has.0,
    list_any-append (λ (r : Row). bytes_eq r.id other) rows (new_row id value ∷ [])
        ∙ ap (λ b. has_row other rows || (b || false)) differ ∙ or_false (has_row other rows) ∙ has.1,
  )

lacks : (n : Name) (rows : List Row) (v : Values) → Has rows v → value_at n v ≡ None → has_row (id_of n) rows ≡ false
lacks n rows v has first = (has n).1 ∙ ap is_some first

-- one more value
has_more : (n : Name) (rows : List Row) (v : Values) (value : Text) → Has rows v → value_at n v ≡ None
    → Has (rows ++ new_row (id_of n) value ∷ []) (with_value n value v)
has_more n rows v value has first m = go n m (lacks n rows v has first)
  where
    go : (n m : Name) → has_row (id_of n) rows ≡ false
        → HasValue (rows ++ new_row (id_of n) value ∷ []) (id_of m) (value_at m (with_value n value v))
    go the_cp the_cp none = own_value rows value (codes "cp") refl none
    go the_cp the_workers none = other_value rows value (codes "cp") (codes "workers") v.workers refl (has the_workers)
    go the_cp the_sample none = other_value rows value (codes "cp") (codes "sample") v.sample refl (has the_sample)
    go the_workers the_cp none = other_value rows value (codes "workers") (codes "cp") v.cp refl (has the_cp)
    go the_workers the_workers none = own_value rows value (codes "workers") refl none
    go the_workers the_sample none = other_value rows value (codes "workers") (codes "sample") v.sample refl (has the_sample)
    go the_sample the_cp none = other_value rows value (codes "sample") (codes "cp") v.cp refl (has the_cp)
    go the_sample the_workers none = other_value rows value (codes "sample") (codes "workers") v.workers refl (has the_workers)
    go the_sample the_sample none = own_value rows value (codes "sample") refl none

-- ---- the walk over the words

abbrev shape : Shape
shape = (built words_app).top

abbrev rules_here : List Rule
rules_here = shape.rules

abbrev Pending : Type 0
Pending = Option (Text × List Text)

abbrev held_at : List Row → Pending → Held
held_at rows pending = record { rows = rows; pending = pending; skip = 0 }

abbrev walk_at : List Row → Pending → Waiting → Walk
walk_at rows pending waiting = record {
  held = held_at rows pending;
  waiting = waiting;
  position = 1;
  is_trailing = false;
  stopped = None;
}

abbrev settled_at : List Row → Pending → List Row
settled_at rows pending = settled_rows rules_here pending rows

abbrev settles : List Row → Pending → Bool
settles rows pending = settle_passes rules_here false (held_at rows pending)

-- what a word does to a walk that stands between two options
abbrev Turns : List Row → Pending → Waiting → Text → List Row → Pending → Waiting → Type 0
Turns rows pending waiting word rows' pending' waiting' =
    (turn_passes shape [] (walk_at rows pending waiting) word ≡ true)
    × (walked rules_here [] (walk_at rows pending waiting) word ≡ walk_at rows' pending' waiting')

-- `--name=value`
joined : (n : Name) (value : Text) (rows : List Row) (pending : Pending) → settles rows pending ≡ true
    → has_row (id_of n) (settled_at rows pending) ≡ false
    → Turns rows pending idle (word_of n ++ 61 ∷ value) (used (rule_at n) (value ∷ []) (settled_at rows pending)) None idle
unfolding walked
joined the_cp value rows pending passes none = (rw (passes, none) refl, refl)
joined the_workers value rows pending passes none = (rw (passes, none) refl, refl)
joined the_sample value rows pending passes none = (rw (passes, none) refl, refl)

-- `--name`
named : (n : Name) (rows : List Row) (pending : Pending) → settles rows pending ≡ true
    → Turns rows pending idle (word_of n) (settled_at rows pending) (Some (id_of n, [])) (option (id_of n))
unfolding walked
named the_cp rows pending passes = (rw passes refl, refl)
named the_workers rows pending passes = (rw passes refl, refl)
named the_sample rows pending passes = (rw passes refl, refl)

-- and the value in the next word
valued : (n : Name) (b : ℕ) (bs : Text) (rows : List Row) → (b == 45) ≡ false
    → Turns rows (Some (id_of n, [])) (option (id_of n)) (b ∷ bs) rows (Some (id_of n, (b ∷ bs) ∷ [])) idle
unfolding walked
valued the_cp b bs rows plain = (rw (plain, plain) refl, rw (plain, plain) refl)
valued the_workers b bs rows plain = (rw (plain, plain) refl, rw (plain, plain) refl)
valued the_sample b bs rows plain = (rw (plain, plain) refl, rw (plain, plain) refl)

-- ---- the whole walk

-- a walk that stands between two options, and settled has these values
record Stands (rows : List Row) (pending : Pending) (v : Values) : Type 0 where
  passes : settles rows pending ≡ true
  has : Has (settled_at rows pending) v

used_has : (n : Name) (value : Text) (rows : List Row) (v : Values) → Has rows v → value_at n v ≡ None
    → Has (used (rule_at n) (value ∷ []) rows) (with_value n value v)
used_has n value rows v has first =
    subst (λ (rs : List Row). Has rs (with_value n value v)) (sym (used_is n value rows (lacks n rows v has first)))
    (has_more n rows v value has first)

joined_stands : (n : Name) (value : Text) (rows : List Row) (pending : Pending) (v : Values) → Stands rows pending v
    → value_at n v ≡ None
    → Stands (used (rule_at n) (value ∷ []) (settled_at rows pending)) None (with_value n value v)
joined_stands n value rows pending v stands first =
    record { passes = refl; has = used_has n value (settled_at rows pending) v stands.has first }

-- an option that waits to be settled
valued_stands : (n : Name) (value : Text) (rows : List Row) (v : Values) → Has rows v → value_at n v ≡ None
    → Stands rows (Some (id_of n, value ∷ [])) (with_value n value v)
valued_stands n value rows v has first = go n (lacks n rows v has first) (used_has n value rows v has first)
  where
    go : (n : Name) → has_row (id_of n) rows ≡ false → Has (used (rule_at n) (value ∷ []) rows) (with_value n value v)
        → Stands rows (Some (id_of n, value ∷ [])) (with_value n value v)
    go the_cp none has = record { passes = rw none refl; has = has }
    go the_workers none has = record { passes = rw none refl; has = has }
    go the_sample none has = record { passes = rw none refl; has = has }

-- where the walk over the words ends
record Ends (words : List Text) (start : Walk) (v : Values) : Type 0 where
  rows : List Row
  pending : Pending
  passes : walk_passes shape [] start words ≡ true
  ends : fold (walked rules_here []) start words ≡ walk_at rows pending idle
  stands : Stands rows pending v

one_more : (word : Text) (words : List Text) (start next : Walk) (v : Values) → turn_passes shape [] start word ≡ true
    → walked rules_here [] start word ≡ next → Ends words next v → Ends (word ∷ words) start v
unfolding walk_passes
one_more word words start next v turns is ends = record {
  rows = ends.rows;
  pending = ends.pending;
  passes = ap₂ (λ b c. b && c) turns (ap (λ (w : Walk). walk_passes shape [] w words) is ∙ ends.passes);
  ends = ap (λ (w : Walk). fold (walked rules_here []) w words) is ∙ ends.ends;
  stands = ends.stands;
}

joined_more : (name value : Text) (v w : Values) (words : List Text) (rows : List Row) (pending : Pending)
    → Stands rows pending v → with_option name value v ≡ Some w → (u : Values)
    → ((rows : List Row) (pending : Pending) → Stands rows pending w → Ends words (walk_at rows pending idle) u)
    → Ends ((name ++ 61 ∷ value) ∷ words) (walk_at rows pending idle) u
joined_more name value v w words rows pending stands e u rest =
    let taken = use_is name value v w e in
    let none = lacks taken.which (settled_at rows pending) v stands.has taken.first in
    let turns = joined taken.which value rows pending stands.passes none in
    let next = joined_stands taken.which value rows pending v stands taken.first in
    subst (λ (t : Text). Ends ((t ++ 61 ∷ value) ∷ words) (walk_at rows pending idle) u) (sym taken.named)
    (one_more (word_of taken.which ++ 61 ∷ value) words (walk_at rows pending idle) (walk_at _ None idle) u turns.0 turns.1
    (rest (used (rule_at taken.which) (value ∷ []) (settled_at rows pending)) None
    (subst (λ (x : Values). Stands (used (rule_at taken.which) (value ∷ []) (settled_at rows pending)) None x) (sym taken.after) next)))

not_true : (b : Bool) → not b ≡ true → b ≡ false
not_true true e = sym e
not_true false e = refl

valued_more : (name value : Text) (v w : Values) (words : List Text) (rows : List Row) (pending : Pending)
    → Stands rows pending v → with_option name value v ≡ Some w → (u : Values)
    → ((rows : List Row) (pending : Pending) → Stands rows pending w → Ends words (walk_at rows pending idle) u)
    → Ends (name ∷ value ∷ words) (walk_at rows pending idle) u
valued_more name [] v w words rows pending stands e u rest = absurd (true≢false (sym (use_is name [] v w e).good))
valued_more name (b ∷ bs) v w words rows pending stands e u rest =
    let value : Text = b ∷ bs in
    let taken = use_is name value v w e in
    let first = named taken.which rows pending stands.passes in
    let second = valued taken.which b bs (settled_at rows pending) (not_true (b == 45) taken.good) in
    let next = valued_stands taken.which value (settled_at rows pending) v stands.has taken.first in
    subst (λ (t : Text). Ends (t ∷ value ∷ words) (walk_at rows pending idle) u) (sym taken.named)
    (one_more (word_of taken.which) (value ∷ words) (walk_at rows pending idle)
    (walk_at (settled_at rows pending) (Some (id_of taken.which, [])) (option (id_of taken.which))) u first.0 first.1
    (one_more value words (walk_at (settled_at rows pending) (Some (id_of taken.which, [])) (option (id_of taken.which)))
    (walk_at (settled_at rows pending) (Some (id_of taken.which, value ∷ [])) idle) u second.0 second.1
    (rest (settled_at rows pending) (Some (id_of taken.which, value ∷ []))
    (subst (λ (x : Values). Stands (settled_at rows pending) (Some (id_of taken.which, value ∷ [])) x) (sym taken.after) next))))

abbrev words_from : Option Text → List Text → List Text
words_from None words = words
words_from (Some name) words = name ∷ words

-- the walk takes words that have the form, and ends with their values
walk_ends : (words : List Text) (name : Option Text) (v u : Values) (rows : List Row) (pending : Pending)
    → Stands rows pending v → values_in words (name, v) ≡ Some (None, u)
    → Ends (words_from name words) (walk_at rows pending idle) u
unfolding walk_passes
walk_ends [] None v u rows pending stands e = record {
  rows = rows;
  pending = pending;
  passes = refl;
  ends = refl;
  stands = subst (λ (x : Values). Stands rows pending x)
      (ap (λ (s : Option Text × Values). s.1) (some_is {X = Option Text × Values} (None, v) (None, u) e)) stands;
}
walk_ends [] (Some name) v u rows pending stands e =
    absurd (true≢false (ap (λ (s : Option Text × Values). is_some s.0)
    (some_is {X = Option Text × Values} (Some name, v) (None, u) e)))
walk_ends (word ∷ words) (Some name) v u rows pending stands e =
    go (with_option name word v) refl (λ w. walk_ends words None w u) e
  where
    go : (found : Option Values) → with_option name word v ≡ found
        → ((w : Values) (rows : List Row) (pending : Pending) → Stands rows pending w
        → values_in words (None, w) ≡ Some (None, u) → Ends words (walk_at rows pending idle) u)
        → option_and_then {T = Option Text × Values} (values_in words) (option_map {U = Option Text × Values} (λ t. (None, t)) found) ≡ Some (None, u)
        → Ends (name ∷ word ∷ words) (walk_at rows pending idle) u
    go None is rest e = none_is_some {X = Option Text × Values} (None, u) e
    go (Some w) is rest e = valued_more name word v w words rows pending stands is u (λ rows pending stands. rest w rows pending stands e)
walk_ends (word ∷ words) None v u rows pending stands e =
    go (parted word) refl (λ w. walk_ends words None w u) (walk_ends words (Some word) v u rows pending stands) e
  where
    by_option : (p : Text × Text) (found : Option Values) → word ≡ p.0 ++ 61 ∷ p.1 → with_option p.0 p.1 v ≡ found
        → ((w : Values) (rows : List Row) (pending : Pending) → Stands rows pending w
        → values_in words (None, w) ≡ Some (None, u) → Ends words (walk_at rows pending idle) u)
        → option_and_then {T = Option Text × Values} (values_in words) (option_map {U = Option Text × Values} (λ t. (None, t)) found) ≡ Some (None, u)
        → Ends (word ∷ words) (walk_at rows pending idle) u
    by_option p None parts is rest e = none_is_some {X = Option Text × Values} (None, u) e
    by_option p (Some w) parts is rest e =
        subst (λ (t : Text). Ends (t ∷ words) (walk_at rows pending idle) u) (sym parts)
        (joined_more p.0 p.1 v w words rows pending stands is u (λ rows pending stands. rest w rows pending stands e))

    go : (found : Option (Text × Text)) → parted word ≡ found
        → ((w : Values) (rows : List Row) (pending : Pending) → Stands rows pending w
        → values_in words (None, w) ≡ Some (None, u) → Ends words (walk_at rows pending idle) u)
        → (values_in words (Some word, v) ≡ Some (None, u) → Ends (word ∷ words) (walk_at rows pending idle) u)
        → option_and_then {T = Option Text × Values} (values_in words) (begun word v found) ≡ Some (None, u)
        → Ends (word ∷ words) (walk_at rows pending idle) u
    go None is rest waits e = waits e
    go (Some p) is rest waits e = by_option p (with_option p.0 p.1 v) (parted_is word p is) refl rest e

-- ---- what the parse gives

nothing_stands : Stands [] None no_values
nothing_stands = record { passes = refl; has = nothing }
  where
    nothing : Has [] no_values
    nothing the_cp = (refl, refl)
    nothing the_workers = (refl, refl)
    nothing the_sample = (refl, refl)

either_same : {X : Type 0} (b : Bool) (x : X) → cond b x x ≡ x
either_same true x = refl
either_same false x = refl

-- no option has a default
finished_is : (rows : List Row) (pending : Pending) → finished rules_here (held_at rows pending) ≡ settled_at rows pending
finished_is rows pending = same (settled_at rows pending)
  where
    same : (rs : List Row) → with_default (with_default (with_default rs (rule_at the_cp)) (rule_at the_workers)) (rule_at the_sample) ≡ rs
    same rs =
        ap (λ xs. with_default (with_default xs (rule_at the_workers)) (rule_at the_sample)) (either_same (has_row (codes "cp") rs) rs)
        ∙ ap (λ xs. with_default xs (rule_at the_sample)) (either_same (has_row (codes "workers") rs) rs)
        ∙ either_same (has_row (codes "sample") rs) rs

whole_is : (state : Option (Option Text × Values)) (v : Values) → option_and_then whole_values state ≡ Some v → state ≡ Some (None, v)
whole_is None v e = none_is_some v e
whole_is (Some s) v e = go s.0 s.1 e
  where
    go : (name : Option Text) (w : Values) → whole_values (name, w) ≡ Some v → ◌≡◌ {A = Option (Option Text × Values)} (Some (name, w)) (Some (None, v))
    go (Some name) w e = none_is_some v e
    go None w e = ap (λ (x : Values). Some (None, x)) (some_is w v e)

-- the parse passes where the walk passes and ends so
abbrev passes_at : List Text → Walk → Bool
passes_at words w = entered_passes (built words_app) w.stopped
    && (walk_passes shape [] (walk_at [] None idle) words && (settle_passes rules_here false w.held
    && (list_all default_passes rules_here
    && is_valid shape (finished rules_here w.held) (is_some (entered (built words_app) w.stopped)))))

-- clap takes words that have the form, and its matches have their values
parse_has : (words : List Text) (v : Values) → values_of words ≡ Some v
    → (takes words_app words ≡ true) × (matched_values (matches_of words_app words) ≡ v)
unfolding values_of
parse_has words v e = (passes, matched)
  where
    ended : Ends words (walk_at [] None idle) v
    ended = walk_ends words None no_values v [] None nothing_stands (whole_is (values_in words (None, no_values)) v e)

    passes : takes words_app words ≡ true
    passes = ap (passes_at words) ended.ends ∙ rw (ended.passes, ended.stands.passes) refl

    rows_are : matches_of words_app words ≡ settled_at ended.rows ended.pending
    rows_are = ap (λ (w : Walk). finished rules_here w.held) ended.ends ∙ finished_is ended.rows ended.pending

    matched : matched_values (matches_of words_app words) ≡ v
    matched = ap matched_values rows_are ∙ λ i. record {
      cp = (ended.stands.has the_cp).0 i;
      workers = (ended.stands.has the_workers).0 i;
      sample = (ended.stands.has the_sample).0 i;
    }

module _ (a : App) (words : List Text) (same : a ≡ words_app) (form : is_some (values_of words) ≡ true) where
  pub parse_passes : takes a words ≡ true
  parse_passes = ap (λ x. takes x words) same ∙ go (values_of words) refl form
    where
      go : (found : Option Values) → values_of words ≡ found → is_some found ≡ true → takes words_app words ≡ true
      go None is e = absurd (true≢false (sym e))
      go (Some v) is e = (parse_has words v is).0

  pub values_matched : (m : ArgMatches) → HasMatchesOf a words m
      → Some (matched_values (rows_of (found_of m))) ≡ values_of words
  values_matched m matches =
      let rows = (matches (ap is_simple same)).0 ∙ ap (λ x. matches_of x words) same in
      ap (λ (rs : List Row). Some (matched_values rs)) rows ∙ go (values_of words) refl form
    where
      go : (found : Option Values) → values_of words ≡ found → is_some found ≡ true
          → Some (matched_values (matches_of words_app words)) ≡ values_of words
      go None is e = absurd (true≢false (sym e))
      go (Some v) is e = ap (λ (x : Values). Some x) (parse_has words v is).1 ∙ sym is
