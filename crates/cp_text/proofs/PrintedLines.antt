-- A line's text reads as the line, and a pattern's text as its lines.
use Rattle.std.specs.Prelude.{Ok}
use Rattle.std.proofs.Common.{◌≡◌, ℕ, zero, suc, ◌+◌, ◌/◌, ◌%◌, ◌^◌, ◌<◌, ◌≤◌, ℤ, pos, negsuc, unsigned_abs, List, [], ◌∷◌, ◌++◌, length, map, true, false, ◌&&◌, nat_le, nat_lt, ◌==◌, cond, get_or, take, ◌-◌, Some, codes, decimal, refl, ap, ap₂, sym, ◌∙◌, arith, append_assoc}
use Rattle.std.specs.List.{list_all}
use Rattle.std.proofs.lemmas.Bool.Decides.{nat_tests}
use Rattle.std.proofs.lemmas.List.{append-nil, length-append}
use Rattle.std.proofs.lemmas.List.Folds.{list_all-append}
use Rattle.std.proofs.lemmas.Fmt.{length-decimal-le}
use Rattle.std.proofs.lemmas.Nat.{mod_below, pow_pos}
use Rattle.std.proofs.Math.Nat.{div-le_self}
use Rattle.surd_number.specs.declared.Surd.{Surd}
use Rattle.surd_number.specs.Value.{number_of}
use Rattle.plane_geometry.specs.declared.Point.{Point}
use Rattle.crease_model.specs.declared.Kind.{Kind}
use Rattle.crease_model.specs.declared.Kind.TheVariants.{Edge, Mountain, Valley, Aux, Unassigned}
use Rattle.crease_model.specs.View.{PatternView}
use Rattle.cp_text.specs.declared.line.CpLine.{CpLine}
use Rattle.cp_text.specs.Words.{longest_line, is_blank, after_word, words_from, words_of, lines_from, lines_of, without_return, bare_lines}
use Rattle.cp_text.specs.NumberText.{fraction_digits, behind_point, magnitude_text, minus_text, joining_text, part_text, parts_text, number_text}
use Rattle.cp_text.specs.LineText.{kind_digit, coordinate_text, point_text, line_body, line_text, lines_text, pattern_lines, pattern_text}
use Rattle.cp_text.specs.LineReading.{coordinate_read, coordinate_or_fault, kind_line, words_line, line_read}
use Rattle.cp_text.proofs.DigitTexts.{AreDigits, both_true, digits_first, digits_rest, digit_byte_least, decimal_is}
use Rattle.cp_text.proofs.LowestTerms.{fraction_digits-digits, length-fraction_digits}
use Rattle.cp_text.proofs.PrintedNumbers.{number_text-reads}

-- ---- bytes that are not below a least one

pub record AtLeast (least : ℕ) (bytes : List ℕ) : Type 0 where
  pub all : list_all (nat_le least) bytes ≡ true

at_least_none : (least : ℕ) → AtLeast least []
at_least_none least = record { all = refl }

at_least_one : (least b : ℕ) → least ≤ b → AtLeast least (b ∷ [])
at_least_one least b h = record { all = grind (arith, nat_tests) }

at_least_append : (least : ℕ) (bs cs : List ℕ) → AtLeast least bs → AtLeast least cs
    → AtLeast least (bs ++ cs)
at_least_append least bs cs h h' =
    record { all = list_all-append (nat_le least) bs cs ∙ ap₂ (λ p q. p && q) h.all h'.all }

at_least_first : (least b : ℕ) (bs : List ℕ) → AtLeast least (b ∷ bs) → least ≤ b
at_least_first least b bs h =
    let first = (both_true (nat_le least b) (list_all (nat_le least) bs) h.all).0 in grind (arith, nat_tests)

at_least_rest : (least b : ℕ) (bs : List ℕ) → AtLeast least (b ∷ bs) → AtLeast least bs
at_least_rest least b bs h =
    record { all = (both_true (nat_le least b) (list_all (nat_le least) bs) h.all).1 }

at_least_cons : (least b : ℕ) (bs : List ℕ) → least ≤ b → AtLeast least bs → AtLeast least (b ∷ bs)
at_least_cons least b bs h h' = at_least_append least (b ∷ []) bs (at_least_one least b h) h'

at_least_less : (less least : ℕ) (bs : List ℕ) → less ≤ least → AtLeast least bs → AtLeast less bs
at_least_less less least [] h h' = at_least_none less
at_least_less less least (b ∷ bs) h h' =
    let first : less ≤ b = omega (arith, at_least_first least b bs h') in
    at_least_cons less b bs first (at_least_less less least bs h (at_least_rest least b bs h'))

at_least_digits : (ds : List ℕ) → AreDigits ds → AtLeast 48 ds
at_least_digits [] h = at_least_none 48
at_least_digits (d ∷ ds) h =
    at_least_cons 48 d ds (digit_byte_least d (digits_first d ds h)) (at_least_digits ds (digits_rest d ds h))

-- ---- a number's text is a short word

record IsWord (most : ℕ) (word : List ℕ) : Type 0 where
  bytes : AtLeast 43 word
  some : 0 < length word
  short : length word ≤ most

-- more bytes behind it
word-append : (most more : ℕ) (bs cs : List ℕ) → IsWord most bs → AtLeast 43 cs → length cs ≤ more
    → IsWord (most + more) (bs ++ cs)
word-append most more bs cs h h' short = record {
  bytes = at_least_append 43 bs cs h.bytes h';
  some = omega (arith, length-append bs cs, h.some);
  short = omega (arith, length-append bs cs, h.short);
}

-- bytes in front of it
word-behind : (most more : ℕ) (bs cs : List ℕ) → AtLeast 43 bs → length bs ≤ more → IsWord most cs
    → IsWord (more + most) (bs ++ cs)
word-behind most more bs cs h short h' = record {
  bytes = at_least_append 43 bs cs h h'.bytes;
  some = omega (arith, length-append bs cs, h'.some);
  short = omega (arith, length-append bs cs, h'.short);
}

decimal_word : (n : ℕ) → n ≤ 2 ^ 36 → IsWord 11 (decimal n)
decimal_word n h =
    let d = decimal_is n (omega arith) in
    record {
      bytes = at_least_less 43 48 (decimal n) (omega arith) (at_least_digits (decimal n) d.digits);
      some = d.some;
      short = length-decimal-le 11 n (omega arith) (omega arith) (omega arith);
    }

point_bytes : (ds : List ℕ) → AreDigits ds → AtLeast 43 (behind_point ds)
point_bytes [] h = at_least_none 43
point_bytes (d ∷ ds) h =
    at_least_cons 43 46 (d ∷ ds) (omega arith)
    (at_least_less 43 48 (d ∷ ds) (omega arith) (at_least_digits (d ∷ ds) h))

length-behind_point : (ds : List ℕ) → length (behind_point ds) ≤ length ds + 1
length-behind_point [] = omega arith
length-behind_point (d ∷ ds) = omega arith

magnitude_word : (m k : ℕ) → m ≤ 2 ^ 36 → k ≤ 16 → IsWord 28 (magnitude_text m k)
unfolding magnitude_text
magnitude_word m k small few =
    let below = mod_below m (2 ^ k) (pow_pos k) in
    let fraction = fraction_digits k (m % 2 ^ k) in
    word-append 11 17 (decimal (m / 2 ^ k)) (behind_point fraction)
    (decimal_word (m / 2 ^ k) (omega (arith, div-le_self m (2 ^ k))))
    (point_bytes fraction (fraction_digits-digits k (m % 2 ^ k) below))
    (omega (arith, length-behind_point fraction, length-fraction_digits k (m % 2 ^ k) below))

minus_bytes : (z : ℤ) → AtLeast 43 (minus_text z) × (length (minus_text z) ≤ 1)
minus_bytes (pos n) = (at_least_none 43, omega arith)
minus_bytes (negsuc n) = (at_least_one 43 45 (omega arith), omega arith)

joining_bytes : (z : ℤ) → AtLeast 43 (joining_text z) × (length (joining_text z) ≤ 1)
joining_bytes (pos n) = (at_least_one 43 43 (omega arith), omega arith)
joining_bytes (negsuc n) = (at_least_one 43 45 (omega arith), omega arith)

part_word : (z : ℤ) (k : ℕ) → unsigned_abs z ≤ 2 ^ 36 → k ≤ 16 → IsWord 29 (part_text z k)
part_word z k small few =
    word-behind 28 1 (minus_text z) (magnitude_text (unsigned_abs z) k) (minus_bytes z).0 (minus_bytes z).1
    (magnitude_word (unsigned_abs z) k small few)

root_bytes : AtLeast 43 (codes "r2")
root_bytes = record { all = refl }

longer : (most more : ℕ) (bs : List ℕ) → most ≤ more → IsWord most bs → IsWord more bs
longer most more bs h w = record { bytes = w.bytes; some = w.some; short = omega (arith, w.short) }

both_word : (a b : ℤ) (k : ℕ) → unsigned_abs a ≤ 2 ^ 36 → unsigned_abs b ≤ 2 ^ 36 → k ≤ 16
    → IsWord 60 (part_text a k ++ joining_text b ++ magnitude_text (unsigned_abs b) k ++ codes "r2")
both_word a b k small_a small_b few =
    let front = word-append 29 1 (part_text a k) (joining_text b) (part_word a k small_a few)
    (joining_bytes b).0 (joining_bytes b).1 in
    let magnitude = magnitude_word (unsigned_abs b) k small_b few in
    let both = word-append 30 28 (part_text a k ++ joining_text b)
    (magnitude_text (unsigned_abs b) k) front magnitude.bytes magnitude.short in
    word-append 58 2 (part_text a k ++ joining_text b ++ magnitude_text (unsigned_abs b) k)
    (codes "r2") both root_bytes (omega arith)

root_word : (b : ℤ) (k : ℕ) → unsigned_abs b ≤ 2 ^ 36 → k ≤ 16 → IsWord 60 (part_text b k ++ codes "r2")
root_word b k small few =
    longer 31 60 (part_text b k ++ codes "r2") (omega arith)
    (word-append 29 2 (part_text b k) (codes "r2") (part_word b k small few) root_bytes (omega arith))

parts_word : (a b : ℤ) (k : ℕ) → unsigned_abs a ≤ 2 ^ 36 → unsigned_abs b ≤ 2 ^ 36 → k ≤ 16
    → IsWord 60 (parts_text a b k)
parts_word a (pos zero) k small_a small_b few =
    longer 29 60 (part_text a k) (omega arith) (part_word a k small_a few)
parts_word (pos zero) (pos (suc n)) k small_a small_b few = root_word (pos (suc n)) k small_b few
parts_word (pos zero) (negsuc n) k small_a small_b few = root_word (negsuc n) k small_b few
parts_word (pos (suc m)) (pos (suc n)) k small_a small_b few =
    both_word (pos (suc m)) (pos (suc n)) k small_a small_b few
parts_word (pos (suc m)) (negsuc n) k small_a small_b few =
    both_word (pos (suc m)) (negsuc n) k small_a small_b few
parts_word (negsuc m) (pos (suc n)) k small_a small_b few =
    both_word (negsuc m) (pos (suc n)) k small_a small_b few
parts_word (negsuc m) (negsuc n) k small_a small_b few = both_word (negsuc m) (negsuc n) k small_a small_b few

number_word : (s : Surd) → IsWord 60 (number_text (number_of s))
unfolding number_text
number_word s = parts_word s.a s.b s.k s.stored.1.0 s.stored.1.1 s.stored.1.2

-- ---- the words of a line

not_blank : (b : ℕ) → 43 ≤ b → is_blank b ≡ false
not_blank b h = grind (arith, nat_tests)

words_from-word : (front word rest : List ℕ) → AtLeast 43 word
    → words_from front (word ++ rest) ≡ words_from (front ++ word) rest
words_from-word front [] rest h = ap (λ f. words_from f rest) (sym (append-nil front))
words_from-word front (b ∷ bs) rest h =
    let plain : is_blank b ≡ false = not_blank b (at_least_first 43 b bs h) in
    rw plain (words_from-word (front ++ b ∷ []) bs rest (at_least_rest 43 b bs h)
    ∙ ap (λ f. words_from f rest) (append_assoc front (b ∷ []) bs))

after_word-some : (word : List ℕ) (words : List (List ℕ)) → 0 < length word
    → after_word word words ≡ word ∷ words
after_word-some [] words h = absurd (omega arith)
after_word-some (b ∷ bs) words h = refl

-- a word, a space and the rest
words_of-word : (word rest : List ℕ) → AtLeast 43 word → 0 < length word
    → words_of (word ++ 32 ∷ rest) ≡ word ∷ words_of rest
words_of-word word rest h some =
    words_from-word [] word (32 ∷ rest) h ∙ after_word-some word (words_of rest) some

words_of-last : (word : List ℕ) → AtLeast 43 word → 0 < length word → words_of word ≡ word ∷ []
words_of-last word h some =
    ap words_of (sym (append-nil word)) ∙ words_from-word [] word [] h ∙ after_word-some word [] some

abbrev text_of : Surd → List ℕ
text_of s = number_text (number_of s)

kind_bytes : (kind : Kind) → AtLeast 43 (kind_digit kind ∷ [])
kind_bytes Edge = at_least_one 43 49 (omega arith)
kind_bytes Mountain = at_least_one 43 50 (omega arith)
kind_bytes Valley = at_least_one 43 51 (omega arith)
kind_bytes Aux = at_least_one 43 52 (omega arith)
kind_bytes Unassigned = at_least_one 43 53 (omega arith)

body-split : (d : ℕ) (t1 t2 t3 t4 : List ℕ)
    → d ∷ ((32 ∷ t1) ++ (32 ∷ t2)) ++ ((32 ∷ t3) ++ (32 ∷ t4)) ≡ (d ∷ [])
    ++ 32 ∷ (t1 ++ 32 ∷ (t2 ++ 32 ∷ (t3 ++ 32 ∷ t4)))
body-split d t1 t2 t3 t4 = simp append_assoc

body_words : (line : CpLine)
    → words_of (line_body line) ≡ (kind_digit line.kind ∷ []) ∷ text_of line.from.x ∷ text_of line.from.y ∷
    text_of line.to.x ∷ text_of line.to.y ∷ []
body_words line =
    let w1 = number_word line.from.x in
    let w2 = number_word line.from.y in
    let w3 = number_word line.to.x in
    let w4 = number_word line.to.y in
    ap words_of (body-split (kind_digit line.kind) (text_of line.from.x) (text_of line.from.y)
    (text_of line.to.x) (text_of line.to.y))
    ∙ words_of-word (kind_digit line.kind ∷ [])
    (text_of line.from.x ++ 32 ∷ (text_of line.from.y
    ++ 32 ∷ (text_of line.to.x ++ 32 ∷ text_of line.to.y))) (kind_bytes line.kind) (omega arith)
    ∙ ap (λ ws. (kind_digit line.kind ∷ []) ∷ ws)
    (words_of-word (text_of line.from.x)
    (text_of line.from.y ++ 32 ∷ (text_of line.to.x ++ 32 ∷ text_of line.to.y)) w1.bytes w1.some
    ∙ ap (λ ws. text_of line.from.x ∷ ws)
    (words_of-word (text_of line.from.y) (text_of line.to.x ++ 32 ∷ text_of line.to.y) w2.bytes w2.some
    ∙ ap (λ ws. text_of line.from.y ∷ ws)
    (words_of-word (text_of line.to.x) (text_of line.to.y) w3.bytes w3.some
    ∙ ap (λ ws. text_of line.to.x ∷ ws) (words_of-last (text_of line.to.y) w4.bytes w4.some))))

coordinate-reads : (place : ℕ) (s : Surd) → coordinate_read place (text_of s) ≡ Ok s
coordinate-reads place s = ap (coordinate_or_fault place) (number_text-reads s)

abbrev line_numbers : CpLine → List (List ℕ)
line_numbers line = text_of line.from.x ∷ text_of line.from.y ∷ text_of line.to.x ∷ text_of line.to.y ∷ []

kind-reads : (kind : Kind) (words : List (List ℕ))
    → words_line ((kind_digit kind ∷ []) ∷ words) ≡ kind_line (Some kind) words
kind-reads Edge words = refl
kind-reads Mountain words = refl
kind-reads Valley words = refl
kind-reads Aux words = refl
kind-reads Unassigned words = refl

numbers-read : (line : CpLine) → kind_line (Some line.kind) (line_numbers line) ≡ Ok line
numbers-read line =
    let x1 = coordinate-reads 1 line.from.x in
    let y1 = coordinate-reads 2 line.from.y in
    let x2 = coordinate-reads 3 line.to.x in
    let y2 = coordinate-reads 4 line.to.y in
    rw (x1, y1, x2, y2) refl

length-body : (line : CpLine) → length (line_body line) ≤ longest_line
length-body line =
    let w1 = number_word line.from.x in
    let w2 = number_word line.from.y in
    let w3 = number_word line.to.x in
    let w4 = number_word line.to.y in
    omega (
      arith,
      w1.short,
      w2.short,
      w3.short,
      w4.short,
      length-append (coordinate_text line.from.x) (coordinate_text line.from.y),
      length-append (coordinate_text line.to.x) (coordinate_text line.to.y),
      length-append (point_text line.from) (point_text line.to),
    )

not_long : (line : List ℕ) → length line ≤ longest_line → line_read line ≡ words_line (words_of line)
unfolding line_read
not_long line h = let short : nat_lt longest_line (length line) ≡ false = grind (arith, nat_tests)
    in rw short refl

pub line_body-reads : (line : CpLine) → line_read (line_body line) ≡ Ok line
line_body-reads line =
    not_long (line_body line) (length-body line)
    ∙ ap words_line (body_words line)
    ∙ kind-reads line.kind (line_numbers line)
    ∙ numbers-read line

-- ---- the lines of a pattern

coordinate_bytes : (s : Surd) → AtLeast 32 (coordinate_text s)
coordinate_bytes s =
    at_least_cons 32 32 (text_of s) (omega arith)
    (at_least_less 32 43 (text_of s) (omega arith) (number_word s).bytes)

point_text_bytes : (p : Point) → AtLeast 32 (point_text p)
point_text_bytes p =
    at_least_append 32 (coordinate_text p.x) (coordinate_text p.y) (coordinate_bytes p.x)
    (coordinate_bytes p.y)

body_bytes : (line : CpLine) → AtLeast 32 (line_body line)
body_bytes line =
    at_least_append 32 (kind_digit line.kind ∷ point_text line.from) (point_text line.to)
    (at_least_append 32 (kind_digit line.kind ∷ []) (point_text line.from)
    (at_least_less 32 43 (kind_digit line.kind ∷ []) (omega arith) (kind_bytes line.kind))
    (point_text_bytes line.from))
    (point_text_bytes line.to)

no_feed : (b : ℕ) → 32 ≤ b → (b == 10) ≡ false
no_feed b h = grind (arith, nat_tests)

lines_from-line : (front line rest : List ℕ) → AtLeast 32 line
    → lines_from front (line ++ 10 ∷ rest) ≡ (front ++ line) ∷ lines_of rest
lines_from-line front [] rest h = ap (λ f. f ∷ lines_of rest) (sym (append-nil front))
lines_from-line front (b ∷ bs) rest h =
    let plain : (b == 10) ≡ false = no_feed b (at_least_first 32 b bs h) in
    rw plain (lines_from-line (front ++ b ∷ []) bs rest (at_least_rest 32 b bs h)
    ∙ ap (λ f. f ∷ lines_of rest) (append_assoc front (b ∷ []) bs))

lines_of-line : (line : CpLine) (rest : List ℕ)
    → lines_of (line_text line ++ rest) ≡ line_body line ∷ lines_of rest
unfolding line_text
lines_of-line line rest =
    ap lines_of (append_assoc (line_body line) (10 ∷ []) rest)
    ∙ lines_from-line [] (line_body line) rest (body_bytes line)

pub lines_text-reads : (lines : List CpLine) → map line_read (lines_of (lines_text lines)) ≡ map Ok lines
lines_text-reads [] = refl
lines_text-reads (line ∷ lines) =
    ap (map line_read) (lines_of-line line (lines_text lines))
    ∙ ap₂ (λ r rs. r ∷ rs) (line_body-reads line) (lines_text-reads lines)

pub pattern_text-reads : (p : PatternView)
    → map line_read (lines_of (pattern_text p)) ≡ map Ok (pattern_lines p)
pattern_text-reads p = lines_text-reads (pattern_lines p)

-- ---- the lines without their ends

-- no byte of a line is a carriage return, and past its end none is read
no_return : (bytes : List ℕ) (k : ℕ) → AtLeast 32 bytes → (get_or bytes k 0 == 13) ≡ false
no_return [] k h = refl
no_return (b ∷ bs) zero h = let first = at_least_first 32 b bs h in grind (arith, nat_tests)
no_return (b ∷ bs) (suc k) h = no_return bs k (at_least_rest 32 b bs h)

bare : (line : List ℕ) → AtLeast 32 line → without_return line ≡ line
bare line h = ap (λ b. cond b (take (length line - 1) line) line) (no_return line (length line - 1) h)

bare_lines-line : (line : CpLine) (rest : List ℕ)
    → bare_lines (line_text line ++ rest) ≡ line_body line ∷ bare_lines rest
bare_lines-line line rest =
    ap (map without_return) (lines_of-line line rest)
    ∙ ap (λ l. l ∷ bare_lines rest) (bare (line_body line) (body_bytes line))

lines_text-parted : (lines : List CpLine) (rest : List ℕ)
    → bare_lines (lines_text lines ++ rest) ≡ map line_body lines ++ bare_lines rest
lines_text-parted [] rest = refl
lines_text-parted (line ∷ lines) rest =
    ap bare_lines (append_assoc (line_text line) (lines_text lines) rest)
    ∙ bare_lines-line line (lines_text lines ++ rest)
    ∙ ap (λ ls. line_body line ∷ ls) (lines_text-parted lines rest)

pub pattern_text-parted : (p : PatternView) (rest : List ℕ)
    → bare_lines (pattern_text p ++ rest) ≡ map line_body (pattern_lines p) ++ bare_lines rest
pattern_text-parted p rest = lines_text-parted (pattern_lines p) rest
