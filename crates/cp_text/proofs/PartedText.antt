-- Words and lines are those of which a text is put together.
use Rattle.std.proofs.Common.{◌≡◌, ◌≢◌, ℕ, ◌-◌, inl, inr, List, [], ◌∷◌, ◌++◌, length, map, take, Bool, true, false, not, ◌&&◌, ◌==◌, refl, ap, ap₂, sym, ◌∙◌, arith, subst, append_assoc}
use Rattle.std.specs.List.{list_all}
use Rattle.std.specs.Prelude.{slice_index}
use Rattle.std.proofs.lemmas.Bool.{cases_eq}
use Rattle.std.proofs.lemmas.Bool.Decides.{nat_tests}
use Rattle.std.proofs.lemmas.List.{append-nil, length-append, take_all, take_at}
use Rattle.std.proofs.lemmas.List.Folds.{list_all-append}
use Rattle.cp_text.specs.Words.{is_blank, after_word, words_from, words_of, lines_from, lines_of, without_return}
use Rattle.cp_text.specs.PartedText.{are_blanks, has_no_blank, Spaced, AreSpaced, spaced_text, IsLineOf, has_no_feed, fed_text, line_if_any, IsTextOf}
use Rattle.cp_text.specs.Laws.{WordsArePartedByBlanks, LinesEndAtFeeds}
use Rattle.cp_text.proofs.DigitTexts.{bool_cases, both_true}
use Rattle.cp_text.proofs.DigitValues.{take_last}

not_true : (b : Bool) → not b ≡ true → b ≡ false
not_true true h = cc
not_true false h = refl

some_not_none : (b : ℕ) (bs : List ℕ) → (b ∷ bs) ≢ []
some_not_none b bs e = cc

after_some : (word : List ℕ) (words : List (List ℕ)) → word ≢ [] → after_word word words ≡ word ∷ words
after_some [] words some = absurd (some refl)
after_some (b ∷ bs) words some = refl

-- ---- from a line put together to its words

blanks_first : (blanks rest : List ℕ) → are_blanks blanks ≡ true
    → words_from [] (blanks ++ rest) ≡ words_from [] rest
blanks_first [] rest h = refl
blanks_first (b ∷ bs) rest h =
    let parts = both_true (is_blank b) (list_all is_blank bs) h in
    let first : is_blank b ≡ true = parts.0 in
    rw first (blanks_first bs rest parts.1)

plain_first : (word more rest : List ℕ) → has_no_blank more ≡ true
    → words_from word (more ++ rest) ≡ words_from (word ++ more) rest
plain_first word [] rest h = ap (λ w. words_from w rest) (sym (append-nil word))
plain_first word (b ∷ bs) rest h =
    let parts = both_true (not (is_blank b)) (has_no_blank bs) h in
    let first : is_blank b ≡ false = not_true (is_blank b) parts.0 in
    rw first (plain_first (word ++ b ∷ []) bs rest parts.1
    ∙ ap (λ w. words_from w rest) (append_assoc word (b ∷ []) bs))

word_ended : (word blanks : List ℕ) (next : List Spaced) → word ≢ [] → are_blanks blanks ≡ true
    → (blanks ≡ [] → next ≡ [])
    → words_from word (blanks ++ spaced_text next) ≡ word ∷ words_from [] (spaced_text next)
word_ended word [] next some h parted =
    let last : next ≡ [] = parted refl in rw last (after_some word [] some)
word_ended word (b ∷ bs) next some h parted =
    let parts = both_true (is_blank b) (list_all is_blank bs) h in
    let first : is_blank b ≡ true = parts.0 in
    rw first (after_some word (words_from [] (bs ++ spaced_text next)) some
    ∙ ap (λ ws. word ∷ ws) (blanks_first bs (spaced_text next) parts.1))

spaced_words : (spaced : List Spaced) → AreSpaced spaced
    → words_from [] (spaced_text spaced) ≡ map (λ (s : Spaced). s.word) spaced
spaced_words [] h = refl
spaced_words (s ∷ next) h =
    plain_first [] s.word (s.blanks ++ spaced_text next) h.0.plain
    ∙ word_ended s.word s.blanks next h.0.some h.0.blanks h.0.parted
    ∙ ap (λ ws. s.word ∷ ws) (spaced_words next h.1)

-- ---- from a line to how it is put together

word_alone : (word : List ℕ) → has_no_blank word ≡ true → IsLineOf (word ++ []) (after_word word [])
word_alone [] h = record {
  front = [];
  spaced = [];
  blanks = refl;
  parted = tt;
  written = refl;
  words_are = refl;
}
word_alone (b ∷ bs) h = record {
  front = [];
  spaced = record { word = b ∷ bs; blanks = [] } ∷ [];
  blanks = refl;
  parted = (record { some = some_not_none b bs; plain = h; blanks = refl; parted = λ e. refl }, tt);
  written = refl;
  words_are = refl;
}

blank_more : (word : List ℕ) (b : ℕ) (bs : List ℕ) (words : List (List ℕ)) → has_no_blank word ≡ true
    → is_blank b ≡ true → IsLineOf bs words → IsLineOf (word ++ (b ∷ bs)) (after_word word words)
blank_more [] b bs words h blank l = record {
  front = b ∷ l.front;
  spaced = l.spaced;
  blanks = ap₂ (λ p q. p && q) blank l.blanks;
  parted = l.parted;
  written = ap (λ t. b ∷ t) l.written;
  words_are = l.words_are;
}
blank_more (w ∷ ws) b bs words h blank l = record {
  front = [];
  spaced = record { word = w ∷ ws; blanks = b ∷ l.front } ∷ l.spaced;
  blanks = refl;
  parted = (
    record {
      some = some_not_none w ws;
      plain = h;
      blanks = ap₂ (λ p q. p && q) blank l.blanks;
      parted = λ e. absurd (some_not_none b l.front e);
    },
    l.parted,
  );
  written = ap (λ t. (w ∷ ws) ++ (b ∷ t)) l.written;
  words_are = ap (λ t. (w ∷ ws) ∷ t) l.words_are;
}

plain_more : (word : List ℕ) (b : ℕ) → has_no_blank word ≡ true → is_blank b ≡ false
    → has_no_blank (word ++ b ∷ []) ≡ true
plain_more word b h plain =
    let last : has_no_blank (b ∷ []) ≡ true = rw plain refl in
    list_all-append (λ c. not (is_blank c)) word (b ∷ []) ∙ ap₂ (λ p q. p && q) h last

parted_from : (word line : List ℕ) → has_no_blank word ≡ true → IsLineOf (word ++ line) (words_from word line)
parted_from word [] h = word_alone word h
parted_from word (b ∷ bs) h =
    elim (bool_cases (is_blank b)) [
      | inl blank ↦ rw blank (blank_more word b bs (words_from [] bs) h blank (parted_from [] bs refl))
      | inr plain ↦
          let P : List ℕ → Type 0 = λ line. IsLineOf line (words_from (word ++ b ∷ []) bs) in
          rw plain (subst P (append_assoc word (b ∷ []) bs)
          (parted_from (word ++ b ∷ []) bs (plain_more word b h plain)))
    ]

pub words_are_parted_by_blanks : WordsArePartedByBlanks
words_are_parted_by_blanks line words = (
  (λ e. subst (IsLineOf line) e (parted_from [] line refl)),
  (λ l. ap words_of (sym l.written) ∙ blanks_first l.front (spaced_text l.spaced) l.blanks
      ∙ spaced_words l.spaced l.parted ∙ l.words_are),
)

-- ---- lines

if_any : (bytes : List ℕ) → after_word bytes [] ≡ line_if_any bytes
if_any [] = refl
if_any (b ∷ bs) = refl

no_feed_first : (line more rest : List ℕ) → has_no_feed more ≡ true
    → lines_from line (more ++ rest) ≡ lines_from (line ++ more) rest
no_feed_first line [] rest h = ap (λ l. lines_from l rest) (sym (append-nil line))
no_feed_first line (b ∷ bs) rest h =
    let parts = both_true (not (b == 10)) (has_no_feed bs) h in
    let first : (b == 10) ≡ false = not_true (b == 10) parts.0 in
    rw first (no_feed_first (line ++ b ∷ []) bs rest parts.1
    ∙ ap (λ l. lines_from l rest) (append_assoc line (b ∷ []) bs))

fed_lines : (fed : List (List ℕ)) (last : List ℕ) → list_all has_no_feed fed ≡ true → has_no_feed last ≡ true
    → lines_from [] (fed_text fed ++ last) ≡ fed ++ line_if_any last
fed_lines [] last h h' =
    ap (lines_from []) (sym (append-nil last)) ∙ no_feed_first [] last [] h' ∙ if_any last
fed_lines (line ∷ lines) last h h' =
    let parts = both_true (has_no_feed line) (list_all has_no_feed lines) h in
    ap (lines_from []) (append_assoc line (10 ∷ fed_text lines) last)
    ∙ no_feed_first [] line (10 ∷ (fed_text lines ++ last)) parts.0
    ∙ ap (λ ls. line ∷ ls) (fed_lines lines last parts.1 h')

no_feed_more : (line : List ℕ) (b : ℕ) → has_no_feed line ≡ true → (b == 10) ≡ false
    → has_no_feed (line ++ b ∷ []) ≡ true
no_feed_more line b h plain =
    let last : has_no_feed (b ∷ []) ≡ true = rw plain refl in
    list_all-append (λ c. not (c == 10)) line (b ∷ []) ∙ ap₂ (λ p q. p && q) h last

fed_from : (line bytes : List ℕ) → has_no_feed line ≡ true → IsTextOf (line ++ bytes) (lines_from line bytes)
fed_from line [] h =
    record {
      fed = [];
      last = line;
      fed_lines = refl;
      last_line = h;
      written = sym (append-nil line);
      lines_are = sym (if_any line);
    }
fed_from line (b ∷ bs) h =
    elim (cases_eq b 10) [
      | inl feed ↦
          let test : (b == 10) ≡ true = grind (arith, nat_tests) in
          let rest = fed_from [] bs refl in
          rw test (record {
            fed = line ∷ rest.fed;
            last = rest.last;
            fed_lines = ap₂ (λ p q. p && q) h rest.fed_lines;
            last_line = rest.last_line;
            written = append_assoc line (10 ∷ fed_text rest.fed) rest.last
                ∙ ap₂ (λ x t. line ++ (x ∷ t)) (sym feed) rest.written;
            lines_are = ap (λ ls. line ∷ ls) rest.lines_are;
          })
      | inr other ↦
          let plain : (b == 10) ≡ false = grind (arith, nat_tests) in
          let P : List ℕ → Type 0 = λ t. IsTextOf t (lines_from (line ++ b ∷ []) bs) in
          rw plain (subst P (append_assoc line (b ∷ []) bs)
          (fed_from (line ++ b ∷ []) bs (no_feed_more line b h plain)))
    ]

slice_index-last : (line : List ℕ) (b : ℕ) → slice_index (line ++ b ∷ []) (length line) ≡ b
slice_index-last [] b = refl
slice_index-last (c ∷ cs) b = slice_index-last cs b

returned : (line : List ℕ) → without_return (line ++ 13 ∷ []) ≡ line
returned line =
    let len : length (line ++ 13 ∷ []) - 1 ≡ length line = omega (arith, length-append line (13 ∷ [])) in
    let last : slice_index (line ++ 13 ∷ []) (length line) ≡ 13 = slice_index-last line 13 in
    rw (len, last) (take_at line (13 ∷ []) (length line) refl)

not_returned : (line : List ℕ) → ((front : List ℕ) → line ≢ front ++ 13 ∷ []) → without_return line ≡ line
not_returned [] h = refl
not_returned (b ∷ bs) h =
    elim (cases_eq (slice_index (b ∷ bs) (length (b ∷ bs) - 1)) 13) [
      | inl last ↦
          let n = length (b ∷ bs) in
          let parted = take_last n (b ∷ bs) (omega arith) (omega arith) in
          absurd (h (take (n - 1) (b ∷ bs))
          (sym (take_all n (b ∷ bs) (omega arith)) ∙ parted
          ∙ ap (λ x. take (n - 1) (b ∷ bs) ++ x ∷ []) last))
      | inr other ↦
          let test : (slice_index (b ∷ bs) (length (b ∷ bs) - 1) == 13) ≡ false = grind (arith, nat_tests) in
          rw test refl
    ]

pub lines_end_at_feeds : LinesEndAtFeeds
lines_end_at_feeds = record {
  lines = λ bytes lines. (
    (λ e. subst (IsTextOf bytes) e (fed_from [] bytes refl)),
    (λ t. ap lines_of (sym t.written) ∙ fed_lines t.fed t.last t.fed_lines t.last_line ∙ t.lines_are),
  );
  bare = λ bytes. refl;
  returns = returned;
  others = not_returned;
}
