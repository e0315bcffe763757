-- How runs of commands join, where all are served and where the last one stops.
use Rattle.std.proofs.Common.{◌≡◌, ℕ, List, [], ◌∷◌, ◌++◌, Option, take, drop, refl, sym, ap, ◌∙◌, append_assoc}
use Rattle.std.proofs.lemmas.List.{append-nil, take-append-drop}
use Rattle.std.specs.Prelude.{Result, Ok, Err, OnErr}
use Rattle.std.specs.Io.KnownBytes.{Appends}
use Rattle.std.proofs.KnownBytes.{Appends-nil, Appends-trans}
use Rattle.script_lang.specs.declared.command.Command.{Command}
use Rattle.job_register.specs.declared.session.Event.{Event}
use Rattle.job_register.specs.Legal.{commands_in}
use Rattle.job_register.specs.Text.{text_of}
use Rattle.job_register.specs.View.{SessionView}
use Rattle.oriedita_cli.specs.Serving.{Serves, StopsIn, OnlyPosts}

-- what holds in any case holds after an error
pub on_any : {A E : Type 0} (r : Result A E) (P : Type 0) → P → OnErr r P
on_any (Ok x) P p = tt
on_any (Err e) P p = p

-- before the first command; what was posted meanwhile has no command and no text
pub stops_before : (es fs : List Event) (taken : Option (List ℕ)) (commands : List Command)
    → commands_in fs ≡ commands_in es → text_of fs ≡ text_of es → StopsIn es fs taken taken commands
stops_before es fs taken commands same quiet = record {
  ran = [];
  left = commands;
  front = refl;
  commands_are = same ∙ sym (append-nil (commands_in es));
  text = [];
  unwritten = [];
  text_is = quiet ∙ sym (append-nil (text_of es));
  written = Appends-nil taken;
}

-- while the text of a command is written
pub stops_in_text : (old new : List Event) (taken taken' : Option (List ℕ)) (command : Command)
    (text : List ℕ) (count : ℕ)
    → commands_in new ≡ commands_in old ++ command ∷ [] → text_of new ≡ text_of old ++ text
    → Appends taken taken' (take count text)
    → StopsIn old new taken taken' (command ∷ [])
stops_in_text old new taken taken' command text count ran told written = record {
  ran = command ∷ [];
  left = [];
  front = refl;
  commands_are = ran;
  text = take count text;
  unwritten = drop count text;
  text_is = told ∙ ap (λ xs. text_of old ++ xs) (sym (take-append-drop count text));
  written = written;
}

-- none yet
pub serves_none : (es : List Event) (taken : Option (List ℕ)) → Serves es es taken taken []
serves_none es taken = record {
  commands_are = sym (append-nil (commands_in es));
  text = [];
  text_is = sym (append-nil (text_of es));
  written = Appends-nil taken;
}

pub serves_both : (es fs gs : List Event) (t u v : Option (List ℕ)) (commands more : List Command)
    → Serves es fs t u commands → Serves fs gs u v more → Serves es gs t v (commands ++ more)
serves_both es fs gs t u v commands more first second = record {
  commands_are = second.commands_are ∙ ap (λ xs. xs ++ more) first.commands_are
      ∙ append_assoc (commands_in es) commands more;
  text = first.text ++ second.text;
  text_is = second.text_is ∙ ap (λ xs. xs ++ second.text) first.text_is
      ∙ append_assoc (text_of es) first.text second.text;
  written = Appends-trans t u v first.text second.text first.written second.written;
}

pub serves_then_stops : (es fs gs : List Event) (t u v : Option (List ℕ)) (commands more rest : List Command)
    → Serves es fs t u commands → StopsIn fs gs u v more → StopsIn es gs t v (commands ++ (more ++ rest))
serves_then_stops es fs gs t u v commands more rest first second = record {
  ran = commands ++ second.ran;
  left = second.left ++ rest;
  front = ap (λ xs. commands ++ (xs ++ rest)) second.front
      ∙ ap (λ xs. commands ++ xs) (append_assoc second.ran second.left rest)
      ∙ sym (append_assoc commands second.ran (second.left ++ rest));
  commands_are = second.commands_are ∙ ap (λ xs. xs ++ second.ran) first.commands_are
      ∙ append_assoc (commands_in es) commands second.ran;
  text = first.text ++ second.text;
  unwritten = second.unwritten;
  text_is = second.text_is ∙ ap (λ xs. xs ++ (second.text ++ second.unwritten)) first.text_is
      ∙ append_assoc (text_of es) first.text (second.text ++ second.unwritten)
      ∙ ap (λ xs. text_of es ++ xs) (sym (append_assoc first.text second.text second.unwritten));
  written = Appends-trans t u v first.text second.text first.written second.written;
}

-- ---- outcomes that are taken between commands

pub goes_nowhere : (s : SessionView) → OnlyPosts s s
goes_nowhere s = record { commands = refl; text = refl; running = refl; most = refl; asks = refl; ends = refl }

pub goes_both : (r s t : SessionView) → OnlyPosts r s → OnlyPosts s t → OnlyPosts r t
goes_both r s t first second = record {
  commands = second.commands ∙ first.commands;
  text = second.text ∙ first.text;
  running = second.running ∙ first.running;
  most = second.most ∙ first.most;
  asks = second.asks ∙ first.asks;
  ends = second.ends ∙ first.ends;
}
