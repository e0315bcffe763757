-- The first line of each reply.
use Rattle.std.specs.Prelude.{ℕ, List, [], ◌∷◌, ◌++◌, map, codes, decimal}
use Rattle.sign_rules.specs.declared.sign.Sign.{Sign}
use Rattle.sign_rules.specs.declared.sign.Sign.TheVariants.{Over, Under}
use Rattle.script_lang.specs.declared.reply.Reply.{Reply}
use Rattle.script_lang.specs.declared.reply.Reply.TheVariants.{Version, Listed, Checked, Job, Asked, Budget, Shown, NoMore, Paused, Running, Cancelled, Refused}
use Rattle.script_lang.specs.Refusals.{refusal_text}

-- `+` where the first face of the pair is above the second, `-` where it is below
abbrev pub sign_byte : Sign → ℕ
sign_byte Over = 43
sign_byte Under = 45

-- a byte for each pair, and a point where there is no pair
abbrev pub signs_text : List Sign → List ℕ
signs_text [] = codes "."
signs_text (sign ∷ signs) = map sign_byte (sign ∷ signs)

-- a job, and the version that it folds
abbrev pub job_text : ℕ → ℕ → List ℕ
job_text job version = codes "job " ++ decimal job ++ codes " version " ++ decimal version

-- a line with its line feed
abbrev pub head_text : Reply → List ℕ
head_text (Version version pieces) =
    codes "version " ++ decimal version ++ codes " pieces " ++ decimal pieces ++ codes "\n"
head_text (Listed version pieces) =
    codes "list " ++ decimal version ++ codes " " ++ decimal pieces ++ codes "\n"
head_text (Checked version faults) =
    codes "check " ++ decimal version ++ codes " " ++ decimal faults ++ codes "\n"
head_text (Job job version faces pairs) =
    job_text job version ++ codes " faces " ++ decimal faces ++ codes " pairs " ++ decimal pairs ++ codes "\n"
head_text (Asked job) = codes "asked " ++ decimal job ++ codes "\n"
head_text (Budget budget) = codes "budget " ++ decimal budget ++ codes "\n"
head_text (Shown job version number order) =
    job_text job version ++ codes " order " ++ decimal number ++ codes " " ++ signs_text order.list
    ++ codes "\n"
head_text (NoMore job version) = job_text job version ++ codes " no more\n"
head_text (Paused job version) = job_text job version ++ codes " paused\n"
head_text (Running job version) = job_text job version ++ codes " running\n"
head_text (Cancelled job) = codes "cancelled " ++ decimal job ++ codes "\n"
head_text (Refused refusal) = codes "refused " ++ refusal_text refusal ++ codes "\n"
