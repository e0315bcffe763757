-- Answers with a list of pairs or a refusal.
use Rattle.std.specs.Prelude.{◌≢◌, Err}
use Rattle.std.specs.declared.result.Result.{Result}
use Rattle.layer_rules.specs.declared.face_pairs.PairsFault.{PairsFault}
use Rattle.layer_rules.specs.declared.face_pairs.PairsFault.TheVariants.{Memory}

-- memory did not run out
abbrev pub HasMemory : {T : Type 0} → Result T PairsFault → Type 0
HasMemory result = result ≢ Err Memory
