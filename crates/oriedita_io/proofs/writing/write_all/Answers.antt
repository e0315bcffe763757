use Rattle.std.proofs.Common.{◌≡◌, ℕ, ◌+◌, ◌-◌, ◌<◌, List, ◌++◌, Option, length, take, drop, arith, sym, subst, ◌∙◌, length-drop}
use Rattle.std.proofs.Math.Seq.{take-add}
use Rattle.std.proofs.lemmas.List.{take_rest}
use Rattle.std.proofs.KnownBytes.{Appends-trans}
use Rattle.std.specs.Io.KnownBytes.{Appends}
use Rattle.oriedita_io.proofs.Finished.{FinishedAfter-add}
use Rattle.oriedita_io.proofs.writing.write_all.Goals as goal

-- the front of the bytes, and then the front of the rest
Appends-more : (a b c : Option (List ℕ)) (m n : ℕ) (bytes : List ℕ) → Appends a b (take m bytes)
    → Appends b c (take n (take (length bytes - m) (drop m bytes))) → Appends a c (take (m + n) bytes)
Appends-more a b c m n bytes first second =
    let joined : take m bytes
    ++ take n (take (length bytes - m) (drop m bytes)) ≡ take (m + n) bytes =
    rw (take_rest bytes m) (sym (take-add m n bytes)) in
    subst (Appends a c) joined (Appends-trans a b c _ _ first second)

-- the rest is as long as what was not written
length-rest : (bytes : List ℕ) (m : ℕ) → length (take (length bytes - m) (drop m bytes)) ≡ length bytes - m
length-rest bytes m = rw (take_rest bytes m) (length-drop m bytes)

pub loop-written-preserved : goal.loop-written-preserved
loop-written-preserved g c =
    let before = c.loop-written.invariant in
    let step = c.in_ok-written.ensures in
    let rest = length-rest c.args.bytes.now c.loop-written.written in
    let some : 0 < c.in_ok-written.field-0 = step.some (omega arith) in
    record {
      within = omega arith;
      appended = Appends-more _ _ _ c.loop-written.written c.in_ok-written.field-0 c.args.bytes.now
          before.appended step.bytes;
      finished = FinishedAfter-add _ _ _ _ _ before.finished step.finished;
      faults = step.faults_stay ∙ before.faults;
      nothing = λ none. absurd (omega arith);
    }
