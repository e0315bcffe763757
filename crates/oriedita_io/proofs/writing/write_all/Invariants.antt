-- The sink took the bytes that are counted.
use Rattle.std.proofs.Common.{◌≡◌, ◌-◌, ◌≤◌, length, take}
use Rattle.std.specs.Io.KnownBytes.{Appends}
use Rattle.oriedita_io.specs.Told.{FinishedAfter}
use Rattle.oriedita_io.proofs.writing.write_all.Given as goal

abbrev pub invariant-loop-written : goal.invariant-loop-written
invariant-loop-written g l = record {
  within : l.written ≤ length l.bytes;
  appended : Appends (g.K.Sink.taken l.initial.sink) (g.K.Sink.taken l.sink) (take l.written l.bytes);
  finished : FinishedAfter (g.K.Sink.finished l.initial.sink) (g.K.Sink.finished l.sink) l.written;
  faults : g.K.Sink.faults l.sink ≡ g.K.Sink.faults l.initial.sink;
  nothing : l.written ≡ 0 → l.sink ≡ l.initial.sink;
}

abbrev pub decreases-loop-written : goal.decreases-loop-written
decreases-loop-written g l = length l.bytes - l.written
