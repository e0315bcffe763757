-- No file so far has the path.
use Rattle.std.proofs.Common.{◌≡◌, drop}
use Rattle.oriedita_io.specs.Files.{file_at}
use Rattle.oriedita_io.proofs.mem_opener.find.Given as goal

abbrev pub invariant-loop-file : goal.invariant-loop-file
invariant-loop-file l = file_at (drop l.file-index l.files) l.path ≡ file_at l.fn.files l.path
