use Rattle.std.proofs.Common.{rules}
use Rattle.oriedita_cli.proofs.opening.load_file.Goals as goal

pub returns-clause-ok : goal.returns-clause-ok
returns-clause-ok g c = record {
  bytes = c.in_ok-bytes.bytes.items;
  read = c.in_ok-bytes.ensures.ok;
  fits = c.in_ok-bytes.ensures.size;
  command = search rules;
}

pub returns-in_err-bytes-clause-long : goal.returns-in_err-bytes-clause-long
returns-in_err-bytes-clause-long g c = λ is. c.read_whole_file.ensures.long (search rules)

pub returns-in_err-first-clause-long : goal.returns-in_err-first-clause-long
returns-in_err-first-clause-long g c = λ is. absurd (search rules)
