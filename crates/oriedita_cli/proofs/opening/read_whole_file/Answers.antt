use Rattle.std.proofs.Common.{◌≡◌, Result, refl, subst, arith}
use Rattle.std.specs.Prelude.{IsErrAnd}
use Rattle.oriedita_io.specs.declared.faults.OpenFault.{OpenFault}
use Rattle.oriedita_io.specs.declared.faults.OpenFault.TheVariants as fault
use Rattle.oriedita_cli.specs.declared.opening.Unread.{Unread}
use Rattle.oriedita_cli.specs.declared.opening.Unread.TheVariants.{TooLong}
use Rattle.oriedita_cli.specs.Opening.{unread_of}
use Rattle.oriedita_cli.proofs.opening.read_whole_file.Goals as goal

apart : (cause : OpenFault) → TooLong ≡ unread_of cause → ⊥
apart fault.Failed same = absurd (cc)
apart fault.Memory same = absurd (cc)

pub returns-then-len-gt-LONGEST_INPUT-clause-long : goal.returns-then-len-gt-LONGEST_INPUT-clause-long
returns-then-len-gt-LONGEST_INPUT-clause-long g c = λ _. record {
  named = c.args.path.now;
  is_named = refl;
  bytes = c.in_ok-bytes.bytes.items;
  read = c.in_ok-bytes.ensures.bytes;
  long = omega (arith, c.if-len-gt-LONGEST_INPUT.true, c.len.ensures);
}

pub returns-in_err-bytes-clause-long : goal.returns-in_err-bytes-clause-long
returns-in_err-bytes-clause-long g c = λ long.
    absurd (apart c.in_err-bytes.field-0.0
    (subst (λ (r : Result _ Unread). IsErrAnd r (λ u. u ≡ unread_of c.in_err-bytes.field-0.0)) long
    c.from_residual.ensures.1))
