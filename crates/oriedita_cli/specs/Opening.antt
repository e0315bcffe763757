-- Why no command came of a file.
use Rattle.oriedita_io.specs.declared.faults.OpenFault.{OpenFault}
use Rattle.oriedita_io.specs.declared.faults.OpenFault.TheVariants as fault
use Rattle.oriedita_cli.specs.declared.opening.Unread.{Unread}
use Rattle.oriedita_cli.specs.declared.opening.Unread.TheVariants.{Failed, Memory}

-- a file that was not read
abbrev pub unread_of : OpenFault → Unread
unread_of fault.Failed = Failed
unread_of fault.Memory = Memory
