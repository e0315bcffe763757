use Rattle.std.proofs.Common.{◌≡◌, ◌++◌, drop, map}
use Rattle.cp_text.specs.Growth.{KeepsFront}
use Rattle.script_lang.specs.Replies.{sign_byte}
use Rattle.script_lang.proofs.reply.append_each.Given as goal

abbrev pub invariant-loop-sign : goal.invariant-loop-sign
invariant-loop-sign l = record {
  written : l.out.items ++ map sign_byte (drop l.sign-index l.signs) ≡ l.initial.out.items
      ++ map sign_byte l.signs;
  kept : KeepsFront l.initial.out.items l.out.items;
}
