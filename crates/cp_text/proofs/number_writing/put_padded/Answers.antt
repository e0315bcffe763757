use Rattle.std.proofs.Common.{◌≡◌, ◌+◌, ◌-◌, ◌/◌, ◌%◌, ◌^◌, ◌++◌, [], ◌∷◌, arith, ap, ◌∙◌, append_assoc, ℕ}
use Rattle.cp_text.proofs.Fronts.{keeps_more}
use Rattle.cp_text.proofs.Fractions.{padded_more}
use Rattle.cp_text.proofs.number_writing.put_padded.Goals as goal

pub loop-place-preserved : goal.loop-place-preserved
loop-place-preserved c =
    let place = c.loop-place.place in
    let n = c.args.n in
    let digit : ℕ = 48 + n / 10 ^ (place - 1) % 10 in
    let items : c.push.new.self.items ≡ c.loop-place.out.items
    ++ digit ∷ [] = cc (c.in_ok-push.ensures.items, c.pow.ensures, c.from.ensures) in
    record {
      written = rw (items, append_assoc)
          (ap (λ ds. c.loop-place.out.items ++ ds) (padded_more place n (omega arith))
          ∙ c.loop-place.invariant.written);
      kept = rw items (keeps_more c.args.out.now.items c.loop-place.out.items
          (digit ∷ []) c.loop-place.invariant.kept);
    }
