use Rattle.std.proofs.Common.{◌≡◌, ◌+◌, ◌++◌, ◌∷◌, [], length, length-append, arith, ap, sym, ◌∙◌}
use Rattle.cp_text.specs.Words.{words_of}
use Rattle.script_lang.specs.Judged.{points_read}
use Rattle.script_lang.proofs.Points.{points_after, point_more}
use Rattle.script_lang.proofs.judging.read_corners.Goals as goal

pub loop-x-preserved : goal.loop-x-preserved
loop-x-preserved c =
    let done = c.loop-x.points.items in
    let place = c.loop-x.place in
    let x = c.in-Some.x.now in
    let y = c.in-Some-next_word.y.now in
    let after = words_of c.in-Some-next_word.after.now in
    let items : c.push.new.self.items ≡ done ++ c.in-Ok.point ∷ [] = c.in_ok-push-in-Ok.ensures.items in
    let words : words_of c.loop-x.rest.now ≡ x ∷ y ∷ after = c.in-Some.ensures
    ∙ ap (λ ws. x ∷ ws) c.in-Some-next_word.ensures in
    let step = point_more done place x y after c.in-Ok.point (sym c.in-Ok.ensures) in
    record {
      points = ap (λ ps. points_after ps (points_read (place + 2) after)) items ∙ sym step
          ∙ ap (λ ws. points_after done (points_read place ws)) (sym words) ∙ c.loop-x.invariant.points;
      counted = omega (
        arith,
        ap length items,
        ap length words,
        length-append done (c.in-Ok.point ∷ []),
        c.loop-x.invariant.counted,
      );
      placed = omega (
        arith,
        ap length items,
        length-append done (c.in-Ok.point ∷ []),
        c.loop-x.invariant.placed,
      );
      is_count = c.loop-x.invariant.is_count;
    }
