use Rattle.std.proofs.Common.{◌≡◌, ◌∙◌, inl, inr, sym, ap}
use Rattle.std.proofs.lemmas.Bool.{false≢true}
use Rattle.plane_geometry.specs.DirView.{dir_number}
use Rattle.plane_geometry.specs.Direction.{opposite_number}
use Rattle.plane_geometry.specs.SegmentView.{lesser_end, direction_number}
use Rattle.layer_rules.proofs.Beside.{both_at}
use Rattle.layer_rules.proofs.tacos.lie_on_one_side.Goals as goal

pub returns-then-lie_beside : goal.returns-then-lie_beside
returns-then-lie_beside c =
    let s = c.args.c.now.image in (
      λ yes.
          inl
          (both_at c.args.shape.now c.args.c.now c.args.d.now c.from-q.result.now (lesser_end s) (dir_number c.dir-dir.result)
          (direction_number s) c.from-q.ensures.value c.dir-dir.ensures.value
          (c.lie_beside.ensures.0 c.if-lie_beside.true)),
      λ one. c.if-lie_beside.true,
    )

pub returns-else-lie_beside : goal.returns-else-lie_beside
returns-else-lie_beside c =
    let s = c.args.c.now.image in
    let first = c.args.c.now in
    let second = c.args.d.now in
    let q = c.from-q.result.now in
    let n = dir_number c.dir-dir.result in
    let back = dir_number c.opposite.result in
    let at : q ≡ lesser_end s = c.from-q.ensures.value in
    let along : n ≡ direction_number s = c.dir-dir.ensures.value in
    let other : back ≡ opposite_number (direction_number s) = c.opposite.ensures ∙ ap opposite_number along in (
      λ yes.
          inr
          (both_at c.args.shape.now first second q (lesser_end s) back (opposite_number (direction_number s)) at other
          (c.lie_beside-else-lie_beside.ensures.0 yes)),
      λ one.
          elim one [
            | inl left ↦
                absurd
                (false≢true
                (sym c.if-lie_beside.false
                ∙ c.lie_beside.ensures.1
                (both_at c.args.shape.now first second (lesser_end s) q (direction_number s) n (sym at) (sym along) left)))
            | inr right ↦
                c.lie_beside-else-lie_beside.ensures.1
                (both_at c.args.shape.now first second (lesser_end s) q (opposite_number (direction_number s)) back (sym at)
                (sym other) right)
          ],
    )
