use Rattle.std.proofs.Common.{ℕ, ◌-◌, subst, arith}
use Rattle.surd_number.specs.Number.{IsSame}
use Rattle.surd_number.specs.Value.{wide_number_of}
use Rattle.plane_geometry.specs.Position.{position_of, cross_of}
use Rattle.plane_geometry.specs.Direction.{direction_vector}
use Rattle.open_region.specs.EdgeView.{line_offset_of}
use Rattle.open_region.specs.Region.{turned_offset}
use Rattle.open_region.proofs.Steps.{and_iff}
use Rattle.open_region.proofs.Edges.{offsets_as, left_along, left_along_opposite}
use Rattle.open_region.proofs.interval.Interval.cut.Goals as goal

pub returns-then-n-lt8 : goal.returns-then-n-lt8
returns-then-n-lt8 c =
    let n = c.args.n in
    let q = position_of c.args.q.now in
    let o = line_offset_of c.args.edge.now in
    let f = line_offset_of c.through-through.result in
    let at : IsSame (turned_offset n f) (cross_of (direction_vector n) q) = subst
    (λ (k : ℕ). IsSame (turned_offset k f) (cross_of (direction_vector k) q)) c.numbered.ensures
    c.through-through.ensures in
    λ z. and_iff (c.narrowed.ensures z)
    (offsets_as (cross_of (direction_vector n) (direction_vector c.args.along)) o f
    (wide_number_of c.offset.result.now)
    (wide_number_of c.offset-then-n-lt8.result.now) z c.offset.ensures.value
    c.offset-then-n-lt8.ensures.value
    (left_along n c.args.along q o f z at (omega arith)))

pub returns-else-n-lt8 : goal.returns-else-n-lt8
returns-else-n-lt8 c =
    let n = c.args.n in
    let q = position_of c.args.q.now in
    let o = line_offset_of c.args.edge.now in
    let f = line_offset_of c.through-through.result in
    let at : IsSame (turned_offset n f) (cross_of (direction_vector n) q) = subst
    (λ (k : ℕ). IsSame (turned_offset k f) (cross_of (direction_vector k) q)) c.numbered.ensures
    c.through-through.ensures in
    λ z. and_iff (c.narrowed-else-n-lt8.ensures z)
    (offsets_as (cross_of (direction_vector c.args.along) (direction_vector (n - 8))) f o
    (wide_number_of c.offset-else-n-lt8.result.now)
    (wide_number_of c.offset-else-n-lt8-2.result.now) z c.offset-else-n-lt8.ensures.value
    c.offset-else-n-lt8-2.ensures.value
    (left_along_opposite n c.args.along q o f z at (omega arith) c.requires.few))
