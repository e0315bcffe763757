use Rattle.std.proofs.Common.{◌∙◌, sym, refl, arith}
use Rattle.std.proofs.lemmas.Bool.{false≢true, not-true}
use Rattle.plane_geometry.specs.Position.{position_of}
use Rattle.plane_geometry.specs.DirView.{dir_number}
use Rattle.layer_rules.proofs.Beside.{not_when, not_inside, none_left}
use Rattle.layer_rules.proofs.tacos.has_nothing_left.Goals as goal

pub returns-then-count-f : goal.returns-then-count-f
returns-then-count-f c = (
  λ yes p inside side. not_inside c.args.shape.now c.args.f p (omega arith) inside,
  λ nothing. refl,
)

pub returns : goal.returns
returns c =
    let same = none_left c.args.shape.now c.args.f (position_of c.args.q.now) (dir_number c.args.dir)
    c.region.result.now c.cut.result c.region.ensures c.cut.ensures in (
      λ yes.
          same.0
          (λ some.
          false≢true (sym (not-true c.is_open_nonempty.result yes) ∙ c.is_open_nonempty.ensures.1 some)),
      λ nothing.
          not_when c.is_open_nonempty.result (λ yes. same.1 nothing (c.is_open_nonempty.ensures.0 yes)),
    )
