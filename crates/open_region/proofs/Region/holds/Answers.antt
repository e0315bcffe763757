use Rattle.std.proofs.Common.{◌≡◌, ℕ, IfSome, inl, inr, subst, arith}
use Rattle.std.proofs.lemmas.Bool.{cases_lt}
use Rattle.plane_geometry.specs.Position.{position_of}
use Rattle.open_region.specs.Region.{offset_at, IsBeyond}
use Rattle.open_region.proofs.Region.holds.Goals as goal

pub loop-n-init : goal.loop-n-init
loop-n-init c = λ k few. absurd (omega arith)

pub loop-n-preserved : goal.loop-n-preserved
loop-n-preserved c =
    λ k few. elim (cases_lt k c.loop-n.n) [
      | inl less ↦ c.loop-n.invariant k less
      | inr more ↦ (let e : c.loop-n.n ≡ k = omega arith
          in subst (λ (i : ℕ). IfSome (offset_at c.args.self.now i)
          (λ o. IsBeyond o i (position_of c.args.p.now))) e (c.admits.ensures.0 c.if-not-admits.false))
    ]
