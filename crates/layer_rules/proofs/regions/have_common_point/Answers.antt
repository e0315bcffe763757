use Rattle.layer_rules.proofs.regions.have_common_point.Goals as goal

pub returns : goal.returns
returns c =
    let tells = c.is_open_nonempty.ensures in
    let common = c.both.ensures in (
      λ yes. let h = tells.0 yes in (h.0, ((common h.0).0 h.1).0, ((common h.0).0 h.1).1),
      λ x. tells.1 (x.0, (common x.0).1 (x.1, x.2)),
    )
