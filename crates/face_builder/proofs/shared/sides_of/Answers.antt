use Rattle.std.proofs.Common.{◌≡◌, ◌+◌, List, get_or, replicate, ap, ◌∙◌, arith}
use Rattle.std.proofs.lemmas.List.{get_or-replicate}
use Rattle.face_builder.specs.declared.shared.Sides.{Sides}
use Rattle.face_builder.specs.SideFill.{sides_among, half_edges_of_each}
use Rattle.face_builder.proofs.SideFills.{sides_found}
use Rattle.face_builder.proofs.shared.sides_of.Goals as goal

pub returns-clause-value : goal.returns-clause-value
returns-clause-value c = λ k d h.
    let nothing : Sides = record { left = 0; right = 0 } in
    let items : c.in_ok-sides.sides.items ≡ replicate c.args.pieces nothing =
    c.in_ok-sides.ensures.items_if_clones_equal (λ y e. e) in
    let there : get_or c.in_ok-sides.sides.items k d ≡ nothing =
    ap (λ (xs : List Sides). get_or xs k d) items ∙ get_or-replicate c.args.pieces k nothing d h in
    c.put_faces.ensures.value k d (omega (arith, c.in_ok-sides.ensures.len))
    ∙ ap (sides_among (k + 1) 1 (half_edges_of_each c.args.faces.now)) there
    ∙ sides_found (k + 1) (half_edges_of_each c.args.faces.now)
