use Rattle.std.proofs.Common.{rules, ◌≡◌, length, ap, arith}
use Rattle.std.proofs.lemmas.List.{length-map}
use Rattle.face_builder.specs.Faces.{led_faces}
use Rattle.face_builder.specs.SideFill.{half_edges_of_each}
use Rattle.face_builder.proofs.Lengths.{faces_count}
use Rattle.face_builder.proofs.outlines.led_faces.Goals as goal

pub returns-clause-value : goal.returns-clause-value
returns-clause-value c = search rules

pub returns-clause-bound : goal.returns-clause-bound
returns-clause-bound c =
    let hs = c.args.half_edges.now in
    let nexts = c.args.nexts.now in
    let same : half_edges_of_each c.in_ok-faces.faces.items ≡ led_faces hs nexts = returns-clause-value c in
    omega (
      arith,
      ap length same,
      length-map c.in_ok-faces.faces.items (λ face. face.items),
      faces_count hs nexts,
      c.requires.bound,
    )
