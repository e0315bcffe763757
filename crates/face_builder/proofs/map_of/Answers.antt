use Rattle.std.proofs.Common.{◌≡◌, List, None, sym, ap, ap₂, subst, ◌∙◌}
use Rattle.crease_model.specs.declared.Piece.{Piece}
use Rattle.face_builder.specs.declared.half_edges.HalfEdge.{HalfEdge}
use Rattle.face_builder.specs.Cycle.{ArePermuted}
use Rattle.face_builder.specs.Fan.{nexts_of}
use Rattle.face_builder.specs.HalfEdge.{half_edges_of}
use Rattle.face_builder.specs.Faces.{faces_among, convex_refusal, size_refusal, map_among}
use Rattle.face_builder.specs.MapRules.{AreFaces}
use Rattle.face_builder.specs.SideFill.{half_edges_of_each}
use Rattle.face_builder.proofs.Cover.{permuted}
use Rattle.face_builder.proofs.MapLaws.{map_rules}
use Rattle.face_builder.proofs.map_of.Goals as goal

pub map_among-requires-clause-rules : goal.map_among-requires-clause-rules
map_among-requires-clause-rules c = λ size.
    let pattern = c.args.pattern.now in
    let hs : c.as_slice.result.now ≡ half_edges_of pattern = c.as_slice.ensures.value
    ∙ c.in_ok-half_edges.ensures.value in
    let faces : half_edges_of_each c.as_slice-2.result.now ≡ faces_among (half_edges_of pattern) =
    ap half_edges_of_each c.as_slice-2.ensures.value ∙ c.in_ok-faces.ensures.value.1 ∙ ap faces_among hs in
    let pieces : c.pieces-pieces.result.now ≡ pattern.pieces = c.pieces-pieces.ensures.value in
    let convex : convex_refusal (half_edges_of pattern) ≡ None = sym (ap convex_refusal hs)
    ∙ c.in_ok-faces.ensures.value.0 in
    let few : size_refusal (faces_among (half_edges_of pattern)) pattern.pieces ≡ None =
    sym (ap₂ size_refusal faces pieces) ∙ size in
    subst (λ (fs : List (List HalfEdge)). AreFaces (map_among fs c.pieces-pieces.result.now)) (sym faces)
    (subst (λ (ps : List Piece). AreFaces (map_among (faces_among (half_edges_of pattern)) ps)) (sym pieces)
    (map_rules pattern c.sheet.ensures.rules c.pieces-pieces.ensures.rules convex few))

pub convex_faces-requires-clause-permuted : goal.convex_faces-requires-clause-permuted
convex_faces-requires-clause-permuted c =
    let pattern = c.args.pattern.now in
    let hs : c.as_slice.result.now ≡ half_edges_of pattern = c.as_slice.ensures.value
    ∙ c.in_ok-half_edges.ensures.value in
    subst (λ (gs : List HalfEdge). ArePermuted (nexts_of gs)) (sym hs)
    (permuted pattern c.sheet.ensures.rules c.pieces-pieces.ensures.rules)
