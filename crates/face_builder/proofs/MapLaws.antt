-- What the map of a pattern without refusal keeps.
use Rattle.std.proofs.Common.{◌≡◌, ℕ, true, List, None, length, arith}
use Rattle.std.specs.Option.{option_or}
use Rattle.std.proofs.lemmas.List.{length-map}
use Rattle.crease_model.specs.Rules.{IsPattern}
use Rattle.crease_model.specs.Sheet.{is_sheet}
use Rattle.crease_model.specs.PartLaws.{sheet_turns}
use Rattle.crease_model.specs.View.{PatternView}
use Rattle.face_builder.specs.Faces.{corners_of, convex_refusal, size_refusal, count_refusal, reach_refusal, unreached, faces_among, walk_among, map_among}
use Rattle.face_builder.specs.Walk.{first_unreached}
use Rattle.face_builder.specs.declared.walk.Step.{Step}
use Rattle.face_builder.specs.HalfEdge.{half_edges_of}
use Rattle.face_builder.specs.MapRules.{AreFaces}
use Rattle.face_builder.proofs.AcrossLaws.{numbered_at, all_walk, few_steps}
use Rattle.face_builder.proofs.FaceOrder.{faces_ascend}
use Rattle.face_builder.proofs.Lengths.{corners_few, shared_count}
use Rattle.face_builder.proofs.Polygons.{all_convex, few_by, faces_least, neither, not_mapped}
use Rattle.face_builder.proofs.SharedLaws.{all_shared}
use Rattle.face_builder.proofs.WalkLaws.{all_reached}

none_unreached : (n : ℕ) (walk : List Step) → option_or (count_refusal n) (reach_refusal walk n) ≡ None
    → first_unreached walk 1 n ≡ None
none_unreached n walk e =
    not_mapped unreached (first_unreached walk 1 n) (neither (count_refusal n) (reach_refusal walk n) e).1

pub map_rules : (p : PatternView) → is_sheet p.corners ≡ true → IsPattern p → convex_refusal (half_edges_of p)
    ≡ None
    → size_refusal (faces_among (half_edges_of p)) p.pieces ≡ None
    → AreFaces (map_among (faces_among (half_edges_of p)) p.pieces)
map_rules p sheet rules convex size =
    let faces = faces_among (half_edges_of p) in
    record {
      few =
          omega (
            arith,
            few_by (length (faces_among (half_edges_of p))) _ size,
            length-map (faces_among (half_edges_of p)) corners_of,
          );
      corners = corners_few p sheet rules;
      convex = all_convex p sheet convex;
      least = faces_least p (sheet_turns p.corners sheet).0 (faces_among (half_edges_of p)) (λ f m. m);
      ascending = faces_ascend p sheet rules;
      shared = all_shared p sheet rules convex;
      numbered = λ k s at. omega (arith, numbered_at faces 1 p.pieces k s at);
      pieces = omega (arith, shared_count faces 1 p.pieces, rules.size);
      walk = all_walk p sheet rules convex;
      short =
          omega (
            arith,
            few_by (length (faces_among (half_edges_of p))) _ size,
            length-map (faces_among (half_edges_of p)) corners_of,
            few_steps p sheet rules convex,
          );
      reached = λ f low high.
          all_reached (walk_among faces p.pieces) 1 (length faces)
          (none_unreached (length faces) (walk_among faces p.pieces) size) f low
          (omega (arith, high, length-map faces corners_of));
    }
