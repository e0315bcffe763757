use Rattle.std.proofs.Common.{◌≡◌, ◌+◌, not, List, [], ◌∷◌, drop, rules, ap, ◌∙◌, arith}
use Rattle.std.proofs.lemmas.Grind.{common_steps}
use Rattle.plane_geometry.specs.declared.Point.{Point}
use Rattle.plane_geometry.specs.SegmentView.{stretch_of, lesser_end, greater_end}
use Rattle.crease_model.specs.declared.Piece.{Piece}
use Rattle.line_split.specs.Cuts.{is_touched, cuts_from, cuts_of}
use Rattle.line_split.specs.Points.{in_order}
use Rattle.line_split.proofs.Gathered.{ends_in_order, more_cuts, more_pieces}
use Rattle.line_split.proofs.cutting.gathered.Goals as goal

pub loop-i-init : goal.loop-i-init
unfolding cuts_of
loop-i-init c =
    let s = c.args.segment.now in
    let ends : c.in_ok-from_slice.field-0.items ≡ lesser_end s ∷ greater_end s ∷ [] = search rules in
    record {
      points = ap (λ (points : List Point). cuts_from (stretch_of s) 1 c.args.pieces.now points) (ap in_order ends ∙ ends_in_order s);
      touched = search rules;
      others = search rules;
    }

pub loop-i-preserved : goal.loop-i-preserved
unfolding cuts_of
loop-i-preserved c =
    let S = stretch_of c.args.segment.now in
    let pieces = c.args.pieces.now in
    let i = c.loop-i.i in
    let p = c.index-pieces-i.result in
    let old = c.loop-i.cutting in
    let new = c.gather_or_fault.new.cutting in
    let rest : drop i pieces ≡ p ∷ drop (i + 1) pieces = grind (arith, common_steps) in
    record {
      points = more_cuts S (i + 1) (drop i pieces) p (drop (i + 1) pieces) (in_order old.points.items) (in_order new.points.items) (cuts_of c.args.segment.now pieces) rest
          c.in_ok-gather_or_fault.ensures.points c.loop-i.invariant.points;
      touched = more_pieces (λ (q : Piece). is_touched S q) pieces (drop i pieces) p (drop (i + 1) pieces) old.touched.items new.touched.items rest
          c.in_ok-gather_or_fault.ensures.touched c.loop-i.invariant.touched;
      others = more_pieces (λ (q : Piece). not (is_touched S q)) pieces (drop i pieces) p (drop (i + 1) pieces) old.others.items new.others.items rest
          c.in_ok-gather_or_fault.ensures.others c.loop-i.invariant.others;
    }
