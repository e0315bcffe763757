use Rattle.std.proofs.Common.{◌≡◌, ◌++◌, List, ℕ, OnOk, map, append_assoc, sym, ap, ap₂, subst, ◌∙◌}
use Rattle.plane_geometry.specs.declared.Point.{Point}
use Rattle.plane_geometry.specs.declared.Segment.{Segment}
use Rattle.plane_geometry.specs.Polygon.{sides_of}
use Rattle.crease_model.specs.declared.Piece.{Piece}
use Rattle.crease_model.specs.OwnLines.{PlainLine, side_line, piece_line, auxiliary_line}
use Rattle.cp_text.specs.LineText.{crease_line, lines_text}
use Rattle.cp_text.proofs.PatternTexts.{pattern_text_parts}
use Rattle.cp_text.proofs.writing.put_pattern.Goals as goal

abbrev text_of : List PlainLine → List ℕ
text_of lines = lines_text (map crease_line lines)

pub returns-clause-ok : goal.returns-clause-ok
returns-clause-ok c =
    let old = c.args.out.now.items in
    let p = c.args.pattern.now in
    let sides = text_of (map side_line (sides_of p.corners)) in
    let pieces = text_of (map piece_line p.pieces) in
    let with_sides : c.put_sides.new.out.items ≡ old ++ sides =
    c.in_ok-put_sides.ensures.ok
    ∙ ap (λ (corners : List Point). old ++ text_of (map side_line (sides_of corners))) (c.corners.ensures.value ∙ c.sheet.ensures.value) in
    let with_pieces : c.put_pieces.new.out.items ≡ old ++ sides ++ pieces =
    c.in_ok-put_pieces.ensures.ok ∙ ap₂ (λ (front : List ℕ) (ps : List Piece). front ++ text_of (map piece_line ps)) with_sides c.pieces.ensures.value in
    let all : c.put_pieces.new.out.items ++ text_of (map auxiliary_line c.aux.result.now) ≡ old ++ (sides ++ pieces ++ text_of (map auxiliary_line p.aux)) =
    ap₂ (λ (front : List ℕ) (ls : List Segment). front ++ text_of (map auxiliary_line ls)) with_pieces c.aux.ensures.value
    ∙ ap (λ front. front ++ text_of (map auxiliary_line p.aux)) (append_assoc old sides pieces)
    ∙ append_assoc old (sides ++ pieces) (text_of (map auxiliary_line p.aux)) in
    subst (λ text. OnOk c.put_auxiliary.result (c.put_auxiliary.new.out.items ≡ text)) (all ∙ ap (λ text. old ++ text) (sym (pattern_text_parts p))) c.put_auxiliary.ensures.ok
