-- The text of a pattern is that of its sides, of its pieces and of its auxiliary lines.
use Rattle.std.proofs.Common.{◌≡◌, List, ◌++◌, map, append_assoc, sym, ap, ap₂, ◌∙◌}
use Rattle.std.proofs.lemmas.List.{map-append}
use Rattle.std.proofs.lemmas.List.Concat.{flat_map-append}
use Rattle.plane_geometry.specs.Polygon.{sides_of}
use Rattle.crease_model.specs.OwnLines.{PlainLine, side_line, piece_line, auxiliary_line}
use Rattle.crease_model.specs.View.{PatternView}
use Rattle.cp_text.specs.LineText.{crease_line, line_text, lines_text, pattern_text}

joined : (ls ms : List PlainLine)
    → lines_text (map crease_line (ls ++ ms)) ≡ lines_text (map crease_line ls) ++ lines_text (map crease_line ms)
joined ls ms =
    ap lines_text (map-append crease_line ls ms)
    ∙ flat_map-append line_text (map crease_line ls) (map crease_line ms)

pub pattern_text_parts : (p : PatternView) → pattern_text p
    ≡ lines_text (map crease_line (map side_line (sides_of p.corners)))
    ++ lines_text (map crease_line (map piece_line p.pieces))
    ++ lines_text (map crease_line (map auxiliary_line p.aux))
pattern_text_parts p =
    let sides = map side_line (sides_of p.corners) in
    let pieces = map piece_line p.pieces in
    let lines = map auxiliary_line p.aux in
    joined sides (pieces ++ lines)
    ∙ ap (λ text. lines_text (map crease_line sides) ++ text) (joined pieces lines)
    ∙ sym (append_assoc (lines_text (map crease_line sides)) (lines_text (map crease_line pieces)) (lines_text (map crease_line lines)))
