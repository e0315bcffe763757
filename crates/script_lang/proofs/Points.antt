-- Corners read one after another.
use Rattle.std.proofs.Common.{◌≡◌, ℕ, ◌+◌, List, [], ◌∷◌, ◌++◌, Ok, Err, refl, ap, sym, ◌∙◌, append_assoc}
use Rattle.std.specs.declared.result.Result.{Result}
use Rattle.plane_geometry.specs.declared.Point.{Point}
use Rattle.cp_text.specs.declared.line.LineFault.{LineFault}
use Rattle.cp_text.specs.LineReading.{point_read}
use Rattle.script_lang.specs.Judged.{point_before, points_read}

-- the points so far, and those that are still read
abbrev pub points_after : List Point → Result (List Point) LineFault → Result (List Point) LineFault
points_after points (Ok more) = Ok (points ++ more)
points_after points (Err fault) = Err fault

with_first : (done : List Point) (p : Point) (rest : Result (List Point) LineFault)
    → points_after done (point_before (Ok p) rest) ≡ points_after (done ++ p ∷ []) rest
with_first done p (Ok more) = ap Ok (sym (append_assoc done (p ∷ []) more))
with_first done p (Err fault) = refl

pub point_more : (done : List Point) (place : ℕ) (x y : List ℕ) (words : List (List ℕ)) (p : Point)
    → point_read place x y ≡ Ok p
    → points_after done (points_read place (x ∷ y ∷ words))
    ≡ points_after (done ++ p ∷ []) (points_read (place + 2) words)
point_more done place x y words p h =
    ap (λ answer. points_after done (point_before answer (points_read (place + 2) words))) h
    ∙ with_first done p (points_read (place + 2) words)
