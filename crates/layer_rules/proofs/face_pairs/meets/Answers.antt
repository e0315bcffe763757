use Rattle.std.proofs.Common.{◌∙◌, sym, ap, inl, inr, arith, List}
use Rattle.std.proofs.lemmas.Bool.{false≢true}
use Rattle.std.specs.List.{list_any}
use Rattle.isometry_map.specs.declared.folded.CreaseImage.{CreaseImage}
use Rattle.layer_rules.specs.Faces.{is_shared_by}
use Rattle.layer_rules.proofs.InsideRegions.{overlap_at}
use Rattle.layer_rules.proofs.face_pairs.meets.Goals as goal
use Rattle.layer_rules.proofs.face_pairs.meets.Goals.{then-i-lt1-via-then-i-lt1, then-i-lt1-via-else-i-lt1+then-j-i, then-i-lt1-via-else-i-lt1+else-j-i+then-count-j}

pub returns-then-i-lt1 : goal.returns-then-i-lt1
returns-then-i-lt1 c = (
  λ yes. absurd (false≢true yes),
  λ is.
      absurd
      (elim c.then-i-lt1.branch [
        | then-i-lt1-via-then-i-lt1 w ↦ omega (arith, is.first)
        | then-i-lt1-via-else-i-lt1+then-j-i w ↦ omega (arith, is.ascending)
        | then-i-lt1-via-else-i-lt1+else-j-i+then-count-j w ↦ omega (arith, is.last)
      ]),
)

pub returns-then-overlap : goal.returns-then-overlap
returns-then-overlap c =
    let same = overlap_at c.args.shape.now c.args.pair.now.i c.args.pair.now.j c.region.result.now
    c.region-2.result.now c.region.ensures c.region-2.ensures in (
      λ yes. record {
        first = omega arith;
        ascending = omega arith;
        last = omega arith;
        meets = inl (same.0 (c.overlap.ensures.0 yes));
      },
      λ is. c.if-overlap.true,
    )

pub returns-else-overlap : goal.returns-else-overlap
returns-else-overlap c =
    let same = overlap_at c.args.shape.now c.args.pair.now.i c.args.pair.now.j c.region.result.now
    c.region-2.result.now c.region.ensures c.region-2.ensures in
    let shares = c.have_a_piece.ensures
    ∙ ap (λ (l : List CreaseImage). list_any (is_shared_by c.args.pair.now.i c.args.pair.now.j) l) c.creases.ensures in (
      λ yes. record {
        first = omega arith;
        ascending = omega arith;
        last = omega arith;
        meets = inr (sym shares ∙ yes);
      },
      λ is.
          elim is.meets [
            | inl common ↦ absurd (false≢true (sym c.if-overlap.false ∙ c.overlap.ensures.1 (same.1 common)))
            | inr shared ↦ shares ∙ shared
          ],
    )
