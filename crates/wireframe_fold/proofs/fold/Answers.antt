use Rattle.wireframe_fold.specs.declared.faults.WireFault.TheVariants.{DoesNotClose, FoldRange, TooManyLines}
use Rattle.wireframe_fold.proofs.Causes.{refused_exactly, unfolded_exactly, open_not_memory, range_not_memory, lines_not_memory}
use Rattle.wireframe_fold.proofs.FoldedShapes.{sides_kept, convex_shape, all_folded, all_creases}
use Rattle.wireframe_fold.proofs.InnerImages.{insides_kept}
use Rattle.wireframe_fold.proofs.OneShape.{made_exactly}
use Rattle.wireframe_fold.proofs.fold.Goals as goal

pub returns-clause-does_not_close : goal.returns-clause-does_not_close
returns-clause-does_not_close c = λ piece.
    refused_exactly c.args.faces.now c.tell_places.ensures.rules c.fold_of.result c.fold_of.ensures
    (DoesNotClose piece) (open_not_memory piece)

pub returns-clause-no_folding : goal.returns-clause-no_folding
returns-clause-no_folding c =
    unfolded_exactly c.args.faces.now c.tell_places.ensures.rules c.fold_of.result c.fold_of.ensures

pub returns-clause-fold_range : goal.returns-clause-fold_range
returns-clause-fold_range c = λ face.
    refused_exactly c.args.faces.now c.tell_places.ensures.rules c.fold_of.result c.fold_of.ensures
    (FoldRange face) (range_not_memory face)

pub returns-clause-too_many_lines : goal.returns-clause-too_many_lines
returns-clause-too_many_lines c = λ lines.
    refused_exactly c.args.faces.now c.tell_places.ensures.rules c.fold_of.result c.fold_of.ensures
    (TooManyLines lines) (lines_not_memory lines)

pub returns-clause-convex : goal.returns-clause-convex
returns-clause-convex c =
    convex_shape c.args.faces.now c.fold_of.result c.tell_places.ensures.rules c.fold_of.ensures

pub returns-clause-sides : goal.returns-clause-sides
returns-clause-sides c = sides_kept c.args.faces.now c.fold_of.result c.fold_of.ensures

pub returns-clause-count : goal.returns-clause-count
returns-clause-count c = all_folded c.args.faces.now c.fold_of.result c.fold_of.ensures

pub returns-clause-shape : goal.returns-clause-shape
returns-clause-shape c = λ f.
    made_exactly c.args.faces.now c.tell_places.ensures.rules c.fold_of.result c.fold_of.ensures f

pub returns-clause-inside : goal.returns-clause-inside
returns-clause-inside c =
    insides_kept c.inside_is_image.ensures c.args.faces.now c.fold_of.result c.tell_places.ensures.rules
    c.fold_of.ensures

pub returns-clause-creases : goal.returns-clause-creases
returns-clause-creases c =
    all_creases c.args.faces.now c.fold_of.result c.tell_places.ensures.rules c.fold_of.ensures
