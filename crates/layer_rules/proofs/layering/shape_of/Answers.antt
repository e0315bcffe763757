use Rattle.std.proofs.Common.{◌≡◌, arith, sym, subst}
use Rattle.std.specs.Prelude.{Result, Ok, Err, MatchResult, ◌↔◌}
use Rattle.std.proofs.lemmas.Grind.{common_steps}
use Rattle.isometry_map.specs.Folded.{FoldedView}
use Rattle.layer_rules.specs.declared.layering.InstanceFault.{InstanceFault}
use Rattle.layer_rules.specs.Layering.{IsShapeOf, IsFaultBeforePairs, HasMemory, fault_of_faces, fault_of_folding}
use Rattle.layer_rules.proofs.Layerings.{no_faces, no_folding, shape_without_map, shape_without_folding, shape_folded}
use Rattle.layer_rules.proofs.layering.shape_of.Goals as goal

pub returns-in_err-map-clause-exact : goal.returns-in_err-map-clause-exact
returns-in_err-map-clause-exact c =
    let p = c.args.pattern.now in
    let P : Result FoldedView InstanceFault → Type 0 = λ r. MatchResult r (IsShapeOf p) (IsFaultBeforePairs p) in
    let gave : c.from_residual.result ≡ Err (fault_of_faces c.in_err-map.field-0.0) = grind (arith, common_steps) in
    subst P (sym gave)
    (no_faces p c.faces.result c.in_err-map.field-0.0 c.faces.ensures.not_convex c.faces.ensures.too_many
    c.faces.ensures.unreached c.in_err-map.was)

pub returns-in_err-folded-clause-exact : goal.returns-in_err-folded-clause-exact
returns-in_err-folded-clause-exact c =
    let p = c.args.pattern.now in
    let P : Result FoldedView InstanceFault → Type 0 = λ r. MatchResult r (IsShapeOf p) (IsFaultBeforePairs p) in
    let gave : c.from_residual-in_err-folded.result ≡ Err (fault_of_folding c.in_err-folded.field-0.0) =
    grind (arith, common_steps) in
    subst P (sym gave)
    (no_folding p c.in_ok-map.map c.in_err-folded.field-0.0 c.in_ok-map.ensures.exact c.in_err-folded.ensures.exact)

pub returns-in_err-map-clause-shape : goal.returns-in_err-map-clause-shape
returns-in_err-map-clause-shape c = λ shape.
    let p = c.args.pattern.now in
    let P : Result FoldedView InstanceFault → Type 0 = λ r. (r ≡ Ok shape) ↔ (HasMemory r × IsShapeOf p shape) in
    let gave : c.from_residual.result ≡ Err (fault_of_faces c.in_err-map.field-0.0) = grind (arith, common_steps) in
    subst P (sym gave) (shape_without_map p c.in_err-map.field-0.0 shape c.in_err-map.ensures.exact)

pub returns-in_err-folded-clause-shape : goal.returns-in_err-folded-clause-shape
returns-in_err-folded-clause-shape c = λ shape.
    let p = c.args.pattern.now in
    let P : Result FoldedView InstanceFault → Type 0 = λ r. (r ≡ Ok shape) ↔ (HasMemory r × IsShapeOf p shape) in
    let gave : c.from_residual-in_err-folded.result ≡ Err (fault_of_folding c.in_err-folded.field-0.0) =
    grind (arith, common_steps) in
    subst P (sym gave)
    (shape_without_folding p c.in_ok-map.map c.in_err-folded.field-0.0 shape c.in_ok-map.ensures.exact
    c.in_err-folded.ensures.shape)

pub returns-clause-shape : goal.returns-clause-shape
returns-clause-shape c = λ shape.
    shape_folded c.args.pattern.now c.in_ok-map.map c.in_ok-folded.folded shape c.in_ok-map.ensures.exact
    c.in_ok-folded.ensures.shape

pub returns-clause-inside : goal.returns-clause-inside
returns-clause-inside c = (c.in_ok-map.map, c.in_ok-map.ensures.exact, c.in_ok-folded.ensures.inside)
