use Rattle.face_builder.proofs.InOrder.{walk_is}
use Rattle.face_builder.proofs.KindLaws.{half_edges_are}
use Rattle.face_builder.proofs.Refusals.{not_convex_where, too_many_where, unreached_where}
use Rattle.face_builder.proofs.RoundLaws.{parted}
use Rattle.face_builder.proofs.faces.Goals as goal

pub returns-clause-half_edges : goal.returns-clause-half_edges
returns-clause-half_edges c =
    half_edges_are c.args.pattern.now c.sheet.ensures.rules c.pieces.ensures.rules

pub returns-clause-parted : goal.returns-clause-parted
returns-clause-parted c = parted c.args.pattern.now c.sheet.ensures.rules c.pieces.ensures.rules

pub returns-clause-walk : goal.returns-clause-walk
returns-clause-walk c = walk_is c.args.pattern.now c.sheet.ensures.rules c.pieces.ensures.rules

pub returns-clause-not_convex : goal.returns-clause-not_convex
returns-clause-not_convex c = not_convex_where c.args.pattern.now c.map_of.result c.map_of.ensures

pub returns-clause-too_many : goal.returns-clause-too_many
returns-clause-too_many c = too_many_where c.args.pattern.now c.map_of.result c.map_of.ensures

pub returns-clause-unreached : goal.returns-clause-unreached
returns-clause-unreached c = unreached_where c.args.pattern.now c.map_of.result c.map_of.ensures
