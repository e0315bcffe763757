use Rattle.face_builder.proofs.FanMaps.{after_insert}
use Rattle.face_builder.proofs.fans.put_exit.Goals as goal

pub returns : goal.returns
returns c =
    after_insert c.args.fans.now c.insert.new.self c.args.v.now c.in_ok-fan.fan c.args.exit
    c.in_ok-insert.ensures.updates c.in_ok-fan.ensures
