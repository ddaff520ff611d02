use Rattle.lrc_picture.proofs.Lanes.{lane_within}
use Rattle.lrc_picture.proofs.arrows.add_arrows.Goals as goal

pub arrow_of-requires-clause-from : goal.arrow_of-requires-clause-from
arrow_of-requires-clause-from c =
    lane_within c.args.grid.lanes c.args.events.now _
    (c.requires.places c.loop-place.place-index 0 c.loop-place-test.true) c.requires.lanes

pub arrow_of-requires-clause-to : goal.arrow_of-requires-clause-to
arrow_of-requires-clause-to c = lane_within c.args.grid.lanes c.args.events.now c.args.row c.requires.row c.requires.lanes
