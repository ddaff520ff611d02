use Rattle.std.proofs.Common.{arith, refl}
use Rattle.std.proofs.lemmas.Option.{slice_get_within}
use Rattle.lrc_picture.proofs.cutout.cutout_lane_of.Goals as goal

pub returns : goal.returns
returns c =
    let has = c.requires in
    let end = c.loop-lane-test.false in
    let within = slice_get_within c.args.lanes.now has.0 c.args.processor has.1 in
    absurd (c.loop-lane.invariant has.0 c.args.processor (omega arith) has.1 refl)
