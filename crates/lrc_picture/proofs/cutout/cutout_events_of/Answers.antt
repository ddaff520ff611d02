use Rattle.std.proofs.Common.{◌≡◌, ◌<◌, length, slice_index_or, subst, sym, refl, arith}
use Rattle.std.proofs.lemmas.Option.{slice_get-get_or}
use Rattle.journal.specs.declared.event.Event.{Event}
use Rattle.journal.specs.declared.event.Kind.TheVariants.{Load}
use Rattle.journal.specs.DidEvent.{event}
use Rattle.lrc_picture.specs.Cutout.{IsCutoutEventOnLane}
use Rattle.lrc_picture.proofs.DrawnCutouts.{AreCutoutsDrawnSoFar, drawn_cutout_next}
use Rattle.lrc_picture.proofs.cutout.cutout_events_of.Goals as goal

pub cutout_lane_of-requires : goal.cutout_lane_of-requires
cutout_lane_of-requires c =
    let row = c.loop-row.row in
    let lt = c.loop-row-test.true in
    let k = slice_index_or c.args.places.now row 0 in
    let within : k < length c.args.events.now = c.requires.places row 0 lt in
    c.requires.lanes k (slice_index_or c.args.events.now k (event 0 (Load 0 0))) (row, slice_get-get_or c.args.places.now row 0 lt)
    (slice_get-get_or c.args.events.now k (event 0 (Load 0 0)) within)

pub loop-row-preserved : goal.loop-row-preserved
loop-row-preserved c =
    let events = c.args.events.now in
    let places = c.args.places.now in
    let lanes = c.args.lanes.now in
    let row = c.loop-row.row in
    let lt = c.loop-row-test.true in
    let old = c.loop-row.invariant in
    let drawn = c.loop-row.drawn in
    let k = slice_index_or places row 0 in
    let within : k < length events = c.requires.places row 0 lt in
    let e : Event = slice_index_or events k (event 0 (Load 0 0)) in
    let at = slice_get-get_or events k (event 0 (Load 0 0)) within in
    let long : length drawn.items ≡ row = omega (arith, drawn.ok.0, old.long) in
    let new : Event = event c.cutout_lane_of.result e.kind in
    let now : IsCutoutEventOnLane lanes events k new = record { event = e; at = at; kind = refl; lane = c.cutout_lane_of.ensures } in
    record {
      long = (let len = c.in_ok-push.ensures.len in let was = old.long in omega arith);
      each = subst (AreCutoutsDrawnSoFar lanes events places) (sym c.in_ok-push.ensures.items)
          (drawn_cutout_next places drawn.items row long (slice_get-get_or places row 0 lt) now old.each);
    }
