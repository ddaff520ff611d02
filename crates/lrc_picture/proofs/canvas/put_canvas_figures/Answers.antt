use Rattle.std.proofs.Common.{length}
use Rattle.lrc_picture.specs.Cutout.{IsCutoutPlace}
use Rattle.lrc_picture.proofs.DrawnCutouts.{drawn_cutout_those_within}
use Rattle.lrc_picture.proofs.canvas.put_canvas_figures.Goals as goal

pub put_events_on_canvas-requires-clause-places : goal.put_events_on_canvas-requires-clause-places
put_events_on_canvas-requires-clause-places c =
    let events = c.args.story.now.events.now in
    drawn_cutout_those_within (IsCutoutPlace c.requires.cutout.0 events) (length events) c.args.cutout.now.places.items
    c.requires.cutout.1.places
