use Rattle.std.proofs.Common.{◌≡◌, length, subst, sym, ap, ◌∙◌, arith}
use Rattle.std.proofs.lemmas.Option.{slice_get-get_or, same_Some}
use Rattle.journal.specs.declared.event.Kind.TheVariants.{Load}
use Rattle.journal.specs.DidEvent.{event}
use Rattle.lrc_picture.specs.Marks.{ArePictureMarksOf, IsPictureMarkOf, picture_mark_for}
use Rattle.lrc_picture.proofs.Lanes.{lane_event_at, lane_within}
use Rattle.lrc_picture.proofs.DrawnMarks.{drawn_marks_next}
use Rattle.lrc_picture.proofs.marks.picture_marks.Goals as goal

pub picture_mark_of-requires-clause-lane : goal.picture_mark_of-requires-clause-lane
picture_mark_of-requires-clause-lane c =
    lane_within c.args.grid.lanes c.args.events.now c.loop-row.row c.loop-row-test.true c.requires.lanes

pub loop-row-preserved : goal.loop-row-preserved
loop-row-preserved c =
    let events = c.args.events.now in
    let row = c.loop-row.row in
    let old = c.loop-row.invariant in
    let at = slice_get-get_or events row (event 0 (Load 0 0)) c.loop-row-test.true in
    let marks = c.loop-row.marks in
    let long : length marks.items ≡ row = omega (arith, marks.ok.0, old.long) in
    let now : IsPictureMarkOf c.args.grid events row c.picture_mark_of.result =
    λ e there. c.picture_mark_of.ensures ∙ ap (picture_mark_for c.args.grid row) (same_Some (lane_event_at events row) e (sym at ∙ there)) in
    record {
      long = (let len = c.in_ok-push.ensures.len in let was = old.long in omega arith);
      each =
          subst (ArePictureMarksOf c.args.grid events) (sym c.in_ok-push.ensures.items)
          (drawn_marks_next c.args.grid events marks.items row c.picture_mark_of.result long old.each now);
    }

pub returns : goal.returns
returns c =
    let lt = c.loop-row-test.false in
    let top = c.loop-row.auto.row-end in
    let marks = c.loop-row.marks in
    record { long = omega (arith, marks.ok.0, c.loop-row.invariant.long); each = c.loop-row.invariant.each }
