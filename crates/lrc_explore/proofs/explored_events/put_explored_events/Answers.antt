use Rattle.std.proofs.Common.{ℕ, List, ◌++◌, ◌∙◌, ap, append_assoc, take, slice_index_or, arith}
use Rattle.std.proofs.lemmas.Option.{slice_get-get_or}
use Rattle.journal.specs.declared.event.Event.{Event}
use Rattle.journal.specs.declared.event.Kind.TheVariants.{Load}
use Rattle.journal.specs.DidEvent.{event}
use Rattle.lrc_report.specs.ReportText.{report_event_text, report_events_text}
use Rattle.lrc_explore.proofs.AddedLines.{added_lines_one_more}
use Rattle.lrc_explore.proofs.explored_events.put_explored_events.Goals as goal

-- the event at this place
abbrev here : List Event → ℕ → Event
here events place = slice_index_or events place (event 0 (Load 0 0))

pub loop-place-preserved : goal.loop-place-preserved
loop-place-preserved c =
    let events = c.args.events.now in
    let place = c.loop-place.place in
    let test = c.loop-place-test.true in
    let top = c.loop-place.auto.place-end in
    let at = slice_get-get_or events place (event 0 (Load 0 0)) (omega arith) in
    let line = report_event_text place (here events place) in
    c.in_ok-put_explored_event_line.ensures
    ∙ ap (λ text. text ++ line) c.loop-place.invariant
    ∙ append_assoc c.args.text.now.items (report_events_text 0 (take place events)) line
    ∙ ap (λ lines. c.args.text.now.items ++ lines) (added_lines_one_more events place (here events place) at)
