use Rattle.std.proofs.Common.{◌+◌, List, slice_index, slice_index_or, take, subst, sym, refl, ◌∙◌, length, arith}
use Rattle.std.specs.Global.{Vec}
use Rattle.std.proofs.lemmas.Option.{slice_get-get_or, slice_get_read, slice_get_within}
use Rattle.journal.specs.declared.event.Event.{Event}
use Rattle.journal.specs.declared.event.Kind.TheVariants.{Load}
use Rattle.journal.specs.DidEvent.{event}
use Rattle.journal.specs.Events.{EventAt}
use Rattle.judge.specs.Cuts.{IsCutOf}
use Rattle.journal.proofs.Order.EventPlacesAndCounts.{event_place_same}
use Rattle.causes.specs.declared.step.Step.{Step}
use Rattle.causes.specs.declared.taking_events.Taking.{Taking}
use Rattle.causes.specs.News.{NewsCutsAround}
use Rattle.causes.specs.TakingEvents.{AreAllTakingEvents}
use Rattle.causes.proofs.TakingRows.{IsNotedForTakingRow, taking_rows_quiet, taking_rows_taken}
use Rattle.causes.proofs.taking_events.add_taking_event.Goals as goal
use Rattle.causes.proofs.taking_events.add_taking_event.Goals.{then-is_taking_event+in_ok-push, else-is_taking_event}

-- the step's event
abbrev here : List Event → Step → Event
here events x = slice_index_or events x.place (event 0 (Load 0 0))

there : (events : List Event) (x : Step) → NewsCutsAround events x → EventAt events x.place (here events x)
there events x step =
    slice_get-get_or events x.place (event 0 (Load 0 0)) (slice_get_within events x.place step.event step.at)

pub index_mut-requires : goal.index_mut-requires
index_mut-requires c =
    let events = c.args.events.now in
    let x = c.args.step in
    let lt = c.requires.processors x.place (here events x) (there events x c.requires.step) in
    let long = c.requires.so_far.long in
    omega (arith, c.args.takings.now.ok.0)

pub returns : goal.returns
returns c =
    let events = c.args.events.now in
    let x = c.args.step in
    let e = here events x in
    let rows = c.args.takings.now.items in
    let step = c.requires.step in
    let at = there events x step in
    let lt = c.requires.processors x.place e at in
    let long = c.requires.so_far.long in
    let same = event_place_same events x.place step.event e step.at at in
    let cut : IsCutOf (take (x.place + 1) events) e.processor (slice_index x.after.items) =
    subst (λ (f : Event). IsCutOf (take (x.place + 1) events) f.processor (slice_index x.after.items)) same step.after in
    let taking : Taking = record { place = x.place; after = x.after } in
    let noted : IsNotedForTakingRow events e.processor x.place taking =
    record { kind = e.kind; does = at; place = refl; cut = cut } in
    let Are : Vec (Vec Taking) → Type 0 = λ v. AreAllTakingEvents events (x.place + 1) v.items in
    elim c.if-is_taking_event.branch [
      | then-is_taking_event+in_ok-push w ↦
          (let row = slice_get_read rows (length rows) e.processor w.index_mut.result.now refl (omega arith)
          w.index_mut.ensures.value in
          subst Are (sym w.takings-is)
          (taking_rows_taken w.index_mut.result.now w.push.new.self noted row w.in_ok-push.ensures.items c.requires.so_far))
      | else-is_taking_event w ↦
          subst Are (sym w.takings-is)
          (taking_rows_quiet events x.place e rows at (sym c.is_taking_event.ensures ∙ w.if-is_taking_event.false) c.requires.so_far)
    ]
