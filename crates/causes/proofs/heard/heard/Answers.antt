use Rattle.std.proofs.Common.{◌≡◌, slice_index_or, take, subst, ap, arith, sym}
use Rattle.std.proofs.lemmas.Option.{slice_get-get_or, slice_get_within}
use Rattle.journal.specs.declared.event.Event.{Event}
use Rattle.journal.specs.declared.event.Kind.TheVariants.{Load}
use Rattle.journal.specs.DidEvent.{event}
use Rattle.judge.specs.Cuts.{IsCutOf}
use Rattle.judge.proofs.TellingCuts.{cut_of_present, cut_tells_before_at}
use Rattle.judge.specs.CutRows.{cut_entry}
use Rattle.journal.proofs.Order.EventPlacesAndCounts.{event_place_same}
use Rattle.journal.specs.EventsInRange.{EventProcessorsInRange}
use Rattle.causes.proofs.heard.heard.Goals as goal

pub note_step-requires-clause-processors : goal.note_step-requires-clause-processors
note_step-requires-clause-processors c =
    subst (λ n. EventProcessorsInRange n c.args.events.now) (sym c.loop-place.invariant.present) c.requires.processors

pub note_step-requires-clause-place : goal.note_step-requires-clause-place
note_step-requires-clause-place c =
    let within = slice_get_within c.args.events.now c.args.second c.requires.second.0 c.requires.second.1 in
    let lt = c.loop-place-test.true in
    omega arith

pub offset_bounds-events-second : goal.offset_bounds-events-second
offset_bounds-events-second c =
    let within = slice_get_within c.args.events.now c.args.second c.requires.second.0 c.requires.second.1 in
    omega arith

pub bounds-events-second : goal.bounds-events-second
bounds-events-second c = slice_get_within c.args.events.now c.args.second c.requires.second.0 c.requires.second.1

pub of-cut-requires : goal.of-cut-requires
of-cut-requires c =
    let events = c.args.events.now in
    let second = c.args.second in
    let e = c.requires.second.0 in
    let at = c.requires.second.1 in
    let within = slice_get_within events second e at in
    let same =
    event_place_same events second (slice_index_or events second (event 0 (Load 0 0))) e
    (slice_get-get_or events second (event 0 (Load 0 0)) within) at in
    let one = ap (λ (y : Event). y.processor) same in
    let few = c.requires.few_processors in
    let low = c.requires.processors second e at in
    let long = c.loop-place.invariant.cuts.long.count in
    let present = c.loop-place.invariant.present in
    omega arith

pub last_heard-requires-clause-place : goal.last_heard-requires-clause-place
last_heard-requires-clause-place c =
    slice_get_within c.args.events.now c.args.second c.requires.second.0 c.requires.second.1

pub last_heard-requires-clause-tells : goal.last_heard-requires-clause-tells
last_heard-requires-clause-tells c = λ i a does lt.
    let events = c.args.events.now in
    let second = c.args.second in
    let by = c.args.by in
    let e = c.requires.second.0 in
    let at = c.requires.second.1 in
    let p = e.processor in
    let within = slice_get_within events second e at in
    let same =
    event_place_same events second (slice_index_or events second (event 0 (Load 0 0))) e
    (slice_get-get_or events second (event 0 (Load 0 0)) within) at in
    let rows = c.loop-place.cuts.processors in
    let low = c.requires.processors second e at in
    let present = c.loop-place.invariant.present in
    let top = c.loop-place.auto.place-end in
    let end = c.loop-place-test.false in
    let is : c.loop-place.place ≡ second = omega arith in
    let cut : IsCutOf (take second events) p (cut_entry rows p) =
    subst (λ n. IsCutOf (take n events) p (cut_entry rows p)) is
    (cut_of_present c.loop-place.invariant.cuts p (omega arith)) in
    let apart = λ (same : by ≡ p). c.requires.second.3 same in
    let tells = cut_tells_before_at at does lt apart c.requires.second.2 cut in
    let of = c.of-cut.ensures.entries by in
    let known = c.known_in_cut.ensures in
    let one = ap (λ (y : Event). cut_entry rows y.processor by) same in
    ((λ h. (let below = tells.0 h in omega arith)), (λ below. tells.1 (omega arith)))
