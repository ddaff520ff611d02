use Rattle.std.proofs.Common.{ℕ, ◌+◌, List, slice_index_or, subst, sym, ap, arith}
use Rattle.std.proofs.lemmas.Option.{slice_get-get_or}
use Rattle.journal.specs.declared.event.Event.{Event}
use Rattle.journal.specs.declared.event.Kind.{Kind}
use Rattle.journal.specs.declared.event.Kind.TheVariants.{Load}
use Rattle.journal.specs.DidEvent.{event}
use Rattle.journal.specs.HappensBeforeEdges.{HappensBefore}
use Rattle.journal.specs.WellFormed.{Does}
use Rattle.journal.proofs.Order.EventPlacesAndCounts.{event_place_same, event_place_does}
use Rattle.causes.proofs.LastHeard.{LastHeardBelow, last_heard_all, last_heard_next, last_heard_others}
use Rattle.causes.proofs.heard.last_heard.Goals as goal
use Rattle.causes.proofs.heard.last_heard.Goals.{then-events-place+then-place-limit, else-events-place, else-events-place-via-then-events-place+else-place-limit, else-events-place-via-else-events-place}

-- the event at this place
abbrev here : List Event → ℕ → Event
here events place = slice_index_or events place (event 0 (Load 0 0))

pub loop-place-preserved : goal.loop-place-preserved
loop-place-preserved c =
    let events = c.args.events.now in
    let by = c.args.by in
    let second = c.args.second in
    let n = c.loop-place.place in
    let e = here events n in
    let old = c.loop-place.invariant in
    let before = c.loop-place-test.true in
    let long = c.requires.place in
    let at = slice_get-get_or events n (event 0 (Load 0 0)) (omega arith) in
    elim c.if-events-place.branch [
      | then-events-place+then-place-limit w ↦
          (let mine = w.if-events-place.true in
          let tells = c.requires.tells n e.kind (event_place_does events n by e at mine) before in
          subst (LastHeardBelow events by second (n + 1)) (sym w.heard-is)
          (last_heard_next events by second n e at mine (tells.1 w.if-place-limit.true)))
      | else-events-place w ↦
          (let away : (a : Kind) → Does events n by a → ¬ HappensBefore events n second = λ a does h.
          elim w.else-events-place.branch [
            | else-events-place-via-then-events-place+else-place-limit v ↦
                (let high = v.if-place-limit.false in
                let low = (c.requires.tells n a does before).0 h in
                omega arith)
            | else-events-place-via-else-events-place v ↦
                v.if-events-place.false (ap (λ (y : Event). y.processor) (event_place_same events n e (event by a) at does))
          ] in
          subst (LastHeardBelow events by second (n + 1)) (sym w.heard-is)
          (last_heard_others events by second n c.loop-place.heard away old))
    ]

pub returns : goal.returns
returns c =
    last_heard_all c.args.events.now c.args.by c.args.second c.loop-place.place c.loop-place.heard c.loop-place-test.false
    c.loop-place.invariant
