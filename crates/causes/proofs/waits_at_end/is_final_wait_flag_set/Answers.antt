use Rattle.std.proofs.Common.{◌≡◌, ℕ, inl, inr, List, slice_index_or, sym, subst, refl, ap, ◌∙◌, arith}
use Rattle.std.proofs.lemmas.Bool.{cases_eq, false≢true}
use Rattle.std.proofs.lemmas.Option.{slice_get-get_or, slice_get_within}
use Rattle.journal.specs.declared.event.Event.{Event}
use Rattle.journal.specs.declared.event.Kind.TheVariants.{Load, Set}
use Rattle.journal.specs.DidEvent.{event}
use Rattle.journal.specs.Events.{EventAt}
use Rattle.journal.proofs.Order.EventPlacesAndCounts.{event_place_same}
use Rattle.causes.proofs.waits_at_end.is_final_wait_flag_set.Goals as goal

-- the event at this place
abbrev here : List Event → ℕ → Event
here events place = slice_index_or events place (event 0 (Load 0 0))

pub returns-then-is_edge_flag_set : goal.returns-then-is_edge_flag_set
returns-then-is_edge_flag_set c =
    let events = c.args.events.now in
    let place = c.loop-place.place in
    let e : Event = here events place in
    let there = slice_get-get_or events place (event 0 (Load 0 0)) c.loop-place-test.true in
    let kind : e.kind ≡ Set c.args.flag = c.is_edge_flag_set.ensures.0 c.if-is_edge_flag_set.true in
    (λ _. (place, e.processor, subst (λ k. EventAt events place (event e.processor k)) kind there), λ _. refl)

pub loop-place-preserved : goal.loop-place-preserved
loop-place-preserved c = λ k q lt does. elim (cases_eq k c.loop-place.place) [
  | inl is ↦
      (let events = c.args.events.now in
      let place = c.loop-place.place in
      let f : Event = event q (Set c.args.flag) in
      let there = slice_get-get_or events place (event 0 (Load 0 0)) c.loop-place-test.true in
      let same = event_place_same events place (here events place) f there (subst (λ n. EventAt events n f) is does) in
      false≢true (sym c.if-is_edge_flag_set.false ∙ c.is_edge_flag_set.ensures.1 (ap (λ (x : Event). x.kind) same)))
  | inr isnt ↦ c.loop-place.invariant k q (omega arith) does
]

pub returns : goal.returns
returns c = (
  λ is. absurd (false≢true is),
  λ x.
      (let end = c.loop-place-test.false in
      let lt = slice_get_within c.args.events.now x.0 (event x.1 (Set c.args.flag)) x.2 in
      absurd (c.loop-place.invariant x.0 x.1 (omega arith) x.2)),
)
