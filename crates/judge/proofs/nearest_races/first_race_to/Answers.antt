use Rattle.std.proofs.Common.{◌≢◌, ℕ, inl, inr, ◌∷◌, ◌++◌, [], List, length, slice_index_or, refl, arith}
use borrow.Author.Count.{below_more}
use Rattle.std.proofs.lemmas.Bool.{cases_lt}
use Rattle.std.proofs.lemmas.Option.{slice_get-get_or}
use Rattle.journal.specs.declared.event.Event.{Event}
use Rattle.journal.specs.declared.event.Kind.TheVariants.{Load}
use Rattle.journal.specs.DidEvent.{event}
use Rattle.journal.specs.Races.{Conflict, Race}
use Rattle.journal.proofs.Order.EventPlacesAndCounts.{event_place_at_end, event_place_longer}
use Rattle.journal.proofs.Passes.NextRaces.{next_race_events}
use Rattle.judge.proofs.TellingCuts.{cut_tells_race}
use Rattle.judge.proofs.nearest_races.first_race_to.Goals as goal
use Rattle.judge.proofs.nearest_races.first_race_to.Goals.{else-is_nearest_race_conflict-via-then-is_nearest_race_conflict+else-place-known_in, else-is_nearest_race_conflict-via-else-is_nearest_race_conflict}

-- the event at this place
abbrev here : List Event → ℕ → Event
here events place = slice_index_or events place (event 0 (Load 0 0))

pub returns-then-place-known_in : goal.returns-then-place-known_in
returns-then-place-known_in c =
    let events = c.args.events.now in
    let at = slice_get-get_or events c.loop-place.place (event 0 (Load 0 0)) c.loop-place-test.true in
    let both = c.if-is_nearest_race_conflict.ensures.0 refl in
    let known = c.known_in.ensures in
    let above = c.if-place-known_in.true in (
      (cut_tells_race c.requires at both.0 both.1).1 (omega (arith, known, above)),
      λ m r. elim (cases_lt m c.loop-place.place) [ inl below ↦ absurd (c.loop-place.invariant m below r) | inr le ↦ le ],
    )

pub loop-place-preserved : goal.loop-place-preserved
loop-place-preserved c =
    let events = c.args.events.now in
    let e = c.args.event in
    let i = c.loop-place.place in
    let at = slice_get-get_or events i (event 0 (Load 0 0)) c.loop-place-test.true in
    let conflicts : Race (events ++ e ∷ []) i (length events) → ((here events i).processor ≢ e.processor) × Conflict (here events i) e = λ r.
    (next_race_events (events ++ e ∷ []) (length events) i e (here events i) (event_place_at_end events e)
    (event_place_longer events (e ∷ []) i (here events i) at) r) in
    let none : Race (events ++ e ∷ []) i (length events) → ⊥ = elim c.else-is_nearest_race_conflict.branch [
      | else-is_nearest_race_conflict-via-then-is_nearest_race_conflict+else-place-known_in w ↦ (λ r.
          let both = c.is_nearest_race_conflict.ensures.0 w.if-is_nearest_race_conflict.true in
          let le = (cut_tells_race c.requires at both.0 both.1).0 r in
          let known = w.known_in.ensures in
          let above = w.if-place-known_in.false in
          omega arith)
      | else-is_nearest_race_conflict-via-else-is_nearest_race_conflict w ↦ (λ r.
          let is = c.is_nearest_race_conflict.ensures.1 (conflicts r) in
          let isnt = w.if-is_nearest_race_conflict.false in
          absurd (cc (is, isnt)))
    ] in
    below_more (λ m. Race (events ++ e ∷ []) m (length events) → ⊥) i c.loop-place.invariant none

pub returns : goal.returns
returns c = λ m r. (let before = r.before in let over = c.loop-place-test.false in c.loop-place.invariant m (omega arith) r)
