use Rattle.std.proofs.Common.{◌≡◌, ℕ, inl, inr, [], ◌∷◌, ◌++◌, List, length, take, slice_index_or, subst, sym, ◌∙◌, arith}
use Rattle.std.specs.Global.{Vec}
use Rattle.std.proofs.lemmas.List.{length-take-le}
use Rattle.std.proofs.lemmas.Option.{slice_get-get_or}
use Rattle.journal.proofs.Passes.NextClocks.{next_clocks_front}
use Rattle.judge.specs.KeptStores.{AreKeptStoresOf}
use Rattle.base.proofs.SlicesAndCounts.{slice_push_cases}
use Rattle.journal.specs.declared.event.Event.{Event}
use Rattle.journal.specs.declared.event.Kind.TheVariants.{Load}
use Rattle.journal.specs.DidEvent.{event}
use Rattle.journal.specs.EventsInRange.{EventAddressInRange}
use Rattle.judge.specs.Sources.Latest.{AreLatestRows, IsLatestRow}
use Rattle.judge.proofs.sources.LoadRows.{load_row_in_front}
use Rattle.judge.proofs.sources.rows_of_latest.latest_rows.Goals as goal

-- the event at this place
abbrev here : List Event → ℕ → Event
here events place = slice_index_or events place (event 0 (Load 0 0))

-- a row more
rows_next : (events : List Event) (rows : List (Vec ℕ)) (place : ℕ) (row : Vec ℕ) → length rows ≡ place
    → AreLatestRows events rows → IsLatestRow events place row.items → AreLatestRows events (rows ++ row ∷ [])
rows_next events rows place row long are now k other at = elim (slice_push_cases rows row k other at) [
  | inl old ↦ are k other old.1
  | inr new ↦
      (let is : place ≡ k = omega (arith, new.0) in
      subst (λ (v : Vec ℕ). IsLatestRow events k v.items) new.1 (subst (λ n. IsLatestRow events n row.items) is now))
]

pub latest_row_of-requires-clause-processor : goal.latest_row_of-requires-clause-processor
latest_row_of-requires-clause-processor c =
    let e = here c.events-events.result.now c.loop-place.place in
    let at = slice_get-get_or c.events-events.result.now c.loop-place.place (event 0 (Load 0 0)) c.loop-place-test.true in
    let lt = c.events-events.ensures.processors c.loop-place.place e at in
    let same = c.loop-place.invariant.processors in
    omega arith

pub latest_row_of-requires-clause-address : goal.latest_row_of-requires-clause-address
latest_row_of-requires-clause-address c =
    let e = here c.events-events.result.now c.loop-place.place in
    let at = slice_get-get_or c.events-events.result.now c.loop-place.place (event 0 (Load 0 0)) c.loop-place-test.true in
    subst (λ n. EventAddressInRange n e.kind) (sym c.loop-place.invariant.addresses)
    (c.events-events.ensures.addresses c.loop-place.place e at)

pub loop-place-preserved : goal.loop-place-preserved
loop-place-preserved c =
    let events = c.events-events.result.now in
    let place = c.loop-place.place in
    let e = here events place in
    let at = slice_get-get_or events place (event 0 (Load 0 0)) c.loop-place-test.true in
    let old = c.loop-place.invariant in
    let rows = c.loop-place.rows in
    let long : length rows.items ≡ place = omega (arith, rows.ok.0, old.long) in
    let row = load_row_in_front events place e c.in_ok-row.row.items at (c.in_ok-row.ensures (take place events) old.tells) in
    record {
      tells = subst (λ j. AreKeptStoresOf j c.note.new.self) (sym (next_clocks_front events place e at))
          (c.in_ok-note.ensures.tells (take place events) old.tells);
      processors = c.note.ensures.processors ∙ old.processors;
      addresses = c.note.ensures.addresses ∙ old.addresses;
      long = (let len = c.in_ok-push.ensures.len in let was = old.long in omega arith);
      rows =
          subst (AreLatestRows events) (sym c.in_ok-push.ensures.items)
          (rows_next events rows.items place c.in_ok-row.row long old.rows row);
    }

pub note-requires-clause-few : goal.note-requires-clause-few
note-requires-clause-few c =
    let events = c.events-events.result.now in
    let place = c.loop-place.place in
    let lt = c.loop-place-test.true in
    let few = c.events-events.ensures.few in
    let long = length-take-le place events (omega arith) in
    let at = c.loop-place.invariant.tells.cuts.place in
    omega arith

pub note-requires-clause-processor : goal.note-requires-clause-processor
note-requires-clause-processor c =
    let e = here c.events-events.result.now c.loop-place.place in
    let at = slice_get-get_or c.events-events.result.now c.loop-place.place (event 0 (Load 0 0)) c.loop-place-test.true in
    let lt = c.events-events.ensures.processors c.loop-place.place e at in
    let same = c.loop-place.invariant.processors in
    omega arith

pub note-requires-clause-address : goal.note-requires-clause-address
note-requires-clause-address c =
    let e = here c.events-events.result.now c.loop-place.place in
    let at = slice_get-get_or c.events-events.result.now c.loop-place.place (event 0 (Load 0 0)) c.loop-place-test.true in
    subst (λ n. EventAddressInRange n e.kind) (sym c.loop-place.invariant.addresses)
    (c.events-events.ensures.addresses c.loop-place.place e at)
