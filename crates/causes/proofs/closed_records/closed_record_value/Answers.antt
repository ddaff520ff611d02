use Rattle.std.proofs.Common.{◌≡◌, ◌+◌, ◌<◌, ℕ, List, length, slice_index_or, refl, subst, arith}
use Rattle.std.proofs.lemmas.Option.{slice_get-get_or}
use Rattle.journal.specs.declared.event.Event.{Event}
use Rattle.journal.specs.declared.event.Kind.TheVariants.{Load, Store}
use Rattle.journal.specs.DidEvent.{event}
use Rattle.journal.specs.Events.{EventAt}
use Rattle.journal.specs.WellFormed.{Does}
use Rattle.journal.proofs.Order.EventPlacesAndCounts.{event_place_same}
use Rattle.causes.specs.declared.store_rows.NumberedStore.{NumberedStore}
use Rattle.causes.specs.NumberedStores.{AreNumberedStoresBelow, IsLastNumberedStoreUnder, NoNumberedStoreUnder}
use Rattle.causes.proofs.RecordRows.{record_row_early, record_row_last, record_row_none}
use Rattle.causes.proofs.closed_records.closed_record_value.Goals as goal

pub returns-in_err-store : goal.returns-in_err-store
returns-in_err-store c =
    let x = c.last.ensures in
    let are = c.requires.rows.each c.args.address c.args.by x.0 c.requires.by x.1 in
    let none : NoNumberedStoreUnder x.0.items (c.args.interval + 1) = rw c.in_err-store.was at x.2 in
    rw c.from_residual.ensures
    (record_row_none c.args.interval are none)

pub returns-then-store-interval : goal.returns-then-store-interval
returns-then-store-interval c =
    let x = c.last.ensures in
    let are = c.requires.rows.each c.args.address c.args.by x.0 c.requires.by x.1 in
    let last : IsLastNumberedStoreUnder x.0.items (c.args.interval + 1) c.in_ok-store.store = rw c.in_ok-store.was at x.2 in
    record_row_early c.args.interval are last c.if-store-interval.true

-- the place of a store of a row
below : (j : List Event) (a q limit : ℕ) (row : List NumberedStore) (x : NumberedStore)
    → AreNumberedStoresBelow j a q (length j) row → IsLastNumberedStoreUnder row limit x → x.place < length j
below j a q limit row x are last = (are.each last.index x last.at).below

pub bounds : goal.bounds
bounds c =
    let x = c.last.ensures in
    let are = c.requires.rows.each c.args.address c.args.by x.0 c.requires.by x.1 in
    let last : IsLastNumberedStoreUnder x.0.items (c.args.interval + 1) c.in_ok-store.store = rw c.in_ok-store.was at x.2 in
    below c.args.events.now c.args.address c.args.by (c.args.interval + 1) x.0.items c.in_ok-store.store are last

pub offset_bounds-events-store : goal.offset_bounds-events-store
offset_bounds-events-store c =
    let x = c.last.ensures in
    let are = c.requires.rows.each c.args.address c.args.by x.0 c.requires.by x.1 in
    let last : IsLastNumberedStoreUnder x.0.items (c.args.interval + 1) c.in_ok-store.store = rw c.in_ok-store.was at x.2 in
    let lt =
    below c.args.events.now c.args.address c.args.by (c.args.interval + 1) x.0.items c.in_ok-store.store are last in
    omega arith

pub returns-in-Store : goal.returns-in-Store
returns-in-Store c =
    let events = c.args.events.now in
    let x = c.last.ensures in
    let store = c.in_ok-store.store in
    let are = c.requires.rows.each c.args.address c.args.by x.0 c.requires.by x.1 in
    let last : IsLastNumberedStoreUnder x.0.items (c.args.interval + 1) store = rw c.in_ok-store.was at x.2 in
    let lt = below events c.args.address c.args.by (c.args.interval + 1) x.0.items store are last in
    let e : Event = slice_index_or events store.place (event 0 (Load 0 0)) in
    let stored : Does events store.place e.processor (Store c.in-Store.field-0 c.in-Store.value) =
    subst (λ k. EventAt events store.place (event e.processor k)) c.in-Store.is
    (slice_get-get_or events store.place (event 0 (Load 0 0)) lt) in
    record_row_last c.args.interval c.in-Store.field-0 e.processor c.in-Store.value are last c.if-store-interval.false stored

pub returns-in_default : goal.returns-in_default
returns-in_default c =
    let events = c.args.events.now in
    let x = c.last.ensures in
    let store = c.in_ok-store.store in
    let are = c.requires.rows.each c.args.address c.args.by x.0 c.requires.by x.1 in
    let last : IsLastNumberedStoreUnder x.0.items (c.args.interval + 1) store = rw c.in_ok-store.was at x.2 in
    let own = are.each last.index store last.at in
    let lt = own.below in
    let there = slice_get-get_or events store.place (event 0 (Load 0 0)) lt in
    let e : Event = slice_index_or events store.place (event 0 (Load 0 0)) in
    let same = event_place_same events store.place e (event c.args.by (Store c.args.address own.value)) there own.does in
    absurd (c.in_default.not-Store c.args.address own.value (subst (λ (f : Event). e.kind ≡ f.kind) same refl))
