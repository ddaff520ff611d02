use Rattle.std.proofs.Common.{◌≡◌, ℕ, ◌<◌, List, length, slice_index, slice_index_or, slice_set, subst, refl, arith}
use Rattle.std.proofs.lemmas.Option.{slice_get-get_or, slice_get_read}
use Rattle.journal.specs.declared.event.Event.{Event}
use Rattle.journal.specs.declared.event.Kind.TheVariants.{Load, Store}
use Rattle.journal.specs.DidEvent.{event}
use Rattle.journal.specs.Events.{EventAt, event_interval_at}
use Rattle.journal.specs.EventsInRange.{EventAddressInRange, EventAddressesInRange}
use Rattle.judge.specs.GapTally.{gap_tally_place_of}
use Rattle.causes.specs.declared.store_rows.NumberedStore.{NumberedStore}
use Rattle.causes.proofs.StoreRowSteps.{AreStoreRowsWith, IsNotedForStoreRow, store_rows_quiet, store_rows_stored}
use Rattle.causes.proofs.store_rows.StoreRows.add.Goals as goal

-- the event at this place
abbrev here : List Event → ℕ → Event
here events place = slice_index_or events place (event 0 (Load 0 0))

there : (events : List Event) (place : ℕ) → place < length events → EventAt events place (here events place)
there events place lt = slice_get-get_or events place (event 0 (Load 0 0)) lt

pub returns-in_default : goal.returns-in_default
returns-in_default c = record {
  rows =
      store_rows_quiet c.args.events.now c.args.place (here c.args.events.now c.args.place) c.args.self.now
      (there c.args.events.now c.args.place c.requires.place) c.in_default.not-Store c.requires.so_far;
  addresses = refl;
}

-- the store's address lies below the number of addresses
address_low : (events : List Event) (place addresses a v : ℕ) → place < length events
    → EventAddressesInRange addresses events → (here events place).kind ≡ Store a v → a < addresses
address_low events place addresses a v lt range is =
    subst (EventAddressInRange addresses) is (range place (here events place) (there events place lt))

pub overflow_mul-address : goal.overflow_mul-address
overflow_mul-address c =
    let low : c.in-Store.address < c.args.self.now.addresses =
    address_low c.args.events.now c.args.place c.args.self.now.addresses c.in-Store.address c.in-Store.field-1
    c.requires.place c.requires.addresses c.in-Store.is in
    let few = c.requires.few in
    omega arith

pub overflow_add-address : goal.overflow_add-address
overflow_add-address c =
    let low : c.in-Store.address < c.args.self.now.addresses =
    address_low c.args.events.now c.args.place c.args.self.now.addresses c.in-Store.address c.in-Store.field-1
    c.requires.place c.requires.addresses c.in-Store.is in
    let by =
    c.requires.processors c.args.place (here c.args.events.now c.args.place)
    (there c.args.events.now c.args.place c.requires.place) in
    let few = c.requires.few in
    omega arith

pub index_mut-requires : goal.index_mut-requires
index_mut-requires c =
    let low : c.in-Store.address < c.args.self.now.addresses =
    address_low c.args.events.now c.args.place c.args.self.now.addresses c.in-Store.address c.in-Store.field-1
    c.requires.place c.requires.addresses c.in-Store.is in
    let by =
    c.requires.processors c.args.place (here c.args.events.now c.args.place)
    (there c.args.events.now c.args.place c.requires.place) in
    let long = c.requires.so_far.long in
    omega arith

pub returns-clause-rows : goal.returns-clause-rows
returns-clause-rows c =
    let events = c.args.events.now in
    let k = c.args.place in
    let e = here events k in
    let at = there events k c.requires.place in
    let x = c.args.self.now in
    let a = c.in-Store.address in
    let low : a < x.addresses =
    address_low events k x.addresses a c.in-Store.field-1 c.requires.place c.requires.addresses c.in-Store.is in
    let by = c.requires.processors k e at in
    let long = c.requires.so_far.long in
    let row = slice_get_read x.rows.items (length x.rows.items) (gap_tally_place_of a e.processor) c.index_mut.result.now refl
    (omega (arith, x.rows.ok.0)) c.index_mut.ensures.value in
    let number : slice_index c.args.numbers.now k ≡ event_interval_at events e.processor k = c.requires.numbers.each k e at in
    let store : NumberedStore = record { place = k; interval = slice_index c.args.numbers.now k } in
    let noted : IsNotedForStoreRow events a e.processor k store = record {
      value = c.in-Store.field-1;
      does = subst (λ kind. EventAt events k (event e.processor kind)) c.in-Store.is at;
      low = by;
      place = refl;
      number = number;
    } in
    let rows = slice_set x.rows.items (gap_tally_place_of a e.processor) c.push.new.self in
    let longer : AreStoreRowsWith x.rows.items rows (gap_tally_place_of a e.processor) store = record {
      row = c.index_mut.result.now;
      there = row;
      longer = c.push.new.self;
      items = c.in_ok-push.ensures.items;
      rows_are = refl;
    } in
    record { long = long; each = store_rows_stored noted longer c.requires.so_far }
