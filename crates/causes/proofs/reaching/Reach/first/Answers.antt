use Rattle.std.proofs.Common.{◌≡◌, ℕ, ◌<◌, List, Option, Some, MatchOption, length, slice_index_or, subst, sym, refl, arith}
use Rattle.std.specs.Prelude.{None}
use Rattle.std.specs.Global.{Vec}
use Rattle.std.proofs.lemmas.Option.{slice_get-get_or, slice_get_read}
use Rattle.journal.specs.declared.event.Event.{Event}
use Rattle.journal.specs.declared.event.Kind.TheVariants.{Load}
use Rattle.journal.specs.DidEvent.{event}
use Rattle.journal.proofs.Order.EventPlacesAndCounts.{event_place_does}
use Rattle.judge.specs.JudgedSizes.{most_judged_processors}
use Rattle.causes.specs.declared.taking_events.Taking.{Taking}
use Rattle.causes.specs.declared.reaching.Reach.{Reach}
use Rattle.causes.specs.TakingEvents.{AreTakingEvents, IsFirstTakingEventAbove, NoTakingEventAbove}
use Rattle.causes.specs.Paths.{PathEntryIfAny, IsPathLookup}
use Rattle.causes.proofs.ReachedPaths.{ReachedPathTakesBesides, reached_path_first_own, reached_path_first, reached_path_none, reached_path_parted}
use Rattle.causes.proofs.reaching.Reach.first.Goals as goal

-- the row that is read has the processor's events that take
row_read : (j : List Event) (x : Reach) (q : ℕ) (row : Vec Taking) (takings : List Taking) → IsPathLookup j x → q < most_judged_processors
    → row ≡ slice_index_or x.takings.items q row → takings ≡ row.items → AreTakingEvents j q (length j) takings
row_read j x q row takings tells lt read is =
    let long = tells.takings.long in
    subst (AreTakingEvents j q (length j)) (sym is)
    (tells.takings.each q row
    (slice_get_read x.takings.items (length x.takings.items) q row refl (omega arith) read))

-- the first of these cuts that has it is that after the first event that it reaches
first_found : {j : List Event} {p i q : ℕ} {takings : List Taking} (o : Option ℕ)
    → ReachedPathTakesBesides j p i q (length j) takings
    → MatchOption o (NoTakingEventAbove takings p i) (IsFirstTakingEventAbove takings p i) → PathEntryIfAny j i q o
first_found {j} {p} {i} {q} {takings} None besides none = reached_path_none besides none
first_found {j} {p} {i} {q} {takings} (Some m) besides first = reached_path_first besides first

-- the event at this place
abbrev here : List Event → ℕ → Event
here events place = slice_index_or events place (event 0 (Load 0 0))

pub first_taking_event_above-requires : goal.first_taking_event_above-requires
first_taking_event_above-requires c =
    let events = c.args.events.now in
    let x = c.args.self.now in
    let i = c.args.from in
    let q = c.args.processor in
    let e = here events i in
    let tells = c.requires.tells in
    let at = slice_get-get_or events i (event 0 (Load 0 0)) c.requires.from in
    let besides : ReachedPathTakesBesides events e.processor i q (length events) c.deref.result.now = record {
      kind = e.kind;
      does = event_place_does events i e.processor e at refl;
      apart = c.if-by-processor.false;
      are =
          row_read events x q c.index.result.now c.deref.result.now tells c.requires.processor c.index.ensures
          c.deref.ensures.value;
    } in
    record { parted = reached_path_parted besides }

pub returns-then-by-processor : goal.returns-then-by-processor
returns-then-by-processor c =
    let events = c.args.events.now in
    let i = c.args.from in
    let e = here events i in
    reached_path_first_own events c.args.processor i e.kind
    (event_place_does events i c.args.processor e (slice_get-get_or events i (event 0 (Load 0 0)) c.requires.from)
    c.if-by-processor.true)

pub returns : goal.returns
returns c =
    let events = c.args.events.now in
    let x = c.args.self.now in
    let i = c.args.from in
    let q = c.args.processor in
    let e = here events i in
    let tells = c.requires.tells in
    let at = slice_get-get_or events i (event 0 (Load 0 0)) c.requires.from in
    let besides : ReachedPathTakesBesides events e.processor i q (length events) c.deref.result.now = record {
      kind = e.kind;
      does = event_place_does events i e.processor e at refl;
      apart = c.if-by-processor.false;
      are =
          row_read events x q c.index.result.now c.deref.result.now tells c.requires.processor c.index.ensures
          c.deref.ensures.value;
    } in
    first_found c.first_taking_event_above.result besides c.first_taking_event_above.ensures
