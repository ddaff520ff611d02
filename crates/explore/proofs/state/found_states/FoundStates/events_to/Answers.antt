use Rattle.std.proofs.Common.{◌≡◌, List, Some, Result, Ok, Err, IfOk, slice_get, subst, sym}
use Rattle.std.specs.Global.{Vec}
use Rattle.journal.specs.declared.event.Event.{Event}
use Rattle.lrc_script.specs.Plan.{Plan}
use Rattle.explore.specs.declared.state.flat_state.FlatState.{FlatState}
use Rattle.explore.specs.FoundStates.{AreEventsOfMakers, AreFoundStateMakers, AreFoundStates, found_states}
use Rattle.explore.specs.Machines.{AreLawfulMachineSteps, MachineKnows}
use Rattle.explore.proofs.MachineSteps.{machine_step_some_at}
use Rattle.explore.proofs.MadeEvents.{made_events_of_run}
use Rattle.explore.proofs.state.found_states.FoundStates.events_to.Goals as goal

pub events_of_makers-requires : goal.events_of_makers-requires
events_of_makers-requires c =
    let s = c.requires.found.0 in
    let x = c.args.self.now in
    let m = machine_step_some_at (found_states x) c.args.place c.requires.place in
    let made = subst (AreFoundStateMakers s m.0) (sym c.deref.ensures.value) (c.in_ok-makers.ensures s c.requires.found.2 m.0 m.1) in (
      s,
      made.events,
      made_events_of_run s c.args.steps.now x c.in_ok-copy.field-0 m.0 c.deref.result.now c.requires.found.1 c.requires.found.2
          c.in_ok-copy.ensures made,
    )

-- an answer that says more
if_ok_weaker : {E : Type 0} (r : Result (Vec Event) E) (P Q : Vec Event → Type 0) → ((v : Vec Event) → P v → Q v) → IfOk r P → IfOk r Q
if_ok_weaker (Ok v) P Q f h = f v h
if_ok_weaker (Err e) P Q f h = tt

pub returns : goal.returns
returns c =
    let x = c.args.self.now in
    let first = c.in_ok-copy.field-0 in
    let makers = c.deref.result.now in
    if_ok_weaker c.events_of_makers.result
    (λ v. (s : Plan) (es : List Event) → AreEventsOfMakers s c.args.steps.now first es makers → v.items ≡ es)
    (λ v. (s : Plan) → AreLawfulMachineSteps s c.args.steps.now → AreFoundStates s x → (m : FlatState)
    → slice_get (found_states x) c.args.place ≡ Some m → MachineKnows s v.items m)
    (λ v are s lawful found m at.
    let made = subst (AreFoundStateMakers s m) (sym c.deref.ensures.value) (c.in_ok-makers.ensures s found m at) in
    let of = made_events_of_run s c.args.steps.now x first m makers lawful found c.in_ok-copy.ensures made in
    subst (λ es. MachineKnows s es m) (sym (are s made.events of)) made.knows) c.events_of_makers.ensures
