use Rattle.std.proofs.Common.{◌≡◌, ◌+◌, ◌<◌, ◌++◌, [], ◌∷◌, List, Some, length, slice_get, refl, sym, ap, subst, ◌∙◌, arith}
use Rattle.std.specs.Prelude.{IsSome}
use Rattle.std.specs.Global.{Vec}
use Rattle.std.proofs.lemmas.Option.{same_Some}
use Rattle.journal.specs.declared.event.Event.{Event}
use Rattle.journal.specs.declared.event.Kind.{Kind}
use Rattle.journal.specs.DidEvent.{did, event}
use Rattle.lrc_script.specs.Plan.{Plan}
use Rattle.explore.specs.declared.prefixes.script_call.ScriptCall.{ScriptCall}
use Rattle.explore.specs.Prefixes.FlatBeginnings.{IsFlatBeginning}
use Rattle.explore.specs.Prefixes.PrefixLaws.{PrefixRacesAfter}
use Rattle.explore.proofs.PrefixRuns.Neighbours.Racing.{neighbour_racing_law}
use Rattle.explore.specs.declared.state.found_states.FoundStates.{FoundStates}
use Rattle.explore.specs.declared.state.flat_state.FlatState.{FlatState}
use Rattle.explore.specs.declared.search.neighbours.Neighbours.{Neighbours}
use Rattle.explore.specs.FoundStates.{found_states}
use Rattle.explore.specs.Machines.{MachineKnows}
use Rattle.explore.specs.Racing.{AreRacing, IsRacingBeginning}
use Rattle.explore.proofs.LikeMachines.{like_machine_knows}
use Rattle.explore.proofs.MachineSteps.{machine_step_next_within, machine_step_rows_many, machine_step_some_at}
use Rattle.explore.proofs.search.racing_history.racing_history_events.Goals as goal

module _ (s : Plan) (x : FoundStates) (steps : List (Vec ScriptCall)) (ns : Neighbours) (are : AreRacing s x steps ns) (f : FlatState)
    (at : slice_get (found_states x) ns.place ≡ Some f) (g : List Event) (knows : MachineKnows s g f) where
  first_next : IsFlatBeginning s (did g ns.first.processor ns.first.kind)
  first_next = are.are.first f at g knows

  second_next : IsFlatBeginning s (did g ns.second.processor ns.second.kind)
  second_next = are.are.second f at g knows

  second_row : ns.second.processor < length steps
  second_row =
      let within = machine_step_next_within s g ns.second.processor ns.second.kind second_next in
      let many = machine_step_rows_many s steps are.lawful in
      omega arith

  races : PrefixRacesAfter s g ns.first.processor ns.second.processor ns.first.kind ns.second.kind
  races =
      neighbour_racing_law s g ns.first.processor ns.second.processor ns.first.kind ns.second.kind first_next second_next are.are.apart
      are.are.conflict

-- some events come to the state
some_events : (s : Plan) (x : FoundStates) (steps : List (Vec ScriptCall)) (ns : Neighbours) → AreRacing s x steps ns → (f : FlatState)
    → slice_get (found_states x) ns.place ≡ Some f → (g : List Event) × MachineKnows s g f
some_events s x steps ns are f at = are.found.known ns.place f at

pub step-requires : goal.step-requires
step-requires c =
    let s = c.requires.0 in
    let are = c.requires.1 in
    let x = c.args.found.now in
    let ns = c.args.neighbours in
    let stored = machine_step_some_at (found_states x) ns.place are.are.within in
    let f = stored.0 in
    let like = c.in_ok-state.ensures f stored.1 in
    let g = some_events s x c.args.steps.now ns are f stored.1 in
    record {
      plan = s;
      lawful = are.lawful;
      events = g.0;
      knows = like_machine_knows s g.0 f c.in_ok-state.state like g.1;
      next = first_next s x c.args.steps.now ns are f stored.1 g.0 g.1;
    }

pub next-requires-clause-processor : goal.next-requires-clause-processor
next-requires-clause-processor c =
    let s = c.requires.0 in
    let are = c.requires.1 in
    let x = c.args.found.now in
    let ns = c.args.neighbours in
    let stored = machine_step_some_at (found_states x) ns.place are.are.within in
    let f = stored.0 in
    let like = c.in_ok-state.ensures f stored.1 in
    let g = some_events s x c.args.steps.now ns are f stored.1 in
    second_row s x c.args.steps.now ns are f stored.1 g.0 g.1

pub next-requires-clause-running : goal.next-requires-clause-running
next-requires-clause-running c =
    let s = c.requires.0 in
    let are = c.requires.1 in
    let x = c.args.found.now in
    let ns = c.args.neighbours in
    let stored = machine_step_some_at (found_states x) ns.place are.are.within in
    let f = stored.0 in
    let like = c.in_ok-state.ensures f stored.1 in
    let g = some_events s x c.args.steps.now ns are f stored.1 in
    record {
      plan = s;
      lawful = are.lawful;
      events = did g.0 ns.first.processor ns.first.kind;
      knows =
          c.in_ok-step.ensures.knows s g.0 are.lawful (like_machine_knows s g.0 f c.in_ok-state.state like g.1)
          (first_next s x c.args.steps.now ns are f stored.1 g.0 g.1);
    }

pub unwrap-kind-requires : goal.unwrap-kind-requires
unwrap-kind-requires c =
    let s = c.requires.0 in
    let are = c.requires.1 in
    let x = c.args.found.now in
    let ns = c.args.neighbours in
    let stored = machine_step_some_at (found_states x) ns.place are.are.within in
    let f = stored.0 in
    let like = c.in_ok-state.ensures f stored.1 in
    let g = some_events s x c.args.steps.now ns are f stored.1 in
    let r = races s x c.args.steps.now ns are f stored.1 g.0 g.1 in
    let knows =
    c.in_ok-step.ensures.knows s g.0 are.lawful (like_machine_knows s g.0 f c.in_ok-state.state like g.1)
    (first_next s x c.args.steps.now ns are f stored.1 g.0 g.1) in
    let is = (c.next.ensures s (did g.0 ns.first.processor ns.first.kind) are.lawful knows r.kind).1 r.beginning in
    subst IsSome (sym is) refl

pub returns : goal.returns
returns c = λ s are.
    let x = c.args.found.now in
    let ns = c.args.neighbours in
    let stored = machine_step_some_at (found_states x) ns.place are.are.within in
    let f = stored.0 in
    let like = c.in_ok-state.ensures f stored.1 in
    let g = c.in_ok-events.events.items in
    let known = c.in_ok-events.ensures s are.lawful are.found f stored.1 in
    let r = races s x c.args.steps.now ns are f stored.1 g known in
    let knows =
    c.in_ok-step.ensures.knows s g are.lawful (like_machine_knows s g f c.in_ok-state.state like known)
    (first_next s x c.args.steps.now ns are f stored.1 g known) in
    let is = (c.next.ensures s (did g ns.first.processor ns.first.kind) are.lawful knows r.kind).1 r.beginning in
    let same = same_Some c.unwrap-kind.result r.kind (sym c.unwrap-kind.ensures ∙ is) in
    let before = did g ns.first.processor ns.first.kind in
    let items =
    c.in_ok-push-2.ensures.items
    ∙ ap (λ (es : List Event). es ++ event ns.second.processor c.unwrap-kind.result ∷ []) c.in_ok-push.ensures.items
    ∙ ap (λ (k : Kind). did before ns.second.processor k) same in
    subst (IsRacingBeginning s) (sym items)
    (record { beginning = r.beginning; first = length g; second = length g + 1; race = r.race })

pub at-requires-clause-place : goal.at-requires-clause-place
at-requires-clause-place c = c.requires.1.are.within

pub at-requires-clause-kept : goal.at-requires-clause-kept
at-requires-clause-kept c = c.requires.1.found.kept
