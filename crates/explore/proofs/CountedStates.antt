-- How many states are found: as many as the script has at least.
use Rattle.std.proofs.Common.{ℕ, zero, suc, ◌≡◌, List, [], ◌∷◌, Option, Some, length, map, slice_get, refl, sym, subst, ◌∙◌, arith}
use Rattle.std.specs.Prelude.{None}
use Rattle.std.specs.List.{IsDistinct}
use Rattle.std.proofs.lemmas.Bool.{false≢true}
use Rattle.std.proofs.lemmas.Option.{none-some, same_Some}
use Rattle.journal.specs.declared.event.Event.{Event}
use Rattle.lrc_script.specs.Plan.{Plan}
use Rattle.explore.specs.declared.state.found_states.FoundStates.{FoundStates}
use Rattle.explore.specs.declared.state.flat_state.FlatState.{FlatState}
use Rattle.explore.specs.declared.outcomes.telling.Detail.{Detail}
use Rattle.explore.specs.OutcomeTelling.{outcome_telling_of_script}
use Rattle.explore.specs.FoundStates.{AreFoundStates, found_states}
use Rattle.explore.specs.KeptStates.{opened_state}
use Rattle.explore.specs.Machines.{MachinesInSameState, MachineKnows}
use Rattle.explore.specs.StatesOfScript.{HasStatesOfScript}
use Rattle.explore.proofs.Determined.{determined_apart_at, determined_machine}
use Rattle.explore.proofs.Equals.{kept_state_equal}
use Rattle.explore.proofs.KeptStates.{kept_state_of_one_search, kept_state_same_places}
use Rattle.explore.proofs.MachineSteps.{machine_step_some_at}

-- what is opened at a place
counted_state_kept : {A B : Type 0} (f : A → B) (xs : List A) (i : ℕ) (b : B) → slice_get (map f xs) i ≡ Some b
    → (a : A) × (slice_get xs i ≡ Some a) × (f a ≡ b)
counted_state_kept f [] i b at = absurd (none-some b at)
counted_state_kept f (x ∷ xs) zero b at = (x, refl, same_Some (f x) b at)
counted_state_kept f (x ∷ xs) (suc i) b at = counted_state_kept f xs i b at

pub counted_states_same_transitive : (a b c : FlatState) → MachinesInSameState a b → MachinesInSameState b c → MachinesInSameState a c
counted_states_same_transitive a b c first second = record {
  telling = second.telling ∙ first.telling;
  done = second.done ∙ first.done;
  replies = second.replies ∙ first.replies;
  memory = second.memory ∙ first.memory;
  waiting = record {
    waits = second.waiting.waits ∙ first.waiting.waits;
    arrivals = second.waiting.arrivals ∙ first.waiting.arrivals;
    holders = second.waiting.holders ∙ first.waiting.holders;
    flags = second.waiting.flags ∙ first.waiting.flags;
    asked = second.waiting.asked ∙ first.waiting.asked;
  };
}

module _ (s : Plan) (d : Detail) (x : FoundStates) (found : AreFoundStates s x) (telling : x.first.telling ≡ outcome_telling_of_script s d)
    (unique : IsDistinct kept_state_equal x.states.keys) where
  -- some events that come to the state at a place
  counted_state_events : (i : ℕ) (o : Option FlatState) → slice_get (found_states x) i ≡ o → List Event
  counted_state_events i None is = []
  counted_state_events i (Some m) is = (found.known i m is).0

  counted_state_knows : (i : ℕ) (m : FlatState) (o : Option FlatState) (is : slice_get (found_states x) i ≡ o) → o ≡ Some m
      → MachineKnows s (counted_state_events i o is) m
  unfolding counted_state_events
  counted_state_knows i m None is some = absurd (none-some m some)
  counted_state_knows i m (Some n) is some =
      subst (MachineKnows s (found.known i n is).0) (same_Some n m some) (found.known i n is).1

  pub has_counted_states : HasStatesOfScript s d (length (found_states x))
  has_counted_states = record {
    beginning = λ i. counted_state_events i (slice_get (found_states x) i) refl;
    are = λ i lt.
        let m = machine_step_some_at (found_states x) i lt in
        (counted_state_knows i m.0 (slice_get (found_states x) i) refl m.1).beginning;
    apart = λ i k less lt one.
        let m = machine_step_some_at (found_states x) i (omega arith) in
        let n = machine_step_some_at (found_states x) k lt in
        let mine = counted_state_knows i m.0 (slice_get (found_states x) i) refl m.1 in
        let theirs = counted_state_knows k n.0 (slice_get (found_states x) k) refl n.1 in
        let like =
        let first = found.told i m.0 m.1 ∙ telling in
        let second = found.told k n.0 n.1 ∙ telling in
        counted_states_same_transitive m.0 one.machine n.0 (determined_machine s _ m.0 one.machine (one.telling ∙ sym first) mine one.first)
        (determined_machine s _ one.machine n.0 (second ∙ sym one.telling) one.second theirs) in
        let a = counted_state_kept (opened_state x.parts x.first) x.states.keys i m.0 m.1 in
        let b = counted_state_kept (opened_state x.parts x.first) x.states.keys k n.0 n.1 in
        false≢true (sym (determined_apart_at kept_state_equal x.states.keys unique i k a.0 b.0 less a.1 b.1)
        ∙ kept_state_same_places x.parts x.first (length x.first.memory.items) a.0 b.0 found.kept.once
        (kept_state_of_one_search s [] x.first x.first found.begins found.begins refl).zeros found.kept.trimmed (found.kept.within i a.0 a.1) (found.kept.within k b.0 b.1)
        (subst (λ z. MachinesInSameState z (opened_state x.parts x.first b.0)) (sym a.2) (subst (MachinesInSameState m.0) (sym b.2) like)));
  }
