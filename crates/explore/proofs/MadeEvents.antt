-- The events that processors make one after the other, from a script's first state on.
use Rattle.std.proofs.Common.{ℕ, zero, suc, ◌≡◌, ◌+◌, ◌<◌, ◌≤◌, List, [], ◌∷◌, Some, length, map, take, get_or, slice_get, refl, sym, ap, subst, ◌∙◌, arith}
use Rattle.std.specs.Global.{Vec}
use Rattle.std.proofs.lemmas.List.{length-map}
use Rattle.std.proofs.lemmas.Option.{same_Some, none-some, slice_get-get_or}
use Rattle.base.proofs.SlicesAndCounts.{slice_take-suc_at}
use Rattle.journal.specs.declared.event.Event.{Event}
use Rattle.journal.specs.declared.event.Kind.{Kind}
use Rattle.journal.specs.DidEvent.{did}
use Rattle.lrc_script.specs.Plan.{Plan}
use Rattle.explore.specs.declared.prefixes.script_call.ScriptCall.{ScriptCall}
use Rattle.explore.specs.declared.state.flat_state.FlatState.{FlatState}
use Rattle.explore.specs.declared.state.found_states.FoundStates.{FoundStates}
use Rattle.explore.specs.declared.state.wait_code.ProcessorNumber.{ProcessorNumber}
use Rattle.explore.specs.FoundStates.{AreEventsOfMakers, AreFoundStateMakers, AreFoundStates}
use Rattle.explore.specs.Machines.{AreLawfulMachineSteps, MachinesInSameState}
use Rattle.explore.specs.Prefixes.FlatBeginnings.{IsFlatBeginning}
use Rattle.explore.proofs.FirstRaces.{first_race_front_begins}
use Rattle.explore.proofs.LikeMachines.{like_machine_knows}

-- the makers of a run make its events from a copy of the first state on
pub made_events_of_run : (s : Plan) (rows : List (Vec ScriptCall)) (x : FoundStates) (first m : FlatState) (makers : List ProcessorNumber)
    → AreLawfulMachineSteps s rows → AreFoundStates s x → MachinesInSameState x.first first → (made : AreFoundStateMakers s m makers)
    → AreEventsOfMakers s rows first made.events makers
made_events_of_run s rows x first m makers lawful found like made = record {
  lawful = lawful;
  first = like_machine_knows s [] x.first first like found.begins;
  beginning = made.knows.beginning;
  are = made.are;
}

-- of equal numbers those at a place are equal
same_at : (ns : List ProcessorNumber) (es : List Event) (i : ℕ) (n : ProcessorNumber)
    → map (λ (n : ProcessorNumber). n.0) ns ≡ map (λ (e : Event). e.processor) es → slice_get ns i ≡ Some n
    → (e : Event) × (slice_get es i ≡ Some e) × (e.processor ≡ n.0)
same_at [] es i n are at = absurd (none-some n at)
same_at (m ∷ ns) [] i n are at = absurd (let long = ap (λ (xs : List ℕ). length xs) are in omega (arith, long))
same_at (m ∷ ns) (e ∷ es) zero n are at = (
  e,
  refl,
  sym (same_Some m.0 e.processor (ap (λ (xs : List ℕ). slice_get xs 0) are)) ∙ ap (λ (x : ProcessorNumber). x.0) (same_Some m n at),
)
same_at (m ∷ ns) (e ∷ es) (suc i) n are at = same_at ns es i n (ap (λ (xs : List ℕ). rest xs) are) at
  where
    rest : List ℕ → List ℕ
    rest [] = []
    rest (x ∷ xs) = xs

plus_one : (i : ℕ) → i + 1 ≡ suc i
plus_one i = omega arith

-- the next event, which processor p makes
pub record IsMadeEventNext (s : Plan) (rows : List (Vec ScriptCall)) (es : List Event) (i p : ℕ) : Type 0 where
  pub kind : Kind
  pub front : take (i + 1) es ≡ did (take i es) p kind
  pub begins : IsFlatBeginning s (did (take i es) p kind)
  pub within : p < length rows

pub made_event_next : (s : Plan) (rows : List (Vec ScriptCall)) (m : FlatState) (es : List Event) (makers : List ProcessorNumber) (i p : ℕ)
    → i < length makers → (get_or makers i (record { 0 = 0 })).0 ≡ p → AreEventsOfMakers s rows m es makers → IsMadeEventNext s rows es i p
made_event_next s rows m es makers i p lt is are =
    let e = same_at makers es i (get_or makers i (record { 0 = 0 })) are.are (slice_get-get_or makers i (record { 0 = 0 }) lt) in
    let maker = e.2 ∙ is in
    let front : take (i + 1) es ≡ did (take i es) p e.0.kind =
    ap (λ n. take n es) (plus_one i) ∙ slice_take-suc_at es i e.0 e.1 ∙ ap (λ q. did (take i es) q e.0.kind) maker in
    record {
      kind = e.0.kind;
      front = front;
      begins = subst (IsFlatBeginning s) front (first_race_front_begins s es (i + 1) are.beginning);
      within = (
          let within = (are.beginning.well_formed i e.0 e.1).processor in
          let each = are.lawful.lawful.but_uneven.one_each in
          let long = are.lawful.are.long in
          omega (arith, within, each, long, maker));
    }

-- as many as there are makers are all of them
pub made_events_long : (s : Plan) (rows : List (Vec ScriptCall)) (m : FlatState) (es : List Event) (makers : List ProcessorNumber) (i : ℕ)
    → length makers ≤ i → AreEventsOfMakers s rows m es makers → take i es ≡ es
made_events_long s rows m es makers i le are =
    let long = sym (length-map makers (λ (n : ProcessorNumber). n.0)) ∙ ap (λ (xs : List ℕ). length xs) are.are
    ∙ length-map es (λ (e : Event). e.processor) in
    take_all es i (omega (arith, le, long))
  where
    take_all : (es : List Event) (i : ℕ) → length es ≤ i → take i es ≡ es
    take_all [] zero le = refl
    take_all [] (suc i) le = refl
    take_all (e ∷ es) zero le = absurd (omega (arith, le))
    take_all (e ∷ es) (suc i) le = ap (λ xs. e ∷ xs) (take_all es i (omega (arith, le)))
