-- What is found, with a state more.
-- A state that is there stays at its place; a new one comes from an earlier one, and what it comes to is known.
use Rattle.std.proofs.Common.{ℕ, zero, suc, ◌≡◌, ◌+◌, ◌<◌, ◌≤◌, inl, inr, List, [], ◌∷◌, ◌++◌, Some, length, map, slice_get, append_assoc, sym, ap, subst, ◌∙◌, length-append, arith, Bool, true, false}
use Rattle.std.specs.Prelude.{if◌then◌else◌}
use Rattle.std.proofs.lemmas.List.{length-replicate, map-append}
use Rattle.std.proofs.lemmas.Option.{same_Some, none-some, slice_get_within}
use Rattle.base.proofs.SlicesAndCounts.{slice_push_cases, slice_get-append_left, slice_get-last}
use Rattle.journal.specs.declared.event.Event.{Event}
use Rattle.journal.specs.declared.event.Kind.{Kind}
use Rattle.journal.specs.DidEvent.{did, event}
use Rattle.lrc_script.specs.Plan.{Plan}
use Rattle.std.specs.Global.{Vec}
use Rattle.explore.specs.declared.prefixes.script_call.ScriptCall.{ScriptCall}
use Rattle.explore.specs.declared.state.found_states.FoundStates.{FoundStates}
use Rattle.explore.specs.declared.state.flat_state.FlatState.{FlatState}
use Rattle.explore.specs.declared.state.kept_state.KeptState.{KeptState}
use Rattle.explore.specs.declared.state.kept_state.StateParts.{StateParts}
use Rattle.explore.specs.declared.state.wait_code.ProcessorNumber.{ProcessorNumber}
use Rattle.explore.specs.FoundStates.{AreFoundStates, AreFoundStatesKept, IsFoundStateOrigin, FoundStateAdded, IsFoundState, KeepsFoundStates, FoundStateWasPushed, FoundStateWasThere, found_states}
use Rattle.explore.specs.Origins.{AreOriginsInOrder, StateOrigin, state_origins}
use Rattle.explore.specs.KeptStates.{AreFewStateParts, AreOfOneSearch, AreStatePartsOnce, AreTrimmedMemories, IsKeptStateWithin, IsStateKept, opened_state}
use Rattle.explore.specs.CallTables.{IsCallTableOf}
use Rattle.explore.specs.FollowedStates.{IsFollowedState, MayBeFollowedState}
use Rattle.explore.specs.FreeRun.{AreFreeInRun, IsFoundByFreeRun}
use Rattle.explore.specs.Machines.{MachinesInSameState, MachineKnows}
use Rattle.explore.proofs.KeptStates.{kept_state_opens_same, kept_state_parts_few_more, kept_state_parts_few_still, kept_state_stays_within, kept_states_open_same}
use Rattle.explore.proofs.MachineSteps.{machine_step_some_at}
use Rattle.explore.proofs.LikeMachines.{like_machine_knows}

-- states that are pushed on
pub added_state_keeps_found : (old new : List FlatState) (m : FlatState) → new ≡ old ++ m ∷ [] → KeepsFoundStates old new
added_state_keeps_found old new m is place f at =
    ap (λ ms. slice_get ms place) is
    ∙ (slice_get-append_left old (m ∷ []) place (slice_get_within old place f at) ∙ at)

pub added_state_known_kept : (s : Plan) (old new : List FlatState) (g : List Event) → KeepsFoundStates old new → IsFoundState s old g → IsFoundState s new g
added_state_known_kept s old new g keeps known = record {
  place = known.place;
  state = known.state;
  at = keeps known.place known.state known.at;
  knows = known.knows;
}

-- where a state comes from stays so
added_state_comes_kept : (s : Plan) (old new : List FlatState) (place : ℕ) (m : FlatState) (o : StateOrigin) → KeepsFoundStates old new
    → place ≤ length old → IsFoundStateOrigin s old place m o → IsFoundStateOrigin s new place m o
added_state_comes_kept s old new place m o keeps within from = record {
  earlier = from.earlier;
  after = λ f g at knows.
      let lt = from.earlier in
      let here = machine_step_some_at old o.from (omega arith) in
      let same = same_Some here.0 f (sym (keeps o.from here.0 here.1) ∙ at) in
      from.after f g (subst (λ x. slice_get old o.from ≡ Some x) same here.1) knows;
}

-- a state that comes from somewhere is pushed on
module _ (s : Plan) (x y : FoundStates) (m : FlatState) (o : StateOrigin) (pushed : FoundStateWasPushed x y m o) where
  added_state_pushed_keeps : KeepsFoundStates (found_states x) (found_states y)
  added_state_pushed_keeps = added_state_keeps_found (found_states x) (found_states y) m pushed.states

  added_state_pushed_at : slice_get (found_states y) (length (found_states x)) ≡ Some m
  added_state_pushed_at = ap (λ ms. slice_get ms (length (found_states x))) pushed.states ∙ slice_get-last (found_states x) m

  pub added_state_pushed_found : AreFoundStatesKept y → AreFoundStates s x → (g : List Event) → MachineKnows s g m → m.telling ≡ x.first.telling
      → IsFoundStateOrigin s (found_states x) (length (found_states x)) m o → AreFoundStates s y
  added_state_pushed_found kept old g knows tells from = record {
    kept = kept;
    calls = subst (IsCallTableOf s) (sym pushed.calls) old.calls;
    long = (
        let before = old.long in
        let states = ap (λ (ms : List FlatState). length ms) pushed.states in
        let origins = ap (λ (os : List StateOrigin). length os) pushed.origins in
        let one = length-append (found_states x) (m ∷ []) in
        let two = length-append (state_origins x.origins) (o ∷ []) in
        omega arith);
    known = λ place f at. elim (slice_push_cases (found_states x) m place f (ap (λ ms. slice_get ms place) (sym pushed.states) ∙ at)) [
      | inl before ↦ old.known place f before.1
      | inr now ↦ (g, subst (MachineKnows s g) now.1 knows)
    ];
    come = λ place f p at from_at.
        elim (slice_push_cases (found_states x) m (place + 1) f (ap (λ ms. slice_get ms (place + 1)) (sym pushed.states) ∙ at)) [
          | inl before ↦
              elim (slice_push_cases (state_origins x.origins) o place p (ap (λ os. slice_get os place) (sym pushed.origins) ∙ from_at)) [
                | inl was ↦
                    (let lt = before.0 in
                    added_state_comes_kept s (found_states x) (found_states y) (place + 1) f p added_state_pushed_keeps (omega arith)
                    (old.come place f p before.1 was.1))
                | inr wrong ↦ (let lt = before.0 in let is = wrong.0 in let long = old.long in absurd (omega arith))
              ]
          | inr now ↦
              elim (slice_push_cases (state_origins x.origins) o place p (ap (λ os. slice_get os place) (sym pushed.origins) ∙ from_at)) [
                | inl wrong ↦ (let lt = wrong.0 in let is = now.0 in let long = old.long in absurd (omega arith))
                | inr mine ↦
                    subst (λ q. IsFoundStateOrigin s (found_states y) (place + 1) f q) mine.1
                    (subst (λ q. IsFoundStateOrigin s (found_states y) (place + 1) q o) now.1
                    (subst (λ n. IsFoundStateOrigin s (found_states y) n m o) (sym now.0)
                    (added_state_comes_kept s (found_states x) (found_states y) (length (found_states x)) m o added_state_pushed_keeps (omega arith) from)))
              ]
        ];
    begins = subst (MachineKnows s []) (sym pushed.first) old.begins;
    first = λ f at. elim (slice_push_cases (found_states x) m 0 f (ap (λ ms. slice_get ms 0) (sym pushed.states) ∙ at)) [
      | inl before ↦ old.first f before.1
      | inr now ↦ (let long = old.long in let is = now.0 in absurd (omega arith))
    ];
    told = λ place f at. elim (slice_push_cases (found_states x) m place f (ap (λ ms. slice_get ms place) (sym pushed.states) ∙ at)) [
      | inl before ↦ old.told place f before.1 ∙ sym (ap (λ (n : FlatState). n.telling) pushed.first)
      | inr now ↦ ap (λ (n : FlatState). n.telling) (sym now.1) ∙ tells ∙ sym (ap (λ (n : FlatState). n.telling) pushed.first)
    ];
  }

  pub added_state_pushed_known : (g : List Event) → MachineKnows s g m → IsFoundState s (found_states y) g
  added_state_pushed_known g knows = record { place = length (found_states x); state = m; at = added_state_pushed_at; knows = knows }

-- a state that was there
module _ (s : Plan) (x y : FoundStates) (m : FlatState) (was : FoundStateWasThere x y m) where
  added_state_there_keeps : KeepsFoundStates (found_states x) (found_states y)
  added_state_there_keeps place f at = ap (λ ms. slice_get ms place) was.states ∙ at

  pub added_state_there_found : AreFoundStatesKept y → AreFoundStates s x → AreFoundStates s y
  added_state_there_found kept old = record {
    kept = kept;
    calls = subst (IsCallTableOf s) (sym was.calls) old.calls;
    long = (
        let before = old.long in
        let states = ap (λ (ms : List FlatState). length ms) was.states in
        let origins = ap (λ (os : List StateOrigin). length os) was.origins in
        omega arith);
    known = λ place f at. old.known place f (ap (λ ms. slice_get ms place) (sym was.states) ∙ at);
    come = λ place f p at from_at.
        subst (λ ms. IsFoundStateOrigin s ms (place + 1) f p) (sym was.states)
        (old.come place f p (ap (λ ms. slice_get ms (place + 1)) (sym was.states) ∙ at)
        (ap (λ os. slice_get os place) (sym was.origins) ∙ from_at));
    begins = subst (MachineKnows s []) (sym was.first) old.begins;
    first = λ f at. old.first f (ap (λ ms. slice_get ms 0) (sym was.states) ∙ at);
    told = λ place f at. old.told place f (ap (λ ms. slice_get ms place) (sym was.states) ∙ at) ∙ sym (ap (λ (n : FlatState). n.telling) was.first);
  }

  pub added_state_there_known : (g : List Event) → MachineKnows s g m → IsFoundState s (found_states y) g
  added_state_there_known g knows = record {
    place = was.place;
    state = was.state;
    at = ap (λ ms. slice_get ms was.place) was.states ∙ was.at;
    knows = like_machine_knows s g m was.state was.like knows;
  }

-- what is found soon stays so
pub added_state_found_soon_kept : (s : Plan) (rows : List (Vec ScriptCall)) (old new : List FlatState) (g : List Event) → KeepsFoundStates old new
    → IsFoundByFreeRun s rows old g → IsFoundByFreeRun s rows new g
added_state_found_soon_kept s rows old new g keeps soon = record {
  more = soon.more;
  free = soon.free;
  found = added_state_known_kept s old new (g ++ soon.more) keeps soon.found;
}

-- the machine m is what f comes to by p's event, and then by free ones, and that is how it was noted
pub record IsAddedStateFreelyReached (s : Plan) (rows : List (Vec ScriptCall)) (place p : ℕ) (k : Kind) (f m : FlatState) (o : StateOrigin) : Type 0 where
  pub more : List Event
  pub free : AreFreeInRun rows more
  pub from : o.from ≡ place
  pub makers : map (λ (n : ProcessorNumber). n.0) o.makers ≡ map (λ (e : Event). e.processor) (event p k ∷ more)
  pub telling : m.telling ≡ f.telling
  pub knows : (g : List Event) → MachineKnows s g f → MachineKnows s (did g p k ++ more) m

-- so what it comes to is found soon
module _ {s : Plan} {rows : List (Vec ScriptCall)} {x : FoundStates} {place p : ℕ} {k : Kind} {f m : FlatState} {o : StateOrigin}
    (may : MayBeFollowedState s rows x place p k) (at : slice_get (found_states x) place ≡ Some f)
    (came : IsAddedStateFreelyReached s rows place p k f m o) (y : FoundStates) where
  added_state_found_soon : ((g : List Event) → MachineKnows s g m → IsFoundState s (found_states y) g) → (h : FlatState) (g : List Event)
      → slice_get (found_states x) place ≡ Some h → MachineKnows s g h → IsFoundByFreeRun s rows (found_states y) (did g p k)
  added_state_found_soon known h g here knows = record {
    more = came.more;
    free = came.free;
    found = known (did g p k ++ came.more) (came.knows g (subst (MachineKnows s g) (same_Some h f (sym here ∙ at)) knows));
  }

  added_state_origin : IsFoundStateOrigin s (found_states x) (length (found_states x)) m o
  added_state_origin = record {
    earlier = subst (λ n. n < length (found_states x)) (sym came.from) may.within;
    after = λ h g here knows.
        let there = subst (λ n. slice_get (found_states x) n ≡ Some h) came.from here in
        let mine = subst (MachineKnows s g) (same_Some h f (sym there ∙ at)) knows in
        record {
          events = event p k ∷ came.more;
          knows = subst (λ es. MachineKnows s es m) (append_assoc g (event p k ∷ []) came.more) (came.knows g mine);
          are = came.makers;
        };
  }

  pub added_state_is_followed_there : FoundStateWasThere x y m → AreFoundStatesKept y → IsFollowedState s rows x y place p k
  added_state_is_followed_there was kept = record {
    keeps = added_state_there_keeps s x y m was;
    found = added_state_there_found s x y m was kept may.found;
    known = added_state_found_soon (added_state_there_known s x y m was);
    telling = ap (λ (n : FlatState). n.telling) was.first;
    few = (let same = ap (λ (ms : List FlatState). length ms) was.states in omega (arith, same));
  }

  pub added_state_is_followed_pushed : FoundStateWasPushed x y m o → AreFoundStatesKept y → IsFollowedState s rows x y place p k
  added_state_is_followed_pushed pushed kept = record {
    keeps = added_state_pushed_keeps s x y m _ pushed;
    found =
        (let first = may.found.known place f at in
        added_state_pushed_found s x y m _ pushed kept may.found (did first.0 p k ++ came.more) (came.knows first.0 first.1)
        (came.telling ∙ may.found.told place f at) added_state_origin);
    known = added_state_found_soon (added_state_pushed_known s x y m _ pushed);
    telling = ap (λ (n : FlatState). n.telling) pushed.first;
    few = (
        let longer = ap (λ (ms : List FlatState). length ms) pushed.states in
        let one = length-append (found_states x) (m ∷ []) in
        omega (arith, longer, one));
  }

-- a state that is added is there, or one in the same state is pushed on
pub added_state_is_followed : {s : Plan} {rows : List (Vec ScriptCall)} {x : FoundStates} {place p : ℕ} {k : Kind} {f m : FlatState} {o : StateOrigin}
    → MayBeFollowedState s rows x place p k → slice_get (found_states x) place ≡ Some f → IsAddedStateFreelyReached s rows place p k f m o
    → (y : FoundStates) → FoundStateAdded x y m o → IsFollowedState s rows x y place p k
added_state_is_followed may at came y added = elim added.added [
  | inl was ↦ added_state_is_followed_there may at came y was added.kept
  | inr put ↦
      (let like = put.like in
      added_state_is_followed_pushed may at (record {
        more = came.more;
        free = came.free;
        from = came.from;
        makers = came.makers;
        telling = like.telling ∙ came.telling;
        knows = λ g knows. like_machine_knows _ _ _ put.state like (came.knows g knows);
      }) y put.pushed added.kept)
]

-- what is put at a place is opened there
pub added_state_opened_at : {A B : Type 0} (f : A → B) (xs : List A) (i : ℕ) (a : A) → slice_get xs i ≡ Some a → slice_get (map f xs) i ≡ Some (f a)
added_state_opened_at f [] i a at = absurd (none-some a at)
added_state_opened_at f (x ∷ xs) zero a at = ap (λ z. Some (f z)) (same_Some x a at)
added_state_opened_at f (x ∷ xs) (suc i) a at = added_state_opened_at f xs i a at

-- a state is kept by k
module _ (x : FoundStates) (parts : StateParts) (m : FlatState) (k : KeptState) (is : IsStateKept x.parts parts m k)
    (one : AreOfOneSearch x.first m) (old : AreFoundStatesKept x) where
  added_state_like : MachinesInSameState m (opened_state parts x.first k)
  added_state_like = is.like x.first one

  added_state_trimmed : AreTrimmedMemories parts (length x.first.memory.items)
  added_state_trimmed =
      let long : length x.first.memory.items ≡ length m.memory.items = ap (λ (ws : List ℕ). length ws) one.zeros ∙ length-replicate (length m.memory.items) 0 in
      subst (AreTrimmedMemories parts) (sym long) (is.trimmed (subst (AreTrimmedMemories x.parts) long old.trimmed))

  added_state_opens : (y : FoundStates) → y.parts ≡ parts → y.first ≡ x.first
      → found_states y ≡ map (opened_state parts x.first) y.states.keys
  added_state_opens y parts_are first =
      ap (λ z. map (opened_state z y.first) y.states.keys) parts_are ∙ ap (λ f. map (opened_state parts f) y.states.keys) first

  added_state_calls : (y : FoundStates) → y.parts ≡ parts → y.parts.calls ≡ x.parts.calls
  added_state_calls y parts_are = ap (λ (z : StateParts). z.calls) parts_are ∙ is.keeps.calls

  added_state_calls_known : (y : FoundStates) → y.parts ≡ parts → (s : Plan) × IsCallTableOf s y.parts.calls
  added_state_calls_known y parts_are = (old.calls.0, subst (IsCallTableOf old.calls.0) (sym (added_state_calls y parts_are)) old.calls.1)

  -- and is there already
  pub added_state_was_there : (y : FoundStates) → y.parts ≡ parts → y.first ≡ x.first → y.states.keys ≡ x.states.keys
      → y.origins ≡ x.origins → (place : ℕ) (h : KeptState) → slice_get x.states.keys place ≡ Some h → h ≡ k
      → (o : StateOrigin) → FoundStateAdded x y m o
  added_state_was_there y parts_are first keys origins place h at same o =
      let within = old.within place h at in
      record {
        kept = record {
          calls = added_state_calls_known y parts_are;
          within = λ i a here.
              subst (λ z. IsKeptStateWithin z a) (sym parts_are)
              (kept_state_stays_within x.parts parts a is.keeps (old.within i a (ap (λ ks. slice_get ks i) (sym keys) ∙ here)));
          once = subst AreStatePartsOnce (sym parts_are) is.once;
          few =
              subst (λ ks. AreFewStateParts y.parts (length ks)) (sym keys)
              (subst (λ z. AreFewStateParts z (length x.states.keys)) (sym parts_are)
              (kept_state_parts_few_still x.parts parts k _ is.grown (subst (IsKeptStateWithin x.parts) same within) old.few));
          trimmed =
              subst (λ (f : FlatState). AreTrimmedMemories y.parts (length f.memory.items)) (sym first)
              (subst (λ z. AreTrimmedMemories z (length x.first.memory.items)) (sym parts_are) added_state_trimmed);
          in_order = subst AreOriginsInOrder (sym origins) old.in_order;
        };
        added = inl (record {
          first = first;
          calls = added_state_calls y parts_are;
          states = added_state_opens y parts_are first ∙ ap (map (opened_state parts x.first)) keys ∙ kept_states_open_same x.parts parts x.first x.states.keys is.keeps old.within;
          origins = ap state_origins origins;
          place = place;
          state = opened_state x.parts x.first h;
          at = added_state_opened_at (opened_state x.parts x.first) x.states.keys place h at;
          like =
              subst (MachinesInSameState m) (kept_state_opens_same x.parts parts x.first h is.keeps within)
              (subst (λ z. MachinesInSameState m (opened_state parts x.first z)) (sym same) added_state_like);
        });
      }

  -- or is put at the end
  pub added_state_was_put : (y : FoundStates) → y.parts ≡ parts → y.first ≡ x.first → y.states.keys ≡ x.states.keys ++ k ∷ []
      → (o : StateOrigin) → state_origins y.origins ≡ state_origins x.origins ++ o ∷ [] → AreOriginsInOrder y.origins → FoundStateAdded x y m o
  added_state_was_put y parts_are first keys o origins in_order = record {
    kept = record {
      calls = added_state_calls_known y parts_are;
      within = λ i a here. elim (slice_push_cases x.states.keys k i a (ap (λ ks. slice_get ks i) (sym keys) ∙ here)) [
        | inl before ↦ subst (λ z. IsKeptStateWithin z a) (sym parts_are) (kept_state_stays_within x.parts parts a is.keeps (old.within i a before.1))
        | inr now ↦ subst (λ z. IsKeptStateWithin z a) (sym parts_are) (subst (IsKeptStateWithin parts) now.1 is.within)
      ];
      once = subst AreStatePartsOnce (sym parts_are) is.once;
      few =
          subst (AreFewStateParts y.parts) (sym (ap (λ (ks : List KeptState). length ks) keys ∙ length-append x.states.keys (k ∷ [])))
          (subst (λ z. AreFewStateParts z (length x.states.keys + 1)) (sym parts_are)
          (kept_state_parts_few_more x.parts parts k _ is.grown old.few));
      trimmed =
          subst (λ (f : FlatState). AreTrimmedMemories y.parts (length f.memory.items)) (sym first)
          (subst (λ z. AreTrimmedMemories z (length x.first.memory.items)) (sym parts_are) added_state_trimmed);
      in_order = in_order;
    };
    added = inr (record {
      state = opened_state parts x.first k;
      pushed = record {
        first = first;
        calls = added_state_calls y parts_are;
        states =
            added_state_opens y parts_are first ∙ ap (map (opened_state parts x.first)) keys ∙ map-append (opened_state parts x.first) x.states.keys (k ∷ [])
            ∙ ap (λ ms. ms ++ opened_state parts x.first k ∷ []) (kept_states_open_same x.parts parts x.first x.states.keys is.keeps old.within);
        origins = origins;
      };
      like = added_state_like;
    });
  }

pub added_state_alone : {A : Type 0} (is_there : Bool) (old new : List A) (a : A) → new ≡ (if is_there then old else old ++ a ∷ []) → old ≡ []
    → (i : ℕ) (h : A) → slice_get new i ≡ Some h → new ≡ a ∷ []
added_state_alone true old new a is none i h at = absurd (none-some h (sym (ap (λ xs. slice_get xs i) (is ∙ none)) ∙ at))
added_state_alone false old new a is none i h at = is ∙ ap (λ xs. xs ++ a ∷ []) none

pub added_state_only : {A : Type 0} (a : A) (place : ℕ) (b : A) → slice_get (a ∷ []) place ≡ Some b → a ≡ b
added_state_only a zero b at = same_Some a b at
added_state_only a (suc place) b at = absurd (none-some b at)

-- the first state alone
pub added_state_first : (s : Plan) (y : FoundStates) (k : KeptState) → AreFoundStatesKept y → y.states.keys ≡ k ∷ [] → state_origins y.origins ≡ []
    → MachinesInSameState y.first (opened_state y.parts y.first k) → MachineKnows s [] y.first → IsCallTableOf s y.parts.calls → AreFoundStates s y
added_state_first s y k kept keys origins like knows calls =
    let states = ap (map (opened_state y.parts y.first)) keys in
    let only = λ (place : ℕ) (f : FlatState) (at : slice_get (found_states y) place ≡ Some f).
    added_state_only (opened_state y.parts y.first k) place f (ap (λ ms. slice_get ms place) (sym states) ∙ at) in
    let opened = like_machine_knows s [] y.first (opened_state y.parts y.first k) like knows in
    record {
      kept = kept;
      calls = calls;
      long = ap (λ (ms : List FlatState). length ms) states ∙ ap (λ (os : List StateOrigin). length os + 1) (sym origins);
      known = λ place f at. ([], subst (MachineKnows s []) (only place f at) opened);
      come = λ place f o at from_at. absurd (none-some o (sym (ap (λ os. slice_get os place) origins) ∙ from_at));
      begins = knows;
      first = λ f at. subst (MachineKnows s []) (only 0 f at) opened;
      told = λ place f at. ap (λ (n : FlatState). n.telling) (sym (only place f at)) ∙ like.telling;
    }
