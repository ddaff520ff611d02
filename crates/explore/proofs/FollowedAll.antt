-- What is found after a state, an event at a time.
use Rattle.std.proofs.Common.{◌≤◌, ℕ, ◌≡◌, ◌≢◌, ◌+◌, ◌<◌, inl, inr, List, Option, Some, length, slice_get, slice_index_or, refl, sym, ap, subst, ◌∙◌, arith}
use Rattle.std.specs.Prelude.{None}
use Rattle.std.specs.Global.{Vec}
use Rattle.explore.specs.declared.prefixes.script_call.ScriptCall.{ScriptCall}
use Rattle.std.proofs.lemmas.Bool.{cases_eq}
use Rattle.std.proofs.lemmas.Option.{same_Some, slice_get_within}
use Rattle.journal.specs.declared.event.Kind.{Kind}
use Rattle.journal.specs.DidEvent.{did}
use Rattle.lrc_script.specs.Plan.{Plan}
use Rattle.explore.specs.declared.state.found_states.FoundStates.{FoundStates}
use Rattle.explore.specs.declared.state.flat_state.FlatState.{FlatState}
use Rattle.explore.specs.FollowedStates.{AreFollowedStates, IsFollowedState, MayBeFollowedStateByEach, MayBeFollowedState}
use Rattle.explore.specs.FreeRun.{IsFoundByFreeRun}
use Rattle.explore.specs.FoundStates.{FoundStateMayDo, KeepsFoundStates, found_states}
use Rattle.explore.proofs.AddedStates.{added_state_found_soon_kept}
use Rattle.explore.proofs.MachineSteps.{machine_step_next_within, machine_step_some_at}

module _ (s : Plan) (rows : List (Vec ScriptCall)) (x y : FoundStates) (place : ℕ) (nexts : List (Option Kind))
    (may : MayBeFollowedStateByEach s rows x place nexts) where
  pub followed_all_start : AreFollowedStates s rows x x place nexts 0
  followed_all_start = record {
    keeps = λ k m at. at;
    found = may.found;
    known = λ m g p k lt. absurd (omega arith);
    few = omega arith;
    telling = refl;
  }

  -- the state at the place is still there
  pub followed_all_still_at : KeepsFoundStates (found_states x) (found_states y) → (m : FlatState) → slice_get (found_states y) place ≡ Some m
      → slice_get (found_states x) place ≡ Some m
  followed_all_still_at keeps m at =
      let f = machine_step_some_at (found_states x) place may.within in
      let same = same_Some f.0 m (sym (keeps place f.0 f.1) ∙ at) in
      subst (λ z. slice_get (found_states x) place ≡ Some z) same f.1

  module _ (n : ℕ) (old : AreFollowedStates s rows x y place nexts n) where
    pub followed_all_within : place < length (found_states y)
    followed_all_within =
        let f = machine_step_some_at (found_states x) place may.within in
        slice_get_within (found_states y) place f.0 (old.keeps place f.0 f.1)

    -- an event that may come next
    module _ (k : Kind) (here : slice_index_or nexts n None ≡ Some k) where
      pub followed_all_goes_on : (m : FlatState) → slice_get (found_states y) place ≡ Some m → FoundStateMayDo s m n k
      followed_all_goes_on m at = may.next m (followed_all_still_at old.keeps m at) n k here

      pub followed_all_small : n < 16
      followed_all_small =
          let f = machine_step_some_at (found_states y) place followed_all_within in
          let g = old.found.known place f.0 f.1 in
          let within = machine_step_next_within s g.0 n k (followed_all_goes_on f.0 f.1 g.0 g.1) in
          let most = may.lawful.lawful.but_uneven.sizes.most_processors in
          omega arith

      pub followed_all_may : MayBeFollowedState s rows y place n k
      followed_all_may = record {
        lawful = may.lawful;
        found = old.found;
        within = followed_all_within;
        small = followed_all_small;
        next = followed_all_goes_on;
      }

      pub followed_all_next : (z : FoundStates) → IsFollowedState s rows y z place n k → AreFollowedStates s rows x z place nexts (n + 1)
      followed_all_next z followed = record {
        keeps = λ i m at. followed.keeps i m (old.keeps i m at);
        found = followed.found;
        known = λ m g p j lt at knows told. elim (cases_eq p n) [
          | inl is ↦
              (let same = same_Some k j (sym here ∙ ap (λ q. slice_index_or nexts q None) (sym is) ∙ told) in
              let known = followed.known m g (old.keeps place m at) knows in
              subst (λ q. IsFoundByFreeRun s rows (found_states z) (did g q j)) (sym is)
              (subst (λ i. IsFoundByFreeRun s rows (found_states z) (did g n i)) same known))
          | inr isnt ↦ added_state_found_soon_kept s rows (found_states y) (found_states z) _ followed.keeps (old.known m g p j (omega arith) at knows told)
        ];
        few = (let one = followed.few in let before = old.few in omega (arith, one, before));
        telling = followed.telling ∙ old.telling;
      }

    -- a processor that may do nothing
    pub followed_all_idle_next : ((k : Kind) → slice_index_or nexts n None ≢ Some k) → AreFollowedStates s rows x y place nexts (n + 1)
    followed_all_idle_next none = record {
      keeps = old.keeps;
      found = old.found;
      known = λ m g p j lt at knows told. elim (cases_eq p n) [
        | inl is ↦ absurd (none j (ap (λ q. slice_index_or nexts q None) (sym is) ∙ told))
        | inr isnt ↦ old.known m g p j (omega arith) at knows told
      ];
      few = (let before = old.few in omega (arith, before));
      telling = old.telling;
    }

    -- nobody else may do anything
    pub followed_all_rest : n ≤ length nexts → ((p : ℕ) (k : Kind) → slice_index_or nexts p None ≡ Some k → p < n)
        → AreFollowedStates s rows x y place nexts (length nexts)
    followed_all_rest le last = record {
      keeps = old.keeps;
      found = old.found;
      known = λ m g p j lt at knows told. old.known m g p j (last p j told) at knows told;
      few = (let before = old.few in omega (arith, before, le));
      telling = old.telling;
    }
