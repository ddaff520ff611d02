-- What a row of steps tells, as it is put together step by step.
use Rattle.std.proofs.Common.{ℕ, zero, suc, ◌≡◌, ◌+◌, ◌-◌, ◌<◌, ◌≢◌, ◌==◌, inl, inr, Bool, true, false, cond, List, [], ◌∷◌, ◌++◌, Some, fold, length, slice_get, take, refl, sym, ap, subst, ◌∙◌, length-append, arith}
use Rattle.std.specs.Prelude.{None, if◌then◌else◌}
use Rattle.std.specs.List.{list_any}
use Rattle.std.specs.Global.{Vec}
use Rattle.std.proofs.lemmas.List.{take-append-le, take_all}
use Rattle.std.proofs.lemmas.List.Sums.{fold-append}
use Rattle.std.proofs.lemmas.Option.{none-some, same_Some, slice_get_within}
use Rattle.base.proofs.SlicesAndCounts.{slice_count_by-append, slice_get-append_left, slice_get-last, slice_push_cases}
use Rattle.journal.specs.declared.event.Kind.{Kind}
use Rattle.journal.specs.declared.event.Kind.TheVariants.{Acquire, Release, Set}
use Rattle.explore.specs.declared.state.call_table.CallRow.{CallRow}
use Rattle.explore.specs.declared.state.call_table.CallsMade.{CallsMade}
use Rattle.explore.specs.declared.prefixes.script_call.ScriptCall.{ScriptCall}
use Rattle.explore.specs.declared.prefixes.script_call.ScriptCall.TheVariants.{Call, Adds}
use Rattle.explore.specs.CallTables.{HasCallList, IsCallListPut, KeepsCallLists, TellsCallRow, TellsCallsMade, call_arrives, call_awaited_after, call_flags_after, call_list, call_list_once, call_locks_after}
use Rattle.explore.specs.WaitCodes.{wait_code_ending}
use Rattle.explore.proofs.MachineSteps.{machine_step_some_at}

-- what stands at a place is read there
pub call_row_list : (lists : List (Vec ℕ)) (place : ℕ) (v : Vec ℕ) → slice_get lists place ≡ Some v → call_list lists place ≡ v.items
call_row_list [] place v at = absurd (none-some v at)
call_row_list (w ∷ lists) zero v at = ap (λ (x : Vec ℕ). x.items) (same_Some w v at)
call_row_list (w ∷ lists) (suc place) v at = call_row_list lists place v at

pub call_row_list_is : (lists : List (Vec ℕ)) (place : ℕ) (numbers : List ℕ) → HasCallList lists place numbers → call_list lists place ≡ numbers
call_row_list_is lists place numbers has = call_row_list lists place has.list has.at ∙ has.are

pub call_row_list_within : (lists : List (Vec ℕ)) (place : ℕ) (numbers : List ℕ) → HasCallList lists place numbers → place < length lists
call_row_list_within lists place numbers has = slice_get_within lists place has.list has.at

pub call_row_list_kept : (old new : List (Vec ℕ)) (place : ℕ) (numbers : List ℕ) → KeepsCallLists old new → HasCallList old place numbers
    → HasCallList new place numbers
call_row_list_kept old new place numbers keeps has = record { list = has.list; at = keeps place has.list has.at; are = has.are }

-- a list at the end
pub call_row_list_put : (old new : List (Vec ℕ)) (v : Vec ℕ) (numbers : List ℕ) (place : ℕ) → place ≡ length old → new ≡ old ++ v ∷ [] → v.items ≡ numbers
    → IsCallListPut old new numbers place
call_row_list_put old new v numbers place is longer are = record {
  keeps = λ i w at. ap (λ vs. slice_get vs i) longer ∙ slice_get-append_left old (v ∷ []) i (slice_get_within old i w at) ∙ at;
  put = record {
    list = v;
    at = ap (slice_get new) is ∙ ap (λ vs. slice_get vs (length old)) longer ∙ slice_get-last old v;
    are = are;
  };
}

-- none is put
pub call_row_list_there : (lists : List (Vec ℕ)) (place : ℕ) → place < length lists → IsCallListPut lists lists (call_list lists place) place
call_row_list_there lists place lt =
    let v = machine_step_some_at lists place lt in
    record {
      keeps = λ i w at. at;
      put = record { list = v.0; at = v.1; are = sym (call_row_list lists place v.0 v.1) };
    }

-- a flag that is there isn't put, and another one is
call_row_once_as : (lists new : List (Vec ℕ)) (place n : ℕ) (b : Bool) → list_any (λ m. m == n) (call_list lists place) ≡ b → (at : ℕ)
    → IsCallListPut lists new (if b then call_list lists place else call_list lists place ++ n ∷ []) at
    → IsCallListPut lists new (call_list_once (call_list lists place) n) at
call_row_once_as lists new place n b is at =
    subst (λ c. IsCallListPut lists new (if c then call_list lists place else call_list lists place ++ n ∷ []) at) (sym is)

pub call_row_once_there : (lists : List (Vec ℕ)) (place n : ℕ) → place < length lists → list_any (λ m. m == n) (call_list lists place) ≡ true
    → IsCallListPut lists lists (call_list_once (call_list lists place) n) place
call_row_once_there lists place n lt is = call_row_once_as lists lists place n true is place (call_row_list_there lists place lt)

pub call_row_once_new : (lists new : List (Vec ℕ)) (place n at : ℕ) → list_any (λ m. m == n) (call_list lists place) ≡ false
    → IsCallListPut lists new (call_list lists place ++ n ∷ []) at → IsCallListPut lists new (call_list_once (call_list lists place) n) at
call_row_once_new lists new place n at is = call_row_once_as lists new place n false is at

-- what takes no lock and gives none up leaves them, and what sets no flag leaves these
pub call_row_locks_left : (locks : List ℕ) (k : Kind) → ((l : ℕ) → k ≢ Acquire l) → ((l : ℕ) → k ≢ Release l) → call_locks_after locks (Call k) ≡ locks
call_row_locks_left locks (Acquire l) first second = absurd (first l refl)
call_row_locks_left locks (Release l) first second = absurd (second l refl)
call_row_locks_left locks _ _ _ = refl

pub call_row_flags_left : (flags : List ℕ) (k : Kind) → ((f : ℕ) → k ≢ Set f) → call_flags_after flags (Call k) ≡ flags
call_row_flags_left flags (Set f) other = absurd (other f refl)
call_row_flags_left flags _ _ = refl

-- no steps tell nothing
pub call_row_start : (x : CallRow) (none : ℕ) (m : CallsMade) → HasCallList x.lists.items none [] → x.made.items ≡ m ∷ [] → m.wait ≡ None → m.arrivals ≡ 0
    → m.locks ≡ none → m.flags ≡ none → TellsCallRow [] x
call_row_start x none m empty made wait arrivals locks flags = record {
  long = ap (λ (ms : List CallsMade). length ms) made;
  each = λ n e at.
      let here = first n e (ap (λ ms. slice_get ms n) (sym made) ∙ at) in
      subst (λ k. TellsCallsMade x.lists.items (take {A = ScriptCall} k []) e) (sym here.0) (subst (TellsCallsMade x.lists.items []) here.1 (record {
        wait = ap wait_code_ending wait;
        arrivals = arrivals;
        locks = subst (λ p. HasCallList x.lists.items p []) (sym locks) empty;
        flags = subst (λ p. HasCallList x.lists.items p []) (sym flags) empty;
      }));
}
  where
    first : (n : ℕ) (e : CallsMade) → slice_get (m ∷ []) n ≡ Some e → (n ≡ 0) × (m ≡ e)
    first zero e at = (refl, same_Some m e at)
    first (suc n) e at = absurd (none-some e at)

call_row_awaited : (o : _) (step : ScriptCall) → call_awaited_after None step ≡ call_awaited_after o step
call_row_awaited o (Call k) = refl
call_row_awaited o (Adds a v) = refl

-- the last of what was noted is what all steps tell
pub call_row_last : (row : List ScriptCall) (x : CallRow) (m : CallsMade) → TellsCallRow row x → slice_get x.made.items (length row) ≡ Some m
    → TellsCallsMade x.lists.items row m
call_row_last row x m tells at =
    subst (λ steps. TellsCallsMade x.lists.items steps m) (take_all (length row) row (omega arith)) (tells.each (length row) m at)

pub record IsCallRowPushed (x y : CallRow) (step : ScriptCall) (last now : CallsMade) : Type 0 where
  pub last_at : slice_get x.made.items (length x.made.items - 1) ≡ Some last
  pub made : y.made.items ≡ x.made.items ++ now ∷ []
  pub between : List (Vec ℕ)
  pub locks : IsCallListPut x.lists.items between (call_locks_after (call_list x.lists.items last.locks) step) now.locks
  pub flags : IsCallListPut between y.lists.items (call_flags_after (call_list between last.flags) step) now.flags
  pub wait : wait_code_ending now.wait ≡ call_awaited_after None step
  pub arrivals : now.arrivals ≡ last.arrivals + cond (call_arrives step) 1 0

-- a step more
pub call_row_push : (row : List ScriptCall) (x y : CallRow) (step : ScriptCall) (last now : CallsMade) → TellsCallRow row x → IsCallRowPushed x y step last now
    → TellsCallRow (row ++ step ∷ []) y
call_row_push row x y step last now tells is = record {
  long = (
      let longer = ap (λ (ms : List CallsMade). length ms) is.made in
      let one = length-append x.made.items (now ∷ []) in
      let two = length-append row (step ∷ []) in
      let old = tells.long in
      omega arith);
  each = λ n e at. elim (slice_push_cases x.made.items now n e (ap (λ ms. slice_get ms n) (sym is.made) ∙ at)) [
    | inl before ↦
        (let lt = before.0 in
        let old = tells.long in
        subst (λ steps. TellsCallsMade y.lists.items steps e) (sym (take-append-le n row (step ∷ []) (omega arith)))
        (kept (take n row) e (tells.each n e before.1)))
    | inr here ↦
        (let place = here.0 in
        let old = tells.long in
        let long = length-append row (step ∷ []) in
        subst (λ steps. TellsCallsMade y.lists.items steps e) (sym (take_all n (row ++ step ∷ []) (omega arith)))
        (subst (TellsCallsMade y.lists.items (row ++ step ∷ [])) here.1 told))
  ];
}
  where
    keeps : KeepsCallLists x.lists.items y.lists.items
    keeps i v at = is.flags.keeps i v (is.locks.keeps i v at)

    kept : (steps : List ScriptCall) (e : CallsMade) → TellsCallsMade x.lists.items steps e → TellsCallsMade y.lists.items steps e
    kept steps e old = record {
      wait = old.wait;
      arrivals = old.arrivals;
      locks = call_row_list_kept x.lists.items y.lists.items e.locks _ keeps old.locks;
      flags = call_row_list_kept x.lists.items y.lists.items e.flags _ keeps old.flags;
    }

    before_it : TellsCallsMade x.lists.items row last
    before_it =
        let old = tells.long in
        let place : length x.made.items - 1 ≡ length row = omega arith in
        call_row_last row x last tells (subst (λ n. slice_get x.made.items n ≡ Some last) place is.last_at)

    told : TellsCallsMade y.lists.items (row ++ step ∷ []) now
    told = record {
      wait = is.wait ∙ call_row_awaited (fold call_awaited_after None row) step ∙ sym (fold-append call_awaited_after None row (step ∷ []));
      arrivals = (
          let sum = slice_count_by-append call_arrives row (step ∷ []) in
          let old = before_it.arrivals in
          let new = is.arrivals in
          omega arith);
      locks =
          subst (HasCallList y.lists.items now.locks)
          (ap (λ ls. call_locks_after ls step) (call_row_list_is x.lists.items last.locks _ before_it.locks) ∙ sym (fold-append call_locks_after [] row (step ∷ [])))
          (call_row_list_kept is.between y.lists.items now.locks _ is.flags.keeps is.locks.put);
      flags =
          subst (HasCallList y.lists.items now.flags)
          (ap (λ fs. call_flags_after fs step)
          (call_row_list_is is.between last.flags _ (call_row_list_kept x.lists.items is.between last.flags _ is.locks.keeps before_it.flags))
          ∙ sym (fold-append call_flags_after [] row (step ∷ []))) is.flags.put;
    }
