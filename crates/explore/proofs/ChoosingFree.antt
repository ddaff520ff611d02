-- One free event of several, the asks for one lock, or all of them.
use Rattle.std.proofs.Common.{ℕ, zero, suc, ◌≡◌, ◌≢◌, ◌+◌, ◌<◌, ◌≤◌, inl, inr, Bool, List, [], length, replicate, Option, Some, refl, sym, ap, subst, ◌∙◌, get_or-set_other, get_or-set_same, arith}
use Rattle.std.specs.Prelude.{None, slice_get, slice_index_or, slice_set}
use Rattle.std.proofs.lemmas.Bool.{cases_eq}
use Rattle.std.specs.Global.{Vec}
use Rattle.std.proofs.lemmas.Option.{none-some, same_Some}
use Rattle.journal.specs.declared.event.Event.{Event}
use Rattle.journal.specs.declared.event.Kind.{Kind}
use Rattle.journal.specs.declared.event.Kind.TheVariants.{Ask, Set}
use Rattle.lrc_script.specs.Plan.{Plan}
use Rattle.explore.specs.declared.prefixes.script_call.ScriptCall.{ScriptCall}
use Rattle.explore.specs.declared.prefixes.script_call.ScriptCall.TheVariants.{Call}
use Rattle.explore.specs.declared.text.facts.NumberedCalls.{NumberedCalls}
use Rattle.explore.specs.declared.text.facts.NumberedCalls.TheVariants.{Asks, Sets}
use Rattle.explore.specs.FreeChoice.{AreFreeChoiceEnds, AreFreeChoiceNumbersSmall, AreFreeChoiceAmongNexts, IsFreeChoiceNumberSmall, IsFreeChoice, IsFreeForChoice, IsFreeForChoiceByWords, free_choice_numbered_call}
use Rattle.explore.specs.TextGuards.{AreGuardedByText}
use Rattle.explore.specs.Machines.{AreLawfulMachineSteps, IsProperMachineStep}
use Rattle.explore.proofs.MachineSteps.{machine_step_row_proper, machine_step_row}

-- what is free where some words are said to be guarded is so where they are
pub choosing_free_where_guarded : (rows : List (Vec ScriptCall)) (words : List Bool) (k : Kind) → AreGuardedByText rows words → IsFreeForChoiceByWords words k → IsFreeForChoice rows k
choosing_free_where_guarded rows words k are free = record { no_ask = free.no_ask; guarded = λ w at. are w (free.guarded w at) }

pub choosing_free_one : (rows : List (Vec ScriptCall)) (words : List Bool) (g : List Event) (nexts chosen : List (Option Kind)) (p : ℕ)
    (k : Kind) → AreGuardedByText rows words → IsFreeForChoiceByWords words k → slice_index_or nexts p None ≡ Some k
    → slice_index_or chosen p None ≡ Some k → IsFreeChoice rows g nexts chosen
choosing_free_one rows words g nexts chosen p k are free at here =
    inr (inl (record { processor = p; kind = k; at = at; chosen_at = here; free = choosing_free_where_guarded rows words k are free }))

pub choosing_free_one_among_nexts : (nexts chosen : List (Option Kind)) (p : ℕ) (k : Kind) → slice_index_or nexts p None ≡ Some k
    → ((q : ℕ) (j : Kind) → slice_index_or chosen q None ≡ Some j → (q ≡ p) × (j ≡ k)) → AreFreeChoiceAmongNexts nexts chosen
choosing_free_one_among_nexts nexts chosen p k at only q j there =
    let is = only q j there in
    subst (λ r. slice_index_or nexts r None ≡ Some j) (sym is.0)
    (subst (λ i. slice_index_or nexts p None ≡ Some i) (sym is.1) at)

-- among so many Nones there is no Some
pub choosing_free_among_nones : (n p : ℕ) (k : Kind) → slice_index_or (replicate n None) p None ≡ Some k → ⊥
choosing_free_among_nones zero p k at = none-some k at
choosing_free_among_nones (suc n) zero k at = none-some k at
choosing_free_among_nones (suc n) (suc p) k at = choosing_free_among_nones n p k at

pub choosing_free_none_length : (n : ℕ) → length (replicate {A = Option Kind} n None) ≡ n
choosing_free_none_length zero = refl
choosing_free_none_length (suc n) = let more = choosing_free_none_length n in omega arith

-- an entry is put in place that is the event where it asks for the lock
pub choosing_free_asks_set : (nexts asks : List (Option Kind)) (p l : ℕ) (o : Option Kind) → p < length asks
    → ((q : ℕ) → q < p → slice_index_or nexts q None ≡ Some (Ask l) → slice_index_or asks q None ≡ Some (Ask l))
    → (slice_index_or nexts p None ≡ Some (Ask l) → o ≡ Some (Ask l)) → (q : ℕ) → q < p + 1
    → slice_index_or nexts q None ≡ Some (Ask l) → slice_index_or (slice_set asks p o) q None ≡ Some (Ask l)
choosing_free_asks_set nexts asks p l o within old new q lt at = elim (cases_eq q p) [
  | inl is ↦
      ap (λ r. slice_index_or (slice_set asks p o) r None) is ∙ get_or-set_same asks p o None within
      ∙ new (ap (λ r. slice_index_or nexts r None) (sym is) ∙ at)
  | inr isnt ↦ get_or-set_other asks p q o None isnt ∙ old q (omega arith) at
]

-- and no other
pub choosing_free_among_nexts_set : (nexts asks : List (Option Kind)) (p : ℕ) (o : Option Kind) → p < length asks → AreFreeChoiceAmongNexts nexts asks
    → ((k : Kind) → o ≡ Some k → slice_index_or nexts p None ≡ Some k) → AreFreeChoiceAmongNexts nexts (slice_set asks p o)
choosing_free_among_nexts_set nexts asks p o within old new q k at = elim (cases_eq q p) [
  | inl is ↦
      ap (λ r. slice_index_or nexts r None) is
      ∙ new k (sym (get_or-set_same asks p o None within) ∙ ap (λ r. slice_index_or (slice_set asks p o) r None) (sym is) ∙ at)
  | inr isnt ↦ old q k (sym (get_or-set_other asks p q o None isnt) ∙ at)
]

-- the place of a step that makes no call of these numbers
pub choosing_free_ends_idle : (calls : NumberedCalls) (row : List ScriptCall) (n : ℕ) (step : ScriptCall) (ends : List ℕ) → slice_get row n ≡ Some step
    → ((m : ℕ) → step ≢ Call (free_choice_numbered_call calls m))
    → ((i m : ℕ) → i < n → slice_get row i ≡ Some (Call (free_choice_numbered_call calls m)) → i < slice_index_or ends m 0) → (i m : ℕ) → i < n + 1
    → slice_get row i ≡ Some (Call (free_choice_numbered_call calls m)) → i < slice_index_or ends m 0
choosing_free_ends_idle calls row n step ends at none was i m lt here = elim (cases_eq i n) [
  | inl same ↦
      absurd (none m (same_Some step (Call (free_choice_numbered_call calls m)) (sym at ∙ ap (slice_get row) (sym same) ∙ here)))
  | inr other ↦ was i m (omega arith) here
]

-- the place of one that makes the call of number k
pub choosing_free_ends_next : (calls : NumberedCalls) (row : List ScriptCall) (n k : ℕ) (ends : List ℕ) → k < length ends
    → slice_get row n ≡ Some (Call (free_choice_numbered_call calls k))
    → ((i m : ℕ) → i < n → slice_get row i ≡ Some (Call (free_choice_numbered_call calls m)) → i < slice_index_or ends m 0) → (i m : ℕ) → i < n + 1
    → slice_get row i ≡ Some (Call (free_choice_numbered_call calls m)) → i < slice_index_or (slice_set ends k (n + 1)) m 0
choosing_free_ends_next calls row n k ends within at was i m lt here = elim (cases_eq m k) [
  | inl is ↦
      (let now : slice_index_or (slice_set ends k (n + 1)) m 0 ≡ n + 1 =
      ap (λ r. slice_index_or (slice_set ends k (n + 1)) r 0) is ∙ get_or-set_same ends k (n + 1) 0 within in
      omega (arith, now, lt))
  | inr isnt ↦
      subst (λ e. i < e) (sym (get_or-set_other ends k m (n + 1) 0 isnt)) (elim (cases_eq i n) [
        | inl same ↦
            absurd (isnt (choosing_free_number_once calls m k (same_Some (Call (free_choice_numbered_call calls m)) (Call (free_choice_numbered_call calls k))
            (sym here ∙ ap (slice_get row) same ∙ at))))
        | inr other ↦ was i m (omega arith) here
      ])
]
  where
    choosing_free_number_once : (calls : NumberedCalls) (m k : ℕ) → Call (free_choice_numbered_call calls m) ≡ Call (free_choice_numbered_call calls k) → m ≡ k
    choosing_free_number_once Asks m k is = cc is
    choosing_free_number_once Sets m k is = cc is

-- the number of a step that names a small one
pub choosing_free_number_small : (calls : NumberedCalls) (n : ℕ) (step : ScriptCall) → step ≡ Call (free_choice_numbered_call calls n)
    → IsFreeChoiceNumberSmall step → n < 32
choosing_free_number_small Asks n step is small = subst IsFreeChoiceNumberSmall is small
choosing_free_number_small Sets n step is small = subst IsFreeChoiceNumberSmall is small

-- one more row
pub choosing_free_ends_of_rows : (calls : NumberedCalls) {row : Vec ScriptCall} (rows : List (Vec ScriptCall)) (n : ℕ) (ends : List (List ℕ))
    (own : List ℕ) → slice_get rows n ≡ Some row → n < length ends → AreFreeChoiceEnds calls row.items own
    → ((p : ℕ) (r : Vec ScriptCall) → p < n → slice_get rows p ≡ Some r → AreFreeChoiceEnds calls r.items (slice_index_or ends p []))
    → (p : ℕ) (r : Vec ScriptCall) → p < n + 1 → slice_get rows p ≡ Some r
    → AreFreeChoiceEnds calls r.items (slice_index_or (slice_set ends n own) p [])
choosing_free_ends_of_rows calls {row} rows n ends own at within mine was p r lt there = elim (cases_eq p n) [
  | inl same ↦
      (let one = same_Some row r (sym at ∙ ap (slice_get rows) (sym same) ∙ there) in
      let put : slice_index_or (slice_set ends n own) p [] ≡ own =
      ap (λ q. slice_index_or (slice_set ends n own) q []) same ∙ get_or-set_same ends n own [] within in
      subst (AreFreeChoiceEnds calls r.items) (sym put) (subst (λ (x : Vec ScriptCall). AreFreeChoiceEnds calls x.items own) one mine))
  | inr other ↦
      subst (AreFreeChoiceEnds calls r.items) (sym (get_or-set_other ends n p own [] other)) (was p r (omega arith) there)
]

-- the locks and flags of a lawful script are small
choosing_free_small_number : (s : Plan) (step : ScriptCall) → s.locks ≤ 32 → s.flags ≤ 32 → IsProperMachineStep s step → IsFreeChoiceNumberSmall step
choosing_free_small_number s (Call (Ask l)) locks flags proper = (let range = proper.0 in omega (arith, range))
choosing_free_small_number s (Call (Set f)) locks flags proper = (let range = proper.0 in omega (arith, range))
choosing_free_small_number s _ locks flags proper = tt

pub choosing_free_numbers_small : (s : Plan) (rows : List (Vec ScriptCall)) → AreLawfulMachineSteps s rows → (p : ℕ) (row : Vec ScriptCall)
    → slice_get rows p ≡ Some row → AreFreeChoiceNumbersSmall row.items
choosing_free_numbers_small s rows steps p row at i step there =
    choosing_free_small_number s step steps.lawful.but_uneven.sizes.locks steps.lawful.but_uneven.sizes.flags
    (machine_step_row_proper s p row i step steps.lawful (machine_step_row s rows p row steps.are at) there)
