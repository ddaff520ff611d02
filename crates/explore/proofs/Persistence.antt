-- What a persistent set keeps as it grows, and what its members' reasons rest on.
use Rattle.std.proofs.Common.{ℕ, zero, suc, ◌≡◌, ◌+◌, ◌<◌, inl, inr, Bool, true, false, List, [], Option, Some, length, slice_index, slice_index_or, slice_set, replicate, refl, sym, ap, subst, ◌∙◌, get_or-set_other, get_or-set_same, arith}
use Rattle.std.specs.Prelude.{None}
use Rattle.std.specs.Global.{Vec}
use Rattle.std.proofs.lemmas.Bool.{cases_eq}
use Rattle.std.proofs.lemmas.Option.{slice_get_within}
use Rattle.journal.specs.declared.event.Event.{Event}
use Rattle.journal.specs.declared.event.Kind.{Kind}
use Rattle.journal.specs.declared.event.Kind.TheVariants.{Ask, Depart}
use Rattle.judge.specs.Why.{WhyWaitsFor}
use Rattle.lrc_script.specs.Plan.{Plan}
use Rattle.explore.specs.declared.state.flat_state.FlatState.{FlatState}
use Rattle.explore.specs.declared.prefixes.script_call.ScriptCall.{ScriptCall}
use Rattle.explore.specs.declared.text.facts.NumberedCalls.{NumberedCalls}
use Rattle.explore.specs.declared.text.facts.TextFacts.{TextFacts}
use Rattle.explore.specs.declared.state.waits.Waiting.{Waiting}
use Rattle.explore.specs.FreeChoice.{AreFreeChoiceEndsOfAll, IsFreeChoiceGiven, free_choice_numbered_call}
use Rattle.explore.specs.KeptWaiting.{TellsKeptWaiting}
use Rattle.explore.specs.PersistentSets.{HasAllYetToCall, HasLateMember, HasLockHolder, IsPersistentMember, IsYetToCall, KeepsPersistentMembers, PersistentMember}
use Rattle.explore.specs.PersistentSets.PersistentMember.{absent, ended, asks, asks_in_vain, waits_for_lock, waits_for_others, waits_for_flag}
use Rattle.explore.proofs.MachineSteps.{machine_step_rows_few}
use Rattle.explore.proofs.WaitCodes.{wait_code_open_barrier}

-- all of so many are members
pub persistence_everybody : (n p : ℕ) → p < n → IsPersistentMember (replicate n true) p
persistence_everybody zero p lt = absurd (omega arith)
persistence_everybody (suc n) zero lt = refl
persistence_everybody (suc n) (suc p) lt = persistence_everybody n p (omega arith)

-- who has yet to make a call has done less than its row says
pub persistence_before : {s : Plan} {rows : List (Vec ScriptCall)} {facts : TextFacts} {m : FlatState} {g : List Event} (calls : NumberedCalls)
    (ends : List (List ℕ)) (n : ℕ) → IsFreeChoiceGiven s rows facts m g → AreFreeChoiceEndsOfAll calls rows ends → (p : ℕ)
    → IsYetToCall rows g p (free_choice_numbered_call calls n) → slice_index m.done p < slice_index_or (slice_index_or ends p []) n 0
persistence_before {s} {rows} calls ends n given are p yet =
    let few = machine_step_rows_few s rows given.lawful in
    let within = slice_get_within rows p yet.row yet.at in
    let done = given.knows.done p (omega arith) in
    let before = are p yet.row yet.at yet.place n yet.calls in
    let behind = yet.behind in
    omega (arith, done, before, behind)

-- so it is a member, if all are that have done less than that
pub persistence_all : {s : Plan} {rows : List (Vec ScriptCall)} {facts : TextFacts} {m : FlatState} {g : List Event} (calls : NumberedCalls)
    (ends : List (List ℕ)) (members : List Bool) (n : ℕ) → IsFreeChoiceGiven s rows facts m g → AreFreeChoiceEndsOfAll calls rows ends
    → ((p : ℕ) → slice_index m.done p < slice_index_or (slice_index_or ends p []) n 0 → IsPersistentMember members p)
    → HasAllYetToCall rows g members (free_choice_numbered_call calls n)
persistence_all calls ends members n given are all p yet = all p (persistence_before calls ends n given are p yet)

-- members' reasons stay as there are more of them
module _ (rows : List (Vec ScriptCall)) (g : List Event) (nexts : List (Option Kind)) (old new : List Bool) (keeps : KeepsPersistentMembers old new) where
  persistence_holder : (lock : ℕ) → HasLockHolder g old lock → HasLockHolder g new lock
  persistence_holder lock h = record { holder = h.holder; holds = h.holds; member = keeps h.holder h.member }

  pub persistence_member : (p : ℕ) → PersistentMember rows g nexts old p → PersistentMember rows g nexts new p
  persistence_member p (absent past) = absent past
  persistence_member p (ended row at over) = ended row at over
  persistence_member p (asks lock next free all) = asks lock next free (λ q yet. keeps q (all q yet))
  persistence_member p (asks_in_vain lock next held) = asks_in_vain lock next (persistence_holder lock held)
  persistence_member p (waits_for_lock lock waits held) = waits_for_lock lock waits (persistence_holder lock held)
  persistence_member p (waits_for_others waits late) =
      waits_for_others waits (record { late = late.late; present = late.present; behind = late.behind; member = keeps late.late late.member })
  persistence_member p (waits_for_flag flag waits unset all) = waits_for_flag flag waits unset (λ q yet. keeps q (all q yet))

-- who has arrived less often than one that waits at the barrier is late
pub persistence_late : (rows : List (Vec ScriptCall)) (g : List Event) (members : List Bool) (x : Waiting) (p q : ℕ) → TellsKeptWaiting g x
    → WhyWaitsFor g p Depart → q < length rows → slice_index x.arrivals q < slice_index x.arrivals p → IsPersistentMember members q
    → HasLateMember rows g members p
persistence_late rows g members x p q tells waits present lt member = record {
  late = q;
  present = present;
  behind = (
      let one = wait_code_open_barrier (slice_index_or x.waits p None) ((tells.waits p Depart).1 waits) in
      let departed = tells.departures p in
      let mine = tells.arrivals p in
      let theirs = tells.arrivals q in
      omega (arith, one, departed, mine, theirs, lt));
  member = member;
}

-- one more settled
pub persistence_settled : (rows : List (Vec ScriptCall)) (g : List Event) (nexts : List (Option Kind)) (old new settled : List Bool) (p : ℕ)
    → KeepsPersistentMembers old new → ((q : ℕ) → IsPersistentMember settled q → PersistentMember rows g nexts old q)
    → PersistentMember rows g nexts new p → (q : ℕ) → IsPersistentMember (slice_set settled p true) q → PersistentMember rows g nexts new q
persistence_settled rows g nexts old new settled p keeps were own q is = elim (cases_eq q p) [
  | inl same ↦ subst (PersistentMember rows g nexts new) (sym same) own
  | inr isnt ↦
      persistence_member rows g nexts old new keeps q (were q (sym (get_or-set_other settled p q true false isnt) ∙ is))
]

-- an entry is put in place that is the ask
pub persistence_asks_set : (found : List (Option Kind)) (p lock : ℕ) (o : Option Kind) → p < length found → (q : ℕ) → q < p + 1
    → (q ≡ p → o ≡ Some (Ask lock)) → (q < p → slice_index_or found q None ≡ Some (Ask lock)) → slice_index_or (slice_set found p o) q None ≡ Some (Ask lock)
persistence_asks_set found p lock o within q lt new old = elim (cases_eq q p) [
  | inl is ↦ ap (λ r. slice_index_or (slice_set found p o) r None) is ∙ get_or-set_same found p o None within ∙ new is
  | inr isnt ↦ get_or-set_other found p q o None isnt ∙ old (omega arith)
]
