-- What a call that waits leaves as it was.
use Rattle.std.proofs.Common.{ℕ, ◌≡◌, ◌++◌, Bool, Option, Some, None, Result, List, slice_get, slice_set, inl, inr, refl, ap, subst, subst₂, sym, ◌∙◌}
use Rattle.std.proofs.lemmas.Bool.{cases_eq}
use Rattle.std.proofs.lemmas.List.{length-set}
use Rattle.std.proofs.lemmas.Option.{same_Some}
use Rattle.base.proofs.SliceSets.{slice_get-set_found, slice_get-set_other}
use Rattle.journal.specs.declared.event.Kind.{Kind}
use Rattle.book.specs.declared.refused.Refused.{Refused}
use Rattle.cluster.specs.Copies.Local.{Local, calls}
use Rattle.cluster.specs.declared.waited.Waited.{Waited}
use Rattle.cluster.specs.ProcessorRefusals.{processor_refusal_of_flush}
use Rattle.cluster.specs.WaitingCalls.{IsWaitingCall}
use Rattle.cluster.specs.TakingCalls.{taking_call_added}
use Rattle.lrc_run.specs.RunTurns.{AreRunTurnsSeenAhead, HasSeenAllRunTurns, HasOnlySeenRunTurns}
use Rattle.lrc_run.specs.RunCalls.{SeesNoFewerRunCalls, IsRunCallOfTake}
use Rattle.lrc_run.proofs.CallsInBlock.{calls_in_block_own_split, calls_in_block_none_seen}
use Rattle.lrc_run.proofs.MoreCalls.{sees_more_calls_same_processor, sees_more_calls_same, sees_more_calls_then}
use Rattle.lrc_run.proofs.TurnWays.{turn_way_same_on}

-- whoever waits has seen no less
run_wait_sees : (m n : Local) (r : Result Waited Refused) → IsWaitingCall m n r → SeesNoFewerRunCalls m n
run_wait_sees m n r call = by m.awaits (processor_refusal_of_flush m) refl refl
  where
    by : (k : Option Kind) (f : Option Refused) → m.awaits ≡ k → processor_refusal_of_flush m ≡ f → SeesNoFewerRunCalls m n
    by None f awaits refused = sees_more_calls_same m n (ap (λ (l : Local). l.seen) (call.idle awaits).1)
    by (Some k) (Some e) awaits refused =
        sees_more_calls_same m n (ap (λ (l : Local). l.seen) (call.outside (λ none. let some = sym awaits ∙ none in cc) e refused).1)
    by (Some k) None awaits refused =
        let entered = (call.looked (λ none. let some = sym awaits ∙ none in cc) refused).entered in
        (entered.rest, ap (λ (l : Local). l.seen) entered.after)

-- and is as it was otherwise
pub run_wait_goes_on : (m n : Local) (r : Result Waited Refused) → IsWaitingCall m n r → HasOnlySeenRunTurns m n
run_wait_goes_on m n r call = record {
  same = record {
    lock = ap (λ (l : Local). l.lock) call.kept;
    number = ap (λ (l : Local). l.number) call.kept;
    sizes = ap (λ (l : Local). l.sizes) call.kept;
  };
  sees = run_wait_sees m n r call;
  calls_are = call.calls_are;
  block_is = ap (λ (l : Local). l.block) call.kept;
  awaits_is = ap (λ (l : Local). l.awaits) call.kept;
  uncut = ap (λ (l : Local). l.own_cut) call.kept;
}

-- a take after a wait is one after what came before
pub run_wait_takes_on : (l m n : Local) (taken : Bool) → HasOnlySeenRunTurns l m → IsRunCallOfTake m n taken → IsRunCallOfTake l n taken
run_wait_takes_on l m n taken on took = record {
  same = sees_more_calls_same_processor l m n on.same took.same;
  sees = sees_more_calls_then l m n on.sees took.sees;
  block_is = took.block_is ∙ on.block_is;
  yes = λ yes. took.yes yes ∙ ap (λ es. es ++ taking_call_added m.number m.awaits) on.calls_are
      ∙ ap (λ p. calls l ++ taking_call_added p m.awaits) on.same.number
      ∙ ap (λ k. calls l ++ taking_call_added l.number k) on.awaits_is;
  noted = λ yes own.
      let parts = calls_in_block_own_split l m n on.same.number on.sees took.sees own in
      took.noted yes parts.1
      ∙ ap (λ es. es ++ taking_call_added m.number m.awaits) (calls_in_block_none_seen l m on.same on.calls_are on.block_is parts.0)
      ∙ ap (λ p. l.seen ++ taking_call_added p m.awaits) on.same.number
      ∙ ap (λ k. l.seen ++ taking_call_added l.number k) on.awaits_is;
  no = λ no.
      let none = took.no no in
      record {
        calls_are = none.calls_are ∙ on.calls_are;
        block_is = none.block_is ∙ on.block_is;
        awaits_is = none.awaits_is ∙ on.awaits_is;
        late = none.late;
      };
  uncut = took.uncut ∙ on.uncut;
}

-- one of all saw on
pub run_wait_seen_at : (ms : List Local) (m n : Local) → slice_get ms 0 ≡ Some m → HasOnlySeenRunTurns m n → AreRunTurnsSeenAhead ms (slice_set ms 0 n)
run_wait_seen_at ms m n at on = record { on = record { all = length-set ms 0 n; each = each }; ahead = ahead }
  where
    ahead : HasSeenAllRunTurns ms 0 → HasSeenAllRunTurns (slice_set ms 0 n) 0
    ahead all x here q y there =
        let P : Local → Type 0 = λ z. SeesNoFewerRunCalls y z in
        subst P (slice_get-set_found ms 0 n x here) (elim (cases_eq q 0) [
          | inl is ↦ (let N : ℕ → Type 0 = λ k. slice_get (slice_set ms 0 n) k ≡ Some y in
              let Q : Local → Type 0 = λ z. SeesNoFewerRunCalls z n in
              subst Q (slice_get-set_found ms 0 n y (subst N is there)) (sees_more_calls_same n n refl))
          | inr isnt ↦ sees_more_calls_then y m n (all m at q y (sym (slice_get-set_other ms 0 q n isnt) ∙ there)) on.sees
        ])

    each : (p : ℕ) (x y : Local) → slice_get ms p ≡ Some x → slice_get (slice_set ms 0 n) p ≡ Some y → HasOnlySeenRunTurns x y
    each p x y here there = elim (cases_eq p 0) [
      | inl is ↦ (let M : ℕ → Type 0 = λ k. slice_get ms k ≡ Some x in
          let N : ℕ → Type 0 = λ k. slice_get (slice_set ms 0 n) k ≡ Some y in
          subst₂ HasOnlySeenRunTurns (same_Some m x (sym at ∙ subst M is here)) (slice_get-set_found ms 0 n y (subst N is there)) on)
      | inr isnt ↦ (turn_way_same_on ms).each p x y here (sym (slice_get-set_other ms 0 p n isnt) ∙ there)
    ]
