-- Machines in the same state: they know the same.
use Rattle.std.proofs.Common.{ℕ, ◌≡◌, ◌+◌, ◌<◌, ◌↔◌, List, Option, Bool, IsTrue, Some, length, slice_index, slice_index_or, false, sym, subst, ◌∙◌, ap}
use Rattle.std.specs.Prelude.{None}
use Rattle.journal.specs.declared.event.Event.{Event}
use Rattle.journal.specs.Events.{event_count, event_arrives, event_departs}
use Rattle.journal.specs.WellFormed.{Holds}
use Rattle.judge.specs.FrontTells.{FrontTellsFlagSet}
use Rattle.lrc_script.specs.Plan.{Plan}
use Rattle.conformance.specs.Follows.{calls_of}
use Rattle.explore.specs.declared.state.flat_state.FlatState.{FlatState}
use Rattle.explore.specs.declared.state.waits.Waiting.{Waiting}
use Rattle.explore.specs.declared.outcomes.telling.OutcomeTelling.{OutcomeTelling}
use Rattle.explore.specs.Machines.{MachinesInSameState, MachineKnows, machine_rows}
use Rattle.explore.specs.OutcomeTelling.{AreOutcomeTellingKept}
use Rattle.explore.specs.KeptWaiting.{AreKeptWaitingAsks, IsLikeKeptWaiting, TellsKeptWaiting}
use Rattle.explore.specs.WaitCodes.{WaitCodesAreKept, wait_code_arrivals_open, wait_code_holder, wait_code_nobody}
use Rattle.explore.specs.declared.state.wait_code.WaitCode.{WaitCode}
use Rattle.explore.specs.declared.state.wait_code.LockHolder.{LockHolder}

pub like_machine_waiting_tells : (g : List Event) (x y : Waiting) → IsLikeKeptWaiting x y → TellsKeptWaiting g x → TellsKeptWaiting g y
like_machine_waiting_tells g x y like tells = record {
  long = ap (λ (ws : List (Option WaitCode)). length ws) like.waits ∙ tells.long;
  arrivals_long = ap (λ (ns : List ℕ). length ns) like.arrivals ∙ tells.arrivals_long;
  holders_long = ap (λ (hs : List LockHolder). length hs) like.holders ∙ tells.holders_long;
  flags_long = ap (λ (bs : List Bool). length bs) like.flags ∙ tells.flags_long;
  waits = subst (WaitCodesAreKept g) (sym like.waits) tells.waits;
  arrivals = subst (λ ns. (p : ℕ) → slice_index ns p ≡ event_count event_arrives g p) (sym like.arrivals) tells.arrivals;
  departures =
      subst (λ ws. (p : ℕ) → event_count event_departs g p + wait_code_arrivals_open (slice_index_or ws p None) ≡ event_count event_arrives g p)
      (sym like.waits) tells.departures;
  holders =
      subst (λ hs. (l q : ℕ) → (wait_code_holder (slice_index_or hs l wait_code_nobody) ≡ Some q) ↔ Holds g q l) (sym like.holders)
      tells.holders;
  flags = subst (λ bs. (f : ℕ) → IsTrue (slice_index_or bs f false) ↔ FrontTellsFlagSet g f) (sym like.flags) tells.flags;
  asked = subst (AreKeptWaitingAsks g) (sym like.asked) tells.asked;
}

pub like_machine_knows : (s : Plan) (g : List Event) (m n : FlatState) → MachinesInSameState m n → MachineKnows s g m → MachineKnows s g n
like_machine_knows s g m n like knows = record {
  beginning = knows.beginning;
  long = ap (λ (ns : List ℕ). length ns) like.done ∙ knows.long;
  done = subst (λ ns. (p : ℕ) → p < 16 → slice_index ns p ≡ length (calls_of g p)) (sym like.done) knows.done;
  shown = ap (λ (t : OutcomeTelling). t.shown) like.telling ∙ knows.shown;
  replies =
      subst (λ rows. AreOutcomeTellingKept s n.telling g rows) (sym like.replies)
      (subst (λ t. AreOutcomeTellingKept s t g (machine_rows m.replies.items)) (sym like.telling) knows.replies);
  memory = like.memory ∙ knows.memory;
  waiting = like_machine_waiting_tells g m.waiting n.waiting like.waiting knows.waiting;
}
