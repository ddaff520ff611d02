-- Calls that do an instruction, or begin it, whatever they answer.
use Rattle.std.proofs.Common.{ℕ, ◌≡◌, ◌+◌, ◌%◌, ◌^◌, Option, Some, None, Result, Ok, Err, OnOk, [], ◌∷◌, false, refl, sym, ap, ◌∙◌, append-nil}
use Rattle.std.specs.Result.{result_err}
use Rattle.journal.specs.declared.event.Kind.{Kind}
use Rattle.journal.specs.declared.event.Kind.TheVariants.{Load, Store}
use Rattle.journal.specs.DidEvent.{event}
use Rattle.journal.specs.Events.{event_address}
use Rattle.journal.specs.AwaitedNext.{awaited_next}
use Rattle.lrc_script.specs.declared.script.Instruction.{Instruction}
use Rattle.lrc_script.specs.declared.script.Instruction.TheVariants.{Add, Cut}
use Rattle.conformance.specs.InstructionEvents.{AreEventsOfInstruction}
use Rattle.conformance.specs.Follows.{is_fetch, call_kinds}
use Rattle.book.specs.declared.refused.Refused.{Refused}
use Rattle.cluster.specs.Copies.Local.{Local}
use Rattle.cluster.specs.ProcessorCalls.{IsProcessorCall}
use Rattle.cluster.specs.ClosingCalls.{IsClosedByCall}
use Rattle.cluster.specs.CuttingCalls.{IsCuttingCall}
use Rattle.cluster.specs.ProcessorRefusals.{processor_refusal_of_flush}
use Rattle.lrc_run.specs.RunCalls.{run_calls, HasRunCallsAndFetches, SeesNoFewerRunCalls, AreRunCallsTried, HasRunCallsOfInstruction, IsRunCallBegun}
use Rattle.lrc_run.proofs.CallsInBlock.{calls_in_block_none}
use Rattle.lrc_run.proofs.RunCuts.{run_cut_has_no_event}
use Rattle.lrc_run.proofs.MoreCalls.{makes_more_calls_then, makes_more_calls_beginning_by, makes_more_calls_closing, makes_more_calls_instruction_by, makes_more_calls_but, sees_more_calls_after, sees_more_calls_refused, sees_more_calls_same, makes_more_calls_same_wanted}

-- a call that begins an instruction
pub instruction_call_begun : {A : Type 0} {first : Option Refused} {many : ℕ}
    {absent : Local → Type 0} (k last : Kind) (i : Instruction) {m n : Local} (r : Result A Refused) → is_fetch k ≡ false
    → event_address k ≡ None → AreEventsOfInstruction i (k ∷ last ∷ []) → awaited_next k ≡ Some last
    → IsProcessorCall first many absent (IsClosedByCall k) (event m.number k ∷ []) m n (result_err r) → OnOk r (IsRunCallBegun m n i)
instruction_call_begun k last i {m = m} {n = n} (Ok x) plain flat are next call =
    makes_more_calls_beginning_by k last i m n are next (makes_more_calls_closing k m n (Ok x) plain flat refl call)
instruction_call_begun k last i (Err e) plain flat are next call = tt

-- and one that does it
pub instruction_call_done : {A : Type 0} {first : Option Refused} {many : ℕ} {absent : Local → Type 0} (k : Kind)
    (i : Instruction) (m n : Local) (r : Result A Refused) → is_fetch k ≡ false → event_address k ≡ None → AreEventsOfInstruction i (k ∷ [])
    → IsProcessorCall first many absent (IsClosedByCall k) (event m.number k ∷ []) m n (result_err r) → OnOk r (HasRunCallsOfInstruction m n i)
instruction_call_done k i m n (Ok x) plain flat are call = makes_more_calls_instruction_by k i m n are (makes_more_calls_closing k m n (Ok x) plain flat refl call)
instruction_call_done k i m n (Err e) plain flat are call = tt

-- a call that makes just the instruction's event does it
pub instruction_call_tried : {A : Type 0} (k : Kind) (i : Instruction) (m n : Local) (r : Result A Refused)
    → AreEventsOfInstruction i (k ∷ []) → AreRunCallsTried m n r (λ _. k ∷ []) → OnOk r (HasRunCallsOfInstruction m n i)
instruction_call_tried k i m n (Ok x) are tries = record {
  kinds = k ∷ [];
  are = are;
  makes = makes_more_calls_but tries;
  cut = λ is. absurd (run_cut_has_no_event i k [] are is);
}
instruction_call_tried k i m n (Err e) are tries = tt

-- whoever cuts has seen no less
instruction_call_cut_sees : (refused : Option Refused) (m n : Local) → IsCuttingCall m n refused → SeesNoFewerRunCalls m n
instruction_call_cut_sees refused m n call = by refused (processor_refusal_of_flush m) refl refl
  where
    by : (r f : Option Refused) → refused ≡ r → processor_refusal_of_flush m ≡ f → SeesNoFewerRunCalls m n
    by None f is before =
        sees_more_calls_after m n (λ a b cut. sees_more_calls_same a b (ap (λ (l : Local). l.seen) cut.after)) (call.ok is).0
    by (Some e) (Some x) is before = sees_more_calls_same m n (ap (λ (l : Local). l.seen) (call.outside x before).1)
    by (Some e) None is before = sees_more_calls_refused m n (call.err e before is).0

-- its block is as it was
instruction_call_cut_block : (refused : Option Refused) (m n : Local) → IsCuttingCall m n refused → n.block ≡ m.block
instruction_call_cut_block refused m n call = by refused (processor_refusal_of_flush m) refl refl
  where
    by : (r f : Option Refused) → refused ≡ r → processor_refusal_of_flush m ≡ f → n.block ≡ m.block
    by None f is before = ap (λ (l : Local). l.block) (call.ok is).0.after.after
    by (Some e) (Some x) is before = ap (λ (l : Local). l.block) (call.outside x before).1
    by (Some e) None is before = ap (λ (l : Local). l.block) (call.err e before is).0.after.same

-- a cut is done, whatever it answers
pub instruction_call_cut_does : {refused : Option Refused} (m n : Local) → IsCuttingCall m n refused → HasRunCallsOfInstruction m n Cut
instruction_call_cut_does {refused} m n call = record {
  kinds = [];
  are = refl;
  makes = record {
    same = call.same;
    sees = instruction_call_cut_sees refused m n call;
    more = ap call_kinds call.calls_are ∙ sym (append-nil (run_calls m));
    noted = calls_in_block_none m n call.same call.calls_are (instruction_call_cut_block refused m n call);
    wanted = makes_more_calls_same_wanted m n call.same call.calls_are;
    uncut = λ none. absurd (none refl);
  };
  cut = λ _. record { answer = refused; call = call };
}

pub instruction_call_cut_done : {A : Type 0} (m n : Local) (r : Result A Refused) → IsCuttingCall m n (result_err r)
    → OnOk r (HasRunCallsOfInstruction m n Cut)
instruction_call_cut_done m n (Ok x) call = instruction_call_cut_does m n call
instruction_call_cut_done m n (Err e) call = tt

-- a load and the store of a sum do an addition
pub instruction_calls_add_done : {A : Type 0} (a v : ℕ) (m n : Local) (r : Result A Refused)
    → OnOk r ((reply : ℕ) × HasRunCallsAndFetches m n (Load a reply ∷ Store a ((reply + v) % 2 ^ 32) ∷ [])) → OnOk r (HasRunCallsOfInstruction m n (Add a v))
instruction_calls_add_done a v m n (Ok x) run_calls =
    record {
      kinds = Load a run_calls.0 ∷ Store a ((run_calls.0 + v) % 2 ^ 32) ∷ [];
      are = (run_calls.0, refl);
      makes = makes_more_calls_but run_calls.1;
      cut = λ is. absurd (cc);
    }
instruction_calls_add_done a v m n (Err e) run_calls = tt

-- a load, and then the store of a sum
pub instruction_calls_add_then : {A : Type 0} (m x n : Local) (a v reply : ℕ) (r : Result A Refused) → HasRunCallsAndFetches m x (Load a reply ∷ [])
    → AreRunCallsTried x n r (λ _. Store a ((reply + v) % 2 ^ 32) ∷ [])
    → OnOk r ((reply : ℕ) × HasRunCallsAndFetches m n (Load a reply ∷ Store a ((reply + v) % 2 ^ 32) ∷ []))
instruction_calls_add_then m x n a v reply (Ok y) first next =
    (reply, makes_more_calls_then m x n (Load a reply ∷ []) (Store a ((reply + v) % 2 ^ 32) ∷ []) first next)
instruction_calls_add_then m x n a v reply (Err e) first next = tt
