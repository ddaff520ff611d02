use Rattle.std.proofs.Common.{ℕ, ◌≡◌, ◌<◌, ◌≤◌, ◌↔◌, List, Some, IsTrue, length, slice_get, slice_index, refl, sym, ap, subst, ◌∙◌, arith}
use Rattle.std.specs.Global.{Vec}
use Rattle.journal.specs.declared.event.Event.{Event}
use Rattle.journal.specs.declared.event.Kind.{Kind}
use Rattle.journal.specs.DidEvent.{did, event}
use Rattle.journal.specs.ReplayMemory.{AnswersReplayMemory}
use Rattle.journal.specs.WellFormed.{WellFormedNext}
use Rattle.lrc_script.specs.Plan.{Plan}
use Rattle.conformance.specs.Follows.{calls_of, plan_sizes}
use Rattle.explore.specs.declared.prefixes.script_call.ScriptCall.{ScriptCall}
use Rattle.explore.specs.Prefixes.FlatBeginnings.{IsFlatBeginning}
use Rattle.explore.specs.Prefixes.ScriptCalls.{FitsScriptCall, last_reply_of_script_calls}
use Rattle.explore.specs.declared.state.flat_state.FlatState.{FlatState}
use Rattle.explore.specs.Machines.{AreLawfulMachineSteps, IsMachineNextCall, MachineKnows}
use Rattle.explore.specs.OutcomeTelling.{is_sum_for_outcome_telling, outcome_telling_steps}
use Rattle.explore.proofs.MachineSteps.{machine_step_at, machine_step_memory_long, machine_steps_all_made, machine_step_read_at, machine_step_row, machine_step_row_told, machine_step_row_proper, machine_step_rows_few, machine_step_range, machine_step_word}
use Rattle.explore.proofs.state.flat_state.FlatState.next_call.Goals as goal

pub returns-then-done-len : goal.returns-then-done-len
returns-then-done-len c = λ s steps g k knows h.
    let p = c.args.processor in
    let few = machine_step_rows_few s c.args.steps.now steps in
    let lt = c.requires.processor in
    let row = c.index-steps-processor.result in
    let at = machine_step_read_at c.args.steps.now p row lt c.index-steps-processor.is in
    let of = machine_step_row s c.args.steps.now p row steps.are at in
    let long = c.len.ensures in
    let over = c.if-done-len.true in
    let past : length row.items ≤ slice_index c.args.self.now.done p = omega arith in
    machine_steps_all_made s g c.args.self.now p row steps.lawful of (omega arith) knows past k h

pub flat_state_call_of-requires : goal.flat_state_call_of-requires
flat_state_call_of-requires c =
    let run = c.requires.running in
    let m = c.args.self.now in
    let p = c.args.processor in
    let row = c.index-steps-processor.result in
    let at = machine_step_read_at c.args.steps.now p row c.requires.processor c.index-steps-processor.is in
    let of = machine_step_row run.plan c.args.steps.now p row run.lawful.are at in
    let long = c.len.ensures in
    let under = c.if-done-len.false in
    let n = slice_index m.done p in
    let here = machine_step_read_at row.items n c.index.result.now (omega arith) c.index.ensures in
    machine_step_word run.plan c.index.result.now (length c.deref.result.now)
    (ap (λ (ws : List ℕ). length ws) c.deref.ensures.value ∙ machine_step_memory_long run.plan run.events m run.knows)
    (machine_step_row_proper run.plan p row n c.index.result.now run.lawful.lawful of here)

-- what the call is, by the words of the machine
module _ (s : Plan) (m : FlatState) (steps : List (Vec ScriptCall)) (p : ℕ) (row : Vec ScriptCall)
    (lawful : AreLawfulMachineSteps s steps) (lt : p < length steps) (at : slice_get steps p ≡ Some row)
    (x : ScriptCall) (here : slice_get row.items (slice_index m.done p) ≡ Some x) (reply : ℕ) (words : List ℕ)
    (told : (t : Plan) (h : List Event) → MachineKnows t h m
    → IsTrue (is_sum_for_outcome_telling (slice_get (outcome_telling_steps t p) (length (calls_of h p)))) → reply ≡ last_reply_of_script_calls (calls_of h p))
    (are : words ≡ m.memory.items) (c : Kind)
    (says : (k : Kind) → (c ≡ k) ↔ (FitsScriptCall reply x k × AnswersReplayMemory words k)) where
  goes : (g : List Event) (k : Kind) → MachineKnows s g m
      → IsFlatBeginning s (did g p k) ↔ (WellFormedNext (plan_sizes s) g (event p c) × (c ≡ k))
  goes g k knows =
      let few = machine_step_rows_few s steps lawful in
      let of = machine_step_row s steps p row lawful.are at in
      let small : p < 16 = omega arith in
      let there : slice_get (outcome_telling_steps s p) (length (calls_of g p)) ≡ Some x =
      ap (λ xs. slice_get xs (length (calls_of g p))) (sym (machine_step_row_told s p row of))
      ∙ ap (slice_get row.items) (sym (knows.done p small)) ∙ here in
      machine_step_at s g m p row lawful.lawful of small knows reply x
      (λ sum. told s g knows (ap is_sum_for_outcome_telling there ∙ sum)) here c
      (subst (λ ws. (k : Kind) → (c ≡ k) ↔ (FitsScriptCall reply x k × AnswersReplayMemory ws k)) are says) k

  next_call : IsMachineNextCall s m p c
  next_call = record {
    in_range =
        machine_step_range s reply x c
        (machine_step_row_proper s p row (slice_index m.done p) x lawful.lawful (machine_step_row s steps p row lawful.are at) here)
        ((says c).0 refl).0;
    next = goes;
  }

pub returns : goal.returns
returns c = λ s lawful.
    let m = c.args.self.now in
    let p = c.args.processor in
    let row = c.index-steps-processor.result in
    let lt = c.requires.processor in
    let at = machine_step_read_at c.args.steps.now p row lt c.index-steps-processor.is in
    let long = c.len.ensures in
    let under = c.if-done-len.false in
    let here = machine_step_read_at row.items (slice_index m.done p) c.index.result.now (omega arith) c.index.ensures in
    next_call s m c.args.steps.now p row lawful lt at c.index.result.now here c.reply_before.result c.deref.result.now
    c.reply_before.ensures c.deref.ensures.value c.flat_state_call_of.result c.flat_state_call_of.ensures
