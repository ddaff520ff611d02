use Rattle.std.proofs.Common.{ℕ, ◌≡◌, ◌≤◌, ◌↔◌, ◌==◌, List, Some, count_by, length, slice_get, sym, ap, subst, ◌∙◌, arith}
use Rattle.std.specs.Global.{Vec}
use Rattle.std.proofs.lemmas.Bool.{false≢true}
use Rattle.std.proofs.lemmas.Option.{none-some, same_Some}
use Rattle.journal.specs.declared.event.Event.{Event}
use Rattle.journal.specs.declared.event.Kind.{Kind}
use Rattle.journal.specs.DidEvent.{event}
use Rattle.journal.specs.WellFormed.{WellFormedKindInRange, WellFormedNext}
use Rattle.lrc_script.specs.Plan.{Plan}
use Rattle.conformance.specs.Follows.{calls_of, plan_sizes}
use Rattle.explore.specs.declared.rules.beginning.AllowedBeginning.{AllowedBeginning}
use Rattle.explore.specs.declared.prefixes.script_call.ScriptCall.{ScriptCall}
use Rattle.explore.specs.AllowedBeginnings.{AllowedBeginningMayCall, TellsAllowedBeginning, allowed_beginning_events}
use Rattle.explore.specs.Machines.{AreLawfulMachineSteps}
use Rattle.explore.specs.Prefixes.ScriptCalls.{FitsScriptCall, last_reply_of_script_calls, replyless_script_call}
use Rattle.explore.proofs.MachineSteps.{machine_step_read_at, machine_step_row_proper, machine_step_row, machine_step_rows_many, machine_step_sizes_small, machine_step_range}
use Rattle.explore.proofs.AllowedRuns.CallsMade.{calls_made_counted}
use Rattle.explore.proofs.AllowedRuns.NextAllowed.{next_allowed_at_step, next_allowed_none_past_steps}
use Rattle.explore.proofs.rules.beginning.AllowedBeginning.next_call.Goals as goal

module _ (s : Plan) (b : AllowedBeginning) (steps : List (Vec ScriptCall)) (p : ℕ) (row : Vec ScriptCall)
    (lawful : AreLawfulMachineSteps s steps) (tells : TellsAllowedBeginning s b) (at : slice_get steps p ≡ Some row) (made : ℕ)
    (count : made ≡ count_by (λ (e : Event). e.processor == p) (allowed_beginning_events b)) where
  made_calls : made ≡ length (calls_of (allowed_beginning_events b) p)
  made_calls = count ∙ calls_made_counted (allowed_beginning_events b) p tells.beginning.no_fetch

  past : length row.items ≤ made → (k : Kind) → ¬ AllowedBeginningMayCall s (allowed_beginning_events b) p k
  past over k =
      let is = made_calls in
      next_allowed_none_past_steps s (allowed_beginning_events b) p row lawful.lawful (machine_step_row s steps p row lawful.are at) (omega (arith, is, over)) k

  module _ (x : ScriptCall) (here : slice_get row.items made ≡ Some x) (reply : ℕ) (told : reply ≡ last_reply_of_script_calls (calls_of (allowed_beginning_events b) p))
      (c : Kind) (says : (k : Kind) → (c ≡ replyless_script_call k) ↔ FitsScriptCall reply x k) (plain : replyless_script_call c ≡ c) where
    in_range : WellFormedKindInRange (plan_sizes s) c
    in_range =
        machine_step_range s reply x c
        (machine_step_row_proper s p row made x lawful.lawful (machine_step_row s steps p row lawful.are at) here) ((says c).0 (sym plain))

    goes : (k : Kind) → AllowedBeginningMayCall s (allowed_beginning_events b) p k ↔ (WellFormedNext (plan_sizes s) (allowed_beginning_events b) (event p c) × (c ≡ replyless_script_call k))
    goes =
        next_allowed_at_step s (allowed_beginning_events b) p row lawful.lawful (machine_step_row s steps p row lawful.are at) reply told x
        (subst (λ n. slice_get row.items n ≡ Some x) made_calls here) c says

pub returns-then-made-len-clause-call : goal.returns-then-made-len-clause-call
returns-then-made-len-clause-call c = λ s lawful tells k.
    let p = c.args.processor in
    let row = c.index-steps-processor.result in
    let at = machine_step_read_at c.args.steps.now p row c.requires.processor c.index-steps-processor.is in
    let count = c.calls_made-made.ensures ∙ ap (count_by (λ (e : Event). e.processor == p)) c.deref.ensures.value in
    let over = c.if-made-len.true in
    let long = c.len.ensures in (
      λ none. absurd (none-some (replyless_script_call k) none),
      λ h. absurd (past s c.args.self.now c.args.steps.now p row lawful tells at c.calls_made-made.result count (omega (arith, over, long)) k h),
    )

pub may_follow-requires : goal.may_follow-requires
may_follow-requires c =
    let s = c.requires.told.0 in
    let lawful = c.requires.told.1 in
    let tells = c.requires.told.2 in
    let p = c.args.processor in
    let row = c.index-steps-processor.result in
    let at = machine_step_read_at c.args.steps.now p row c.requires.processor c.index-steps-processor.is in
    let count = c.calls_made-made.ensures ∙ ap (count_by (λ (e : Event). e.processor == p)) c.deref.ensures.value in
    let under = c.if-made-len.false in
    let long = c.len.ensures in
    let here = machine_step_read_at row.items c.calls_made-made.result c.index.result.now (omega (arith, under, long)) c.index.ensures in
    let told = c.reply_before.ensures ∙ ap (λ g. last_reply_of_script_calls (calls_of g p)) c.deref-2.ensures.value in
    record {
      sizes = plan_sizes s;
      small = machine_step_sizes_small s lawful.lawful;
      processors_are = machine_step_rows_many s c.args.steps.now lawful;
      processor = c.requires.processor;
      in_range =
          in_range s c.args.self.now c.args.steps.now p row lawful tells at c.calls_made-made.result count c.index.result.now here
          c.reply_before.result told c.call_of-call.result c.call_of-call.ensures.call c.call_of-call.ensures.plain;
      events = allowed_beginning_events c.args.self.now;
      tells = tells.waiting;
    }

pub returns-then-may_follow-clause-call : goal.returns-then-may_follow-clause-call
returns-then-may_follow-clause-call c = λ s lawful tells k.
    let p = c.args.processor in
    let row = c.index-steps-processor.result in
    let at = machine_step_read_at c.args.steps.now p row c.requires.processor c.index-steps-processor.is in
    let count = c.calls_made-made.ensures ∙ ap (count_by (λ (e : Event). e.processor == p)) c.deref.ensures.value in
    let under = c.if-made-len.false in
    let long = c.len.ensures in
    let here = machine_step_read_at row.items c.calls_made-made.result c.index.result.now (omega (arith, under, long)) c.index.ensures in
    let told = c.reply_before.ensures ∙ ap (λ g. last_reply_of_script_calls (calls_of g p)) c.deref-2.ensures.value in
    let on = goes s c.args.self.now c.args.steps.now p row lawful tells at c.calls_made-made.result count c.index.result.now here
    c.reply_before.result told c.call_of-call.result c.call_of-call.ensures.call c.call_of-call.ensures.plain k in
    let range = in_range s c.args.self.now c.args.steps.now p row lawful tells at c.calls_made-made.result count c.index.result.now here
    c.reply_before.result told c.call_of-call.result c.call_of-call.ensures.call c.call_of-call.ensures.plain in
    let may = c.may_follow.ensures (plan_sizes s) (allowed_beginning_events c.args.self.now) (machine_step_rows_many s c.args.steps.now lawful) range tells.waiting in (
      λ is. on.1 (may.0 c.if-may_follow.true, same_Some c.call_of-call.result (replyless_script_call k) is),
      λ h. ap Some (on.0 h).1,
    )

pub returns-else-may_follow-clause-call : goal.returns-else-may_follow-clause-call
returns-else-may_follow-clause-call c = λ s lawful tells k.
    let p = c.args.processor in
    let row = c.index-steps-processor.result in
    let at = machine_step_read_at c.args.steps.now p row c.requires.processor c.index-steps-processor.is in
    let count = c.calls_made-made.ensures ∙ ap (count_by (λ (e : Event). e.processor == p)) c.deref.ensures.value in
    let under = c.if-made-len.false in
    let long = c.len.ensures in
    let here = machine_step_read_at row.items c.calls_made-made.result c.index.result.now (omega (arith, under, long)) c.index.ensures in
    let told = c.reply_before.ensures ∙ ap (λ g. last_reply_of_script_calls (calls_of g p)) c.deref-2.ensures.value in
    let on = goes s c.args.self.now c.args.steps.now p row lawful tells at c.calls_made-made.result count c.index.result.now here
    c.reply_before.result told c.call_of-call.result c.call_of-call.ensures.call c.call_of-call.ensures.plain k in
    let range = in_range s c.args.self.now c.args.steps.now p row lawful tells at c.calls_made-made.result count c.index.result.now here
    c.reply_before.result told c.call_of-call.result c.call_of-call.ensures.call c.call_of-call.ensures.plain in
    let may = c.may_follow.ensures (plan_sizes s) (allowed_beginning_events c.args.self.now) (machine_step_rows_many s c.args.steps.now lawful) range tells.waiting in (
      λ none. absurd (none-some (replyless_script_call k) none),
      λ h. absurd (false≢true (sym c.if-may_follow.false ∙ may.1 (on.0 h).0)),
    )
