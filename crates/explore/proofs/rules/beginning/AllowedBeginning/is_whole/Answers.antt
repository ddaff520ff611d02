use Rattle.std.proofs.Common.{ℕ, ◌≡◌, ◌<◌, ◌≤◌, ◌==◌, List, Some, count_by, length, slice_get, refl, sym, ap, ◌∙◌, inl, inr, arith}
use Rattle.std.specs.Global.{Vec}
use Rattle.std.proofs.lemmas.Bool.{cases_eq, false≢true}
use Rattle.std.proofs.lemmas.Option.{same_Some, slice_get_within}
use Rattle.journal.specs.declared.event.Event.{Event}
use Rattle.lrc_script.specs.Plan.{Plan}
use Rattle.conformance.specs.Follows.{Follows, calls_of}
use Rattle.explore.specs.declared.rules.beginning.AllowedBeginning.{AllowedBeginning}
use Rattle.explore.specs.declared.prefixes.script_call.ScriptCall.{ScriptCall}
use Rattle.explore.specs.AllowedBeginnings.{TellsAllowedBeginning, allowed_beginning_events}
use Rattle.explore.specs.Machines.{AreLawfulMachineSteps}
use Rattle.explore.specs.Prefixes.ScriptCalls.{script_calls_shown_by}
use Rattle.explore.proofs.Lengths.{length_of_begun_section_few}
use Rattle.explore.proofs.MachineSteps.{machine_step_read_at, machine_step_row, machine_step_some_at}
use Rattle.explore.proofs.PrefixRuns.SectionCalls.{section_calls_follows_length}
use Rattle.explore.proofs.AllowedRuns.CallsMade.{calls_made_counted}
use Rattle.explore.proofs.rules.beginning.AllowedBeginning.is_whole.Goals as goal

module _ (s : Plan) (b : AllowedBeginning) (steps : List (Vec ScriptCall)) (lawful : AreLawfulMachineSteps s steps)
    (tells : TellsAllowedBeginning s b) where
  abbrev made : ℕ → ℕ
  made p = count_by (λ (e : Event). e.processor == p) (allowed_beginning_events b)

  -- who isn't done yet
  not_done : (p : ℕ) (row : Vec ScriptCall) → slice_get steps p ≡ Some row → made p < length row.items → ¬ Follows s (allowed_beginning_events b)
  not_done p row at under follows =
      let of = machine_step_row s steps p row lawful.are at in
      let all = (section_calls_follows_length of.section (script_calls_shown_by s p) (calls_of (allowed_beginning_events b) p)
      (tells.beginning.begins p of.section of.at)).0 (follows p of.section of.at) in
      let many = ap (λ (xs : List ScriptCall). length xs) of.are in
      let count = calls_made_counted (allowed_beginning_events b) p tells.beginning.no_fetch in
      omega (arith, all, many, count, under)

  all_done : ((p : ℕ) (row : Vec ScriptCall) → p < length steps → slice_get steps p ≡ Some row → length row.items ≤ made p)
      → Follows s (allowed_beginning_events b)
  all_done over p section at =
      let within = slice_get_within s.sections p section at in
      let long = lawful.are.long in
      let lt : p < length steps = omega arith in
      let row = machine_step_some_at steps p lt in
      let are = ap (λ (xs : List ScriptCall). length xs) (lawful.are.each p section row.0 at row.1) in
      let past = over p row.0 lt row.1 in
      let begun = length_of_begun_section_few section (script_calls_shown_by s p) (calls_of (allowed_beginning_events b) p) (tells.beginning.begins p section at) in
      let count = calls_made_counted (allowed_beginning_events b) p tells.beginning.no_fetch in
      (section_calls_follows_length section (script_calls_shown_by s p) (calls_of (allowed_beginning_events b) p) (tells.beginning.begins p section at)).1
      (omega (arith, are, past, begun, count))

pub returns-then-calls_made-len : goal.returns-then-calls_made-len
returns-then-calls_made-len c = λ s lawful tells.
    let p = c.loop-processor.processor in
    let row = c.index-steps-processor.result in
    let at = machine_step_read_at c.args.steps.now p row c.loop-processor-test.true c.index-steps-processor.is in
    let under = c.if-calls_made-len.true in
    let long = c.len.ensures in
    let count = c.calls_made.ensures ∙ ap (count_by (λ (e : Event). e.processor == p)) c.deref.ensures.value in (
      λ yes. absurd (false≢true yes),
      λ follows. absurd (not_done s c.args.self.now c.args.steps.now lawful tells p row at (omega (arith, under, long, count)) follows),
    )

pub loop-processor-preserved : goal.loop-processor-preserved
loop-processor-preserved c = λ p row lt at. elim (cases_eq p c.loop-processor.processor) [
  | inl is ↦
      (let mine = c.index-steps-processor.result in
      let here = machine_step_read_at c.args.steps.now c.loop-processor.processor mine c.loop-processor-test.true c.index-steps-processor.is in
      let same = same_Some mine row (sym here ∙ ap (slice_get c.args.steps.now) (sym is) ∙ at) in
      let long = ap (λ (v : Vec ScriptCall). length v.items) same in
      let size = c.len.ensures in
      let over = c.if-calls_made-len.false in
      let count = c.calls_made.ensures
      ∙ ap (count_by (λ (e : Event). e.processor == c.loop-processor.processor)) c.deref.ensures.value
      ∙ ap (λ q. count_by (λ (e : Event). e.processor == q) (allowed_beginning_events c.args.self.now)) (sym is) in
      omega (arith, long, size, over, count))
  | inr isnt ↦ c.loop-processor.invariant p row (omega arith) at
]

pub returns : goal.returns
returns c = λ s lawful tells. (
  λ yes. all_done s c.args.self.now c.args.steps.now lawful tells
      (λ p row lt at. let over = c.loop-processor-test.false in c.loop-processor.invariant p row (omega arith) at),
  λ follows. refl,
)
