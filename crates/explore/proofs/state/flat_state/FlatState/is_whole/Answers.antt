use Rattle.std.proofs.Common.{ℕ, ◌≡◌, ◌<◌, ◌≤◌, List, Some, length, slice_get, slice_index, refl, sym, ap, ◌∙◌, inl, inr, arith}
use Rattle.std.specs.Global.{Vec}
use Rattle.std.proofs.lemmas.Bool.{cases_eq, false≢true}
use Rattle.std.proofs.lemmas.Option.{same_Some, slice_get_within}
use Rattle.journal.specs.declared.event.Event.{Event}
use Rattle.lrc_script.specs.Plan.{Plan}
use Rattle.conformance.specs.Follows.{calls_of}
use Rattle.explore.specs.declared.prefixes.script_call.ScriptCall.{ScriptCall}
use Rattle.explore.specs.Prefixes.ScriptCalls.{script_calls_shown_by}
use Rattle.explore.specs.Prefixes.PrefixLaws.{IsPrefixDone}
use Rattle.explore.proofs.PrefixRuns.Beginnings.{prefix_beginning_whole_done}
use Rattle.explore.specs.declared.state.flat_state.FlatState.{FlatState}
use Rattle.explore.specs.Machines.{AreLawfulMachineSteps, MachineKnows}
use Rattle.explore.proofs.Lengths.{length_of_begun_section_few}
use Rattle.explore.proofs.MachineSteps.{machine_step_read_at, machine_step_row, machine_step_rows_few, machine_step_some_at}
use Rattle.explore.proofs.state.flat_state.FlatState.is_whole.Goals as goal

module _ (s : Plan) (g : List Event) (m : FlatState) (steps : List (Vec ScriptCall)) (lawful : AreLawfulMachineSteps s steps)
    (knows : MachineKnows s g m) where
  -- who isn't done yet
  not_done : (p : ℕ) (row : Vec ScriptCall) → slice_get steps p ≡ Some row → slice_index m.done p < length row.items
      → ¬ IsPrefixDone s g
  not_done p row at under done =
      let of = machine_step_row s steps p row lawful.are at in
      let all = done p of.section of.at in
      let many = ap (λ (xs : List ScriptCall). length xs) of.are in
      let within = slice_get_within steps p row at in
      let few = machine_step_rows_few s steps lawful in
      let is = knows.done p (omega arith) in
      omega arith

  all_done : ((p : ℕ) (row : Vec ScriptCall) → p < length steps → slice_get steps p ≡ Some row
      → length row.items ≤ slice_index m.done p) → IsPrefixDone s g
  all_done over p section at =
      let within = slice_get_within s.sections p section at in
      let long = lawful.are.long in
      let few = machine_step_rows_few s steps lawful in
      let lt : p < length steps = omega arith in
      let row = machine_step_some_at steps p lt in
      let are = ap (λ (xs : List ScriptCall). length xs) (lawful.are.each p section row.0 at row.1) in
      let past = over p row.0 lt row.1 in
      let begun = length_of_begun_section_few section (script_calls_shown_by s p) (calls_of g p) (knows.beginning.begins p section at) in
      let is = knows.done p (omega arith) in
      omega arith

pub returns-then-self-processor : goal.returns-then-self-processor
returns-then-self-processor c = λ s g lawful knows.
    let p = c.loop-processor.processor in
    let row = c.index-steps-processor.result in
    let at = machine_step_read_at c.args.steps.now p row c.loop-processor-test.true c.index-steps-processor.is in
    let under = c.if-self-processor.true in
    let long = c.len.ensures in (
      λ yes. absurd (false≢true yes),
      λ follows. absurd (not_done s g c.args.self.now c.args.steps.now lawful knows p row at (omega arith)
          ((prefix_beginning_whole_done s g knows.beginning).0 follows)),
    )

pub loop-processor-preserved : goal.loop-processor-preserved
loop-processor-preserved c = λ p row lt at. elim (cases_eq p c.loop-processor.processor) [
  | inl is ↦
      (let mine = c.index-steps-processor.result in
      let here = machine_step_read_at c.args.steps.now c.loop-processor.processor mine c.loop-processor-test.true c.index-steps-processor.is in
      let same = same_Some mine row (sym here ∙ ap (slice_get c.args.steps.now) (sym is) ∙ at) in
      let long = ap (λ (v : Vec ScriptCall). length v.items) same in
      let count = c.len.ensures in
      let over = c.if-self-processor.false in
      let done = ap (slice_index c.args.self.now.done) is in
      omega arith)
  | inr isnt ↦ c.loop-processor.invariant p row (omega arith) at
]

pub returns : goal.returns
returns c = λ s g lawful knows. (
  λ yes. (prefix_beginning_whole_done s g knows.beginning).1 (all_done s g c.args.self.now c.args.steps.now lawful knows
      (λ p row lt at. let over = c.loop-processor-test.false in c.loop-processor.invariant p row (omega arith) at)),
  λ follows. refl,
)
