-- What is told of each processor's calls is what an outcome tells.
use Rattle.std.proofs.Common.{ℕ, ◌≡◌, ◌<◌, ◌≤◌, List, Some, length, slice_get, ap, ◌∙◌, arith}
use Rattle.std.specs.Global.{Vec}
use Rattle.conformance.specs.Follows.{calls_of}
use Rattle.conformance.specs.ScriptBegins.{BeginsScript}
use Rattle.journal.specs.declared.event.Event.{Event}
use Rattle.lrc_script.specs.Plan.{Plan}
use Rattle.explore.specs.declared.outcomes.telling.OutcomeTelling.{OutcomeTelling}
use Rattle.explore.specs.declared.prefixes.script_call.ScriptCall.{ScriptCall}
use Rattle.explore.specs.Machines.{AreLawfulMachineSteps, machine_rows}
use Rattle.explore.specs.Prefixes.ScriptCalls.{script_calls_shown_by}
use Rattle.explore.specs.OutcomeTelling.{AreOutcomeTellingReplies, outcome_telling_replies}
use Rattle.explore.proofs.Lengths.{length_of_begun_section_few}
use Rattle.explore.proofs.MachineSteps.{machine_step_row, machine_step_row_told, machine_step_some_at}
use Rattle.explore.proofs.MachineReplies.{length-machine_rows, machine_reply_row_at}

-- no processor has made more calls than its steps say
pub told_rows_few : (s : Plan) (steps : List (Vec ScriptCall)) (g : List Event) → AreLawfulMachineSteps s steps → BeginsScript s g
    → (p : ℕ) (row : Vec ScriptCall) → slice_get steps p ≡ Some row → length (calls_of g p) ≤ length row.items
told_rows_few s steps g lawful begins p row at =
    let of = machine_step_row s steps p row lawful.are at in
    let begun = length_of_begun_section_few of.section (script_calls_shown_by s p) (calls_of g p) (begins p of.section of.at) in
    let are = ap (λ (xs : List ScriptCall). length xs) of.are in
    omega (arith, begun, are)

-- of each processor's steps what is told of its calls
pub record AreToldRows (t : OutcomeTelling) (g : List Event) (steps : List (Vec ScriptCall)) (rows : List (Vec ℕ)) : Type 0 where
  pub long : length rows ≡ length steps
  pub each : (p : ℕ) (row : Vec ScriptCall) (told : Vec ℕ) → slice_get steps p ≡ Some row → slice_get rows p ≡ Some told
      → told.items ≡ outcome_telling_replies t p row.items 0 (calls_of g p)

-- is what an outcome tells
pub told_rows_replies : (s : Plan) (t : OutcomeTelling) (g : List Event) (steps : List (Vec ScriptCall)) (rows : List (Vec ℕ))
    → AreLawfulMachineSteps s steps → AreToldRows t g steps rows → AreOutcomeTellingReplies s t g (machine_rows rows)
told_rows_replies s t g steps rows lawful are =
    let long = are.long in
    let steps_long = lawful.are.long in
    let sections = lawful.lawful.but_uneven.one_each in
    let many = length-machine_rows rows in
    record {
      long = omega (arith, long, steps_long, sections, many);
      each = λ p lt.
          let within : p < length rows = omega (arith, lt, long, steps_long, sections) in
          let row = machine_step_some_at rows p within in
          let inside : p < length steps = omega (arith, lt, steps_long, sections) in
          let own = machine_step_some_at steps p inside in
          let told = machine_step_row_told s p own.0 (machine_step_row s steps p own.0 lawful.are own.1) in
          machine_reply_row_at rows p row.0 row.1
          ∙ ap (λ (r : List ℕ). Some r) (are.each p own.0 row.0 own.1 row.1
          ∙ ap (λ (xs : List ScriptCall). outcome_telling_replies t p xs 0 (calls_of g p)) told);
    }
