use Rattle.std.proofs.Common.{[]}
use Rattle.std.proofs.lemmas.Result.{IfOk-weaker}
use Rattle.lrc_script.specs.Plan.{Plan}
use Rattle.explore.specs.CallTables.{IsCallTableOf}
use Rattle.explore.specs.FoundStates.{AreFoundStates}
use Rattle.explore.specs.Machines.{AreLawfulMachineSteps, MachineKnows}
use Rattle.explore.specs.declared.state.found_states.FoundStates.{FoundStates}
use Rattle.explore.proofs.state.found_states.FoundStates.new.Goals as goal

pub with_calls-requires : goal.with_calls-requires
with_calls-requires c =
    (c.requires.0, record { rows = c.args.steps.now; lawful = c.requires.1; tells = c.in_ok-calls.ensures }, c.requires.2)

pub returns-clause-found : goal.returns-clause-found
returns-clause-found c =
    IfOk-weaker c.with_calls.result
    (λ (x : FoundStates). (s : Plan) → IsCallTableOf s c.in_ok-calls.calls → MachineKnows s [] c.args.first → AreFoundStates s x)
    (λ (x : FoundStates). (s : Plan) → AreLawfulMachineSteps s c.args.steps.now → MachineKnows s [] c.args.first → AreFoundStates s x)
    (λ x found s lawful knows. found s (record { rows = c.args.steps.now; lawful = lawful; tells = c.in_ok-calls.ensures }) knows)
    c.with_calls.ensures.found
