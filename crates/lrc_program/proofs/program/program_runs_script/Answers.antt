use Rattle.lrc_script.specs.Plan.{plan_of}
use Rattle.lrc_program.proofs.PrintedScripts.{printed_script_not_at_fault, printed_script_served}
use Rattle.lrc_program.proofs.program.program_runs_script.Goals as goal

pub returns-clause-served : goal.returns-clause-served
returns-clause-served g c =
    printed_script_served _ _ (plan_of c.in_ok-script.script) _ _ _ c.program_prints_report.result c.in_ok-script.ensures.read
    c.program_prints_report.ensures.printed

pub returns-clause-refused : goal.returns-clause-refused
returns-clause-refused g c = printed_script_not_at_fault _ c.program_prints_report.result c.program_prints_report.ensures.runs
