use Rattle.lrc_script.specs.Plan.{plan_of}
use Rattle.lrc_program.proofs.PrintedScripts.{printed_script_by_rounds, printed_script_by_schedule, printed_script_follows}
use Rattle.lrc_program.proofs.program.program_stepped_report.Goals as goal

pub returns-in-Some-clause-asked : goal.returns-in-Some-clause-asked
returns-in-Some-clause-asked g c =
    printed_script_follows c.program_scheduled_report.result (λ report came. printed_script_by_schedule g.T.ScriptRunner.stepped g.T.ScriptRunner.followed
    c.args.options.now (plan_of c.args.script.now) c.program_lock-lock.result c.in-Some.text.now report c.program_lock-lock.ensures
    c.in-Some.ensures.value c.in-Some.ensures.variant came) c.program_scheduled_report.ensures.followed

pub returns-in_ok-step-in-None-clause-asked : goal.returns-in_ok-step-in-None-clause-asked
returns-in_ok-step-in-None-clause-asked g c =
    printed_script_by_rounds g.T.ScriptRunner.stepped g.T.ScriptRunner.followed c.args.options.now (plan_of c.args.script.now) c.program_lock-lock.result
    c.in_ok-step-in-None.field-0 c.program_lock-lock.ensures c.in-None.ensures.value c.in_ok-step-in-None.ensures.stepped
