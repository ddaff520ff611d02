use Rattle.lrc_script.specs.Plan.{plan_of}
use Rattle.lrc_commands.proofs.StudiedScripts.{studied_script_end, studied_script_scheduled_end}
use Rattle.lrc_commands.proofs.explaining.explain_command_end.Goals as goal

pub returns-in_ok-step_by-in-Some-clause-end : goal.returns-in_ok-step_by-in-Some-clause-end
returns-in_ok-step_by-in-Some-clause-end g c =
    studied_script_scheduled_end c.args.options.now (plan_of c.args.script.now) c.in-Some.text.now
    c.in_ok-schedule-in-Some.schedule.turns.items c.in_ok-step_by-in-Some.field-0 c.in-Some.ensures.value
    c.in-Some.ensures.variant c.in_ok-schedule-in-Some.ensures c.in_ok-step_by-in-Some.ensures.turns

pub returns-in_ok-step_as_far-in-None-clause-end : goal.returns-in_ok-step_as_far-in-None-clause-end
returns-in_ok-step_as_far-in-None-clause-end g c =
    studied_script_end c.args.options.now (plan_of c.args.script.now) c.in_ok-step_as_far-in-None.field-0 c.in-None.ensures.value
    c.in_ok-step_as_far-in-None.ensures.turns
