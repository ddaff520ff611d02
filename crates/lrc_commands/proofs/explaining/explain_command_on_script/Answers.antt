use Rattle.lrc_script.specs.Plan.{plan_of}
use Rattle.lrc_commands.proofs.StudiedScripts.{studied_script_explained, studied_script_not_at_fault}
use Rattle.lrc_commands.proofs.explaining.explain_command_on_script.Goals as goal

pub returns-clause-explained : goal.returns-clause-explained
returns-clause-explained g c =
    studied_script_explained _ _ (plan_of c.in_ok-script.script) _ _ _ c.explain_command_prints_run.result c.in_ok-script.ensures.read
    c.explain_command_prints_run.ensures.told

pub returns-clause-refused : goal.returns-clause-refused
returns-clause-refused g c = studied_script_not_at_fault _ c.explain_command_prints_run.result c.explain_command_prints_run.ensures.runs
