use Rattle.lrc_script.specs.Plan.{plan_of}
use Rattle.lrc_commands.proofs.StudiedScripts.{studied_script_not_at_fault, studied_script_sampled}
use Rattle.lrc_commands.proofs.sampling.sample_command_on_script.Goals as goal

pub returns-clause-sampled : goal.returns-clause-sampled
returns-clause-sampled g c =
    studied_script_sampled _ _ _ _ (plan_of c.in_ok-script.script) _ _ _ c.sample_command_prints.result c.in_ok-script.ensures.read
    c.sample_command_prints.ensures.written

pub returns-clause-refused : goal.returns-clause-refused
returns-clause-refused g c = studied_script_not_at_fault _ c.sample_command_prints.result c.sample_command_prints.ensures.runs
