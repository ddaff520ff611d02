use Rattle.lrc_commands.proofs.StudiedScripts.{studied_script_told}
use Rattle.lrc_commands.proofs.explaining.explain_command_prints_run.Goals as goal

pub returns-clause-told : goal.returns-clause-told
returns-clause-told g c =
    studied_script_told _ _ _ c.in_ok-ended.ended _ _ c.explain_command_tells_end-told.result c.in_ok-ended.ensures.end
    c.explain_command_tells_end-told.ensures.halted c.explain_command_tells_end-told.ensures.told
