use Rattle.lrc_commands.proofs.StudiedScripts.{studied_script_not_at_fault}
use Rattle.lrc_exploring.proofs.ToldAnswers.{told_answer_of_source}
use Rattle.lrc_exploring.proofs.exploring.explore_source.Goals as goal

pub returns-clause-searched : goal.returns-clause-searched
returns-clause-searched g c =
    told_answer_of_source _ _ _ _ _ _ c.explore_script.result c.in_ok-script.ensures.read c.explore_script.ensures.told

pub returns-clause-refused : goal.returns-clause-refused
returns-clause-refused g c = studied_script_not_at_fault _ c.explore_script.result c.explore_script.ensures.runs
