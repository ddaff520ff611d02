use Rattle.lrc_commands.proofs.StatusMeanings.{told_command_status_meaning_some, told_command_status_means_input, told_command_status_means_before, told_command_status_means_3}
use Rattle.lrc_commands.proofs.explaining.run_explain_command.Goals as goal

pub returns-clause-whole : goal.returns-clause-whole
returns-clause-whole g c = λ is. absurd (told_command_status_meaning_some _ _ c.say.ensures is)

pub returns-clause-halted : goal.returns-clause-halted
returns-clause-halted g c = λ is. absurd (c.of_told.ensures.status (told_command_status_means_3 _ _ c.say.ensures is))

pub returns-clause-refused : goal.returns-clause-refused
returns-clause-refused g c =
    λ is. (rw c.in-Err.is at c.explain_command_on_script.ensures.refused)
    (c.of_told.ensures.inputs (told_command_status_means_input _ _ c.say.ensures is))

pub returns-clause-early : goal.returns-clause-early
returns-clause-early g c =
    λ some halted isnt. (rw c.in-Err.is at c.explain_command_on_script.ensures.early)
    (c.of_told.ensures.early (told_command_status_means_before _ _ c.say.ensures isnt))

pub returns-clause-quiet : goal.returns-clause-quiet
returns-clause-quiet g c = λ is. absurd (told_command_status_meaning_some _ _ c.say.ensures is)
