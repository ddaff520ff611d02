use Rattle.lrc_commands.proofs.StatusMeanings.{told_command_status_meaning_some, told_command_status_means_input, told_command_status_means_before}
use Rattle.lrc_commands.proofs.sampling.run_sample_command.Goals as goal

pub returns-clause-sampled : goal.returns-clause-sampled
returns-clause-sampled g c = λ is. absurd (told_command_status_meaning_some _ _ c.say.ensures is)

pub returns-clause-refused : goal.returns-clause-refused
returns-clause-refused g c =
    λ is. (rw c.in-Err.is at c.sample_command_on_script.ensures.refused) (told_command_status_means_input _ _ c.say.ensures is)

pub returns-clause-early : goal.returns-clause-early
returns-clause-early g c =
    λ some isnt. (rw c.in-Err.is at c.sample_command_on_script.ensures.early) (told_command_status_means_before _ _ c.say.ensures isnt)

pub returns-clause-quiet : goal.returns-clause-quiet
returns-clause-quiet g c = λ is. absurd (told_command_status_meaning_some _ _ c.say.ensures is)
