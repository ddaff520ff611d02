use Rattle.lrc_commands.proofs.StatusMeanings.{told_command_status_meaning_some, told_command_status_means_input, told_command_status_means_before, told_command_status_meaning_not_7}
use Rattle.lrc_exploring.proofs.exploring.run_explore_command.Goals as goal

pub returns-clause-decided : goal.returns-clause-decided
returns-clause-decided g c = λ is. absurd (told_command_status_meaning_some _ _ c.say.ensures is)

pub returns-clause-undecided : goal.returns-clause-undecided
returns-clause-undecided g c = λ is. absurd (told_command_status_meaning_not_7 _ _ c.say.ensures is)

pub returns-clause-refused : goal.returns-clause-refused
returns-clause-refused g c =
    λ is. (rw c.in-Err.is at c.explore_source.ensures.refused) (told_command_status_means_input _ _ c.say.ensures is)

pub returns-clause-early : goal.returns-clause-early
returns-clause-early g c =
    λ some decided isnt. (rw c.in-Err.is at c.explore_source.ensures.early) (told_command_status_means_before _ _ c.say.ensures isnt)

pub returns-clause-quiet : goal.returns-clause-quiet
returns-clause-quiet g c = λ is. absurd (told_command_status_meaning_some _ _ c.say.ensures is)

pub returns-clause-quiet_too : goal.returns-clause-quiet_too
returns-clause-quiet_too g c = λ is. absurd (told_command_status_meaning_not_7 _ _ c.say.ensures is)
