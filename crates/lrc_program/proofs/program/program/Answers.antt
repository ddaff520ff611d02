use Rattle.lrc_program.proofs.StatusMeanings.{told_program_status_meaning_some, told_program_status_means_script, told_program_status_means_before}
use Rattle.lrc_program.proofs.program.program.Goals as goal

pub returns-clause-served : goal.returns-clause-served
returns-clause-served g c = λ is. absurd (told_program_status_meaning_some _ _ c.program_says_of_script.ensures is)

pub returns-clause-refused : goal.returns-clause-refused
returns-clause-refused g c =
    λ is. (rw c.in-Err.is at c.program_runs_script.ensures.refused) (told_program_status_means_script _ _ c.program_says_of_script.ensures is)

pub returns-clause-early : goal.returns-clause-early
returns-clause-early g c =
    λ some isnt. (rw c.in-Err.is at c.program_runs_script.ensures.early) (told_program_status_means_before _ _ c.program_says_of_script.ensures isnt)

pub returns-clause-quiet : goal.returns-clause-quiet
returns-clause-quiet g c = λ is. absurd (told_program_status_meaning_some _ _ c.program_says_of_script.ensures is)
