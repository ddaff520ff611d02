use Rattle.lrc_commands.proofs.JudgedSources.{judged_source_answered_ending, judged_source_never_refused}
use Rattle.lrc_commands.proofs.checking.check_command_judges_and_tells.Goals as goal

pub returns-clause-judged : goal.returns-clause-judged
returns-clause-judged g c =
    judged_source_answered_ending _ _ _ _ c.in_ok-found.found c.check_command_tells.result c.check_command_tells.ensures.judgement
    c.in_ok-found.ensures.judged c.in_ok-found.ensures.racy

pub returns-clause-refused : goal.returns-clause-refused
returns-clause-refused g c = judged_source_never_refused _ _ _ c.check_command_tells.ensures.refused
