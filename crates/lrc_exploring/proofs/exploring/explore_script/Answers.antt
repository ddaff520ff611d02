use Rattle.lrc_exploring.proofs.ToldAnswers.{told_answer}
use Rattle.lrc_exploring.proofs.exploring.explore_script.Goals as goal

pub returns-clause-told : goal.returns-clause-told
returns-clause-told g c =
    told_answer _ _ _ c.in_ok-found.found _ _ c.tell_answer-told.result c.in_ok-found.ensures.answer c.tell_answer-told.ensures.settled
    c.tell_answer-told.ensures.written
