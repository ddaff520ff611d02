use Rattle.lrc_exploring.proofs.ToldAnswers.{told_unwritten}
use Rattle.lrc_exploring.proofs.writing.write_answer.Goals as goal

pub returns-in-Err-clause-runs : goal.returns-in-Err-clause-runs
returns-in-Err-clause-runs g c = c.text_fault.ensures.runs

pub returns-in-Err-clause-early : goal.returns-in-Err-clause-early
returns-in-Err-clause-early g c = λ before. told_unwritten _ _ c.in-Err.fault (c.text_fault.ensures.early before) c.in-Err.ensures.unwritten
