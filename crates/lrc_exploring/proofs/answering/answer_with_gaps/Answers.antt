use Rattle.lrc_exploring.proofs.answering.answer_with_gaps.Goals as goal

pub returns-in-Ok : goal.returns-in-Ok
returns-in-Ok c = λ o told quiet. (told, quiet, c.in-Ok.ensures)
