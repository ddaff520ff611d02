use Rattle.std.proofs.lemmas.Slice.Eq.{slice_eq-Decides}
use Rattle.lrc_sample.proofs.SameSampleAnswers.{same_sample_answer_words}
use Rattle.lrc_sample.proofs.outcome.are_same_sample_outcome_words.Goals as goal

pub returns : goal.returns
returns c = slice_eq-Decides same_sample_answer_words _ _ _ c.eq.ensures
