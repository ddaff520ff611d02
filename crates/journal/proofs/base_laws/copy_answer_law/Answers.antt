use Rattle.journal.proofs.Origins.WordOrigins.{origin_word_law}
use Rattle.journal.proofs.base_laws.copy_answer_law.Goals as goal

pub returns : goal.returns
returns c = origin_word_law
