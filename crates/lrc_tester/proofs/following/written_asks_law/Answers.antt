use Rattle.lrc_tester.proofs.AsksPutIn.{asks_put_in_law}
use Rattle.lrc_tester.proofs.following.written_asks_law.Goals as goal

pub returns : goal.returns
returns c = asks_put_in_law
