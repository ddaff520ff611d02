use Rattle.std.proofs.Common.{[]}
use Rattle.lrc_pages.proofs.OneFetched.{one_fetched}
use Rattle.lrc_pages.proofs.laws.one_fetched_law.Goals as goal

pub returns : goal.returns
returns c = λ s j h k first second. one_fetched s [] j h k first second
