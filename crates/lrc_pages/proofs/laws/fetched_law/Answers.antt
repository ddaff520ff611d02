use Rattle.std.proofs.Common.{[]}
use Rattle.lrc_pages.proofs.FetchedWell.{fetched_well, fetched_well_start}
use Rattle.lrc_pages.proofs.laws.fetched_law.Goals as goal

pub returns : goal.returns
returns c = λ s j h is. fetched_well s [] j [] h (fetched_well_start s) is
