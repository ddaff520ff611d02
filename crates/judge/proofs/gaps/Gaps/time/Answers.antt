use Rattle.std.proofs.Common.{slice_index, sym}
use Rattle.journal.specs.ClockEntry.{entry}
use Rattle.journal.specs.Pasts.{InPast}
use Rattle.journal.proofs.Times.TimesOfPlaces.{time_of_places_equal}
use Rattle.judge.proofs.gaps.Gaps.time.Goals as goal

pub returns : goal.returns
returns c = λ j tells.
    let p = c.args.processor in
    time_of_places_equal j (InPast j p) (entry c.args.self.now.clocks.processors.items p) (slice_index c.of.result.now)
    (λ q. sym (c.of.ensures q)) (tells.clocks.times p c.requires.processor)
