use Rattle.std.proofs.Common.{refl, slice_index}
use Rattle.journal.proofs.Passes.NextRaces.{next_race_none}
use Rattle.journal.proofs.race_epochs.RaceEpochs.race_at.Goals as goal

pub returns-then-are_counted : goal.returns-then-are_counted
returns-then-are_counted c =
    next_race_none {t = slice_index c.args.time.now} c.args.events.now c.args.place c.args.event c.requires.at
    (record { time = c.requires.time; kept = c.requires.kept }) (c.if-are_counted.ensures.0 refl)
