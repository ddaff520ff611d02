use Rattle.std.proofs.Common.{slice_index}
use Rattle.judge.specs.SparseTables.{sparse_at}
use Rattle.judge.specs.NearestRaces.{IsNearestRaceLastUnknown}
use Rattle.judge.proofs.nearest_races.nearest_race_in_row.Given as goal

abbrev pub invariant-loop-by : goal.invariant-loop-by
invariant-loop-by l = IsNearestRaceLastUnknown (sparse_at l.rows) l.row (slice_index l.cut) l.processor l.by l.nearest
