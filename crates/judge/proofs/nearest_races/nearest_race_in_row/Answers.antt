use Rattle.std.proofs.Common.{◌≡◌, ◌+◌, slice_index, subst, sym, ◌∙◌, arith}
use Rattle.std.proofs.lemmas.Option.{none-some}
use Rattle.judge.specs.SparseTables.{sparse_at}
use Rattle.judge.specs.NearestRaces.{IsNearestRaceLastUnknown}
use Rattle.judge.proofs.NearestRaceSteps.{nearest_race_unknown_none, nearest_race_unknown_some}
use Rattle.judge.proofs.nearest_races.nearest_race_in_row.Goals as goal
use Rattle.judge.proofs.nearest_races.nearest_race_in_row.Goals.{in-Some, in_default}

pub loop-by-init : goal.loop-by-init
loop-by-init c = λ i x. (let lt = x.below in absurd (omega arith))

pub loop-by-preserved : goal.loop-by-preserved
loop-by-preserved c =
    let rows = sparse_at c.args.rows.now in
    let row = c.args.row in
    let t = slice_index c.args.cut.now in
    let p = c.args.processor in
    let by = c.loop-by.by in
    elim c.match-nearest_race_candidate.branch [
      | in-Some w ↦
          (let here = (c.nearest_race_candidate.ensures w.in-Some.place).0 w.in-Some.is in
          subst (IsNearestRaceLastUnknown rows row t p (by + 1)) (sym w.nearest-is)
          (nearest_race_unknown_some w.later_nearest_race.result c.loop-by.nearest c.loop-by.invariant here
          w.later_nearest_race.ensures.place w.later_nearest_race.ensures.nearest w.later_nearest_race.ensures.one))
      | in_default w ↦
          subst (IsNearestRaceLastUnknown rows row t p (by + 1)) (sym w.nearest-is)
          (nearest_race_unknown_none rows row t p by c.loop-by.nearest c.loop-by.invariant
          (λ i x. none-some i (sym w.in_default.is ∙ (c.nearest_race_candidate.ensures i).1 x)))
    ]

pub returns : goal.returns
returns c =
    let over = c.loop-by-test.false in
    let end = c.loop-by.auto.by-end in
    let is : c.loop-by.by ≡ c.args.count = omega arith in
    subst (λ n. IsNearestRaceLastUnknown (sparse_at c.args.rows.now) c.args.row (slice_index c.args.cut.now) c.args.processor n c.loop-by.nearest)
    is c.loop-by.invariant
