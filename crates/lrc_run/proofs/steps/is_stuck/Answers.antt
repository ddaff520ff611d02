use Rattle.std.proofs.Common.{◌<◌, length, refl, arith}
use Rattle.std.proofs.lemmas.Option.{slice_get_read}
use Rattle.lrc_run.proofs.TurnWays.{turn_way_seen_same}
use Rattle.lrc_run.proofs.RunWaits.{run_wait_seen_at, run_wait_goes_on}
use Rattle.lrc_run.proofs.steps.is_stuck.Goals as goal

pub returns-then-moved-clause-seen : goal.returns-then-moved-clause-seen
returns-then-moved-clause-seen g c = turn_way_seen_same c.args.processors.now.items

pub wait-requires-clause-own : goal.wait-requires-clause-own
wait-requires-clause-own g c κs within =
    let ms = c.args.processors.now.items in
    let m = c.index_mut.result.now in
    let some : 0 < length ms = omega (arith, c.requires.some, c.args.processors.now.ok) in
    c.requires.own m (slice_get_read ms (length ms) 0 m refl some c.index_mut.ensures.value)

pub returns-in-Ok-Stuck-clause-seen : goal.returns-in-Ok-Stuck-clause-seen
returns-in-Ok-Stuck-clause-seen g c =
    let ms = c.args.processors.now.items in
    let m = c.index_mut.result.now in
    let some : 0 < length ms = omega (arith, c.requires.some, c.args.processors.now.ok) in
    run_wait_seen_at ms m c.wait.new.processor (slice_get_read ms (length ms) 0 m refl some c.index_mut.ensures.value)
    (run_wait_goes_on m c.wait.new.processor c.wait.result c.wait.ensures)

pub returns-in-Ok : goal.returns-in-Ok
returns-in-Ok g c =
    let ms = c.args.processors.now.items in
    let m = c.index_mut.result.now in
    let some : 0 < length ms = omega (arith, c.requires.some, c.args.processors.now.ok) in
    record {
      seen = run_wait_seen_at ms m c.wait.new.processor (slice_get_read ms (length ms) 0 m refl some c.index_mut.ensures.value)
          (run_wait_goes_on m c.wait.new.processor c.wait.result c.wait.ensures);
      stuck = λ no. absurd (cc);
      err = tt;
    }

pub returns-in-Err-clause-seen : goal.returns-in-Err-clause-seen
returns-in-Err-clause-seen g c =
    let ms = c.args.processors.now.items in
    let m = c.index_mut.result.now in
    let some : 0 < length ms = omega (arith, c.requires.some, c.args.processors.now.ok) in
    run_wait_seen_at ms m c.wait.new.processor (slice_get_read ms (length ms) 0 m refl some c.index_mut.ensures.value)
    (run_wait_goes_on m c.wait.new.processor c.wait.result c.wait.ensures)
