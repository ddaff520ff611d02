use Rattle.std.proofs.lemmas.Option.{slice_get-get_or}
use Rattle.explore.proofs.text.lock_ranks.note_outer_locks.Goals as goal

pub note_outer_locks_at-requires : goal.note_outer_locks_at-requires
note_outer_locks_at-requires c =
    let at = slice_get-get_or c.args.row.now c.loop-step.step-index _ c.loop-step-test.true in
    (c.requires.0, c.requires.1 c.loop-step.step-index _ at)

pub track_held_guard-requires : goal.track_held_guard-requires
track_held_guard-requires c =
    let at = slice_get-get_or c.args.row.now c.loop-step.step-index _ c.loop-step-test.true in
    (c.requires.0, c.requires.1 c.loop-step.step-index _ at)
