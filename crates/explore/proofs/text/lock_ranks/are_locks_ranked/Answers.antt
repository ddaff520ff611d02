use Rattle.std.proofs.Common.{slice_index_or}
use Rattle.lrc_script.specs.Lawful.{plan_addresses}
use Rattle.explore.proofs.Locksets.Noted.{lockset_noted_rows_within}
use Rattle.explore.proofs.text.lock_ranks.are_locks_ranked.Goals as goal

pub outer_locks_of-requires : goal.outer_locks_of-requires
outer_locks_of-requires c =
    (plan_addresses c.requires.0, lockset_noted_rows_within c.requires.0 c.args.steps.now c.requires.1)

pub are_rows_ranked-requires : goal.are_rows_ranked-requires
are_rows_ranked-requires c =
    (plan_addresses c.requires.0, lockset_noted_rows_within c.requires.0 c.args.steps.now c.requires.1)

pub returns : goal.returns
returns c = λ yes. (λ l. slice_index_or c.ranks_by.result l 0, c.are_rows_ranked.ensures yes)
