use Rattle.lrc_script.specs.Lawful.{plan_addresses}
use Rattle.explore.proofs.Locksets.Noted.{lockset_noted_each_few, lockset_noted_rows_within}
use Rattle.explore.proofs.text.text_gaps.text_gaps_with.Goals as goal

pub unranked_locks-requires-clause-within : goal.unranked_locks-requires-clause-within
unranked_locks-requires-clause-within c =
    let s = c.requires.lawful.0 in
    (plan_addresses s, lockset_noted_rows_within s c.args.steps.now c.requires.lawful.1)

pub unranked_locks-requires-clause-few : goal.unranked_locks-requires-clause-few
unranked_locks-requires-clause-few c = lockset_noted_each_few c.requires.lawful.0 c.args.steps.now c.requires.lawful.1
