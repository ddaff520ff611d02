use Rattle.lrc_script.specs.Plan.{plan_of}
use Rattle.explore.proofs.PrefixRuns.Neighbours.NoNeighbours.{no_neighbours_law}
use Rattle.explore.proofs.SearchedStates.{searched_states_without_neighbours}
use Rattle.explore.proofs.SearchGoals.{goal_no_run}
use Rattle.explore.proofs.search.until.until_showing_of.Goals as goal

pub returns-in-None-clause-showing : goal.returns-in-None-clause-showing
returns-in-None-clause-showing c =
    let s = plan_of c.args.script.now in
    let x = c.args.search.now in
    let steps = c.args.steps.now in
    let ended = c.requires.ended.1 in
    let searched = ended.searched.all c.if-end.true in (
      goal_no_run s x steps c.args.words.now c.requires.steps (record { searched = searched; unmet = ended.unmet c.if-end.true }),
      no_neighbours_law s (searched_states_without_neighbours s x steps c.requires.steps searched),
    )
