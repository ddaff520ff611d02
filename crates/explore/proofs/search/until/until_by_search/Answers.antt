use Rattle.std.proofs.Common.{arith, ◌∙◌}
use Rattle.lrc_script.specs.Plan.{plan_of}
use Rattle.explore.proofs.SearchGoals.{goal_open_only}
use Rattle.explore.proofs.search.until.until_by_search.Goals as goal

pub look_to_the_end-requires-clause-searched : goal.look_to_the_end-requires-clause-searched
look_to_the_end-requires-clause-searched g c = (plan_of c.args.script.now, c.requires.steps, c.requires.searched)

pub look_to_the_end-requires-clause-room : goal.look_to_the_end-requires-clause-room
look_to_the_end-requires-clause-room g c =
    let few = c.state_room_at_most-most.ensures.few in
    omega (arith, few)

pub until_showing_of-requires-clause-ended : goal.until_showing_of-requires-clause-ended
until_showing_of-requires-clause-ended g c = (
  c.state_room_at_most-most.result,
  c.in_ok-end.ensures.ended (plan_of c.args.script.now) c.requires.steps c.requires.searched c.requires.few,
)

pub until_showing_of-requires-clause-telling : goal.until_showing_of-requires-clause-telling
until_showing_of-requires-clause-telling g c =
    c.in_ok-end.ensures.telling (plan_of c.args.script.now) c.requires.steps c.requires.searched ∙ c.requires.telling

pub returns : goal.returns
returns g c =
    let s = plan_of c.args.script.now in
    let ended = c.in_ok-end.ensures.ended s c.requires.steps c.requires.searched c.requires.few in
    let at_most = c.state_room_at_most-most.ensures.at_most in
    let telling = c.in_ok-end.ensures.telling s c.requires.steps c.requires.searched ∙ c.requires.telling in
    record {
      states = ended.states c.args.detail telling;
      few = (let few = ended.few in omega (arith, few, at_most));
      showing = c.in_ok-showing.ensures.showing;
      given_up = λ opens.
          let both = goal_open_only c.in_ok-end.end c.in_ok-showing.showing c.in_ok-showing.ensures.opens opens in
          let past = ended.past both.0 both.1 in
          omega (arith, past, at_most);
    }
