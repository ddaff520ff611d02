use Rattle.std.proofs.Common.{codes}
use Rattle.lrc_explore.specs.ExploreTexts.{explore_text_racy, explore_text_states}
use Rattle.lrc_explore.proofs.AddedLines.{added_lines_of_five}
use Rattle.lrc_explore.proofs.explored_text.put_explored_text_racy.Goals as goal

pub returns : goal.returns
returns c =
    let racy = c.args.racy.now in
    added_lines_of_five c.args.text.now.items (codes "verdict racy\n") (explore_text_racy racy.events.items racy.first) c.args.schedule.now
    c.args.hang.now (explore_text_states c.args.states) c.in_ok-extend_from_slice.ensures.items
    (rw c.deref.ensures.value at c.in_ok-put_explored_text_race.ensures) c.in_ok-extend_from_slice-2.ensures.items
    c.in_ok-extend_from_slice-3.ensures.items c.in_ok-put_explored_text_states.ensures
