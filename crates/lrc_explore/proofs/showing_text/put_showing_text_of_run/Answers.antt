use Rattle.std.proofs.Common.{codes}
use Rattle.lrc_explore.specs.ExploreTexts.{explore_text_states}
use Rattle.lrc_explore.proofs.AddedLines.{added_lines_of_four}
use Rattle.lrc_explore.proofs.showing_text.put_showing_text_of_run.Goals as goal

pub returns : goal.returns
returns c =
    added_lines_of_four c.args.text.now.items (codes "until shown\n") c.args.outcome.now c.args.schedule.now
    (explore_text_states c.args.states) c.in_ok-extend_from_slice.ensures.items
    c.in_ok-extend_from_slice-2.ensures.items c.in_ok-extend_from_slice-3.ensures.items c.in_ok-put_explored_text_states.ensures
