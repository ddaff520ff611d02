use Rattle.std.specs.Prelude.{vec_len}
use Rattle.lrc_explore.specs.ExploreTexts.{explore_text_outcomes, explore_text_states}
use Rattle.lrc_explore.proofs.AddedLines.{added_lines_of_five}
use Rattle.lrc_explore.proofs.explored_text.put_explored_text_quiet.Goals as goal

pub returns : goal.returns
returns c =
    let explored = c.args.explored.now in
    added_lines_of_five c.args.text.now.items c.args.verdict.now (explore_text_outcomes (vec_len explored.outcomes) explored.are_all)
    c.args.outcomes.now c.args.hangs.now (explore_text_states explored.states) c.in_ok-extend_from_slice.ensures.items (rw c.len.ensures at c.in_ok-put_explored_text_count.ensures)
    c.in_ok-extend_from_slice-2.ensures.items c.in_ok-extend_from_slice-3.ensures.items c.in_ok-put_explored_text_states.ensures
