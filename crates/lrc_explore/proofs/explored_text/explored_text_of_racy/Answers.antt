use Rattle.std.proofs.Common.{◌++◌, ap, codes, sym, subst, ◌∙◌}
use Rattle.lrc_explore.specs.ExploreTexts.{IsExploreTextOfMetHang, IsExploreTextOfSchedule, explore_text_racy, explore_text_states}
use Rattle.lrc_explore.proofs.explored_text.explored_text_of_racy.Goals as goal

pub returns : goal.returns
returns c =
    let racy = c.args.racy.now in
    let schedule = c.as_bytes.result.now in
    let hang = c.deref-2.result.now in
    let told = codes "verdict racy\n" ++ explore_text_racy racy.events.items racy.first ++ schedule ++ hang
    ++ explore_text_states c.args.explored.now.states in (
      schedule,
      hang,
      subst IsExploreTextOfSchedule (sym c.as_bytes.ensures.value) c.in_ok-line.ensures,
      subst (IsExploreTextOfMetHang c.args.explored.now.hanging) (sym c.deref-2.ensures.value) c.in_ok-hang.ensures,
      c.in_ok-put_explored_text_racy.ensures ∙ ap (λ t. t ++ told) c.new-text.ensures.items,
    )
