use Rattle.std.proofs.Common.{◌++◌, ap, codes, sym, subst, ◌∙◌}
use Rattle.lrc_explore.specs.ExploreTexts.{IsExploreTextOfSchedule, explore_text_states}
use Rattle.lrc_explore.proofs.showing_text.showing_text_of_run.Goals as goal

pub returns : goal.returns
returns c =
    let outcome = c.deref-3.result.now in
    let schedule = c.as_bytes.result.now in
    let told = codes "until shown\n" ++ outcome ++ schedule ++ explore_text_states c.args.states in (
      outcome,
      schedule,
      subst IsExploreTextOfSchedule (sym c.as_bytes.ensures.value) c.in_ok-line.ensures,
      c.in_ok-put_showing_text_of_run.ensures ∙ ap (λ t. t ++ told) c.new-text.ensures.items,
    )
