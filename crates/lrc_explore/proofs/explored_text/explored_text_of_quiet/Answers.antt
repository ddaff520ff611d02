use Rattle.std.proofs.Common.{◌++◌, ap, sym, subst, ◌∙◌}
use Rattle.std.specs.Prelude.{vec_len}
use Rattle.lrc_explore.specs.ExploreTexts.{IsExploreTextOfHang, explore_text_outcomes, explore_text_states}
use Rattle.lrc_explore.proofs.explored_text.explored_text_of_quiet.Goals as goal

pub returns : goal.returns
returns c =
    let explored = c.args.explored.now in
    let outcomes = c.deref-2.result.now in
    let hangs = c.deref-3.result.now in
    let told = c.args.verdict.now ++ explore_text_outcomes (vec_len explored.outcomes) explored.are_all ++ outcomes ++ hangs
    ++ explore_text_states explored.states in (
      outcomes,
      hangs,
      subst (IsExploreTextOfHang explored.hanging) (sym c.deref-3.ensures.value) c.in_ok-hangs.ensures,
      c.in_ok-put_explored_text_quiet.ensures ∙ ap (λ t. t ++ told) c.new-text.ensures.items,
    )
