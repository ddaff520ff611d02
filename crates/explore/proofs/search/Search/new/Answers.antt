use Rattle.std.proofs.Common.{refl, ◌∙◌}
use Rattle.lrc_script.specs.Plan.{plan_of}
use Rattle.explore.proofs.SearchedStates.{searched_states_start}
use Rattle.explore.proofs.search.Search.new.Goals as goal

pub returns : goal.returns
returns c =
    let s = plan_of c.args.script.now in
    record {
      searched = λ rows. searched_states_start s _ rows (c.in_ok-new-2.ensures.found s c.requires c.in_ok-new.ensures.knows) c.new-3.ensures.empty refl;
      few = c.in_ok-new-2.ensures.few;
      telling = c.in_ok-new-2.ensures.telling ∙ c.in_ok-new.ensures.telling;
    }
