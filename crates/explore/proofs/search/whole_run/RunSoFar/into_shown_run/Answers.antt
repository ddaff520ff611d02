use Rattle.std.proofs.Common.{subst}
use Rattle.explore.specs.Machines.{machine_rows}
use Rattle.explore.specs.OutcomeTelling.{AreOutcomeTellingReplies}
use Rattle.explore.proofs.SearchedStates.{searched_state_kept_told}
use Rattle.explore.proofs.search.whole_run.RunSoFar.into_shown_run.Goals as goal

pub returns : goal.returns
returns c = λ s g d through one follows telling.
    let m = c.args.self.state in
    record {
      events = through.events;
      outcome = subst (λ t. AreOutcomeTellingReplies s t g (machine_rows m.replies.items)) telling
          (searched_state_kept_told s g m one follows through.knows);
    }
