use Rattle.std.proofs.Common.{subst}
use Rattle.base.specs.InOrderOnce.{Has}
use Rattle.base.proofs.JoinedLists.{joined_list_has-nil}
use Rattle.explore.proofs.memory.shown.what_memory_shows.Goals as goal

pub returns : goal.returns
returns g c = c.in_ok-look.ensures (λ o t has.
    absurd (joined_list_has-nil (o, t) (subst (λ es. Has es (o, t)) c.in_ok-search.ensures has)))
