use Rattle.causes.proofs.CauseSources.{NoCauseSourceStores}
use Rattle.causes.proofs.source.first_source.Given as goal

abbrev pub invariant-loop-place : goal.invariant-loop-place
invariant-loop-place l = NoCauseSourceStores l.events l.places l.place-index l.value
