use Rattle.std.proofs.Common.{List, subst, sym}
use Rattle.std.specs.Prelude.{IfOk}
use Rattle.journal.specs.declared.event.Event.{Event}
use Rattle.journal.specs.Races.{Race}
use Rattle.judge.specs.declared.sizes.Sizes.{Sizes as Given}
use Rattle.causes.specs.Apart.{IsRaceApart}
use Rattle.causes.proofs.apart.race_apart.Goals as goal

pub race_accesses_apart-requires-clause-race : goal.race_accesses_apart-requires-clause-race
race_accesses_apart-requires-clause-race c =
    subst (λ (j : List Event). Race j c.args.race.0 c.args.race.1) (sym c.events.ensures.value) c.requires

pub returns : goal.returns
returns c =
    let r = c.race_accesses_apart.result in
    subst (λ (j : List Event). IfOk r (IsRaceApart c.args.history.now.sizes.locks j c.args.race.0 c.args.race.1)) c.events.ensures.value
    (subst (λ (s : Given). IfOk r (IsRaceApart s.locks c.events.result.now c.args.race.0 c.args.race.1)) c.sizes-sizes.ensures.value
    c.race_accesses_apart.ensures)
