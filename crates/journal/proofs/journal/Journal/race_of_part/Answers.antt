use Rattle.std.proofs.Common.{take, drop, MatchOption, subst, sym}
use Rattle.journal.specs.Log.{Log}
use Rattle.journal.specs.RacesFromBase.{RaceFreeFromBase, IsFirstRaceFromBase}
use Rattle.journal.specs.EpisodeBases.{IsEpisodeBaseFront}
use Rattle.journal.specs.KeptBaseState.{base_of_kept_state}
use Rattle.journal.proofs.FromBase.LongerAndShorter.{longer_race_of_cut_part}
use Rattle.journal.proofs.journal.Journal.race_of_part.Goals as goal

pub returns-in-Some-clause-race : goal.returns-in-Some-clause-race
returns-in-Some-clause-race c =
    let j = c.self.inside in
    let race = c.in-Some.race in
    let known = rw c.in-Some.is at c.self.invariant.race in
    let cut = subst (λ (l : Log). IsEpisodeBaseFront l.processors l.events c.args.count) (sym c.self.view_is) c.requires in
    subst (λ (l : Log). IsFirstRaceFromBase l.base (take c.args.count l.events) race.0 race.1) c.self.view_is
    (longer_race_of_cut_part j.processors (base_of_kept_state j.kept) (drop j.processors j.events.items) c.args.count race.0 race.1 cut known)

pub returns-clause-race : goal.returns-clause-race
returns-clause-race c =
    subst (λ (l : Log). MatchOption c.in_ok-race.race (RaceFreeFromBase l.base (take c.args.count l.events))
    (λ r. IsFirstRaceFromBase l.base (take c.args.count l.events) r.0 r.1))
    (sym c.self.view_is) c.in_ok-race.ensures.race
