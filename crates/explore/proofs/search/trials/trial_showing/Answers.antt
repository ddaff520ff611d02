use Rattle.std.proofs.Common.{◌≢◌, Option, Some, None, refl, sym, subst, ◌∙◌}
use Rattle.std.specs.Prelude.{MatchOption}
use Rattle.journal.specs.Prelude.{IsFirstRace, RaceFree}
use Rattle.lrc_script.specs.Prelude.{plan_of}
use Rattle.explore.specs.Explored.{explored_outcome}
use Rattle.explore.specs.EndingWords.{IsRunEndingWithWords}
use Rattle.explore.specs.OutcomeTelling.{AreOutcomeTellingReplies, outcome_telling_of_script}
use Rattle.explore.proofs.search.trials.trial_showing.Goals as goal

-- where there is no race, none is told
none : {A : Type 0} (o : Option A) (P : Type 0) (Q : A → Type 0) → ((x : A) → o ≢ Some x) → MatchOption o P Q → P
none None P Q isnt h = h
none (Some x) P Q isnt h = absurd (isnt x refl)

pub into_racy-requires : goal.into_racy-requires
into_racy-requires c =
    subst (λ o. MatchOption o (RaceFree c.args.run.events.items) (λ r. IsFirstRace c.args.run.events.items r.0 r.1)) c.in-Some.is c.in_ok-race.ensures

pub ends_with-requires : goal.ends_with-requires
ends_with-requires c = (plan_of c.args.script.now, c.requires.steps, c.requires.run)

pub returns-in-Some : goal.returns-in-Some
returns-in-Some c = λ d telling. c.into_racy.ensures (plan_of c.args.script.now) c.requires.run

pub returns-then-ends_with : goal.returns-then-ends_with
returns-then-ends_with c = λ d telling.
    let s = plan_of c.args.script.now in
    let run = c.requires.run in
    let ends = c.ends_with.ensures c.if-ends_with.true s run.0 c.requires.steps run.1 in
    let shown = c.into_shown_run.ensures s run.0 d run.1 c.requires.steps.lawful.but_uneven.one_each ends.whole.follows telling in
    record {
      is = subst (IsRunEndingWithWords s c.args.words.now) (sym shown.events) ends;
      race_free = subst RaceFree (run.1.events ∙ sym shown.events)
          (none c.in_ok-race.field-0 (RaceFree c.args.run.events.items) (λ r. IsFirstRace c.args.run.events.items r.0 r.1) c.in_default.not-Some c.in_ok-race.ensures);
      outcome = subst (λ es. AreOutcomeTellingReplies s (outcome_telling_of_script s d) es (explored_outcome c.into_shown_run.result.outcome)) (sym shown.events) shown.outcome;
    }
