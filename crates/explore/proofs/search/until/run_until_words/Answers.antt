use Rattle.std.proofs.Common.{◌≢◌, Option, Some, None, refl, sym, subst, ◌∙◌}
use Rattle.std.specs.Prelude.{MatchOption}
use Rattle.journal.specs.Races.{IsFirstRace, RaceFree}
use Rattle.lrc_script.specs.Plan.{plan_of}
use Rattle.explore.specs.FoundStates.{found_states}
use Rattle.explore.specs.Machines.{machine_rows}
use Rattle.explore.specs.Prefixes.FlatBeginnings.{IsFlatBeginning}
use Rattle.explore.specs.OutcomeTelling.{AreOutcomeTellingReplies, outcome_telling_of_script}
use Rattle.explore.proofs.MachineSteps.{machine_step_some_at}
use Rattle.explore.proofs.SearchedStates.{searched_state_kept_told}
use Rattle.explore.proofs.search.until.run_until_words.Goals as goal

-- where there is no race, none is told
told_none : {A : Type 0} (o : Option A) (P : Type 0) (Q : A → Type 0) → ((x : A) → o ≢ Some x) → MatchOption o P Q → P
told_none None P Q isnt h = h
told_none (Some x) P Q isnt h = absurd (isnt x refl)

pub racing_history_race-requires-clause-begins : goal.racing_history_race-requires-clause-begins
racing_history_race-requires-clause-begins c =
    let s = plan_of c.args.script.now in
    let m = machine_step_some_at (found_states c.args.found.now) c.args.place c.requires.ends.1.within in
    subst (IsFlatBeginning s) (sym c.deref.ensures.value) (c.in_ok-events.ensures s c.requires.steps c.requires.found m.0 m.1).beginning

pub returns-in-Some-clause-showing : goal.returns-in-Some-clause-showing
returns-in-Some-clause-showing c = λ words d ends telling.
    let s = plan_of c.args.script.now in
    let m = machine_step_some_at (found_states c.args.found.now) c.args.place ends.within in
    c.cut_racing_history.ensures s (c.in_ok-events.ensures s c.requires.steps c.requires.found m.0 m.1).beginning

pub returns-clause-showing : goal.returns-clause-showing
returns-clause-showing c = λ words d ends telling.
    let s = plan_of c.args.script.now in
    let stored = machine_step_some_at (found_states c.args.found.now) c.args.place ends.within in
    let m = stored.0 in
    let events = c.in_ok-events.events.items in
    let knows = c.in_ok-events.ensures s c.requires.steps c.requires.found m stored.1 in
    record {
      is = ends.ends m events stored.1 knows;
      race_free = subst RaceFree c.deref.ensures.value (told_none c.in_ok-race.field-0 (RaceFree c.deref.result.now) (λ r. IsFirstRace c.deref.result.now r.0 r.1) c.in_default.not-Some
          c.in_ok-race.ensures);
      outcome =
          subst (AreOutcomeTellingReplies s (outcome_telling_of_script s d) events) (sym (c.in_ok-replies.ensures ∙ (c.in_ok-at.ensures m stored.1).replies))
          (subst (λ t. AreOutcomeTellingReplies s t events (machine_rows m.replies.items))
          (c.requires.found.told c.args.place m stored.1 ∙ telling)
          (searched_state_kept_told s events m c.requires.steps.lawful.but_uneven.one_each (ends.ends m events stored.1 knows).whole.follows
          knows));
    }

pub events_to-requires-clause-found : goal.events_to-requires-clause-found
events_to-requires-clause-found c = (plan_of c.args.script.now, c.requires.steps, c.requires.found)

pub at-requires-clause-place : goal.at-requires-clause-place
at-requires-clause-place c = c.requires.ends.1.within

pub at-requires-clause-kept : goal.at-requires-clause-kept
at-requires-clause-kept c = c.requires.found.kept
