-- A script that never hangs on one flat memory never gets stuck.
-- What a history has begun, it has begun on one flat memory without its fetches; what may come next there may come next here.
use Rattle.std.proofs.Common.{ℕ, ◌≡◌, ◌<◌, inl, inr, List, false, length, sym, ap, subst, ◌∙◌}
use Rattle.journal.specs.declared.event.Event.{Event}
use Rattle.journal.specs.declared.event.Kind.{Kind}
use Rattle.journal.specs.DidEvent.{did, event}
use Rattle.journal.specs.WellFormed.{WellFormed}
use Rattle.journal.proofs.Journals.WellFormedStays.{well_formed_stays_push}
use Rattle.journal.proofs.Order.EventPlacesAndCounts.{event_place_at_end}
use Rattle.lrc_script.specs.Plan.{Plan}
use Rattle.conformance.specs.ScriptBegins.{BeginsScript, BeginsSection}
use Rattle.conformance.specs.Follows.{plan_sizes, calls_of, is_fetch, Follows, FollowsSection}
use Rattle.conformance.proofs.WithoutFetches.HistoryWithoutFetches.{without_fetches}
use Rattle.conformance.proofs.WithoutFetches.Runs.{run_calls_without_fetches}
use Rattle.conformance.proofs.WithoutFetches.WellFormed.{well_formed_without_fetches_follow}
use Rattle.explore.specs.Prefixes.FlatBeginnings.{IsFlatBeginning, AreFlatBeginningsRaceFree, IsFlatBeginningHanging}
use Rattle.explore.specs.Prefixes.ScriptCalls.{script_calls_shown_by}
use Rattle.explore.specs.declared.outcomes.answer.Explored.{Explored}
use Rattle.explore.specs.declared.outcomes.telling.Detail.{Detail}
use Rattle.explore.specs.Explored.{IsExploredHanging}
use Rattle.explore.proofs.MachineSteps.{machine_step_next_within}
use Rattle.lrc_explore.specs.Schedules.ExploredLaws.{ExploredScheduleGoesOnLaw, ExploredScheduleNeverHangs, IsExploredScheduleUnfinished, ExploredScheduleNeverStuckLaw}
use Rattle.lrc_explore.proofs.schedules.Begun.{schedule_begun_fetchless_push, schedule_begun_flat_part, schedule_begun_replays_whole}
use Rattle.lrc_explore.proofs.schedules.Deciding.{Decided, decided_some}
use Rattle.lrc_explore.proofs.schedules.Onward.{schedule_onward_decided_next}
use Rattle.lrc_explore.proofs.schedules.Reports.{schedule_report_found}

-- what may come next on one flat memory, where fetches are left out, may come next
module _ (s : Plan) (h : List Event) (well : WellFormed (plan_sizes s) h) (p : ℕ) (k : Kind)
    (flat : IsFlatBeginning s (did (without_fetches h) p k)) where
  schedule_going_call : is_fetch k ≡ false
  schedule_going_call = flat.no_fetch (length (without_fetches h)) (event p k) (event_place_at_end (without_fetches h) (event p k))

  schedule_going_well_longer : WellFormed (plan_sizes s) (did h p k)
  schedule_going_well_longer =
      let may = ((well_formed_stays_push (plan_sizes s) (without_fetches h) (event p k)).0 flat.well_formed).1 in
      (well_formed_stays_push (plan_sizes s) h (event p k)).1 (
        well,
        well_formed_without_fetches_follow (plan_sizes s) h (event p k) well may,
      )

  schedule_going_begins_longer : BeginsScript s (did h p k)
  schedule_going_begins_longer q section at =
      subst (BeginsSection section (script_calls_shown_by s q))
      (ap (λ es. calls_of es q) (sym (schedule_begun_fetchless_push h p k schedule_going_call)) ∙ run_calls_without_fetches q (did h p k))
      (flat.begins q section at)

-- without its fetches a history that isn't whole has begun the script on one flat memory, and isn't whole there
module _ (s : Plan) (h : List Event) (begun : IsExploredScheduleUnfinished s h) (free : AreFlatBeginningsRaceFree s) where
  flat : IsFlatBeginning s (without_fetches h)
  flat =
      schedule_begun_flat_part s h begun.well_formed begun.begins
      (schedule_begun_replays_whole s free h begun.well_formed begun.explained begun.begins)

  schedule_going_unfinished : ¬ Follows s (without_fetches h)
  schedule_going_unfinished follows =
      begun.unfinished (λ p section at.
      subst (FollowsSection section (script_calls_shown_by s p)) (run_calls_without_fetches p h) (follows p section at))

schedule_going_never_hangs : (s : Plan) (d : Detail) (answer : Explored) → ExploredScheduleNeverHangs s d answer → (g : List Event) → ¬ IsFlatBeginningHanging s g
schedule_going_never_hangs s d answer f = subst (IsExploredHanging s) f.hanging f.found.explored.hanging

pub schedule_going_never_stuck : ExploredScheduleNeverStuckLaw
schedule_going_never_stuck s d answer h f stuck = schedule_going_never_hangs s d answer f (without_fetches h) (record {
  beginning = flat s h stuck.begun free;
  unfinished = schedule_going_unfinished s h stuck.begun free;
  stuck = λ p k next.
      let well = stuck.begun.well_formed in
      stuck.stuck p k (schedule_going_call s h well p k next) (schedule_going_well_longer s h well p k next) (schedule_going_begins_longer s h well p k next);
})
  where
    free : AreFlatBeginningsRaceFree s
    free = schedule_report_found s d answer f.found

-- some processor's next call may come, or none may, which would be a hang
pub schedule_going_longer_by_call : ExploredScheduleGoesOnLaw
schedule_going_longer_by_call s d answer h lawful f begun = elim some [
  | inl next ↦ record {
    processor = next.0;
    kind = next.2.0;
    call = schedule_going_call s h begun.well_formed next.0 next.2.0 next.2.1;
    well_formed = schedule_going_well_longer s h begun.well_formed next.0 next.2.0 next.2.1;
    begins = schedule_going_begins_longer s h begun.well_formed next.0 next.2.0 next.2.1;
  }
  | inr none ↦ absurd (schedule_going_never_hangs s d answer f (without_fetches h) (record {
    beginning = flat s h begun free;
    unfinished = schedule_going_unfinished s h begun free;
    stuck = λ p k next. none (p, machine_step_next_within s (without_fetches h) p k next, (k, next));
  }))
]
  where
    free : AreFlatBeginningsRaceFree s
    free = schedule_report_found s d answer f.found

    some : Decided ((p : ℕ) × (p < s.processors) × ((k : Kind) × IsFlatBeginning s (did (without_fetches h) p k)))
    some =
        decided_some (λ p. (k : Kind) × IsFlatBeginning s (did (without_fetches h) p k)) (λ p.
        schedule_onward_decided_next s (without_fetches h) p (flat s h begun free) lawful.but_uneven.one_each) s.processors
