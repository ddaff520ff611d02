-- What a report of a race-free script says.
-- The report's history has no race, and replays; without its fetches it is a whole run on one flat memory, with the same
-- calls. So what its loads answered is an outcome, and stands in the list.
use Rattle.std.proofs.Common.{ℕ, ◌≡◌, ◌<◌, List, [], ◌∷◌, ◌++◌, map, length, Some, slice_get, slice_index_or, refl, sym, ap, subst, ◌∙◌, arith}
use Rattle.std.proofs.lemmas.Bool.{false_from_ne_true}
use Rattle.std.proofs.lemmas.List.{length-map}
use Rattle.std.proofs.lemmas.Option.{same_Some, slice_get-get_or, slice_get_within}
use Rattle.journal.specs.declared.event.Event.{Event}
use Rattle.journal.specs.declared.event.Kind.{Kind}
use Rattle.journal.specs.declared.event.Kind.TheVariants as kind
use Rattle.lrc_script.specs.Plan.{Plan}
use Rattle.conformance.specs.ScriptBegins.{BeginsScript}
use Rattle.conformance.specs.Follows.{calls_of, load_of, FollowsSection}
use Rattle.conformance.proofs.WithoutFetches.HistoryWithoutFetches.{without_fetches}
use Rattle.conformance.proofs.WithoutFetches.Runs.{run_calls_without_fetches}
use Rattle.explore.specs.Prefixes.FlatBeginnings.{AreFlatBeginningsRaceFree, IsFlatBeginningWhole}
use Rattle.explore.proofs.PrefixRuns.Beginnings.{prefix_beginning_of_followed, prefix_beginning_whole_done}
use Rattle.explore.specs.Prefixes.ScriptCalls.{script_calls_shown_by}
use Rattle.conformance.specs.ScriptReports.{AreRepliesOfScriptReport}
use Rattle.explore.specs.declared.outcomes.answer.Explored.{Explored}
use Rattle.explore.specs.Explored.{IsExploredVerdict}
use Rattle.explore.specs.declared.outcomes.telling.Detail.{Detail}
use Rattle.explore.specs.FlatOutcomes.{AreFlatOutcomeReplies, flat_outcome_replies_in}
use Rattle.explore.specs.OutcomeTelling.{AreOutcomeTellingReplies, outcome_telling_of_script, outcome_telling_replies, outcome_telling_steps}
use Rattle.explore.proofs.ToldReplies.{told_replies_end_shown, told_replies_some_rows}
use Rattle.lrc_explore.specs.Schedules.ExploredLaws.{AreExploredScheduleLastWords, ExploredScheduleNeverRaces, ExploredScheduleReportLaw}
use Rattle.lrc_explore.proofs.schedules.Begun.{schedule_begun_flat_part, race_free, schedule_begun_replays_whole}

-- each history shows some replies
schedule_report_shows : (s : Plan) (h : List Event) → (replies : List (List ℕ)) × AreFlatOutcomeReplies s h replies
schedule_report_shows s h =
    let some = told_replies_some_rows s.processors (λ p. flat_outcome_replies_in (calls_of h p)) in
    (some.0, record { long = some.1.long; each = some.1.each })

-- and without its fetches the same
schedule_report_shows_fetchless : (s : Plan) (h : List Event) (replies : List (List ℕ)) → AreFlatOutcomeReplies s h replies
    → AreFlatOutcomeReplies s (without_fetches h) replies
schedule_report_shows_fetchless s h replies are = record {
  long = are.long;
  each = λ p less. are.each p less ∙ ap (λ ks. Some (flat_outcome_replies_in ks)) (sym (run_calls_without_fetches p h));
}

-- the last loads answered what is shown
schedule_report_replies_end : (front : List Kind) (shown : List (ℕ × ℕ))
    → flat_outcome_replies_in (front ++ map load_of shown) ≡ flat_outcome_replies_in front ++ map (λ (x : ℕ × ℕ). x.1) shown
schedule_report_replies_end [] [] = refl
schedule_report_replies_end [] (x ∷ shown) = ap (λ words. x.1 ∷ words) (schedule_report_replies_end [] shown)
schedule_report_replies_end (kind.Load a v ∷ front) shown = ap (λ words. v ∷ words) (schedule_report_replies_end front shown)
schedule_report_replies_end (k ∷ front) shown = schedule_report_replies_end front shown

schedule_report_ends_shown : (calls : List Kind) (shown : List (ℕ × ℕ)) → AreRepliesOfScriptReport calls shown
    → AreExploredScheduleLastWords (flat_outcome_replies_in calls) (map (λ (x : ℕ × ℕ). x.1) shown)
schedule_report_ends_shown calls shown last = record {
  front = flat_outcome_replies_in last.front;
  are = ap flat_outcome_replies_in last.ends ∙ schedule_report_replies_end last.front shown;
}

module _ (s : Plan) (d : Detail) where
  -- of them some are told
  schedule_report_told : List Event → ℕ → List ℕ
  schedule_report_told h p = outcome_telling_replies (outcome_telling_of_script s d) p (outcome_telling_steps s p) 0 (calls_of h p)

  schedule_report_tells : (h : List Event) → (replies : List (List ℕ)) × AreOutcomeTellingReplies s (outcome_telling_of_script s d) h replies
  unfolding schedule_report_told
  schedule_report_tells h = told_replies_some_rows s.processors (schedule_report_told h)

  -- and without its fetches the same
  schedule_report_tells_fetchless : (h : List Event) (replies : List (List ℕ)) → AreOutcomeTellingReplies s (outcome_telling_of_script s d) h replies
      → AreOutcomeTellingReplies s (outcome_telling_of_script s d) (without_fetches h) replies
  schedule_report_tells_fetchless h replies are = record {
    long = are.long;
    each = λ p less.
        are.each p less
        ∙ ap (λ ks. Some (outcome_telling_replies (outcome_telling_of_script s d) p (outcome_telling_steps s p) 0 ks)) (sym (run_calls_without_fetches p h));
  }

  -- those of processor 0 end with what is shown
  schedule_report_ends_told : (calls : List Kind) (shown : List (ℕ × ℕ)) → AreRepliesOfScriptReport calls shown
      → length calls ≡ length (outcome_telling_steps s 0) → length shown ≡ length s.shown
      → AreExploredScheduleLastWords (outcome_telling_replies (outcome_telling_of_script s d) 0 (outcome_telling_steps s 0) 0 calls) (map (λ (x : ℕ × ℕ). x.1) shown)
  schedule_report_ends_told calls shown last whole many = record {
    front = outcome_telling_replies (outcome_telling_of_script s d) 0 (outcome_telling_steps s 0) 0 last.front;
    are = told_replies_end_shown s d last.front shown calls last.ends whole many;
  }

-- a script that was found race-free is
pub schedule_report_found : (s : Plan) (d : Detail) (answer : Explored) → ExploredScheduleNeverRaces s d answer → AreFlatBeginningsRaceFree s
schedule_report_found s d answer f = subst (IsExploredVerdict s) f.verdict f.explored.verdict

pub schedule_report_law : ExploredScheduleReportLaw
schedule_report_law s d answer r f is = record {
  race_free = false_from_ne_true r.racy
      (λ yes. let race = is.tells.racy.0 yes in
      race_free s free h is.tells.well_formed is.tells.explained begins race.0 race.1 race.2);
  listed = λ all. record {
    answered = shown.0;
    are = shown.1;
    replies = told.0;
    told = told.1;
    listed = f.explored.all all told.0 (without_fetches h, whole, schedule_report_tells_fetchless s d h told.0 told.1);
    shown = ends;
    ends = told_ends;
  };
}
  where
    h : List Event
    h = is.history

    free : AreFlatBeginningsRaceFree s
    free = schedule_report_found s d answer f

    begins : BeginsScript s h
    begins = prefix_beginning_of_followed s h is.tells.follows

    whole : IsFlatBeginningWhole s (without_fetches h)
    whole = record {
      beginning =
          schedule_begun_flat_part s h is.tells.well_formed begins
          (schedule_begun_replays_whole s free h is.tells.well_formed is.tells.explained begins);
      follows = λ p section at.
          subst (FollowsSection section (script_calls_shown_by s p)) (sym (run_calls_without_fetches p h)) (is.tells.follows p section at);
    }

    shown : (replies : List (List ℕ)) × AreFlatOutcomeReplies s h replies
    shown = schedule_report_shows s h

    told : (replies : List (List ℕ)) × AreOutcomeTellingReplies s (outcome_telling_of_script s d) h replies
    told = schedule_report_tells s d h

    all_called : 0 < length s.sections → length (calls_of h 0) ≡ length (outcome_telling_steps s 0)
    all_called within =
        ap (λ (ks : List Kind). length ks) (sym (run_calls_without_fetches 0 h))
        ∙ (prefix_beginning_whole_done s (without_fetches h) whole.beginning).0 whole.follows 0 (slice_index_or s.sections 0 [])
        (slice_get-get_or s.sections 0 [] within)

    many : length r.shown.items ≡ length s.shown
    many =
        sym (length-map r.shown.items (λ (x : ℕ × ℕ). x.0)) ∙ ap (λ (xs : List ℕ). length xs) is.tells.shown_addresses

    ends : (words : List ℕ) → slice_get shown.0 0 ≡ Some words → AreExploredScheduleLastWords words (map (λ (x : ℕ × ℕ). x.1) r.shown.items)
    ends words at =
        let less = slice_get_within shown.0 0 words at in
        let long = shown.1.long in
        let first = shown.1.each 0 (omega (arith, less, long)) in
        subst (λ ws. AreExploredScheduleLastWords ws (map (λ (x : ℕ × ℕ). x.1) r.shown.items)) (same_Some _ _ (sym first ∙ at))
        (schedule_report_ends_shown (calls_of h 0) r.shown.items is.tells.replies)

    told_ends : length s.sections ≡ s.processors → (words : List ℕ) → slice_get told.0 0 ≡ Some words
        → AreExploredScheduleLastWords words (map (λ (x : ℕ × ℕ). x.1) r.shown.items)
    told_ends one words at =
        let less = slice_get_within told.0 0 words at in
        let long = told.1.long in
        let first = told.1.each 0 (omega (arith, less, long)) in
        subst (λ ws. AreExploredScheduleLastWords ws (map (λ (x : ℕ × ℕ). x.1) r.shown.items)) (same_Some _ _ (sym first ∙ at))
        (schedule_report_ends_told s d (calls_of h 0) r.shown.items is.tells.replies (all_called (omega (arith, less, long, one))) many)
