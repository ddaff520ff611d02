-- What a script's runs came to, one run after another.
use Rattle.std.proofs.Common.{◌≡◌, ◌∙◌, ◌+◌, ◌-◌, ◌^◌, ◌<◌, ◌≤◌, ℕ, zero, suc, inl, inr, List, [], ◌∷◌, ◌++◌, Option, Some, None, length, map, slice_get, ap, sym, subst, refl, arith}
use Rattle.std.specs.List.{sum_by}
use Rattle.std.proofs.lemmas.List.{length-append}
use Rattle.std.proofs.lemmas.Option.{none-some, same_Some}
use Rattle.base.specs.InOrderOnce.{Has}
use Rattle.base.proofs.SlicesAndCounts.{slice_push_cases}
use Rattle.lrc_script.specs.Plan.{Plan}
use Rattle.conformance.specs.declared.ended.Ended.{Ended}
use Rattle.conformance.specs.declared.ended.Ended.TheVariants.{Halted, Whole}
use Rattle.conformance.specs.declared.schedule.DrawnRun.{DrawnRun}
use Rattle.conformance.specs.OrderedTurns.{IsEndByOrderedTurns}
use Rattle.conformance.specs.ScheduleTexts.{schedule_orders}
use Rattle.lrc_sample.specs.declared.detail.SampleDetail.{SampleDetail}
use Rattle.lrc_sample.specs.declared.outcome.SampleOutcome.{SampleOutcome}
use Rattle.lrc_sample.specs.declared.sampled_run.SampledRun.{SampledRun}
use Rattle.lrc_sample.specs.declared.tally.TallyLine.{TallyLine}
use Rattle.lrc_sample.specs.declared.sampling.Sampled.{Sampled}
use Rattle.lrc_sample.specs.TallyOrder.{IsTallyOrderByFrequency, IsTallyOrderAsSeen, IsTallyOrderStarted}
use Rattle.lrc_sample.specs.SampleOutcomes.{IsSampleOutcomeOf, sample_outcome_of_end}
use Rattle.lrc_sample.specs.SampleRuns.{AreSampleRuns, AreSampleRunsInMaking, IsSampleOfRuns, IsSampleRun, IsSampleRunTold, SampleRunShows, sample_runs_came_to, sample_run_schedules}
use Rattle.lrc_sample.specs.Tally.{IsTallyShown, TallyCountsOutcomes, tally_place_of_seed, tally_times_of}
use Rattle.lrc_sample.proofs.TellingLaws.{telling_law_first_run}

-- what a function makes of one item more
tallied_runs_map_push : {A B : Type 0} (f : A → B) (xs : List A) (x : A) → map f (xs ++ x ∷ []) ≡ map f xs ++ f x ∷ []
tallied_runs_map_push f [] x = refl
tallied_runs_map_push f (y ∷ xs) x = ap (λ ys. f y ∷ ys) (tallied_runs_map_push f xs x)

-- as many
tallied_runs_map_length : {A B : Type 0} (f : A → B) (xs : List A) → length (map f xs) ≡ length xs
tallied_runs_map_length f [] = refl
tallied_runs_map_length f (x ∷ xs) = ap suc (tallied_runs_map_length f xs)

-- where a function's value stands
tallied_runs_map_at : {A B : Type 0} (f : A → B) (xs : List A) (k : ℕ) (y : B) → slice_get (map f xs) k ≡ Some y
    → (x : A) × ((slice_get xs k ≡ Some x) × (f x ≡ y))
tallied_runs_map_at f [] k y at = absurd (none-some y at)
tallied_runs_map_at f (x ∷ xs) zero y at = (x, (refl, same_Some (f x) y at))
tallied_runs_map_at f (x ∷ xs) (suc k) y at = tallied_runs_map_at f xs k y at

-- a run's number tells its seed
tallied_runs_seeds_agree : (a b : Option ℕ) → tally_place_of_seed a ≡ tally_place_of_seed b → a ≡ b
tallied_runs_seeds_agree None None same = refl
tallied_runs_seeds_agree None (Some b) same = absurd (omega (arith, same))
tallied_runs_seeds_agree (Some a) None same = absurd (omega (arith, same))
tallied_runs_seeds_agree (Some a) (Some b) same = ap Some (omega (arith, same))

-- how a run ended is what it came to
tallied_runs_show_end : (d : SampleDetail) (s : Plan) (orders : ℕ → List ℕ) (e : Ended) → IsEndByOrderedTurns s orders e
    → IsSampleOutcomeOf d s orders (sample_outcome_of_end d s e)
tallied_runs_show_end d s orders (Whole report) by = (report, (by, refl))
tallied_runs_show_end d s orders (Halted halt) by = (halt, by, refl)

-- before the first run
pub tallied_runs_none : (came : Plan → Option ℕ → DrawnRun → Type 0) (d : SampleDetail) (s : Plan) → AreSampleRunsInMaking came d s 0 []
tallied_runs_none came d s = record {
  runs = [];
  are = record { many = refl; each = λ seed run at. absurd (none-some run at) };
  noted = record {
    tally = record {
      each = λ line has. absurd (none-some line has.1);
      once = λ i k a b at_a at_b e. absurd (none-some a at_a);
      all = λ o has. absurd (none-some o has.1);
      sum = refl;
      kinds = λ is. refl;
    };
    seen = λ i k a b less at_a at_b. absurd (none-some a at_a);
  };
  shown = λ line has. absurd (none-some line has.1);
}

-- one run more
tallied_runs_next : {came : Plan → Option ℕ → DrawnRun → Type 0} {d : SampleDetail} {s : Plan} {seed : Option ℕ} {run : DrawnRun} {old new : List TallyLine} (is : AreSampleRunsInMaking came d s (tally_place_of_seed seed) old) → IsSampleRun came s seed run
    → IsTallyOrderStarted (sample_runs_came_to d s is.runs ++ sample_outcome_of_end d s run.ended ∷ []) new
    → IsTallyShown (sample_run_schedules is.runs ++ run.schedule.turns.items ∷ []) new → AreSampleRunsInMaking came d s (tally_place_of_seed seed + 1) new
tallied_runs_next {came = came} {d = d} {s = s} {seed = seed} {run = run} {new = new} is one noted shown = record {
  runs = is.runs ++ run ∷ [];
  are = record { many = omega (arith, length-append is.runs (run ∷ []), is.are.many); each = each };
  noted = subst (λ os. IsTallyOrderStarted os new)
      (sym (tallied_runs_map_push (λ (r : DrawnRun). sample_outcome_of_end d s r.ended) is.runs run)) noted;
  shown = subst (λ turns. IsTallyShown turns new)
      (sym (tallied_runs_map_push (λ (r : DrawnRun). r.schedule.turns.items) is.runs run)) shown;
}
  where
    each : (other : Option ℕ) (x : DrawnRun) → slice_get (is.runs ++ run ∷ []) (tally_place_of_seed other) ≡ Some x
        → IsSampleRun came s other x
    each other x at = elim (slice_push_cases is.runs run (tally_place_of_seed other) x at) [
      | inl before ↦ is.are.each other x before.1
      | inr last ↦
          (let same : seed ≡ other = tallied_runs_seeds_agree seed other (omega (arith, last.0, is.are.many)) in
          subst (IsSampleRun came s other) last.1 (subst (λ a. IsSampleRun came s a run) same one))
    ]

-- the runs have as many outcomes and schedules
tallied_runs_counted : (came : Plan → Option ℕ → DrawnRun → Type 0) (d : SampleDetail) (s : Plan) (n : ℕ) (lines : List TallyLine)
    (is : AreSampleRunsInMaking came d s n lines) → (n ≡ length (sample_runs_came_to d s is.runs)) × (n ≡ length (sample_run_schedules is.runs))
tallied_runs_counted came d s n lines is =
    let outcomes = tallied_runs_map_length (λ (r : DrawnRun). sample_outcome_of_end d s r.ended) is.runs in
    let schedules = tallied_runs_map_length (λ (r : DrawnRun). r.schedule.turns.items) is.runs in
    (omega (arith, outcomes, is.are.many), omega (arith, schedules, is.are.many))

-- the counts fit
pub tallied_runs_few : (came : Plan → Option ℕ → DrawnRun → Type 0) (d : SampleDetail) (s : Plan) (n : ℕ) (lines : List TallyLine) → n ≤ 2 ^ 32
    → AreSampleRunsInMaking came d s n lines → sum_by tally_times_of lines < 2 ^ 64 - 1
tallied_runs_few came d s n lines few is = omega (arith, few, is.noted.tally.sum, (tallied_runs_counted came d s n lines is).0)

-- one run more, which is told, as it is noted
pub tallied_runs_noted : {came : Plan → Option ℕ → DrawnRun → Type 0} {d : SampleDetail} {s : Plan} {seed : Option ℕ} {told : SampledRun} {old new : List TallyLine} → AreSampleRunsInMaking came d s (tally_place_of_seed seed) old → IsSampleRunTold came d s seed told
    → ((schedules : List (List ℕ)) → IsTallyShown schedules old → tally_place_of_seed seed ≡ length schedules
    → IsTallyShown (schedules ++ told.schedule.turns.items ∷ []) new)
    → ((outcomes : List SampleOutcome) → IsTallyOrderStarted outcomes old → tally_place_of_seed seed ≡ length outcomes
    → IsTallyOrderStarted (outcomes ++ told.outcome ∷ []) new)
    → AreSampleRunsInMaking came d s (tally_place_of_seed seed + 1) new
tallied_runs_noted {came = came} {d = d} {s = s} {seed = seed} {old = old} {new = new} is one shown noted =
    let many = tallied_runs_counted came d s (tally_place_of_seed seed) old is in
    let schedules = sample_run_schedules is.runs in
    let outcomes = sample_runs_came_to d s is.runs in
    tallied_runs_next is one.is (subst (λ o. IsTallyOrderStarted (outcomes ++ o ∷ []) new) one.outcome (noted outcomes is.noted many.0))
    (subst (λ turns. IsTallyShown (schedules ++ turns ∷ []) new) one.schedule (shown schedules is.shown many.1))

-- a line's schedule shows its outcome
tallied_runs_shown_by_schedule : (d : SampleDetail) {came : Plan → Option ℕ → DrawnRun → Type 0} {s : Plan} {n : ℕ} {runs : List DrawnRun} {lines : List TallyLine} → AreSampleRuns came s n runs → TallyCountsOutcomes (sample_runs_came_to d s runs) lines
    → IsTallyShown (sample_run_schedules runs) lines → (line : TallyLine) → Has lines line
    → SampleRunShows d s line.schedule.turns.items line.outcome
tallied_runs_shown_by_schedule d {came = came} {s = s} {runs = runs} {lines = lines} are tally shown line has =
    let told = telling_law_first_run (sample_runs_came_to d s runs) lines line tally has in
    let a = tallied_runs_map_at (λ (r : DrawnRun). sample_outcome_of_end d s r.ended) runs (tally_place_of_seed line.seed) line.outcome told.came in
    let b = tallied_runs_map_at (λ (r : DrawnRun). r.schedule.turns.items) runs (tally_place_of_seed line.seed) line.schedule.turns.items
    (shown line has) in
    let same : b.0 ≡ a.0 = same_Some b.0 a.0 (sym b.1.0 ∙ a.1.0) in
    let turns : a.0.schedule.turns.items ≡ line.schedule.turns.items =
    ap (λ (r : DrawnRun). r.schedule.turns.items) (sym same) ∙ b.1.1 in
    let by = (are.each line.seed a.0 a.1.0).by_turns in
    subst (λ t. SampleRunShows d s t line.outcome) turns
    (subst (SampleRunShows d s a.0.schedule.turns.items) a.1.1 (tallied_runs_show_end d s (schedule_orders s a.0.schedule.turns.items) a.0.ended by))

-- in order
pub tallied_runs_are_sample : (came : Plan → Option ℕ → DrawnRun → Type 0) (d : SampleDetail) (s : Plan) (n : ℕ) (old : List TallyLine)
    (sampled : Sampled) (is : AreSampleRunsInMaking came d s n old)
    → ((os : List SampleOutcome) → TallyCountsOutcomes os old → TallyCountsOutcomes os sampled.lines.items)
    → ((turns : List (List ℕ)) → IsTallyShown turns old → IsTallyShown turns sampled.lines.items)
    → (IsTallyOrderAsSeen old → IsTallyOrderByFrequency sampled.lines.items) → IsSampleOfRuns came d s n sampled
tallied_runs_are_sample came d s n old sampled is tally shown order =
    let counts = tally (sample_runs_came_to d s is.runs) is.noted.tally in
    let by = shown (sample_run_schedules is.runs) is.shown in
    record {
      runs = is.runs;
      are = is.are;
      tally = counts;
      shown = by;
      shows = tallied_runs_shown_by_schedule d is.are counts by;
      order = order is.noted.seen;
    }
