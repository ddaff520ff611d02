-- What was found of the script that the source had, and was written.
use Rattle.std.proofs.Common.{◌≡◌, ◌≢◌, ◌<◌, ◌≤◌, ◌⊎◌, arith, Bool, false, List, [], ℕ, Option, Result, Ok, Err, subst, sym}
use Rattle.std.specs.Prelude.{IfOk, min}
use Rattle.std.specs.Io.KnownBytes.{Keeps}
use Rattle.std.proofs.KnownBytes.{Keeps-refl}
use Rattle.explore.specs.EndingWords.{IsExploredUntil}
use Rattle.explore.specs.Explored.{IsExplored, is_explored_settled}
use Rattle.explore.specs.declared.outcomes.answer.Explored.{Explored}
use Rattle.explore.specs.declared.outcomes.telling.Detail.{Detail}
use Rattle.explore.specs.declared.outcomes.showing.ExploredUntil.{ExploredUntil}
use Rattle.lrc_explore.specs.ExploreTexts.{ExploreTextUnwritten}
use Rattle.lrc_explore.specs.Showings.{AreShowingWords}
use Rattle.lrc_explore.specs.declared.fault.ExploreFault.{ExploreFault}
use Rattle.lrc_explore.specs.declared.fault.ExploreFault.TheVariants.{NoMemory}
use Rattle.lrc_script.specs.Plan.{Plan}
use Rattle.explore.specs.MemoryShown.{ComesBySchedule}
use Rattle.explore.specs.StateRoom.{state_room_at_most}
use Rattle.lrc_program.specs.Served.{IsServedScriptRead}
use Rattle.lrc_options.specs.declared.options.ExploreOptions.{ExploreOptions}
use Rattle.lrc_exploring.specs.ExploreAnswers.{AreSchedulesExplored, AreWordsExplored, ExploreAnswerTold, ExploreAnswerWritten, ExploreCommandWritten, IsExploreAnswerTo, IsHangEnough, IsScheduleAnswerTo, explore_detail, is_explore_answer_settled}
use Rattle.lrc_exploring.specs.declared.answer.ExploreAnswer.{ExploreAnswer}
use Rattle.lrc_exploring.specs.declared.answer.ExploreAnswer.TheVariants.{Schedules, Open, Rules, Until, RulesUntil}

-- so many states at most were looked at, in the detail that was asked for
pub told_schedules : (o : ExploreOptions) (s : Plan) (d : Detail) (most : ℕ) (explored : Explored) → o.until.items ≡ [] → d ≡ explore_detail o.outcomes
    → most ≤ o.most → IsExplored s d most explored
    → (is_explored_settled explored ≡ false → (state_room_at_most s d o.most < explored.states) ⊎ IsHangEnough o most explored)
    → AreSchedulesExplored o s explored
told_schedules o s d most explored all detail within is given_up = record {
  all = all;
  most = most;
  within = within;
  is = subst (λ x. IsExplored s x most explored) detail is;
  given_up =
      subst (λ x. is_explored_settled explored ≡ false → (state_room_at_most s x o.most < explored.states) ⊎ IsHangEnough o most explored) detail given_up;
}

-- an answer of schedules is one to what the options ask for
pub told_schedule_answer : (comes : ComesBySchedule) (o : ExploreOptions) (s : Plan) (answer : ExploreAnswer) → IsScheduleAnswerTo o s answer
    → IsExploreAnswerTo comes o s answer
told_schedule_answer comes o s (Schedules explored) is = is
told_schedule_answer comes o s (Open explored gaps) is = is
told_schedule_answer comes o s (Rules explored allowed shown) is = absurd is
told_schedule_answer comes o s (Until explored) is = absurd is
told_schedule_answer comes o s (RulesUntil explored allowed shown) is = absurd is

-- more states are found than fit
pub told_more_than_fit : (a m r n : ℕ) → min a r < n → n ≤ a → min m r < n
told_more_than_fit a m r n past few = omega arith

-- the words were looked for that were asked for
pub told_words : (o : ExploreOptions) (s : Plan) (d : Detail) (words : List (ℕ × ℕ)) (explored : ExploredUntil) → o.until.items ≢ []
    → d ≡ explore_detail o.outcomes → words ≡ o.until.items → IsExploredUntil s d words o.most explored → AreShowingWords s.shown words
    → AreWordsExplored o s explored
told_words o s d words explored some detail same is shown = record {
  some = some;
  is =
      subst (λ x. IsExploredUntil s x o.until.items o.most explored) detail (subst (λ ws. IsExploredUntil s d ws o.most explored) same is);
  shown = subst (AreShowingWords s.shown) same shown;
}

-- an answer that is written is told
pub told_answer : {E : Type 0} (comes : ComesBySchedule) (o : ExploreOptions) (script : Plan) (answer : ExploreAnswer) (old new : Option (List ℕ))
    (result : Result Bool E) → IsExploreAnswerTo comes o script answer → IfOk result (λ settled. settled ≡ is_explore_answer_settled answer)
    → IfOk result (λ _. ExploreAnswerWritten o.json answer old new) → IfOk result (λ decided. ExploreAnswerTold comes o decided script old new)
told_answer comes o script answer old new (Ok decided) is settled written =
    record { answer = answer; is = is; decided_is = settled; written = written }
told_answer comes o script answer old new (Err fault) is settled written = tt

-- so it is of the script that was read
pub told_answer_of_source : {E : Type 0} (comes : ComesBySchedule) (o : ExploreOptions) (script : Plan) (source old new : Option (List ℕ))
    (result : Result Bool E) → IsServedScriptRead source script → IfOk result (λ decided. ExploreAnswerTold comes o decided script old new)
    → IfOk result (λ decided. ExploreCommandWritten comes o decided source old new)
told_answer_of_source comes o script source old new (Ok decided) read told = record { script = script; read = read; told = told }
told_answer_of_source comes o script source old new (Err fault) read told = tt

-- unless the output failed, nothing was written
pub told_unwritten : (old new : Option (List ℕ)) (fault : ExploreFault) → fault ≡ NoMemory → ExploreTextUnwritten old new fault → Keeps old new
told_unwritten old new fault is unwritten =
    let same : new ≡ old = subst (ExploreTextUnwritten old new) is unwritten in subst (Keeps old) (sym same) (Keeps-refl old)
