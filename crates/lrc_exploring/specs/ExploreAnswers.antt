-- What is said of what the command finds in a script.
use Rattle.std.specs.Prelude.{ℕ, ◌≡◌, ◌≢◌, ◌<◌, ◌≤◌, ◌^◌, ◌⊎◌, ⊤, Bool, true, false, List, [], Option}
use Rattle.std.specs.Io.KnownBytes.{Appends}
use Rattle.lrc_script.specs.Plan.{Plan}
use Rattle.explore.specs.AllowedRuns.{AreAllowedRunOutcomes}
use Rattle.explore.specs.AllowedUntil.{IsAllowedUntil, is_allowed_until_settled}
use Rattle.explore.specs.Explored.{IsExplored, is_explored_settled}
use Rattle.explore.specs.EndingWords.{IsExploredUntil, are_ending_words_settled}
use Rattle.explore.specs.declared.rules.showing.AllowedOutcomes.{AllowedOutcomes}
use Rattle.explore.specs.declared.rules.showing.AllowedUntil.{AllowedUntil}
use Rattle.explore.specs.declared.outcomes.answer.Explored.{Explored}
use Rattle.explore.specs.declared.outcomes.answer.Hanging.{Hanging}
use Rattle.explore.specs.declared.outcomes.answer.Hanging.TheVariants.{Hangs}
use Rattle.explore.specs.declared.outcomes.answer.Verdict.{Verdict}
use Rattle.explore.specs.declared.outcomes.answer.Verdict.TheVariants.{Racy}
use Rattle.explore.specs.declared.outcomes.telling.Detail.{Detail}
use Rattle.explore.specs.declared.outcomes.telling.Detail.TheVariants as detail
use Rattle.explore.specs.declared.outcomes.showing.ExploredUntil.{ExploredUntil}
use Rattle.explore.specs.declared.outcomes.showing.Showing.{Showing}
use Rattle.explore.specs.declared.outcomes.showing.Showing.TheVariants as showing
use Rattle.lrc_explore.specs.AllowedShowings.{AllowedShowingWritten}
use Rattle.lrc_explore.specs.AllowedTexts.{AllowedTextWritten}
use Rattle.lrc_explore.specs.ExploreTexts.{ExploreTextWritten}
use Rattle.lrc_explore.specs.OpenTexts.{OpenTextWritten}
use Rattle.explore.specs.StateRoom.{state_room_at_most}
use Rattle.explore.specs.TextGaps.{AreTextGaps}
use Rattle.explore.specs.MemoryShown.{ComesBySchedule, IsMemoryShown, IsMemoryUntil}
use Rattle.lrc_explore.specs.Showings.{AreShowingWords, ShowingWritten}
use Rattle.explore.specs.declared.memory.shown.MemoryShown.{MemoryShown}
use Rattle.explore.specs.declared.memory.shown.MemoryUntil.{MemoryUntil}
use Rattle.lrc_options.specs.declared.options.ExploreOptions.{ExploreOptions}
use Rattle.lrc_options.specs.declared.options.OutcomeDetail.{OutcomeDetail}
use Rattle.lrc_options.specs.declared.options.OutcomeDetail.TheVariants as outcomes
use Rattle.lrc_program.specs.Served.{IsServedScriptRead}
use Rattle.lrc_exploring.specs.declared.answer.ExploreAnswer.{ExploreAnswer}
use Rattle.lrc_exploring.specs.declared.answer.ExploreAnswer.TheVariants.{Schedules, Open, Rules, Until, RulesUntil}
use Rattle.lrc_exploring.specs.ExploreJson.{IsAllowedJson, IsAllowedShowingJson, IsExploredJson, IsOpenJson, IsShowingJson}

-- what outcomes tell, by the options
abbrev pub explore_detail : OutcomeDetail → Detail
explore_detail outcomes.Words = detail.Words
explore_detail outcomes.Loads = detail.Loads
explore_detail outcomes.All = detail.All

-- a schedule races
abbrev pub IsRacyVerdict : Verdict → Type 0
IsRacyVerdict (Racy racy) = ⊤
IsRacyVerdict _ = ⊥

-- one was met as words were looked for
abbrev pub IsRacyShowing : Showing → Type 0
IsRacyShowing (showing.Racy racy) = ⊤
IsRacyShowing _ = ⊥

-- a schedule hangs
abbrev pub IsHangMet : Hanging → Type 0
IsHangMet (Hangs hang) = ⊤
IsHangMet _ = ⊥

-- a hang is enough, found among so many states: the options ask for no other number than the default
pub record IsHangEnough (o : ExploreOptions) (most : ℕ) (explored : Explored) : Type 0 where
  pub default : o.most ≡ 1000000
  pub first : most ≡ 2 ^ 16
  pub hangs : IsHangMet explored.hanging

-- the script's schedules were looked at, that many states at most; if something is open, there are more, or more than fit, or a hang was enough
pub record AreSchedulesExplored (o : ExploreOptions) (s : Plan) (explored : Explored) : Type 0 where
  pub all : o.until.items ≡ []
  pub most : ℕ
  pub within : most ≤ o.most
  pub is : IsExplored s (explore_detail o.outcomes) most explored
  pub given_up : is_explored_settled explored ≡ false
      → (state_room_at_most s (explore_detail o.outcomes) o.most < explored.states) ⊎ IsHangEnough o most explored

-- a run that ends with the words, which the script shows, was looked for, in that many states at most
pub record AreWordsExplored (o : ExploreOptions) (s : Plan) (explored : ExploredUntil) : Type 0 where
  pub some : o.until.items ≢ []
  pub is : IsExploredUntil s (explore_detail o.outcomes) o.until.items o.most explored
  pub shown : AreShowingWords s.shown o.until.items

-- of a racy script it has all that the rules allow, in that many beginnings of runs at most, and outcomes that this memory shows
pub record AreRulesExplored (comes : ComesBySchedule) (o : ExploreOptions) (s : Plan) (explored : Explored) (allowed : AllowedOutcomes)
    (shown : MemoryShown) : Type 0 where
  pub schedules : AreSchedulesExplored o s explored
  pub racy : IsRacyVerdict explored.verdict
  pub are : AreAllowedRunOutcomes s (explore_detail o.outcomes) o.most allowed
  pub memory : IsMemoryShown comes s (explore_detail o.outcomes) shown

-- if words are asked for, whether the rules allow a run that ends with them
pub record AreRulesExploredUntil (comes : ComesBySchedule) (o : ExploreOptions) (s : Plan) (explored : ExploredUntil) (allowed : AllowedUntil)
    (shown : MemoryShown) : Type 0 where
  pub words : AreWordsExplored o s explored
  pub racy : IsRacyShowing explored.showing
  pub is : IsAllowedUntil s (explore_detail o.outcomes) o.until.items o.most allowed
  pub memory : IsMemoryShown comes s (explore_detail o.outcomes) shown

-- of a script that no schedule was found to race, its schedules were looked at; if something is open, its text was looked at, too
abbrev pub IsScheduleAnswerTo : ExploreOptions → Plan → ExploreAnswer → Type 0
IsScheduleAnswerTo o s (Schedules explored) = AreSchedulesExplored o s explored × (¬ IsRacyVerdict explored.verdict)
IsScheduleAnswerTo o s (Open explored gaps) = AreSchedulesExplored o s explored × (¬ IsRacyVerdict explored.verdict) × AreTextGaps s gaps
IsScheduleAnswerTo _ _ _ = ⊥

-- what the options ask for was looked for; the rules are asked of a racy script alone
abbrev pub IsExploreAnswerTo : ComesBySchedule → ExploreOptions → Plan → ExploreAnswer → Type 0
IsExploreAnswerTo comes o s (Schedules explored) = IsScheduleAnswerTo o s (Schedules explored)
IsExploreAnswerTo comes o s (Open explored gaps) = IsScheduleAnswerTo o s (Open explored gaps)
IsExploreAnswerTo comes o s (Rules explored allowed shown) = AreRulesExplored comes o s explored allowed shown
IsExploreAnswerTo comes o s (Until explored) = AreWordsExplored o s explored × (¬ IsRacyShowing explored.showing)
IsExploreAnswerTo comes o s (RulesUntil explored allowed shown) = AreRulesExploredUntil comes o s explored allowed shown

-- nothing is open
abbrev pub is_explore_answer_settled : ExploreAnswer → Bool
is_explore_answer_settled (Schedules explored) = is_explored_settled explored
is_explore_answer_settled (Open explored gaps) = is_explored_settled explored
is_explore_answer_settled (Rules explored allowed shown) = allowed.are_all
is_explore_answer_settled (Until explored) = are_ending_words_settled explored.showing
is_explore_answer_settled (RulesUntil explored allowed shown) = is_allowed_until_settled allowed.showing

-- the text of whether the rules allow a run that ends with words was written, with what this memory shows
pub record RulesUntilTextWritten (explored : ExploredUntil) (allowed : AllowedUntil) (shown : MemoryShown) (old new : Option (List ℕ))
    : Type 0 where
  pub until : MemoryUntil
  pub is : IsMemoryUntil shown until
  pub written : AllowedShowingWritten old new explored allowed until

-- the text of what was found was written
abbrev pub ExploreAnswerTextWritten : ExploreAnswer → Option (List ℕ) → Option (List ℕ) → Type 0
ExploreAnswerTextWritten (Schedules explored) old new = ExploreTextWritten old new explored
ExploreAnswerTextWritten (Open explored gaps) old new = OpenTextWritten old new explored
ExploreAnswerTextWritten (Rules explored allowed shown) old new = AllowedTextWritten old new explored allowed
ExploreAnswerTextWritten (Until explored) old new = ShowingWritten old new explored
ExploreAnswerTextWritten (RulesUntil explored allowed shown) old new = RulesUntilTextWritten explored allowed shown old new

-- the JSON of what was found
abbrev pub IsExploreAnswerJson : ExploreAnswer → List ℕ → Type 0
IsExploreAnswerJson (Schedules explored) json = IsExploredJson explored json
IsExploreAnswerJson (Open explored gaps) json = IsOpenJson explored json
IsExploreAnswerJson (Rules explored allowed shown) json = IsAllowedJson explored allowed json
IsExploreAnswerJson (Until explored) json = IsShowingJson explored json
IsExploreAnswerJson (RulesUntil explored allowed shown) json = IsAllowedShowingJson explored allowed json

-- the text of it was written, or its JSON
abbrev pub ExploreAnswerWritten : Bool → ExploreAnswer → Option (List ℕ) → Option (List ℕ) → Type 0
ExploreAnswerWritten true answer old new = (json : List ℕ) × IsExploreAnswerJson answer json × Appends old new json
ExploreAnswerWritten false answer old new = ExploreAnswerTextWritten answer old new

-- what the options ask for was looked for in the script, and what was found was written
pub record ExploreAnswerTold (comes : ComesBySchedule) (o : ExploreOptions) (decided : Bool) (script : Plan) (old new : Option (List ℕ))
    : Type 0 where
  pub answer : ExploreAnswer
  pub is : IsExploreAnswerTo comes o script answer
  pub decided_is : decided ≡ is_explore_answer_settled answer
  pub written : ExploreAnswerWritten o.json answer old new

-- so it was of the script that the source had
pub record ExploreCommandWritten (comes : ComesBySchedule) (o : ExploreOptions) (decided : Bool) (source old new : Option (List ℕ))
    : Type 0 where
  pub script : Plan
  pub read : IsServedScriptRead source script
  pub told : ExploreAnswerTold comes o decided script old new
