-- A judge of histories by the events that it was told.
use Rattle.std.specs.Prelude.{ℕ, ◌≡◌, Bool, false, Option, IfSome, MatchOption, List, [], ◌∷◌, ◌++◌, ◌<◌, length}
use Rattle.journal.specs.declared.event.Event.{Event}
use Rattle.journal.specs.Sizes.{addresses}
use Rattle.judge.specs.declared.due_counts.DueCounts.{DueCounts}
use Rattle.judge.specs.declared.sizes.Sizes.{Sizes}
use Rattle.judge.specs.declared.models.MemoryModel.{MemoryModel}
use Rattle.judge.specs.declared.models.MemoryModel.TheVariants.{LazyRelease}
use Rattle.judge.specs.DueCounts.{TellsDueCounts}
use Rattle.judge.specs.NearestRaces.{AreNearestRacesOf}
use Rattle.judge.specs.LaxWellFormed.{MayFollowOrLax}
use Rattle.judge.specs.Miscounted.{IsEventInSizes}
use Rattle.judge.specs.Owed.{AreOwedBy, IsOwedRacy}
use Rattle.judge.specs.JudgedSizes.{judged_sizes_of, most_judged_events}
use Rattle.judge.specs.FrontTells.{FrontTellsHistory}
use Rattle.lrc_check.specs.declared.trace_judge.TraceJudge.{TraceJudge}
use Rattle.lrc_check.specs.CheckVerdicts.{IsCheckVerdictRace}
use Rattle.lrc_check.specs.Faithful.{IsFaithfulAndCounted}
use Rattle.lrc_check.specs.RacingWords.{IsRacingWordsOf}

-- what fetches have to count is kept exactly if that is judged, and tells the history
abbrev pub TraceJudgeHasCounts : MemoryModel → Bool → Sizes → List Event → Option DueCounts → Type 0
TraceJudgeHasCounts m lax s j counts = MatchOption counts (m ≡ LazyRelease → ¬ (lax ≡ false))
    (λ d. (m ≡ LazyRelease) × (lax ≡ false) × (d.stored.sizes ≡ s) × TellsDueCounts j d)

-- these events are faithful, and the judge was told them
pub record IsTraceJudgeOf (j : List Event) (x : TraceJudge) : Type 0 where
  pub faithful : IsFaithfulAndCounted x.model x.lax (judged_sizes_of x.sizes) j
  pub race : IsCheckVerdictRace j x.race
  pub front : FrontTellsHistory j x.front
  pub front_sizes : x.front.sizes ≡ x.sizes
  pub races : AreNearestRacesOf j x.races
  pub processors : x.races.processors ≡ x.sizes.processors
  pub addresses : x.races.addresses ≡ addresses (judged_sizes_of x.sizes)
  pub owed : AreOwedBy x.model (judged_sizes_of x.sizes) j x.owed
  pub counts : TraceJudgeHasCounts x.model x.lax x.sizes j x.counts
  pub racing : IfSome x.racing (IsRacingWordsOf j)

-- e comes behind j, at this place
pub record ComesNextToExplain (j : List Event) (e : Event) (place : ℕ) (racy : Bool) (x : TraceJudge) : Type 0 where
  pub judged : IsTraceJudgeOf j x
  pub within : IsEventInSizes (judged_sizes_of x.sizes) e
  pub place_is : length j ≡ place
  pub racy_is : IsOwedRacy j e racy

-- and may follow there
pub record ComesNextToJudge (j : List Event) (e : Event) (place : ℕ) (racy : Bool) (x : TraceJudge) : Type 0 where
  pub judged : IsTraceJudgeOf j x
  pub follows : MayFollowOrLax x.lax (judged_sizes_of x.sizes) j e
  pub place_is : length j ≡ place
  pub racy_is : IsOwedRacy j e racy

-- and is faithful with them, with this race
pub record ComesNextToKeep (j : List Event) (e : Event) (place : ℕ) (race : Option (ℕ × ℕ)) (x : TraceJudge) : Type 0 where
  pub judged : IsTraceJudgeOf j x
  pub few : place < most_judged_events
  pub place_is : length j ≡ place
  pub accepted : IsFaithfulAndCounted x.model x.lax (judged_sizes_of x.sizes) (j ++ e ∷ [])
  pub race_is : IsCheckVerdictRace (j ++ e ∷ []) race

-- one event more may be read behind j
pub record ComesNextToRead (j : List Event) (x : TraceJudge) : Type 0 where
  pub judged : IsTraceJudgeOf j x
  pub few : length j < most_judged_events
