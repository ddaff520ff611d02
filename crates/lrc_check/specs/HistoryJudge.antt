-- A judge of a history by the events that it was told.
use Rattle.std.specs.Prelude.{ℕ, ◌≡◌, ◌≢◌, ◌+◌, ◌<◌, ◌≤◌, Bool, true, ◌&&◌, false, IsTrue, List, [], ◌∷◌, ◌++◌, Option, None, MatchOption, is_some, length}
use Rattle.journal.specs.declared.event.Event.{Event}
use Rattle.journal.specs.declared.event.Kind.{Kind}
use Rattle.journal.specs.KeptBaseState.{AreKeptBaseStateCosts}
use Rattle.journal.specs.Sizes.{Sizes, addresses}
use Rattle.judge.specs.declared.locksets.lockset_finder.LocksetFinder.{LocksetFinder}
use Rattle.judge.specs.declared.locksets.lockset_finder.LocksetWords.{LocksetWords}
use Rattle.judge.specs.declared.models.MemoryModel.{MemoryModel}
use Rattle.judge.specs.declared.models.MemoryModel.TheVariants as model
use Rattle.judge.specs.declared.sizes.Sizes.{Sizes as JudgedSizes}
use Rattle.judge.specs.JudgedSizes.{judged_sizes_of, most_judged_events}
use Rattle.judge.specs.Locksets.KeptLocksets.{IsLocksetFinderOf}
use Rattle.judge.specs.Miscounted.{IsEventInSizes}
use Rattle.lrc_check.specs.declared.checked.Checked.{Checked}
use Rattle.lrc_check.specs.declared.checked.Rules.{Rules}
use Rattle.lrc_check.specs.declared.checked.TraceVerdict.{TraceVerdict}
use Rattle.lrc_check.specs.declared.checked.TraceVerdict.TheVariants as verdict
use Rattle.lrc_check.specs.declared.history_judge.HistoryJudge.{HistoryJudge}
use Rattle.lrc_check.specs.CheckVerdicts.{IsCheckVerdictTraffic, IsTrueCheckVerdict, is_load_in_check_verdict, unjudged_in_check_verdict}
use Rattle.lrc_check.specs.declared.trace_judge.TraceJudge.{TraceJudge}
use Rattle.lrc_check.specs.TraceJudge.{IsTraceJudgeOf}
use Rattle.lrc_check.specs.Unprotected.{may_unprotected_be_sought}

-- whether an event of this kind isn't judged, if there is a race or not
abbrev pub is_unjudged_next : MemoryModel → Bool → Kind → Bool
is_unjudged_next model.RaceFree racy k = racy && is_load_in_check_verdict k
is_unjudged_next _ racy k = false

-- so many events, and what they cost
pub record IsHistoryTallied (j : List Event) (x : HistoryJudge) : Type 0 where
  pub count : x.count ≡ length j
  pub traffic : IsCheckVerdictTraffic j x.traffic
  pub costs : AreKeptBaseStateCosts (length j) x.traffic

-- the finder was told these events of a history of these sizes
pub record IsHistoryLocksets (s : JudgedSizes) (j : List Event) (x : LocksetFinder) : Type 0 where
  pub told : IsLocksetFinderOf j x
  pub processors : x.cuts.present ≡ s.processors
  pub addresses : x.addresses ≡ addresses (judged_sizes_of s)

-- if words without a lock are asked for and there is no race, the finder is there; it was told these events
abbrev pub HasHistoryLocksets : Option LocksetWords → Option (ℕ × ℕ) → JudgedSizes → List Event → Option LocksetFinder → Type 0
HasHistoryLocksets asked race s j finder = MatchOption finder (IsTrue (is_some asked) → race ≢ None) (IsHistoryLocksets s j)

-- these events are faithful by the rules, and the judge was told them
pub record IsHistoryJudgeOf (j : List Event) (x : HistoryJudge) : Type 0 where
  pub judged : IsTraceJudgeOf j x.judge
  pub model : x.judge.model ≡ x.rules.model
  pub lax : x.judge.lax ≡ x.rules.lax
  pub tallied : IsHistoryTallied j x
  pub unjudged : x.unjudged ≡ unjudged_in_check_verdict x.rules.model x.judge.race j
  pub unraced : x.rules.ends_at_race ≡ true → x.judge.race ≡ None
  pub locksets : HasHistoryLocksets x.rules.locksets x.judge.race x.judge.sizes j x.locksets
  pub racing : is_some x.judge.racing ≡ x.rules.all_races

-- if the history is found faithful, the judge was told it, and its race is the one that was found
pub record HasJudgedToEnd (j : List Event) (found : Checked) (x : HistoryJudge) : Type 0 where
  pub told : IsTrue (may_unprotected_be_sought found.verdict) → IsHistoryJudgeOf j x
  pub race : IsTrue (may_unprotected_be_sought found.verdict) → found.race ≡ x.judge.race

-- judging ended before the end
abbrev pub HasEndedEarly : TraceVerdict → Type 0
HasEndedEarly (verdict.Faithful traffic unjudged) = ⊥
HasEndedEarly _ = Unit {0}

-- judging ends with the last of these events, and what is said of them is true
pub record IsHistoryEnd (r : Rules) (s : Sizes) (j : List Event) (x : Checked) : Type 0 where
  pub says : IsTrueCheckVerdict r s j x
  pub all : x.count ≡ length j
  pub ended : HasEndedEarly x.verdict

-- judging ends with one of these events, and what is said of those up to it is true
pub record IsHistoryEndWithin (r : Rules) (s : Sizes) (j : List Event) (x : Checked) : Type 0 where
  pub says : IsTrueCheckVerdict r s j x
  pub ended : HasEndedEarly x.verdict

-- the event comes behind j, which is short enough, and its numbers are within the sizes
pub record ComesNextToHistoryLocksets (j : List Event) (e : Event) (s : JudgedSizes) : Type 0 where
  pub few : length j < most_judged_events
  pub within : IsEventInSizes (judged_sizes_of s) e

-- x judged j, and now the judge has judged the next event, too, with which judging doesn't end
pub record HasJudgedNext (j : List Event) (e : Event) (x : TraceJudge) (y : HistoryJudge) : Type 0 where
  pub before : IsHistoryJudgeOf j (record y { judge = x })
  pub few : length j < most_judged_events
  pub now : IsTraceJudgeOf (j ++ e ∷ []) y.judge
  pub model : y.judge.model ≡ x.model
  pub lax : y.judge.lax ≡ x.lax
  pub sizes : y.judge.sizes ≡ x.sizes
  pub racing : is_some y.judge.racing ≡ is_some x.racing
  pub unraced : y.rules.ends_at_race ≡ true → y.judge.race ≡ None

-- one event may be counted more
pub record ComesNextToTally (j : List Event) (x : HistoryJudge) : Type 0 where
  pub few : length j < most_judged_events
  pub tallied : IsHistoryTallied j x
  pub unjudged : x.unjudged ≤ length j

-- one event more may come behind j
pub record ComesNextInHistory (j : List Event) (x : HistoryJudge) : Type 0 where
  pub judged : IsHistoryJudgeOf j x
  pub few : length j < most_judged_events

-- these events come behind j
pub record IsNextPartOfHistory (j events : List Event) (x : HistoryJudge) : Type 0 where
  pub judged : IsHistoryJudgeOf j x
  pub few : length j + length events ≤ most_judged_events
