-- What is found of a history.
use Rattle.std.specs.Prelude.{ℕ, ◌≡◌, ◌≤◌, suc, Bool, true, false, Option, Some, MatchOption, List, [], ◌∷◌, ◌++◌, count_by, drop, length, take}
use Rattle.journal.specs.declared.event.Event.{Event}
use Rattle.journal.specs.declared.event.Kind.{Kind}
use Rattle.journal.specs.declared.event.Kind.TheVariants.{Load}
use Rattle.journal.specs.declared.traffic.Traffic.{Traffic}
use Rattle.journal.specs.Sizes.{Sizes}
use Rattle.journal.specs.Traffic.{messages, records, words}
use Rattle.journal.specs.WellFormed.{Does}
use Rattle.journal.specs.Races.{RaceFree}
use Rattle.judge.specs.declared.models.MemoryModel.{MemoryModel}
use Rattle.judge.specs.declared.models.MemoryModel.TheVariants as model
use Rattle.judge.specs.Miscounted.{IsFirstMiscounted}
use Rattle.judge.specs.Models.{IsModelAnswer}
use Rattle.judge.specs.NearestRaces.{IsNearestRace}
use Rattle.judge.specs.Owed.{PermitsOwed}
use Rattle.judge.specs.Why.{IsFirstWhyIllFormed}
use Rattle.lrc_check.specs.declared.checked.Rules.{Rules}
use Rattle.lrc_check.specs.declared.checked.Unexplained.{Unexplained}
use Rattle.lrc_check.specs.declared.checked.Lie.{Lie}
use Rattle.lrc_check.specs.declared.checked.Lie.TheVariants as lie
use Rattle.lrc_check.specs.declared.checked.TraceVerdict.{TraceVerdict}
use Rattle.lrc_check.specs.declared.checked.TraceVerdict.TheVariants as verdict
use Rattle.lrc_check.specs.declared.checked.Checked.{Checked}
use Rattle.lrc_check.specs.Faithful.{IsFaithfulAndCounted, IsFaithfulOnlyUpTo}

-- what the events cost, by what they say themselves
pub record IsCheckVerdictTraffic (j : List Event) (t : Traffic) : Type 0 where
  pub messages : t.messages ≡ messages j
  pub records : t.records ≡ records j
  pub words : t.words ≡ words j

-- the first race of these events, the nearest one, where they have one
abbrev pub IsCheckVerdictRace : List Event → Option (ℕ × ℕ) → Type 0
IsCheckVerdictRace j race = MatchOption race (RaceFree j) (λ r. IsNearestRace j r.0 r.1)

abbrev pub is_load_in_check_verdict : Kind → Bool
is_load_in_check_verdict (Load a v) = true
is_load_in_check_verdict _ = false

-- how many loads aren't judged
abbrev pub unjudged_in_check_verdict : MemoryModel → Option (ℕ × ℕ) → List Event → ℕ
unjudged_in_check_verdict model.RaceFree (Some r) j = count_by (λ (e : Event). is_load_in_check_verdict e.kind) (drop r.1 j)
unjudged_in_check_verdict _ _ j = 0

-- the load at its place answers what it may not under the model, and what it may
pub record IsCheckVerdictUnexplained (m : MemoryModel) (s : Sizes) (j : List Event) (x : Unexplained) : Type 0 where
  pub by : ℕ
  pub address : ℕ
  pub value : ℕ
  pub does : Does j x.place by (Load address value)
  pub wrong : ¬ IsModelAnswer m s j x.place address value
  pub permitted : PermitsOwed m j x.place address x.permitted

-- the event, which comes next after these, is a load that answers what it may not, and what it may
pub record IsCheckVerdictUnexplainedNext (m : MemoryModel) (s : Sizes) (j : List Event) (e : Event) (x : Unexplained) : Type 0 where
  pub address : ℕ
  pub value : ℕ
  pub loads : e.kind ≡ Load address value
  pub place : x.place ≡ length j
  pub wrong : ¬ IsModelAnswer m s (j ++ e ∷ []) (length j) address value
  pub permitted : PermitsOwed m (j ++ e ∷ []) (length j) address x.permitted

abbrev pub check_verdict_lie_place : Lie → ℕ
check_verdict_lie_place (lie.IllFormed x) = x.place
check_verdict_lie_place (lie.Unexplained x) = x.place
check_verdict_lie_place (lie.Miscounted x) = x.place

-- what is said of the lie is true
abbrev pub IsCheckVerdictReason : MemoryModel → Bool → Sizes → List Event → Lie → Type 0
IsCheckVerdictReason m lax s j (lie.IllFormed x) = IsFirstWhyIllFormed lax s j x
IsCheckVerdictReason m lax s j (lie.Unexplained x) = IsCheckVerdictUnexplained m s j x
IsCheckVerdictReason m lax s j (lie.Miscounted x) = (m ≡ model.LazyRelease) × (lax ≡ false) × IsFirstMiscounted s j x

-- the last of these events is the first that no memory of the model makes, and why
pub record IsCheckVerdictLie (m : MemoryModel) (lax : Bool) (s : Sizes) (j : List Event) (x : Lie) : Type 0 where
  pub last : suc (check_verdict_lie_place x) ≡ length j
  pub first : IsFaithfulOnlyUpTo m lax s j (check_verdict_lie_place x)
  pub reason : IsCheckVerdictReason m lax s j x

-- the events that are looked at for a race: all but one that may not follow
abbrev pub check_verdict_race_events : Lie → List Event → List Event
check_verdict_race_events (lie.IllFormed x) j = take x.place j
check_verdict_race_events _ j = j

-- the last of these events is the second one of their first race, and those before it are faithful
pub record IsCheckVerdictRacy (m : MemoryModel) (lax : Bool) (s : Sizes) (j : List Event) (race : Option (ℕ × ℕ)) : Type 0 where
  pub first : ℕ
  pub second : ℕ
  pub found : race ≡ Some (first, second)
  pub nearest : IsNearestRace j first second
  pub last : suc second ≡ length j
  pub before : IsFaithfulAndCounted m lax s (take second j)

-- what is said of these events is true
abbrev pub IsCheckVerdictOf : MemoryModel → Bool → Sizes → List Event → Option (ℕ × ℕ) → TraceVerdict → Type 0
IsCheckVerdictOf m lax s j race (verdict.Faithful traffic unjudged) =
    IsFaithfulAndCounted m lax s j × IsCheckVerdictRace j race × IsCheckVerdictTraffic j traffic × (unjudged ≡ unjudged_in_check_verdict m race j)
IsCheckVerdictOf m lax s j race (verdict.Lie x) = IsCheckVerdictLie m lax s j x × IsCheckVerdictRace (check_verdict_race_events x j) race
IsCheckVerdictOf m lax s j race verdict.Racy = IsCheckVerdictRacy m lax s j race

-- a faithful history is judged to its end
abbrev pub IsCheckVerdictWhole : List Event → ℕ → TraceVerdict → Type 0
IsCheckVerdictWhole j count (verdict.Faithful traffic unjudged) = count ≡ length j
IsCheckVerdictWhole j count _ = Unit {0}

-- judging ends with a race only if it is to
abbrev pub CheckVerdictEndsAsAsked : Bool → TraceVerdict → Type 0
CheckVerdictEndsAsAsked ends verdict.Racy = ends ≡ true
CheckVerdictEndsAsAsked ends _ = Unit {0}

-- what is said of a history is true: all is judged, unless the first events are no such memory's
pub record IsTrueCheckVerdict (r : Rules) (s : Sizes) (j : List Event) (x : Checked) : Type 0 where
  pub within : x.count ≤ length j
  pub verdict : IsCheckVerdictOf r.model r.lax s (take x.count j) x.race x.verdict
  pub whole : IsCheckVerdictWhole j x.count x.verdict
  pub ends : CheckVerdictEndsAsAsked r.ends_at_race x.verdict
