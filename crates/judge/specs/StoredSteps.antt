-- What a processor has stored in a page: in all, and before places where one of its intervals ends.
use Rattle.std.specs.Prelude.{ℕ, ◌≡◌, ◌≢◌, ◌↔◌, ◌⊎◌, ◌+◌, ◌/◌, ◌<◌, ◌≤◌, cond, nat_lt, Option, Some, None, List, [], ◌∷◌, length, take}
use Rattle.base.specs.InOrderOnce.{Has, InOrder}
use Rattle.journal.specs.declared.event.Event.{Event}
use Rattle.journal.specs.declared.event.Kind.TheVariants.{Store}
use Rattle.journal.specs.BroughtCopy.{BroughtToCopy}
use Rattle.journal.specs.Pasts.{InPast}
use Rattle.journal.specs.Sizes.{Sizes}
use Rattle.journal.specs.WellFormed.{Does}
use Rattle.journal.specs.Events.{EventAt, event_count, event_closes, event_interval_at}
use Rattle.journal.specs.PageImages.{HasPageImageCount}
use Rattle.judge.specs.declared.stored_steps.StoredAmounts.{StoredAmounts}
use Rattle.judge.specs.declared.stored_steps.StoredStep.{StoredStep}
use Rattle.judge.specs.declared.stored_steps.StoredTotal.{StoredTotal}
use Rattle.judge.specs.FetchGaps.{FetchGapStoreInPage, FetchGapStoreOfWord}
use Rattle.judge.specs.GapTally.{IsGapTallyMark}

-- what q stores in page n in these events
pub record AreStoredAmounts (s : Sizes) (j : List Event) (n q : ℕ) (x : StoredAmounts) : Type 0 where
  pub records : HasPageImageCount (FetchGapStoreInPage s j n q) x.records
  pub words : HasPageImageCount (FetchGapStoreOfWord s j n q) x.words

-- q's events before place v are in intervals that q closes before it
pub record IsStoredLimit (j : List Event) (q v : ℕ) : Type 0 where
  pub within : v ≤ length j
  pub closed : (i : ℕ) (e : Event) → EventAt j i e → e.processor ≡ q → i < v → event_interval_at j q i < event_interval_at j q v

-- q stores in page n at place i
pub record IsStoredAt (s : Sizes) (j : List Event) (n q i : ℕ) : Type 0 where
  pub address : ℕ
  pub value : ℕ
  pub does : Does j i q (Store address value)
  pub in_page : address / s.words ≡ n

-- p may know q's stores to page n before place v, and no more, at its next fetch of it, or did at its last one
abbrev pub MayAskStored : Sizes → List Event → ℕ → ℕ → ℕ → ℕ → Type 0
MayAskStored s j p n q v = ((i : ℕ) → IsStoredAt s j n q i → InPast j p i → i < v)
    ⊎ ((i : ℕ) → IsStoredAt s j n q i → BroughtToCopy j p n i ↔ (i < v))

-- a processor's fetch of page n may still ask what q had stored in it before place v
pub record IsStoredAsked (s : Sizes) (j : List Event) (n q v : ℕ) : Type 0 where
  pub limit : IsStoredLimit j q v
  pub by : ℕ
  pub present : by < s.processors
  pub other : q ≢ by
  pub may : MayAskStored s j by n q v

-- what had been stored before place v: before the first step from v on, and all where there is none
abbrev pub stored_before : List StoredStep → StoredAmounts → ℕ → StoredAmounts
stored_before [] all v = all
stored_before (x ∷ steps) all v = cond (nat_lt x.place v) (stored_before steps all v) x.before

-- nothing, where no total is kept
abbrev pub stored_total : Option StoredTotal → StoredTotal
stored_total None = record { until = 0; amounts = record { records = 0; words = 0 } }
stored_total (Some total) = total

-- a word more in this interval
abbrev pub stored_total_next : StoredTotal → ℕ → StoredTotal
stored_total_next x interval = record {
  until = interval + 1;
  amounts = record { records = x.amounts.records + cond (nat_lt interval x.until) 0 1; words = x.amounts.words + 1 };
}

-- some of the steps is from place v on
pub record HasStoredStepFrom (steps : List StoredStep) (v : ℕ) : Type 0 where
  pub step : StoredStep
  pub has : Has steps step
  pub from : v ≤ step.place

-- the steps and the total are those of what q stores in page n, as far as they may still be asked
pub record AreStoredSteps (s : Sizes) (j : List Event) (n q : ℕ) (steps : List StoredStep) (total : StoredTotal) : Type 0 where
  pub until : IsGapTallyMark (FetchGapStoreInPage s j n q) total.until
  pub all : AreStoredAmounts s j n q total.amounts
  pub few_records : total.amounts.records ≤ length j
  pub few_words : total.amounts.words ≤ length j
  pub before : (v : ℕ) → IsStoredAsked s j n q v → AreStoredAmounts s (take v j) n q (stored_before steps total.amounts v)
  pub rising : InOrder (λ (x y : StoredStep). x.place ≤ y.place) steps
  pub stores : (x : StoredStep) → Has steps x → IsStoredAt s j n q x.place
  pub last : FetchGapStoreInPage s j n q (event_count event_closes j q) → (v : ℕ) → IsStoredAsked s j n q v → HasStoredStepFrom steps v
