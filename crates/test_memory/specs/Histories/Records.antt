-- The records of an open interval, made page by page.
use Rattle.std.specs.Prelude.{ℕ, ◌≡◌, ◌≢◌, ◌<◌, Option, Some, None, List, []}
use Rattle.journal.specs.declared.event.Event.{Event}
use Rattle.journal.specs.Sizes.{Sizes}
use Rattle.journal.specs.Events.{event_count, event_closes}
use Rattle.journal.specs.IntervalContents.{IntervalContentHas, IsIntervalContent}
use Rattle.base.specs.InOrderOnce.{Has}
use Rattle.page.specs.PageChanges.{PageChanges}
use Rattle.interval.specs.SentIntervals.{SentIntervalPagesRise}

-- place i has a store to page n in p's open interval
abbrev pub StoresOpen : Sizes → List Event → ℕ → ℕ → ℕ → Type 0
StoresOpen s h p n i = IntervalContentHas s h p (event_count event_closes h p) n i

-- the record has what the stores of p's open interval come to in its page, and that is something
pub record IsOpenRecord (s : Sizes) (h : List Event) (p : ℕ) (r : PageChanges) : Type 0 where
  pub content : IsIntervalContent s h p (event_count event_closes h p) r.page r.words
  pub some : r.words ≢ []

-- what p's open interval comes to in page n, if it stores there
abbrev pub IsOpenIn : Sizes → List Event → ℕ → ℕ → Option PageChanges → Type 0
IsOpenIn s h p n None = (i : ℕ) → ¬ StoresOpen s h p n i
IsOpenIn s h p n (Some r) = (r.page ≡ n) × IsOpenRecord s h p r

-- a record for each page below m that p's open interval stores to, in rising order
pub record AreOpenBelow (s : Sizes) (h : List Event) (p m : ℕ) (records : List PageChanges) : Type 0 where
  pub each : (r : PageChanges) → Has records r → IsOpenRecord s h p r
  pub below : (r : PageChanges) → Has records r → r.page < m
  pub all : (n i : ℕ) → n < m → StoresOpen s h p n i → (r : PageChanges) × Has records r × (r.page ≡ n)
  pub rising : SentIntervalPagesRise records
