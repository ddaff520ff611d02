-- What a copy of a page has to be, and what it lacks.
use Rattle.std.specs.Prelude.{ℕ, ◌≡◌, ◌/◌, ◌%◌, ◌↔◌, Option, Some, None, List, length, replicate, slice_get}
use Rattle.journal.specs.declared.event.Event.{Event}
use Rattle.journal.specs.declared.event.Kind.{Kind}
use Rattle.journal.specs.declared.event.Kind.TheVariants.{Store, Fetch}
use Rattle.base.specs.InOrderOnce.{Has, InOrder, IsOnce}
use Rattle.base.specs.LastWrite.{written}
use Rattle.journal.specs.Sizes.{Sizes}
use Rattle.journal.specs.Events.{EventAt, event_interval_at}
use Rattle.journal.specs.HappensBeforeEdges.{HappensBefore}
use Rattle.journal.specs.WellFormed.{Does}
use Rattle.journal.specs.Pasts.{InPast}

-- place i has a store to page n
pub record StoresToPageImage (s : Sizes) (j : List Event) (n i : ℕ) : Type 0 where
  pub by : ℕ
  pub address : ℕ
  pub value : ℕ
  pub does : Does j i by (Store address value)
  pub in_page : address / s.words ≡ n

-- the offset and the value that an event stores in its page
abbrev pub page_image_word_write : Sizes → Kind → Option (ℕ × ℕ)
page_image_word_write s (Store a v) = Some (a % s.words, v)
page_image_word_write s _ = None

-- what the event at this place, if there is one, stores in its page
abbrev pub page_image_write : Sizes → Option Event → Option (ℕ × ℕ)
page_image_write s None = None
page_image_write s (Some e) = page_image_word_write s e.kind

-- the page after the stores at these places, in turn
abbrev pub page_image_after : Sizes → List Event → List ℕ → List ℕ → List ℕ
page_image_after s j page is = written (λ (i : ℕ). page_image_write s (slice_get j i)) page is

-- the zero page after exactly the stores to page n among these places, in an order that extends happens-before
pub record IsImage (s : Sizes) (j : List Event) (among : ℕ → Type 0) (n : ℕ) (page : List ℕ) : Type 0 where
  pub order : List ℕ
  pub each : (i : ℕ) → Has order i ↔ (among i × StoresToPageImage s j n i)
  pub once : IsOnce order
  pub extends : InOrder (λ i k. ¬ HappensBefore j k i) order
  pub gives : page ≡ page_image_after s j (replicate s.words 0) order

-- the copy is what p's past makes of the page
abbrev pub Lawful : Sizes → List Event → ℕ → ℕ → List ℕ → Type 0
Lawful s j p n page = IsImage s j (InPast j p) n page

-- p fetches page n at place k
abbrev pub FetchesPageImage : List Event → ℕ → ℕ → ℕ → Type 0
FetchesPageImage j k p n = (writers : ℕ) × (records : ℕ) × (words : ℕ) × Does j k p (Fetch writers n records words)

-- place i is p's own
abbrev pub IsOwnPlaceOfPageImage : List Event → ℕ → ℕ → Type 0
IsOwnPlaceOfPageImage j p i = (e : Event) × EventAt j i e × (e.processor ≡ p)

-- a store of another processor to page n, which p's past has and which no earlier fetch of the page brought
pub record InGap (s : Sizes) (j : List Event) (p n i : ℕ) : Type 0 where
  pub store : StoresToPageImage s j n i
  pub others : ¬ IsOwnPlaceOfPageImage j p i
  pub past : InPast j p i
  pub new : (k : ℕ) → FetchesPageImage j k p n → ¬ HappensBefore j i k

-- n is how many values there are
pub record HasPageImageCount {A : Type 0} (values : A → Type 0) (n : ℕ) : Type 0 where
  pub list : List A
  pub each : (x : A) → Has list x ↔ values x
  pub once : IsOnce list
  pub length_is : length list ≡ n

-- who stored in the gap, in which interval, at which address
abbrev pub StoredInGapOfPageImage : Sizes → List Event → ℕ → ℕ → ℕ × ℕ × ℕ → Type 0
StoredInGapOfPageImage s j p n x = (i v : ℕ) × Does j i x.0 (Store x.2 v) × InGap s j p n i × (event_interval_at j x.0 i ≡ x.1)

-- what a fetch of the page says of the gap
pub record GapCounts (s : Sizes) (j : List Event) (p n writers records words : ℕ) : Type 0 where
  pub writers_are : HasPageImageCount (λ q. (k : ℕ) × (a : ℕ) × StoredInGapOfPageImage s j p n (q, k, a)) writers
  pub records_are : HasPageImageCount (λ (x : ℕ × ℕ). (a : ℕ) × StoredInGapOfPageImage s j p n (x.0, x.1, a)) records
  pub words_are : HasPageImageCount (StoredInGapOfPageImage s j p n) words
