-- What copies of pages lack, and which events tell of it.
use Rattle.std.specs.Prelude.{ℕ, ◌≡◌, ◌≢◌, ◌⊎◌, ◌+◌, ◌<◌, ◌≤◌, ◌↔◌, List, Option, Some, MatchOption, slice_get, slice_index, take}
use Rattle.std.specs.Global.{Vec}
use Rattle.base.specs.Limits.{most_processors}
use Rattle.base.specs.InOrderOnce.{Has, InOrder}
use Rattle.journal.specs.declared.event.Event.{Event}
use Rattle.journal.specs.declared.event.Kind.{Kind}
use Rattle.journal.specs.declared.event.Kind.TheVariants.{Fetch}
use Rattle.journal.specs.PageImages.{HasPageImageCount, StoredInGapOfPageImage}
use Rattle.journal.specs.Events.{EventAt}
use Rattle.journal.specs.Sizes.{Sizes}
use Rattle.judge.specs.FetchGaps.{FetchGapStoreInPage}
use Rattle.judge.specs.GapTally.{gap_tally_place_of}
use Rattle.causes.specs.declared.event_dues.Due.{Due}
use Rattle.causes.specs.declared.span.Span.{Span}

-- p's copy of page n lacks what q stored there in its interval m
abbrev pub DueLacks : Sizes → List Event → ℕ → ℕ → ℕ → ℕ → Type 0
DueLacks s j p n q m = (a : ℕ) × StoredInGapOfPageImage s j p n (q, m, a)

-- it lacks that after the event at place k, and didn't before
abbrev pub DueComesToLack : Sizes → List Event → ℕ → ℕ → ℕ → ℕ → ℕ → Type 0
DueComesToLack s j k p n q m = DueLacks s (take (k + 1) j) p n q m × (¬ DueLacks s (take k j) p n q m)

-- p's event of this kind at place k tells of that record: a fetch where its copy of that page lacks it, another where a copy
-- comes to lack it
abbrev pub IsDueToldBy : Sizes → List Event → ℕ → ℕ → Kind → ℕ → ℕ → ℕ → Type 0
IsDueToldBy s j k p (Fetch w l r d) n q m = (l ≡ n) × DueLacks s (take k j) p n q m
IsDueToldBy s j k p _ n q m = DueComesToLack s j k p n q m

-- the event e at place k tells of that many records of the writer in the page, and of some
pub record IsDueRecord (s : Sizes) (j : List Event) (k : ℕ) (e : Event) (x : Due) : Type 0 where
  pub some : x.records ≢ 0
  pub count : HasPageImageCount (IsDueToldBy s j k e.processor e.kind x.page x.writer) x.records

-- by rising pages, and for each page by rising writers
abbrev pub DuesByPageAndWriter : Due → Due → Type 0
DuesByPageAndWriter x y = (x.page < y.page) ⊎ ((x.page ≡ y.page) × (x.writer < y.writer))

-- these are all of which the event e at place k tells, in order
pub record AreDues (s : Sizes) (j : List Event) (k : ℕ) (e : Event) (dues : List Due) : Type 0 where
  pub has : (x : Due) → Has dues x ↔ IsDueRecord s j k e x
  pub order : InOrder DuesByPageAndWriter dues

-- and of which the first events do
abbrev pub AreAllDues : Sizes → List Event → List (Vec Due) → Type 0
AreAllDues s j rows = (k : ℕ) (e : Event) (row : Vec Due) → EventAt j k e → slice_get rows k ≡ Some row
    → AreDues s j k e row.items

-- the writer, another one than the span's reader, stores in the page, which is one of the span's, in that many of the
-- intervals that the span has of it, and in some
pub record IsDueWithin (s : Sizes) (j : List Event) (span : Span) (x : Due) : Type 0 where
  pub low : x.writer < most_processors
  pub apart : x.writer ≢ span.reader
  pub from : span.first ≤ x.page
  pub to : x.page < span.end
  pub some : x.records ≢ 0
  pub count : HasPageImageCount (λ m. FetchGapStoreInPage s j x.page x.writer m × (slice_index span.from x.writer ≤ m)
      × (m < slice_index span.to x.writer)) x.records

-- what there is of this page and writer in the span
abbrev pub IsOneOfDues : Sizes → List Event → Span → ℕ → ℕ → Option Due → Type 0
IsOneOfDues s j span n q o =
    MatchOption o ((x : Due) → IsDueWithin s j span x → x.page ≡ n → x.writer ≡ q → ⊥)
    (λ x. IsDueWithin s j span x × (x.page ≡ n) × (x.writer ≡ q))

-- these are what there is in the span of the rows below this one, in order
pub record DuesBelow (s : Sizes) (j : List Event) (span : Span) (row : ℕ) (dues : List Due) : Type 0 where
  pub has : (x : Due) → Has dues x ↔ (IsDueWithin s j span x × (gap_tally_place_of x.page x.writer < row))
  pub order : InOrder (λ (x y : Due). gap_tally_place_of x.page x.writer < gap_tally_place_of y.page y.writer) dues
