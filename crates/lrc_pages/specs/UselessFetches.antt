-- Fetches of no use. No contract speaks of them: how many are told is tested by tests/pages, and not proved.
use Rattle.std.specs.Prelude.{ℕ, ◌≡◌, ◌<◌, List, take}
use Rattle.journal.specs.declared.event.Event.{Event}
use Rattle.journal.specs.declared.event.Kind.{Kind}
use Rattle.journal.specs.declared.event.Kind.TheVariants.{Load, Store, Fetch}
use Rattle.journal.specs.DidEvent.{event}
use Rattle.journal.specs.Events.{EventAt}
use Rattle.journal.specs.PageImages.{StoredInGapOfPageImage}
use Rattle.journal.specs.Sizes.{Sizes}

-- the event is an access of word a
abbrev pub AccessesWord : Kind → ℕ → Type 0
AccessesWord (Load b v) a = b ≡ a
AccessesWord (Store b v) a = b ≡ a
AccessesWord _ a = ⊥

-- a fetch of page n by p at place i brings word a: some other processor's store there is one that p's copy lacks
abbrev pub BringsWord : Sizes → List Event → ℕ → ℕ → ℕ → ℕ → Type 0
BringsWord s h i p n a = (q : ℕ) × (k : ℕ) × StoredInGapOfPageImage s (take i h) p n (q, k, a)

-- p fetches page n between these places
pub record IsFetchedBetween (h : List Event) (p n i k : ℕ) : Type 0 where
  pub place : ℕ
  pub writers : ℕ
  pub records : ℕ
  pub words : ℕ
  pub after : i < place
  pub before : place < k
  pub is : EventAt h place (event p (Fetch writers n records words))

-- the fetch at place i is useless: its processor accesses none of the words that it brings before it fetches the page again
pub record IsUselessFetch (s : Sizes) (h : List Event) (i : ℕ) : Type 0 where
  pub by : ℕ
  pub page : ℕ
  pub writers : ℕ
  pub records : ℕ
  pub words : ℕ
  pub is : EventAt h i (event by (Fetch writers page records words))
  pub unused : (k a : ℕ) (e : Event) → i < k → EventAt h k e → e.processor ≡ by → AccessesWord e.kind a → BringsWord s h i by page a
      → IsFetchedBetween h by page i k
