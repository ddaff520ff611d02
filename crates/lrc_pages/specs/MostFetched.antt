-- The pages that are fetched most.
use Rattle.std.specs.Prelude.{ℕ, ◌≡◌, ◌⊎◌, ◌<◌, ◌≤◌, ⊤, List, Option, Some, None, length, map}
use Rattle.base.specs.InOrderOnce.{Has, InOrder}
use Rattle.journal.specs.declared.event.Event.{Event}
use Rattle.lrc_pages.specs.declared.top_pages.TopPage.{TopPage}
use Rattle.lrc_pages.specs.PageTallies.{page_fetched_words, page_fetches}

-- page n is told before page m: it is fetched more often, or as often and is the lower one
abbrev pub IsToldBefore : (ℕ → ℕ) → ℕ → ℕ → Type 0
IsToldBefore count n m = (count m < count n) ⊎ ((count m ≡ count n) × (n < m))

-- page m is told after this one, if there is one
abbrev pub IsToldAfter : (ℕ → ℕ) → Option ℕ → ℕ → Type 0
IsToldAfter count None m = ⊤
IsToldAfter count (Some n) m = IsToldBefore count n m

-- of the pages that are fetched and told after this one, page n is the first
pub record IsToldNext (count : ℕ → ℕ) (last : Option ℕ) (n : ℕ) : Type 0 where
  pub fetched : 0 < count n
  pub after : IsToldAfter count last n
  pub first : (m : ℕ) → 0 < count m → IsToldAfter count last m → (n ≡ m) ⊎ IsToldBefore count n m

-- the same among the pages below this one, None if there is none
pub record IsFirstOfBelow (count : ℕ → ℕ) (last : Option ℕ) (up n : ℕ) : Type 0 where
  pub below : n < up
  pub fetched : 0 < count n
  pub after : IsToldAfter count last n
  pub first : (m : ℕ) → m < up → 0 < count m → IsToldAfter count last m → (n ≡ m) ⊎ IsToldBefore count n m

abbrev pub IsFirstBelow : (ℕ → ℕ) → Option ℕ → ℕ → Option ℕ → Type 0
IsFirstBelow count last up None = (m : ℕ) → m < up → 0 < count m → ¬ IsToldAfter count last m
IsFirstBelow count last up (Some n) = IsFirstOfBelow count last up n

-- these are the pages that are fetched most, in that order: at most so many, and all that are fetched if they are fewer
pub record AreMostFetched (count : ℕ → ℕ) (most : ℕ) (pages : List ℕ) : Type 0 where
  pub few : length pages ≤ most
  pub fetched : (n : ℕ) → Has pages n → 0 < count n
  pub order : InOrder (IsToldBefore count) pages
  pub rest : (m : ℕ) → 0 < count m → Has pages m ⊎ ((length pages ≡ most) × ((n : ℕ) → Has pages n → IsToldBefore count n m))

abbrev pub top_page_numbers : List TopPage → List ℕ
top_page_numbers tops = map (λ (t : TopPage). t.page) tops

-- these are told of the pages that the history fetches most, each with its fetches and the words that they bring
pub record AreTopPages (h : List Event) (most : ℕ) (tops : List TopPage) : Type 0 where
  pub pages : AreMostFetched (page_fetches h) most (top_page_numbers tops)
  pub fetches : (t : TopPage) → Has tops t → t.fetches ≡ page_fetches h t.page
  pub words : (t : TopPage) → Has tops t → t.words ≡ page_fetched_words h t.page
