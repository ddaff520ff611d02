-- How often each page is fetched, and what these fetches bring.
use Rattle.std.specs.Prelude.{ℕ, ◌≡◌, ◌*◌, ◌+◌, ◌^◌, ◌≤◌, ◌≢◌, List, cond, length, nat_eq, slice_index, sum_by, vec_len}
use Rattle.journal.specs.declared.event.Event.{Event}
use Rattle.journal.specs.declared.event.Kind.{Kind}
use Rattle.journal.specs.declared.event.Kind.TheVariants.{Fetch}
use Rattle.journal.specs.Sizes.{Sizes}
use Rattle.lrc_pages.specs.declared.page_tallies.PageTallies.{PageTallies}

-- one for a fetch of page n
abbrev pub page_fetch_of : ℕ → Kind → ℕ
page_fetch_of n (Fetch writers m records words) = cond (nat_eq m n) 1 0
page_fetch_of n _ = 0

-- the words that a fetch of page n brings
abbrev pub page_fetched_words_of : ℕ → Kind → ℕ
page_fetched_words_of n (Fetch writers m records words) = cond (nat_eq m n) words 0
page_fetched_words_of n _ = 0

-- how often page n is fetched
abbrev pub page_fetches : List Event → ℕ → ℕ
page_fetches h n = sum_by (λ e. page_fetch_of n e.kind) h

-- and the words that these fetches bring
abbrev pub page_fetched_words : List Event → ℕ → ℕ
page_fetched_words h n = sum_by (λ e. page_fetched_words_of n e.kind) h

-- a fetch of page n more, which brings so many words
pub record IsPageTallied (old new : PageTallies) (n brought : ℕ) : Type 0 where
  pub fetches_room : vec_len new.fetches ≡ vec_len old.fetches
  pub words_room : vec_len new.words ≡ vec_len old.words
  pub fetches : slice_index new.fetches.items n ≡ slice_index old.fetches.items n + 1
  pub words : slice_index new.words.items n ≡ slice_index old.words.items n + brought
  pub other_fetches : (m : ℕ) → m ≢ n → slice_index new.fetches.items m ≡ slice_index old.fetches.items m
  pub other_words : (m : ℕ) → m ≢ n → slice_index new.words.items m ≡ slice_index old.words.items m

-- of each page it has how often the history fetches it, and what that brings
pub record ArePageTallies (s : Sizes) (h : List Event) (t : PageTallies) : Type 0 where
  pub fetches_room : vec_len t.fetches ≡ s.pages
  pub words_room : vec_len t.words ≡ s.pages
  pub fetches : (n : ℕ) → slice_index t.fetches.items n ≡ page_fetches h n
  pub words : (n : ℕ) → slice_index t.words.items n ≡ page_fetched_words h n
  pub few_fetches : (n : ℕ) → slice_index t.fetches.items n ≤ length h
  pub few_words : (n : ℕ) → slice_index t.words.items n ≤ length h * 2 ^ 32
