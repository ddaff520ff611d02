-- What a record carries from one copy of a page to another.
use Rattle.std.specs.Prelude.{ℕ, ◌≡◌, ◌<◌, false, Option, Some, None, List, length, replicate}
use Rattle.base.specs.InOrderOnce.{Has}
use Rattle.base.specs.AppliedRecords.{record_applied, marked_writes, harvest}
use Rattle.page.specs.PageChanges.{PageChanges}
use Rattle.page.specs.Contents.{Contents}

-- each offset lies in a page of n words
abbrev pub CarriedHarvestFits : ℕ → List (ℕ × ℕ) → Type 0
CarriedHarvestFits n words = (x : ℕ × ℕ) → Has words x → x.0 < n

-- the record has the dirty words of the copy, in rising order, as words of page n
pub record IsCarriedHarvest (n : ℕ) (p : Contents) (r : PageChanges) : Type 0 where
  pub page_is : r.page ≡ n
  pub words_are : r.words ≡ harvest 0 p.words p.dirty
  pub fits : CarriedHarvestFits (length p.words) r.words

-- the copy is what these stores, in turn, make of a clean copy with these words: they write as a
-- record's words do
pub record CarriedHarvestStores (stores : List (ℕ × ℕ)) (words : List ℕ) (p : Contents) : Type 0 where
  pub words_are : p.words ≡ record_applied words stores
  pub dirty_are : p.dirty ≡ marked_writes (λ (x : ℕ × ℕ). Some x) (replicate (length words) false) stores

-- the words after a record, if there is one
abbrev pub carried : List ℕ → Option PageChanges → List ℕ
carried words None = words
carried words (Some r) = record_applied words r.words

-- whatever stores to a clean copy led here, the record makes of any page of as many words what
-- those stores make of it
abbrev pub CarriesStores : Contents → Option PageChanges → Type 0
CarriesStores p r =
    (stores : List (ℕ × ℕ)) (words other : List ℕ) →
    CarriedHarvestStores stores words p →
    length other ≡ length words →
    carried other r ≡ record_applied other stores
