-- How often each page is written to, in a row of counts: entry i counts page `base` + i.
use Rattle.std.specs.Prelude.{ℕ, ◌≡◌, ◌+◌, ◌<◌, ◌^◌, ◌==◌, List, map, length, count_by, slice_index}
use Rattle.std.specs.List.{flat_map}
use Rattle.page.specs.PageChanges.{PageChanges}
use Rattle.interval.specs.declared.interval.KeptInterval.{KeptInterval}

-- the pages of these records, one after another
abbrev pub counted_pages_of_changes : List PageChanges → List ℕ
counted_pages_of_changes records = map (λ (r : PageChanges). r.page) records

-- the pages that these intervals wrote to, one after another
abbrev pub counted_pages_of : List KeptInterval → List ℕ
counted_pages_of ks = flat_map (λ (k : KeptInterval). counted_pages_of_changes k.interval.records) ks

-- each count has grown by how often its page is among these
pub record PageCountsGrew (base : ℕ) (pages old new : List ℕ) : Type 0 where
  pub long : length new ≡ length old
  pub each : (i : ℕ) → i < length old
      → slice_index new i ≡ slice_index old i + count_by (λ (p : ℕ). p == base + i) pages

-- no count passes the greatest number when these pages are counted too
abbrev pub PageCountsHaveRoom : ℕ → List ℕ → List ℕ → Type 0
PageCountsHaveRoom base pages counts =
    (i : ℕ) → i < length counts → slice_index counts i + count_by (λ (p : ℕ). p == base + i) pages < 2 ^ 64
