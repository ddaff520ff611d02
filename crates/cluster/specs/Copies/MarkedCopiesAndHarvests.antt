-- What a processor's copies come to, for its closing interval.
use Rattle.std.specs.Prelude.{ℕ, ◌≡◌, ◌<◌, ◌≤◌, Bool, true, false, Some, List, length, slice_get}
use Rattle.base.specs.Limits.{most_pages}
use Rattle.base.specs.InOrderOnce.{Has}
use Rattle.page.specs.CarriedHarvests.{IsCarriedHarvest}
use Rattle.page.specs.PageChanges.{PageChanges}
use Rattle.page.specs.Contents.{ContentsAreClean}
use Rattle.interval.specs.SentIntervals.{SentIntervalPagesRise}
use Rattle.cluster.specs.Copies.PageReplica.{PageReplica}

-- n is the least number from `start` on with a mark
pub record IsLowestMarkedCopyFrom (marks : List Bool) (start n : ℕ) : Type 0 where
  pub late : start ≤ n
  pub marked : slice_get marks n ≡ Some true
  pub first : (i : ℕ) → start ≤ i → i < n → slice_get marks i ≡ Some false

-- no number from `start` on has a mark
abbrev pub LacksMarkedCopyFrom : List Bool → ℕ → Type 0
LacksMarkedCopyFrom marks start = (i : ℕ) → start ≤ i → i < most_pages → slice_get marks i ≡ Some false

-- at most as many copies as there may be pages, and those with a dirty word have marks
pub record CopiesToHarvestAreMarked (copies : List PageReplica) (marks : List Bool) : Type 0 where
  pub few : length copies ≤ most_pages
  pub clean : (n : ℕ) (c : PageReplica) → slice_get copies n ≡ Some c → slice_get marks n ≡ Some false → ContentsAreClean c.page

-- the record is the harvest of one of the copies, some word of which is dirty
pub record IsHarvestOfCopy (copies : List PageReplica) (r : PageChanges) : Type 0 where
  pub page : ℕ
  pub copy : PageReplica
  pub at : slice_get copies page ≡ Some copy
  pub harvest : IsCarriedHarvest page copy.page r
  pub dirty : ¬ ContentsAreClean copy.page

-- the records are the harvests of the copies with dirty words, by rising page
pub record AreHarvestsOfCopies (copies : List PageReplica) (records : List PageChanges) : Type 0 where
  pub each : (r : PageChanges) → Has records r → IsHarvestOfCopy copies r
  pub all : (n : ℕ) (c : PageReplica) → slice_get copies n ≡ Some c → ¬ ContentsAreClean c.page
      → (r : PageChanges) × Has records r × (r.page ≡ n)
  pub rising : SentIntervalPagesRise records
