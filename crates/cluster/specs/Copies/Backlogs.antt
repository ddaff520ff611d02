-- The records that a copy lacks, and where one more belongs.
use Rattle.std.specs.Prelude.{ℕ, ◌≡◌, ◌<◌, ◌≤◌, Some, List, [], ◌∷◌, ◌++◌, drop, length, slice_get, take}
use Rattle.interval.specs.SentIntervals.{SentRecord}

-- the records in their order, and for how many more of them there is memory
pub record BacklogOfCopy : Type 0 where
  pub records : List SentRecord
  pub room : ℕ

-- no records, and memory for none
abbrev pub backlog_of_none : BacklogOfCopy
backlog_of_none = record { records = []; room = 0 }

-- a list read round from its k-th item on
abbrev pub backlog_read_from : {A : Type 0} → ℕ → List A → List A
backlog_read_from k xs = drop k xs ++ take k xs

-- the first k of the records were closed no later than `place`, and the others later
pub record IsPlaceInBacklog (missing : List SentRecord) (place k : ℕ) : Type 0 where
  pub within : k ≤ length missing
  pub before : (i : ℕ) (x : SentRecord) → i < k → slice_get missing i ≡ Some x → x.place ≤ place
  pub behind : (i : ℕ) (x : SentRecord) → k ≤ i → slice_get missing i ≡ Some x → place < x.place

-- the record stands behind those that were closed no later than it, and before the others
pub record IsInsertedInBacklog (old : List SentRecord) (x : SentRecord) (new : List SentRecord) : Type 0 where
  pub at : ℕ
  pub among : IsPlaceInBacklog old x.place at
  pub put : new ≡ take at old ++ x ∷ drop at old
