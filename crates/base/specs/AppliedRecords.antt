-- What an interval's stores come to in a page.
use Rattle.std.specs.Prelude.{suc, Bool, true, false, None, slice_set, ◌<◌, ℕ, ◌↔◌, Option, Some, List, [], ◌∷◌}
use Rattle.base.specs.InOrderOnce.{Has, InOrder}
use Rattle.base.specs.LastWrite.{written, LastWrite}

-- the page after a record's words
abbrev pub record_applied : List ℕ → List (ℕ × ℕ) → List ℕ
record_applied page words = written (λ (x : ℕ × ℕ). Some x) page words

-- the page after these records, in turn
abbrev pub records_applied : List ℕ → List (List (ℕ × ℕ)) → List ℕ
records_applied page [] = page
records_applied page (r ∷ rs) = records_applied (record_applied page r) rs

-- the record has each offset that is written, once, with its last value, in rising order
pub record IsRecordOf {A : Type 0} (f : A → Option (ℕ × ℕ)) (xs : List A) (words : List (ℕ × ℕ)) : Type 0 where
  pub each : (o v : ℕ) → Has words (o, v) ↔ LastWrite f xs o v
  pub rising : InOrder (λ (x y : ℕ × ℕ). x.0 < y.0) words

-- a record for each group
pub data AreRecordsOf (f : ℕ → Option (ℕ × ℕ)) : List (List ℕ) → List (List (ℕ × ℕ)) → Type 0 where
  none : AreRecordsOf f [] []
  more : {g : List ℕ} {r : List (ℕ × ℕ)} {gs : List (List ℕ)} {rs : List (List (ℕ × ℕ))} → IsRecordOf f g r
      → AreRecordsOf f gs rs → AreRecordsOf f (g ∷ gs) (r ∷ rs)

abbrev pub mark_write : List Bool → Option (ℕ × ℕ) → List Bool
mark_write marks None = marks
mark_write marks (Some p) = slice_set marks p.0 true

-- the dirty marks after what the items write, in turn
abbrev pub marked_writes : {A : Type 0} → (A → Option (ℕ × ℕ)) → List Bool → List A → List Bool
marked_writes f marks [] = marks
marked_writes f marks (x ∷ xs) = marked_writes f (mark_write marks (f x)) xs

-- the dirty offsets, from i on, with their words
abbrev pub harvest : ℕ → List ℕ → List Bool → List (ℕ × ℕ)
harvest i [] marks = []
harvest i (w ∷ ws) [] = []
harvest i (w ∷ ws) (true ∷ marks) = (i, w) ∷ harvest (suc i) ws marks
harvest i (w ∷ ws) (false ∷ marks) = harvest (suc i) ws marks
