-- Entries of lists of timestamps.
use Rattle.std.specs.Prelude.{ℕ, ◌≡◌, ◌≢◌, ◌+◌, ◌==◌, cond, max, List, [], slice_index, slice_index_or, unwrap_or}
use Rattle.std.specs.Ordering.{nat_cmp}
use Rattle.std.specs.BTreeMap.{BTreeMap, get}

-- entry q of the timestamp at place n of a list, 0 past its end
abbrev pub entry : List (List ℕ) → ℕ → ℕ → ℕ
entry clocks n q = slice_index (slice_index_or clocks n []) q

-- entry q of the timestamp that is kept under the number n, 0 if there is none
abbrev pub clock_entry_in_map : BTreeMap ℕ (List ℕ) → ℕ → ℕ → ℕ
clock_entry_in_map clocks n q = slice_index (unwrap_or (get nat_cmp clocks n) []) q

-- of these entries, those of timestamp n have joined this one, and the others are as before
pub record ClockEntryJoinedAt (old new : ℕ → ℕ → ℕ) (n : ℕ) (time : ℕ → ℕ) : Type 0 where
  pub joined : (q : ℕ) → new n q ≡ max (old n q) (time q)
  pub same : (m q : ℕ) → m ≢ n → new m q ≡ old m q

-- of these entries, p's own one in p's timestamp is one more, and the others are as before
pub record ClockEntryClosedAt (old new : ℕ → ℕ → ℕ) (p : ℕ) : Type 0 where
  pub own : (q : ℕ) → new p q ≡ old p q + cond (p == q) 1 0
  pub same : (m q : ℕ) → m ≢ p → new m q ≡ old m q
