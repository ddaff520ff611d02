-- Cuts of a history: what is known of each processor's events, by a place up to which they are known.
use Rattle.std.specs.Prelude.{ℕ, ◌≡◌, ◌≢◌, ◌↔◌, ◌<◌, ◌≤◌, ◌+◌, ◌-◌, ◌==◌, cond, List, length, slice_index, vec_len}
use Rattle.journal.specs.declared.event.Event.{Event}
use Rattle.journal.specs.declared.event.Kind.TheVariants.{Release, Set}
use Rattle.journal.specs.Events.{EventAt, event_count, event_arrives, event_departs}
use Rattle.journal.specs.Pasts.{InPast, InPastOfSome}
use Rattle.journal.specs.Brings.{BringsFromKind, BringsFromSomeArrival}
use Rattle.judge.specs.declared.cuts.Cuts.{Cuts}
use Rattle.judge.specs.JudgedSizes.{most_judged_processors}
use Rattle.judge.specs.NumberedCuts.{numbered_cut_at}
use Rattle.judge.specs.CutRows.{cut_entry}
use Rattle.judge.specs.CutEntries.{CutEntriesJoinedAt}

-- of each processor q, the events among these places are those before place t q
pub record IsCutIn (j : List Event) (among : ℕ → Type 0) (t : ℕ → ℕ) : Type 0 where
  pub covers : (i : ℕ) (e : Event) → EventAt j i e → among i ↔ (i < t e.processor)
  pub within : (q : ℕ) → t q ≤ length j

-- of each other processor q, p knows the events before place t q
pub record IsCutOf (j : List Event) (p : ℕ) (t : ℕ → ℕ) : Type 0 where
  pub covers : (i : ℕ) (e : Event) → EventAt j i e → e.processor ≢ p → InPast j p i ↔ (i < t e.processor)
  pub within : (q : ℕ) → t q ≤ length j

-- p's arrival has joined its cut into what its episode keeps, unless all have departed from that, and is counted
pub record CutsAfterArrival (c d : Cuts) (p : ℕ) : Type 0 where
  pub joined : c.gone ≤ slice_index c.arrivals.items p
      → CutEntriesJoinedAt (cut_entry c.episodes) (cut_entry d.episodes) (slice_index c.arrivals.items p - c.gone)
      (cut_entry d.processors p)
  pub gone : slice_index c.arrivals.items p < c.gone → d.episodes ≡ c.episodes
  pub counted : (q : ℕ) → slice_index d.arrivals.items q ≡ slice_index c.arrivals.items q + cond (p == q) 1 0

-- there is a row and a count for each processor, and each row has an entry for each
pub record AreCutsLong (c : Cuts) : Type 0 where
  pub width : c.processors.width ≡ c.present
  pub count : c.processors.count ≡ c.present
  pub locks : c.locks.low.width ≡ c.present
  pub flags : c.flags.low.width ≡ c.present
  pub episodes : c.episodes.width ≡ c.present
  pub arrivals : vec_len c.arrivals ≡ c.present
  pub departures : vec_len c.departures ≡ c.present
  pub few : c.present ≤ most_judged_processors

-- the cuts of the processors, locks, flags and episodes, and the counts of arrivals and departures, are those of the history
pub record AreCuts (j : List Event) (c : Cuts) : Type 0 where
  pub place : c.place ≡ length j
  pub long : AreCutsLong c
  pub cuts : (p : ℕ) → p < c.present → IsCutOf j p (cut_entry c.processors p)
  pub locks : (l : ℕ) → IsCutIn j (InPastOfSome j (BringsFromKind j (Release l))) (numbered_cut_at c.locks l)
  pub flags : (f : ℕ) → IsCutIn j (InPastOfSome j (BringsFromKind j (Set f))) (numbered_cut_at c.flags f)
  pub episodes : (n : ℕ) → c.gone ≤ n
      → IsCutIn j (InPastOfSome j (BringsFromSomeArrival j n)) (cut_entry c.episodes (n - c.gone))
  pub left : (p : ℕ) → p < c.present → c.gone ≤ slice_index c.departures.items p
  pub arrivals : (p : ℕ) → p < c.present → slice_index c.arrivals.items p ≡ event_count event_arrives j p
  pub departures : (p : ℕ) → p < c.present → slice_index c.departures.items p ≡ event_count event_departs j p
