-- The traffic of the events so far.
use Rattle.std.proofs.Common.{◌≡◌, ◌*◌, ◌^◌, ◌≤◌, ℕ, List, take}
use Rattle.journal.specs.declared.event.Event.{Event}
use Rattle.journal.specs.declared.traffic.Traffic.{Traffic}
use Rattle.journal.specs.Traffic.{messages, records, words}

-- the three sums over the first n events, and that they are small
pub record Spent (t : Traffic) (events : List Event) (n : ℕ) : Type 0 where
  pub messages_are : t.messages ≡ messages (take n events)
  pub records_are : t.records ≡ records (take n events)
  pub words_are : t.words ≡ words (take n events)
  pub few_messages : t.messages ≤ n * 2 ^ 33
  pub few_records : t.records ≤ n * 2 ^ 33
  pub few_words : t.words ≤ n * 2 ^ 33
