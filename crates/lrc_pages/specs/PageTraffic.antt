-- What a history costs, by what its messages are for.
use Rattle.std.specs.Prelude.{ℕ, ◌≡◌, ◌+◌, ◌*◌, ◌^◌, ◌≤◌, List, sum_by}
use Rattle.journal.specs.declared.event.Event.{Event}
use Rattle.journal.specs.declared.event.Kind.{Kind}
use Rattle.journal.specs.declared.event.Kind.TheVariants.{Acquire, Await, Arrive, Depart, Fetch}
use Rattle.journal.specs.Traffic.{records, words, traffic_records_of, traffic_words_fetched}
use Rattle.lrc_pages.specs.declared.page_traffic.PageTraffic.{PageTraffic}

-- the messages of an event for a lock
abbrev pub lock_messages_of : Kind → ℕ
lock_messages_of (Acquire l) = 2
lock_messages_of _ = 0

-- for a flag
abbrev pub flag_messages_of : Kind → ℕ
flag_messages_of (Await f) = 2
flag_messages_of _ = 0

-- for the barrier
abbrev pub barrier_messages_of : Kind → ℕ
barrier_messages_of Arrive = 1
barrier_messages_of Depart = 1
barrier_messages_of _ = 0

-- for a fetch
abbrev pub fetch_messages_of : Kind → ℕ
fetch_messages_of (Fetch writers n records words) = 2 * writers
fetch_messages_of _ = 0

-- one for a fetch
abbrev pub fetches_of : Kind → ℕ
fetches_of (Fetch writers n records words) = 1
fetches_of _ = 0

-- this is what an event of this kind costs
pub record IsPageCost (k : Kind) (t : PageTraffic) : Type 0 where
  pub locks : t.locks ≡ lock_messages_of k
  pub flags : t.flags ≡ flag_messages_of k
  pub barriers : t.barriers ≡ barrier_messages_of k
  pub answers : t.answers ≡ fetch_messages_of k
  pub fetches : t.fetches ≡ fetches_of k
  pub records : t.records ≡ traffic_records_of k
  pub words : t.words ≡ traffic_words_fetched k

-- this is what the events cost
pub record IsPageTraffic (h : List Event) (t : PageTraffic) : Type 0 where
  pub locks : t.locks ≡ sum_by (λ e. lock_messages_of e.kind) h
  pub flags : t.flags ≡ sum_by (λ e. flag_messages_of e.kind) h
  pub barriers : t.barriers ≡ sum_by (λ e. barrier_messages_of e.kind) h
  pub answers : t.answers ≡ sum_by (λ e. fetch_messages_of e.kind) h
  pub fetches : t.fetches ≡ sum_by (λ e. fetches_of e.kind) h
  pub records : t.records ≡ records h
  pub words : t.words ≡ words h

-- no more than that many events can cost
pub record ArePageCosts (n : ℕ) (t : PageTraffic) : Type 0 where
  pub messages : t.locks + t.flags + t.barriers + t.answers ≤ n * 2 ^ 33
  pub fetches : t.fetches ≤ n
  pub records : t.records ≤ n * 2 ^ 32
  pub words : t.words ≤ n * 2 ^ 32
