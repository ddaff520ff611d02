-- What the events cost in messages, records and words.
use Rattle.std.specs.Prelude.{ℕ, ◌*◌, List, sum_by}
use Rattle.journal.specs.declared.event.Event.{Event}
use Rattle.journal.specs.declared.event.Kind.{Kind}
use Rattle.journal.specs.declared.event.Kind.TheVariants.{Fetch, Acquire, Arrive, Depart, Await}

abbrev pub traffic_messages_of : Kind → ℕ
traffic_messages_of (Acquire l) = 2
traffic_messages_of (Await f) = 2
traffic_messages_of Arrive = 1
traffic_messages_of Depart = 1
traffic_messages_of (Fetch writers n records words) = 2 * writers
traffic_messages_of _ = 0

abbrev pub traffic_records_of : Kind → ℕ
traffic_records_of (Fetch writers n records words) = records
traffic_records_of _ = 0

abbrev pub traffic_words_fetched : Kind → ℕ
traffic_words_fetched (Fetch writers n records words) = words
traffic_words_fetched _ = 0

abbrev pub messages : List Event → ℕ
messages j = sum_by (λ e. traffic_messages_of e.kind) j

abbrev pub records : List Event → ℕ
records j = sum_by (λ e. traffic_records_of e.kind) j

abbrev pub words : List Event → ℕ
words j = sum_by (λ e. traffic_words_fetched e.kind) j
