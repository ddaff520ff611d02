-- An event, as JSON.
use Rattle.std.specs.Prelude.{ℕ, suc, List, [], ◌∷◌, codes}
use Rattle.std.specs.Str.Lossy.{utf8_lossy}
use Rattle.serde_json.specs.Data.{Data, Members, no_members, object, put, string}
use Rattle.journal.specs.declared.event.Event.{Event}
use Rattle.journal.specs.declared.event.Kind.{Kind}
use Rattle.journal.specs.declared.event.Kind.TheVariants as kind
use Rattle.lrc_json.specs.PutTogether.{json_number}

-- what an event is called
abbrev pub with_event_kind : List ℕ → Members → Members
with_event_kind name ms = put (codes "kind") (string name) ms

-- an access's address and word
abbrev pub with_access_event : List ℕ → ℕ → ℕ → Members → Members
with_access_event name address word ms =
    put (codes "value") (json_number word) (put (codes "address") (json_number address) (with_event_kind name ms))

-- a lock's or a flag's number
abbrev pub with_numbered_event : List ℕ → List ℕ → ℕ → Members → Members
with_numbered_event name key n ms = put key (json_number n) (with_event_kind name ms)

-- what a fetch brought
abbrev pub with_fetch_event : ℕ → ℕ → ℕ → ℕ → Members → Members
with_fetch_event page writers records words ms =
    put (codes "words") (json_number words) (put (codes "records") (json_number records)
    (put (codes "writers") (json_number writers) (put (codes "page") (json_number page) (with_event_kind (codes "fetch") ms))))

-- what an event did
abbrev pub with_event : Kind → Members → Members
with_event (kind.Load address word) ms = with_access_event (codes "load") address word ms
with_event (kind.Store address word) ms = with_access_event (codes "store") address word ms
with_event (kind.Fetch writers page records words) ms = with_fetch_event page writers records words ms
with_event (kind.Ask lock) ms = with_numbered_event (codes "ask") (codes "lock") lock ms
with_event (kind.Acquire lock) ms = with_numbered_event (codes "acquire") (codes "lock") lock ms
with_event (kind.Release lock) ms = with_numbered_event (codes "release") (codes "lock") lock ms
with_event kind.Arrive ms = with_event_kind (codes "arrive") ms
with_event kind.Depart ms = with_event_kind (codes "depart") ms
with_event (kind.Set flag) ms = with_numbered_event (codes "set") (codes "flag") flag ms
with_event (kind.Watch flag) ms = with_numbered_event (codes "watch") (codes "flag") flag ms
with_event (kind.Await flag) ms = with_numbered_event (codes "await") (codes "flag") flag ms

-- a label, if there is one; bytes of it that are no UTF-8 become U+FFFD
abbrev pub with_label : List ℕ → Members → Members
with_label [] ms = ms
with_label (b ∷ bs) ms = put (codes "label") (string (utf8_lossy (b ∷ bs))) ms

-- a place, and who did something there
abbrev pub json_place : ℕ → ℕ → Members
json_place place processor = put (codes "processor") (json_number processor) (put (codes "place") (json_number place) no_members)

-- an event
abbrev pub json_event : ℕ → Event → List ℕ → Members
json_event place e label = with_label label (with_event e.kind (json_place place e.processor))

-- events without labels, the first of which has this place
abbrev pub json_events : ℕ → List Event → List Data
json_events place [] = []
json_events place (e ∷ es) = object (json_event place e []) ∷ json_events (suc place) es
