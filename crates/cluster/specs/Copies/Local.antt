-- A processor as contracts see it.
use Rattle.std.specs.Prelude.{ℕ, Bool, false, Option, None, List, [], ◌∷◌, ◌++◌, replicate}
use Rattle.base.specs.Limits.{most_pages}
use Rattle.journal.specs.declared.event.Event.{Event}
use Rattle.journal.specs.declared.event.Kind.{Kind}
use Rattle.journal.specs.Sizes.{Sizes}
use Rattle.journal.specs.Events.{events_of}
use Rattle.journal.specs.DidEvent.{event}
use Rattle.turn.specs.Chairs.{ChairLockId}
use Rattle.cluster.specs.Copies.PageReplica.{PageReplica, zero_page_replica}

-- its lock and how often it has entered; its number and the cluster's sizes; the history as it left it last, how many
-- of its first events were cut off then, and how many its own cuts took off in all; its open block; its copy of each page, and to which pages it may have
-- stored since its last closing event;
-- its timestamp; which locks it holds; and what it waits for
pub record Local : Type 0 where
  pub lock : ChairLockId
  pub entries : ℕ
  pub number : ℕ
  pub sizes : Sizes
  pub seen : List Event
  pub cut : ℕ
  pub own_cut : ℕ
  pub block : List Event
  pub copies : List PageReplica
  pub stored : List Bool
  pub time : List ℕ
  pub held : List Bool
  pub awaits : Option Kind

-- its accepted calls, as events with their replies
abbrev pub calls : Local → List Event
calls m = events_of m.seen m.number ++ m.block

-- after one more event of its open block
abbrev pub local_noted : Local → Kind → Local
local_noted m k = record m { block = m.block ++ event m.number k ∷ [] }

-- a copy of a page that nobody stored to
abbrev pub blank_local_copy : Sizes → PageReplica
blank_local_copy s = zero_page_replica s.words

-- processor p of this lock before its first call
abbrev pub new_local : ChairLockId → ℕ → Sizes → Local
new_local l p s = record {
  lock = l;
  entries = 0;
  number = p;
  sizes = s;
  seen = [];
  cut = 0;
  own_cut = 0;
  block = [];
  copies = replicate s.pages (blank_local_copy s);
  stored = replicate most_pages false;
  time = replicate s.processors 0;
  held = replicate s.locks false;
  awaits = None;
}
