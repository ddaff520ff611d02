-- By which events an event's processor gets its news: the last of them.
use Rattle.std.specs.Prelude.{ℕ, ◌≡◌, ◌≤◌, List, Some, length, slice_get}
use Rattle.std.specs.Global.{Vec}
use Rattle.base.specs.InOrderOnce.{Has}
use Rattle.journal.specs.declared.event.Event.{Event}
use Rattle.journal.specs.HappensBeforeEdges.{HappensBefore}
use Rattle.journal.specs.Pasts.{UpTo}
use Rattle.causes.specs.News.{IsNews}

-- these places are news to place k, none of them happens before another one of its news, and each of its news is one of them or
-- happens before one
pub record AreHandOvers (j : List Event) (k : ℕ) (places : List ℕ) : Type 0 where
  pub each : (n : ℕ) → Has places n → IsNews j n k
  pub last : (n i : ℕ) → Has places n → IsNews j i k → ¬ HappensBefore j n i
  pub all : (i : ℕ) → IsNews j i k → (n : ℕ) × Has places n × UpTo j n i

-- these are such places for each event
pub record AreAllHandOvers (j : List Event) (rows : List (Vec ℕ)) : Type 0 where
  pub long : length rows ≡ length j
  pub each : (k : ℕ) (row : Vec ℕ) → slice_get rows k ≡ Some row → AreHandOvers j k row.items

-- of the news from number n on (of rising places) these are the last ones: none is up to another, and each is up to one
pub record AreHandOversFrom (j : List Event) (news : List ℕ) (n : ℕ) (places : List ℕ) : Type 0 where
  pub each : (m : ℕ) → Has places m → (x : ℕ) × (slice_get news x ≡ Some m)
  pub last : (m x i : ℕ) → Has places m → slice_get news x ≡ Some i → ¬ HappensBefore j m i
  pub all : (x i : ℕ) → n ≤ x → slice_get news x ≡ Some i → (m : ℕ) × Has places m × UpTo j m i
