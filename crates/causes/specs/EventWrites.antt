-- Which words of its processor's copies an event writes.
use Rattle.std.specs.Prelude.{ℕ, ◌≡◌, ◌≢◌, ◌<◌, ◌≤◌, List, MatchOption, Option, Some, slice_get}
use Rattle.std.specs.Global.{Vec}
use Rattle.base.specs.InOrderOnce.{Has, InOrder}
use Rattle.journal.specs.declared.event.Event.{Event}
use Rattle.journal.specs.Events.{EventAt}
use Rattle.journal.specs.Sizes.{Sizes}
use Rattle.causes.specs.declared.origin.WordOrigin.{WordOrigin}
use Rattle.causes.specs.declared.written.WrittenRange.{WrittenRange}
use Rattle.causes.specs.declared.written.WrittenWord.{WrittenWord}
use Rattle.journal.specs.OriginWrites.{OriginWritesWord}

-- what the event at place k writes is in p's copies, in this range
abbrev pub IsEventWriteRange : Sizes → List Event → ℕ → ℕ → WrittenRange → Type 0
IsEventWriteRange s j k p r = (q a i : ℕ) → OriginWritesWord s j q a k i → (q ≡ p) × (r.first ≤ a) × (a < r.end)

-- a word of this origin was written at place k, from this store, or at another place
abbrev pub IsEventWriteOfStore : Option WordOrigin → ℕ → Option ℕ → Type 0
IsEventWriteOfStore origin k o =
    MatchOption o ((x : WordOrigin) → origin ≡ Some x → x.write ≢ k) (λ i. origin ≡ Some (record { store = i; write = k }))

-- these are the words of the range that p's event at place k writes, each from its store, by rising addresses
pub record AreEventWritesAmong (s : Sizes) (j : List Event) (k p : ℕ) (r : WrittenRange) (written : List WrittenWord) : Type 0 where
  pub each : (x : WrittenWord) → Has written x → OriginWritesWord s j p x.address k x.store
  pub all : (a i : ℕ) → r.first ≤ a → a < r.end → OriginWritesWord s j p a k i → (x : WrittenWord) × Has written x × (x.address ≡ a)
  pub rising : InOrder (λ (x y : WrittenWord). x.address < y.address) written

-- these are all words that the event at place k writes in its processor's copies
pub record AreEventWrites (s : Sizes) (j : List Event) (k : ℕ) (written : List WrittenWord) : Type 0 where
  pub each : (e : Event) (x : WrittenWord) → EventAt j k e → Has written x → OriginWritesWord s j e.processor x.address k x.store
  pub all : (q a i : ℕ) → OriginWritesWord s j q a k i → (x : WrittenWord) × Has written x × (x.address ≡ a)
  pub rising : InOrder (λ (x y : WrittenWord). x.address < y.address) written

-- and so for the first places
abbrev pub AreAllEventWrites : Sizes → List Event → List (Vec WrittenWord) → Type 0
AreAllEventWrites s j rows = (k : ℕ) (row : Vec WrittenWord) → slice_get rows k ≡ Some row → AreEventWrites s j k row.items
