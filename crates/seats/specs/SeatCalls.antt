-- What the calls of a seat do to its processor.
use Rattle.std.specs.Prelude.{ℕ, ◌≡◌, ◌⊎◌, Bool, Option, Some, None, List, [], ◌∷◌, ◌++◌, filter, map, Result, Ok, Err}
use Rattle.journal.specs.declared.event.Kind.{Kind}
use Rattle.journal.specs.declared.event.Kind.TheVariants.{Load, Store, Fetch}
use Rattle.journal.specs.DidEvent.{event}
use Rattle.journal.specs.AwaitedNext.{awaited_next}
use Rattle.cluster.specs.Copies.Local.{Local, calls}
use Rattle.cluster.specs.Copies.AfterNews.{locks_held_after_news}
use Rattle.cluster.specs.ProcessorCalls.{IsSameProcessorOfCall}
use Rattle.cluster.specs.Covers.{HasCoverage, IsCoverAllowed}
use Rattle.cluster.specs.declared.cluster.accessing.WordAccess.{WordAccess}
use Rattle.cluster.specs.declared.cluster.accessing.WordAccess.TheVariants as access
use Rattle.seats.specs.Deeds.{is_deed}
use Rattle.seats.specs.Sitting.{seat_deeds}

-- it is the same processor, has cut nothing off, and is covered still
pub record IsSeatedAfterCall (old new : Local) : Type 0 where
  pub same : IsSameProcessorOfCall old new
  pub uncut : new.own_cut ≡ old.own_cut
  pub covers : HasCoverage new
  pub allowed : IsCoverAllowed old → IsCoverAllowed new

-- and has called just this besides
pub record SeatCallsBesides (old new : Local) (kinds : List Kind) : Type 0 where
  pub stays : IsSeatedAfterCall old new
  pub calls_are : calls new ≡ calls old ++ map (event old.number) kinds
  pub deeds_are : seat_deeds new ≡ seat_deeds old ++ filter is_deed kinds

-- the same, and it closed nothing: it holds and awaits what it held and awaited
pub record SeatCallsInside (old new : Local) (kinds : List Kind) : Type 0 where
  pub besides : SeatCallsBesides old new kinds
  pub held_is : new.held ≡ old.held
  pub awaits_is : new.awaits ≡ old.awaits

-- a fetch of this page, or nothing
abbrev pub IsSeatCallFetchIfAny : ℕ → List Kind → Type 0
IsSeatCallFetchIfAny page kinds = (kinds ≡ [])
    ⊎ ((writers records words : ℕ) × (kinds ≡ Fetch writers page records words ∷ []))

-- it has called this, after a fetch of this page if any
pub record AccessesPage (old new : Local) (page : ℕ) (kinds : List Kind) : Type 0 where
  pub fetches : List Kind
  pub fetched : IsSeatCallFetchIfAny page fetches
  pub inside : SeatCallsInside old new (fetches ++ kinds)
  pub deeds_are : seat_deeds new ≡ seat_deeds old ++ filter is_deed kinds

-- a load that is answered this word, or a store of a word of its own
abbrev pub seat_call_word_kind : WordAccess → ℕ → ℕ → Kind
seat_call_word_kind access.Load a v = Load a v
seat_call_word_kind (access.Store word) a v = Store a word

-- an access, by the answer, or nothing if it was refused
abbrev pub SeatCallAccessesBy : {E : Type 0} → Local → Local → ℕ → WordAccess → ℕ → Result ℕ E → Type 0
SeatCallAccessesBy old new page x a (Ok v) = AccessesPage old new page (seat_call_word_kind x a v ∷ [])
SeatCallAccessesBy old new page x a (Err e) = AccessesPage old new page []

-- what ends the wait for this, if anything does
abbrev pub seat_call_answer : Option Kind → List Kind
seat_call_answer None = []
seat_call_answer (Some k) = k ∷ []

-- a call that closes the interval, and what ends its wait
abbrev pub seat_call_and_answer : Kind → List Kind
seat_call_and_answer k = k ∷ seat_call_answer (awaited_next k)

-- the locks held after these events
abbrev pub seat_calls_held_through : List Kind → List Bool → List Bool
seat_calls_held_through [] held = held
seat_calls_held_through (k ∷ ks) held = seat_calls_held_through ks (locks_held_after_news k held)

-- it has taken what it awaited, if anything: it holds the locks that it then holds, and its block is as it was
pub record IsSeatCallTaken (old new : Local) : Type 0 where
  pub besides : SeatCallsBesides old new (seat_call_answer old.awaits)
  pub held_is : new.held ≡ seat_calls_held_through (seat_call_answer old.awaits) old.held
  pub idle : new.awaits ≡ None
  pub block_is : new.block ≡ old.block

-- nothing was done: its open block is as it was, too
pub record IsSeatCallUndone (old new : Local) : Type 0 where
  pub inside : SeatCallsInside old new []
  pub block_is : new.block ≡ old.block

-- nothing was done, and it awaits something still
pub record SeatCallWaitsStill (old new : Local) : Type 0 where
  pub undone : IsSeatCallUndone old new
  pub last : Kind
  pub awaits_is : old.awaits ≡ Some last

-- it has done this besides, holds the locks that it then holds, awaits nothing, and its block is handed in
pub record HasDone (old new : Local) (kinds : List Kind) : Type 0 where
  pub besides : SeatCallsBesides old new kinds
  pub held_is : new.held ≡ seat_calls_held_through kinds old.held
  pub idle : new.awaits ≡ None
  pub handed : new.block ≡ []

-- it has made the call, and awaits its end
pub record IsSeatCallBegun (old new : Local) (k : Kind) : Type 0 where
  pub besides : SeatCallsBesides old new (k ∷ [])
  pub held_is : new.held ≡ old.held
  pub last : Kind
  pub ends : awaited_next k ≡ Some last
  pub awaits_is : new.awaits ≡ Some last

-- nothing was done, or only the call was made
abbrev pub IsLeftUndone : Local → Local → Kind → Type 0
IsLeftUndone old new k = IsSeatCallUndone old new ⊎ IsSeatCallBegun old new k
