-- Accesses for which a stale copy is fetched, and a full block handed in.
use Rattle.std.specs.Prelude.{ℕ, ◌≡◌, ◌⊎◌, ◌/◌, true, false, nat_le, Option, Some, None, Result, Ok, Err}
use Rattle.journal.specs.declared.event.Kind.TheVariants.{Load}
use Rattle.book.specs.declared.refused.Refused.{Refused}
use Rattle.cluster.specs.AccessDone.{FetchAccessDone, LoadAccessDone, StoreAccessDone}
use Rattle.cluster.specs.Copies.Local.{Local, local_noted}
use Rattle.cluster.specs.Covers.{HasCoverage}
use Rattle.cluster.specs.ProcessorCalls.{IsProcessorHandingCall}
use Rattle.cluster.specs.ProcessorRefusals.{processor_refusal_at_once, processor_refusal_block_full, processor_refusal_has_valid, processor_refusal_is_waiting, processor_refusal_of_access}
use Rattle.cluster.specs.declared.cluster.accessing.WordAccess.{WordAccess}
use Rattle.cluster.specs.declared.cluster.accessing.WordAccess.TheVariants as access

-- a load that is answered this word, or a store of a word of its own
abbrev pub IsWordAccessDone : Local → WordAccess → ℕ → ℕ → Local → Type 0
IsWordAccessDone old access.Load a v new = LoadAccessDone old a v × (new ≡ local_noted old (Load a v))
IsWordAccessDone old (access.Store word) a v new = (v ≡ word) × StoreAccessDone old a word new

-- its block was full, and this came of a flush
abbrev pub IsFullBlockHanded : Local → Local → Option Refused → Type 0
IsFullBlockHanded old new refused = (processor_refusal_block_full old ≡ true) × IsProcessorHandingCall old new refused

-- its block had room, or was handed in
abbrev pub HasAccessRoom : Local → Local → Type 0
HasAccessRoom old new = ((processor_refusal_block_full old ≡ false) × (new ≡ old)) ⊎ IsFullBlockHanded old new None

-- the same, by the answer, or it couldn't be handed in
abbrev pub IsAccessRoomBy : {A : Type 0} → Local → Local → Result A Refused → Type 0
IsAccessRoomBy old new (Ok x) = HasAccessRoom old new
IsAccessRoomBy old new (Err e) = IsFullBlockHanded old new (Some e)

-- it waits for nothing, and has a stale copy of this page
pub record IsAccessFetchDue (m : Local) (page : ℕ) : Type 0 where
  pub within : nat_le m.sizes.pages page ≡ false
  pub idle : processor_refusal_is_waiting m ≡ false
  pub stale : processor_refusal_has_valid m page ≡ false

-- and it fetched the page, in a block with room
pub record IsAccessFetched (old : Local) (page : ℕ) (new : Local) : Type 0 where
  pub due : IsAccessFetchDue old page
  pub roomy : Local
  pub room : HasAccessRoom old roomy
  pub done : FetchAccessDone roomy page new
  pub covers : HasCoverage new

-- the same, by the answer, or the block couldn't be handed in
abbrev pub IsAccessFetchedBy : {A : Type 0} → Local → ℕ → Local → Result A Refused → Type 0
IsAccessFetchedBy old page new (Ok x) = IsAccessFetched old page new
IsAccessFetchedBy old page new (Err e) = IsFullBlockHanded old new (Some e)

-- it waits for nothing, its access of this address is refused so, and it is covered
pub record IsAccessUnready (m : Local) (a : ℕ) (e : Refused) : Type 0 where
  pub idle : processor_refusal_is_waiting m ≡ false
  pub refused : processor_refusal_of_access m a ≡ Some e
  pub covers : HasCoverage m

-- the access isn't refused at once; then it fetched the address's page, if its copy of that was stale
pub record IsAccessBrought (old : Local) (a : ℕ) (brought : Local) : Type 0 where
  pub at_once : processor_refusal_at_once old a ≡ None
  pub covers : HasCoverage old
  pub fetched : (brought ≡ old) ⊎ IsAccessFetched old (a / old.sizes.words) brought

-- then its copy was valid, and the block had room or was handed in: nothing is against the access any more
pub record IsAccessReady (old : Local) (a : ℕ) (new : Local) : Type 0 where
  pub brought : Local
  pub brings : IsAccessBrought old a brought
  pub valid : processor_refusal_has_valid brought (a / old.sizes.words) ≡ true
  pub room : HasAccessRoom brought new
  pub may : processor_refusal_of_access new a ≡ None

-- the access is refused at once, and nothing was done; or a full block couldn't be handed in, maybe after that fetch
abbrev pub IsReadyAccessRefused : Local → ℕ → Local → Refused → Type 0
IsReadyAccessRefused old a new e =
    ((processor_refusal_at_once old a ≡ Some e) × (new ≡ old))
    ⊎ ((brought : Local) × IsAccessBrought old a brought × IsFullBlockHanded brought new (Some e))

-- all is ready for the access, by the answer, or it is refused
abbrev pub IsAccessReadyBy : {A : Type 0} → Local → ℕ → Local → Result A Refused → Type 0
IsAccessReadyBy old a new (Ok x) = IsAccessReady old a new
IsAccessReadyBy old a new (Err e) = IsReadyAccessRefused old a new e

-- the access was made when all was ready, and answered so
pub record IsReadyAccessMade (old : Local) (a : ℕ) (x : WordAccess) (new : Local) (v : ℕ) : Type 0 where
  pub ready : Local
  pub is_ready : IsAccessReady old a ready
  pub done : IsWordAccessDone ready x a v new
  pub covers : HasCoverage new

-- the same, by the answer, or it is refused
abbrev pub IsReadyAccess : Local → ℕ → WordAccess → Local → Result ℕ Refused → Type 0
IsReadyAccess old a x new (Ok v) = IsReadyAccessMade old a x new v
IsReadyAccess old a x new (Err e) = IsReadyAccessRefused old a new e
