-- Why a call that only the processor answers is refused.
use Rattle.std.specs.Prelude.{ℕ, ◌/◌, Bool, false, not, nat_le, cond, Option, Some, None, is_some, List, [], ◌∷◌, length, slice_get, slice_index_or}
use Rattle.book.specs.declared.refused.Refused.{Refused}
use Rattle.book.specs.declared.refused.Refused.TheVariants.{OutOfRange, Waiting, BlockFull, NotHeld, AlreadyHeld, BadLock, BadFlag, NothingAwaited, AlreadyValid, SeatSpent}
use Rattle.book.specs.declared.refused.Refused.TheVariants as refused
use Rattle.journal.specs.declared.event.Kind.{Kind}
use Rattle.journal.specs.declared.event.Kind.TheVariants.{Ask, Release, Arrive, Set, Watch}
use Rattle.journal.specs.Sizes.{addresses}
use Rattle.base.specs.Limits.{most_in_block}
use Rattle.cluster.specs.Copies.PageReplica.{PageReplica, may_use_page_replica, page_replica_words_if}
use Rattle.cluster.specs.Copies.Local.{Local}

-- the first of these that applies
abbrev pub first_processor_refusal_due : List (Bool × Refused) → Option Refused
first_processor_refusal_due [] = None
first_processor_refusal_due (r ∷ rs) = cond r.0 (Some r.1) (first_processor_refusal_due rs)

-- the copy may be used, if there is one
abbrev pub processor_refusal_copy_serves : Option PageReplica → Bool
processor_refusal_copy_serves None = false
processor_refusal_copy_serves (Some c) = may_use_page_replica c.page.access

-- the words of the copy, if it may be used
abbrev pub processor_refusal_words_in : Option PageReplica → Option (List ℕ)
processor_refusal_words_in None = None
processor_refusal_words_in (Some c) = page_replica_words_if (may_use_page_replica c.page.access) c

-- the words of p's copy of page n, if it is valid
abbrev pub processor_refusal_page_of : Local → ℕ → Option (List ℕ)
processor_refusal_page_of m n = processor_refusal_words_in (slice_get m.copies n)

-- p's copy of page n is valid
abbrev pub processor_refusal_has_valid : Local → ℕ → Bool
processor_refusal_has_valid m n = processor_refusal_copy_serves (slice_get m.copies n)

-- p waits
abbrev pub processor_refusal_is_waiting : Local → Bool
processor_refusal_is_waiting m = is_some m.awaits

-- no event fits into the open block any more
abbrev pub processor_refusal_block_full : Local → Bool
processor_refusal_block_full m = nat_le most_in_block (length m.block)

-- why the open block may not have one more event
abbrev pub processor_refusal_of_event : Local → Option Refused
processor_refusal_of_event m = first_processor_refusal_due ((processor_refusal_is_waiting m, Waiting) ∷ (processor_refusal_block_full m, BlockFull) ∷ [])

-- why a load or a store at this address is refused
abbrev pub processor_refusal_of_access : Local → ℕ → Option Refused
processor_refusal_of_access m a = first_processor_refusal_due (
    (nat_le (addresses m.sizes) a, OutOfRange)
    ∷ (not (processor_refusal_has_valid m (a / m.sizes.words)), refused.Invalid (a / m.sizes.words))
    ∷ (processor_refusal_is_waiting m, Waiting)
    ∷ (processor_refusal_block_full m, BlockFull) ∷ [])

-- why an access of this address is refused, whatever copy and block it finds
abbrev pub processor_refusal_at_once : Local → ℕ → Option Refused
processor_refusal_at_once m a = first_processor_refusal_due ((processor_refusal_is_waiting m, Waiting) ∷ (nat_le (addresses m.sizes) a, OutOfRange) ∷ [])

-- why a fetch of this page is refused
abbrev pub processor_refusal_of_fetch : Local → ℕ → Option Refused
processor_refusal_of_fetch m n = first_processor_refusal_due (
    (nat_le m.sizes.pages n, OutOfRange)
    ∷ (processor_refusal_is_waiting m, Waiting)
    ∷ (processor_refusal_block_full m, BlockFull)
    ∷ (processor_refusal_has_valid m n, AlreadyValid) ∷ [])

-- p has entered the book as often as it may
abbrev pub processor_refusal_is_spent : Local → Bool
processor_refusal_is_spent m = nat_le m.lock.limit m.entries

-- p holds the lock
abbrev pub processor_refusal_has_lock : Local → ℕ → Bool
processor_refusal_has_lock m l = slice_index_or m.held l false

-- why a flush or an audit doesn't enter the book
abbrev pub processor_refusal_of_flush : Local → Option Refused
processor_refusal_of_flush m = first_processor_refusal_due ((processor_refusal_is_spent m, SeatSpent) ∷ [])

-- this reason, or else that the entries are spent
abbrev pub processor_refusal_or_spent : Option Refused → Local → Option Refused
processor_refusal_or_spent None m = processor_refusal_of_flush m
processor_refusal_or_spent (Some e) m = Some e

-- why a call that closes the interval is refused that names no lock
abbrev pub processor_refusal_of_arrival : Local → Option Refused
processor_refusal_of_arrival m = first_processor_refusal_due ((processor_refusal_is_waiting m, Waiting) ∷ [])

-- why an ask of this lock is
abbrev pub processor_refusal_of_ask : Local → ℕ → Option Refused
processor_refusal_of_ask m l = first_processor_refusal_due (
    (nat_le m.sizes.locks l, BadLock)
    ∷ (processor_refusal_is_waiting m, Waiting)
    ∷ (processor_refusal_has_lock m l, AlreadyHeld) ∷ [])

-- why a release of this lock is
abbrev pub processor_refusal_of_release : Local → ℕ → Option Refused
processor_refusal_of_release m l = first_processor_refusal_due (
    (nat_le m.sizes.locks l, BadLock)
    ∷ (processor_refusal_is_waiting m, Waiting)
    ∷ (not (processor_refusal_has_lock m l), NotHeld) ∷ [])

-- why a set or a watch of this flag is
abbrev pub processor_refusal_of_flag : Local → ℕ → Option Refused
processor_refusal_of_flag m f = first_processor_refusal_due ((nat_le m.sizes.flags f, BadFlag) ∷ (processor_refusal_is_waiting m, Waiting) ∷ [])

-- why a call that closes the interval by this event is
abbrev pub processor_refusal_of_closing : Local → Kind → Option Refused
processor_refusal_of_closing m (Ask l) = processor_refusal_of_ask m l
processor_refusal_of_closing m (Release l) = processor_refusal_of_release m l
processor_refusal_of_closing m Arrive = processor_refusal_of_arrival m
processor_refusal_of_closing m (Set f) = processor_refusal_of_flag m f
processor_refusal_of_closing m (Watch f) = processor_refusal_of_flag m f
processor_refusal_of_closing m _ = None

-- why a take is
abbrev pub processor_refusal_of_take : Local → Option Refused
processor_refusal_of_take m = first_processor_refusal_due ((not (processor_refusal_is_waiting m), NothingAwaited) ∷ [])
