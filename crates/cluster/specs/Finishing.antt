-- The end of a cluster.
use Rattle.std.specs.Prelude.{ℕ, ◌≡◌, ◌≢◌, ◌*◌, ◌+◌, ◌<◌, ◌≤◌, Some, List, ◌++◌, length, slice_get, sum_by, take}
use Rattle.std.specs.List.{flat_map}
use Rattle.journal.specs.declared.event.Event.{Event}
use Rattle.journal.specs.Sizes.{Sizes}
use Rattle.journal.specs.Events.{EventAt, events_of}
use Rattle.journal.specs.ExplainedAnswers.{Explained}
use Rattle.journal.specs.FetchesCountGaps.{FetchesCountGaps}
use Rattle.journal.specs.CopyAnswers.{AnswersCopies}
use Rattle.journal.specs.Log.{Log}
use Rattle.base.specs.Limits.{most_in_block}
use Rattle.turn.specs.Chairs.{lock, IsChairOutside}
use Rattle.turn.specs.declared.chair.ChairToken.{ChairToken}
use Rattle.book.specs.BookState.{BookState}
use Rattle.book.specs.RepresentedHistory.{Represents}
use Rattle.cluster.specs.Copies.Local.{Local, calls}
use Rattle.cluster.specs.Copies.Sound.{IsSound}
use Rattle.cluster.specs.declared.keeper.View.{View}
use Rattle.cluster.specs.NewClusters.{SharedCluster}
use Rattle.cluster.specs.Entering.{IsEnteringChairOf}
use Rattle.cluster.specs.FaithfulJournals.{IsFaithful, IsJournalOf}

-- the processor is the one with this number of this cluster
pub record IsFinishingProcessor (c : SharedCluster) (p : ℕ) (m : Local) : Type 0 where
  pub lock : m.lock ≡ c.lock
  pub number : m.number ≡ p
  pub sizes : m.sizes ≡ c.sizes

-- all processors of the cluster, by rising number
pub record AreAllToFinish (c : SharedCluster) (ms : List Local) : Type 0 where
  pub all : length ms ≡ c.sizes.processors
  pub each : (p : ℕ) (m : Local) → slice_get ms p ≡ Some m → IsFinishingProcessor c p m

-- the history goes on from what the processor had seen, and has its calls
pub record HasCallsToFinish (h : List Event) (m : Local) : Type 0 where
  pub begins : (rest : List Event) × (h ≡ m.seen ++ rest)
  pub calls_are : events_of h m.number ≡ calls m

-- the history goes on without the processor, whose block is to come
pub record IsToFinish (h : List Event) (m : Local) : Type 0 where
  pub rest : List Event
  pub begins : h ≡ m.seen ++ rest
  pub away : (k : ℕ) (e : Event) → EventAt rest k e → e.processor ≢ m.number

-- the journal holds what is left, after their own cuts took off the rest, of a faithful history with the calls of all
-- processors, and at its end their open blocks in turn; what stands before these goes on from what each had seen, without it
pub record IsFinished (s : Sizes) (ms : List Local) (j : Log) : Type 0 where
  pub history : List Event
  pub taken : List Event
  pub journal : IsJournalOf s taken history j
  pub cuts : length taken ≡ sum_by (λ m. m.own_cut) ms
  pub faithful : IsFaithful s history
  pub each : (p : ℕ) (m : Local) → slice_get ms p ≡ Some m → HasCallsToFinish history m
  pub in_turn : (front : List Event) × (history ≡ front ++ flat_map (λ m. m.block) ms)
  pub goes_on : (p : ℕ) (m : Local) → slice_get ms p ≡ Some m → IsToFinish in_turn.0 m
  pub own : (p : ℕ) (m : Local) → slice_get ms p ≡ Some m → (k : ℕ) (e : Event) → EventAt m.block k e → e.processor ≡ p

-- a sound processor was taken apart into its chair and its open block
pub record IsDismantledToFinish (m : Local) (c : ChairToken BookState View) (block : List Event) : Type 0 where
  pub sound : IsSound m
  pub chair : IsEnteringChairOf m c
  pub lock_is : lock c ≡ m.lock
  pub outside : IsChairOutside c
  pub block_is : block ≡ m.block

-- all of them
pub record AreDismantledToFinish (ms : List Local) (cs : List (ChairToken BookState View)) (blocks : List (List Event)) : Type 0 where
  pub chairs : length cs ≡ length ms
  pub blocks_are : length blocks ≡ length ms
  pub each : (p : ℕ) (m : Local) (c : ChairToken BookState View) (block : List Event) → slice_get ms p ≡ Some m
      → slice_get cs p ≡ Some c → slice_get blocks p ≡ Some block → IsDismantledToFinish m c block

-- the blocks of the first k processors are handed in
pub record IsFinishing (s : Sizes) (ms : List Local) (k : ℕ) (h : List Event) (b : BookState) : Type 0 where
  pub told : Represents s h b
  pub explained : Explained h
  pub counted : FetchesCountGaps s h
  pub copied : AnswersCopies s h
  pub cuts : b.journal.base.cut ≡ sum_by (λ m. m.own_cut) ms
  pub room : most_in_block * length ms ≤ b.journal.room + most_in_block * k
  pub sound : (p : ℕ) (m : Local) → slice_get ms p ≡ Some m → IsSound m × (m.number ≡ p) × (m.sizes ≡ s)
  pub done : (p : ℕ) (m : Local) → p < k → slice_get ms p ≡ Some m → HasCallsToFinish h m
  pub to_come : (p : ℕ) (m : Local) → k ≤ p → slice_get ms p ≡ Some m → IsToFinish h m
  pub in_turn : (front : List Event) × (h ≡ front ++ flat_map (λ m. m.block) (take k ms))
  pub goes_on : (p : ℕ) (m : Local) → slice_get ms p ≡ Some m → IsToFinish in_turn.0 m

-- these are the processors' blocks
pub record AreBlocksToFinish (ms : List Local) (blocks : List (List Event)) : Type 0 where
  pub all : length blocks ≡ length ms
  pub each : (p : ℕ) (m : Local) (block : List Event) → slice_get ms p ≡ Some m → slice_get blocks p ≡ Some block
      → block ≡ m.block
