-- What the barrier is by the history.
use Rattle.std.specs.Prelude.{ℕ, ◌≡◌, ◌<◌, ◌+◌, List}
use Rattle.journal.specs.declared.event.Event.{Event}
use Rattle.journal.specs.Sizes.{Sizes}
use Rattle.journal.specs.Events.{event_count, event_arrives, event_departs}
use Rattle.journal.specs.Pasts.{InPastOfSome}
use Rattle.journal.specs.Brings.{BringsFromSomeArrival}
use Rattle.barrier.specs.BarrierEpisodes.{BarrierEpisodes}
use Rattle.barrier.specs.declared.barrier.Stage.{Stage}
use Rattle.barrier.specs.declared.barrier.Stage.TheVariants.{Away, Here, Free}
use Rattle.book.specs.BookStamps.{EachStampedAt, IsBookStamp}

-- how often p has arrived and departed when n episodes are complete
abbrev pub IsAtBookBarrierStage : List Event → ℕ → ℕ → Stage → Type 0
IsAtBookBarrierStage h n p Away = (event_count event_arrives h p ≡ n) × (event_count event_departs h p ≡ n)
IsAtBookBarrierStage h n p Here = (event_count event_arrives h p ≡ n + 1) × (event_count event_departs h p ≡ n)
IsAtBookBarrierStage h n p Free = (event_count event_arrives h p ≡ n) × (event_count event_departs h p + 1 ≡ n)

-- that many episodes are complete, and the open one has the time of its arrivals so far
pub record IsBookBarrier (s : Sizes) (h : List Event) (b : BarrierEpisodes) : Type 0 where
  pub complete : ℕ
  pub stages : EachStampedAt s.processors (IsAtBookBarrierStage h complete) b.stages
  pub lacks : (q : ℕ) × (q < s.processors) × (event_count event_arrives h q ≡ complete)
  pub gathered : IsBookStamp s.processors h (InPastOfSome h (BringsFromSomeArrival h complete)) b.gathered
