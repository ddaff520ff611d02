-- What a load may answer, by the past of its processor.
use Rattle.std.specs.Prelude.{ℕ, ◌<◌, ◌⊎◌, List, ◌++◌}
use Rattle.journal.specs.declared.event.Event.{Event}
use Rattle.journal.specs.declared.event.Kind.TheVariants.{Store}
use Rattle.journal.specs.EventsInRange.{EventProcessorsInRange}
use Rattle.journal.specs.HappensBeforeEdges.{HappensBefore}
use Rattle.journal.specs.Pasts.{InPast}
use Rattle.journal.specs.WellFormed.{Does}

-- q's store to a at place i is in p's past, and no other store of that past happens after it
pub record IsLatestInPast (j : List Event) (p a q i : ℕ) : Type 0 where
  pub value : ℕ
  pub does : Does j i q (Store a value)
  pub past : InPast j p i
  pub latest : (m r w : ℕ) → Does j m r (Store a w) → InPast j p m → ¬ HappensBefore j i m

-- q's store to a at place i isn't in p's past
pub record IsOutsidePast (j : List Event) (p a q i : ℕ) : Type 0 where
  pub value : ℕ
  pub does : Does j i q (Store a value)
  pub outside : ¬ InPast j p i

-- a store to a that p's past has happens after place i
pub record IsHiddenInPast (j : List Event) (p a i : ℕ) : Type 0 where
  pub place : ℕ
  pub by : ℕ
  pub value : ℕ
  pub does : Does j place by (Store a value)
  pub past : InPast j p place
  pub follows : HappensBefore j i place

-- a load by one of n processors that comes behind j and more events may answer q's store to a at place i of j
pub record MayBeAnsweredLater (n : ℕ) (j : List Event) (a q i : ℕ) : Type 0 where
  pub more : List Event
  pub by : ℕ
  pub present : by < n
  pub range : EventProcessorsInRange n (j ++ more)
  pub may : IsLatestInPast (j ++ more) by a q i ⊎ IsOutsidePast (j ++ more) by a q i
