-- What each event brings its processor news of.
use Rattle.std.specs.Prelude.{ℕ, ◌≡◌, ◌+◌, ◌<◌, ◌≤◌, ◌↔◌, List, Some, slice_get, slice_index, take}
use Rattle.std.specs.Global.{Vec}
use Rattle.base.specs.InOrderOnce.{Has, InOrder}
use Rattle.journal.specs.declared.event.Event.{Event}
use Rattle.journal.specs.Events.{EventAt}
use Rattle.journal.specs.HappensBeforeEdges.{HappensBefore}
use Rattle.journal.specs.Times.{ClosesAt}
use Rattle.judge.specs.Cuts.{IsCutOf}
use Rattle.causes.specs.declared.step.Step.{Step}
use Rattle.causes.specs.Edges.{EdgeFromOther}

-- an edge leads from place i to another processor's event at place k, none of whose earlier events place i happens before
pub record IsNews (j : List Event) (i k : ℕ) : Type 0 where
  pub leads : EdgeFromOther j i k
  pub first : (m : ℕ) (f : Event) → m < k → EventAt j m f → f.processor ≡ leads.edge.to.processor → ¬ HappensBefore j i m

-- these are the places that are news to place k, rising
pub record AreNewsRising (j : List Event) (k : ℕ) (places : List ℕ) : Type 0 where
  pub has : (i : ℕ) → Has places i ↔ IsNews j i k
  pub order : InOrder (λ i m. i < m) places

-- these are the news of the first places
abbrev pub AreIncomingNews : List Event → List (Vec ℕ) → Type 0
AreIncomingNews j rows = (k : ℕ) (row : Vec ℕ) → slice_get rows k ≡ Some row → AreNewsRising j k row.items

-- the cuts are those before and after the event at this place
pub record NewsCutsAround (j : List Event) (x : Step) : Type 0 where
  pub event : Event
  pub at : EventAt j x.place event
  pub before : IsCutOf (take x.place j) event.processor (slice_index x.before.items)
  pub after : IsCutOf (take (x.place + 1) j) event.processor (slice_index x.after.items)

-- q closes an interval at place i, which has an edge to the step's event; it is known after that, and was not before
pub record IsNewsOfStep (j : List Event) (x : Step) (q i : ℕ) : Type 0 where
  pub closes : ClosesAt j q i
  pub leads : EdgeFromOther j i x.place
  pub late : slice_index x.before.items q ≤ i
  pub known : i < slice_index x.after.items q
