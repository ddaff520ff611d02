-- What of a run is drawn.
use Rattle.std.specs.Prelude.{ℕ, ◌≡◌, ◌<◌, All, List, Option, Some, length, slice_get, true, vec_len}
use Rattle.causes.specs.declared.part.Part.{Part}
use Rattle.causes.specs.Part.{IsInPart}
use Rattle.causes.specs.FinalWaits.{AreThoseInFinalWait}
use Rattle.journal.specs.declared.event.Event.{Event}
use Rattle.journal.specs.Events.{EventAt}
use Rattle.lrc_picture.specs.declared.cutout.Cutout.{Cutout}
use Rattle.lrc_picture.specs.PictureLayout.{HasPictureLayout}

-- these are the part's processors among n, in order
abbrev pub AreCutoutLanes : Part → ℕ → List ℕ → Type 0
AreCutoutLanes x n lanes = AreThoseInFinalWait (λ p. slice_get x.processors p ≡ Some true) n lanes

-- the event at place k is the part's
abbrev pub IsCutoutPlace : Part → List Event → ℕ → Type 0
IsCutoutPlace x j k = (e : Event) × EventAt j k e × IsInPart x k e.processor

-- these are the places of the part's events, in order
abbrev pub AreCutoutPlaces : Part → List Event → List ℕ → Type 0
AreCutoutPlaces x j places = AreThoseInFinalWait (IsCutoutPlace x j) (length j) places

-- what is drawn is the event at place k, on its processor's lane
pub record IsCutoutEventOnLane (lanes : List ℕ) (j : List Event) (k : ℕ) (drawn : Event) : Type 0 where
  pub event : Event
  pub at : EventAt j k event
  pub kind : drawn.kind ≡ event.kind
  pub lane : slice_get lanes drawn.processor ≡ Some event.processor

-- in each row it is the event at the row's place
pub record AreCutoutEvents (lanes : List ℕ) (j : List Event) (places : List ℕ) (drawn : List Event) : Type 0 where
  pub long : length drawn ≡ length places
  pub each : (r k : ℕ) (e : Event) → slice_get places r ≡ Some k → EventAt drawn r e → IsCutoutEventOnLane lanes j k e

-- these rows of n places are those of the places
pub record AreCutoutRowsOf (n : ℕ) (places : List ℕ) (rows : List (Option ℕ)) : Type 0 where
  pub long : length rows ≡ n
  pub each : (k r : ℕ) → slice_get rows k ≡ Some (Some r) → slice_get places r ≡ Some k

-- exactly the part's events are drawn, of n processors' events j, in order, on the lanes of the part's processors
pub record IsCutout (x : Part) (n : ℕ) (j : List Event) (c : Cutout) : Type 0 where
  pub lanes : AreCutoutLanes x n c.lanes.items
  pub places : AreCutoutPlaces x j c.places.items
  pub events : AreCutoutEvents c.lanes.items j c.places.items c.events.items
  pub rows : AreCutoutRowsOf (length j) c.places.items c.rows.items
  pub within : HasPictureLayout (vec_len c.lanes) c.events.items c.incoming.items
  pub episodes : All (λ r. r < vec_len c.events) c.episodes.items
