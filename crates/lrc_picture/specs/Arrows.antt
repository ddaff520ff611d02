-- The arrows of a picture.
use Rattle.std.specs.Prelude.{ℕ, ◌≡◌, ◌<◌, All, List, Option, Some, None, length, slice_get}
use Rattle.std.specs.Global.{Vec}
use Rattle.journal.specs.declared.event.Event.{Event}
use Rattle.journal.specs.declared.event.Kind.{Kind}
use Rattle.journal.specs.declared.event.Kind.TheVariants.{Load, Store, Fetch, Ask, Acquire, Release, Arrive, Depart, Set, Watch, Await}
use Rattle.lrc_picture.specs.declared.arrows.Arrow.{Arrow}
use Rattle.lrc_picture.specs.declared.arrows.Way.{Way}
use Rattle.lrc_picture.specs.declared.arrows.Way.TheVariants.{Lock, Flag}
use Rattle.lrc_picture.specs.declared.picture_grid.PictureGrid.{PictureGrid}
use Rattle.lrc_picture.specs.PictureGrid.{picture_grid_crossing}

-- how the arrows to such an event look; a departure has none, since a bar stands for them
abbrev pub arrow_way_for : Kind → Option Way
arrow_way_for (Load a v) = None
arrow_way_for (Store a v) = None
arrow_way_for (Fetch writers page records words) = None
arrow_way_for (Ask l) = None
arrow_way_for (Acquire l) = Some Lock
arrow_way_for (Release l) = None
arrow_way_for Arrive = None
arrow_way_for Depart = None
arrow_way_for (Set f) = None
arrow_way_for (Watch f) = None
arrow_way_for (Await f) = Some Flag

-- the arrow to the event in row k from the event in row i
abbrev pub arrow_for : PictureGrid → ℕ → Event → ℕ → Event → Way → Arrow
arrow_for g i from k to way =
    record { from = picture_grid_crossing g from.processor i; to = picture_grid_crossing g to.processor k; way = way }

-- a row of places for each of n events, and the places are of events
pub record AreArrowPlaces (n : ℕ) (incoming : List (Vec ℕ)) : Type 0 where
  pub long : length incoming ≡ n
  pub within : (k : ℕ) (places : Vec ℕ) → slice_get incoming k ≡ Some places → All (λ i. i < n) places.items
