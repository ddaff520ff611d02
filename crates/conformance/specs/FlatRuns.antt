-- A history with each load's reply, and each value that an add stores, computed again on one flat memory.
use Rattle.std.specs.Prelude.{ℕ, ◌≡◌, ◌↔◌, false, List, replicate}
use Rattle.journal.specs.declared.event.Event.{Event}
use Rattle.journal.specs.Events.{EventAt}
use Rattle.journal.specs.WellFormed.{WellFormed}
use Rattle.journal.specs.Races.{Race, RaceFree}
use Rattle.journal.specs.ReplayMemory.{Replays}
use Rattle.lrc_script.specs.Plan.{Plan}
use Rattle.lrc_script.specs.Lawful.{plan_addresses}
use Rattle.conformance.specs.Follows.{plan_sizes, is_fetch, Follows}
use Rattle.conformance.specs.Like.{SameButValues}

-- the history is one of this script's on one flat memory
pub record IsFlatRun (s : Plan) (g : List Event) : Type 0 where
  pub well_formed : WellFormed (plan_sizes s) g
  pub follows : Follows s g
  pub replays : Replays (replicate (plan_addresses s) 0) g

-- g is such a history, and is h, except for values; so it has the same races
pub record IsRecomputedFlat (s : Plan) (h g : List Event) : Type 0 where
  pub like : SameButValues h g
  pub flat : IsFlatRun s g
  pub races : (i k : ℕ) → Race h i k ↔ Race g i k

-- nothing is fetched in it
abbrev pub FlatRunHasNoFetch : List Event → Type 0
FlatRunHasNoFetch g = (i : ℕ) (e : Event) → EventAt g i e → is_fetch e.kind ≡ false

-- whatever its order, the script doesn't race on one flat memory, of which nothing is fetched
abbrev pub NeverRacesFlat : Plan → Type 0
NeverRacesFlat s = (g : List Event) → IsFlatRun s g → FlatRunHasNoFetch g → RaceFree g
