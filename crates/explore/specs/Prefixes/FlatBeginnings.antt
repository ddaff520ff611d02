-- Prefixes of a script's runs on one flat memory.
use Rattle.std.specs.Prelude.{ℕ, List, replicate}
use Rattle.journal.specs.declared.event.Event.{Event}
use Rattle.journal.specs.declared.event.Kind.{Kind}
use Rattle.journal.specs.DidEvent.{did}
use Rattle.journal.specs.WellFormed.{WellFormed}
use Rattle.journal.specs.ReplayMemory.{Replays}
use Rattle.journal.specs.Races.{RaceFree}
use Rattle.lrc_script.specs.Plan.{Plan}
use Rattle.lrc_script.specs.Lawful.{plan_addresses}
use Rattle.conformance.specs.ScriptBegins.{BeginsScript}
use Rattle.conformance.specs.Follows.{plan_sizes, Follows}
use Rattle.conformance.specs.FlatRuns.{FlatRunHasNoFetch}

-- processors have begun the script on one flat memory, and nothing is fetched
pub record IsFlatBeginning (s : Plan) (g : List Event) : Type 0 where
  pub well_formed : WellFormed (plan_sizes s) g
  pub begins : BeginsScript s g
  pub replays : Replays (replicate (plan_addresses s) 0) g
  pub no_fetch : FlatRunHasNoFetch g

-- and all of them have done all of it
pub record IsFlatBeginningWhole (s : Plan) (g : List Event) : Type 0 where
  pub beginning : IsFlatBeginning s g
  pub follows : Follows s g

-- some haven't, and nothing may come next
pub record IsFlatBeginningHanging (s : Plan) (g : List Event) : Type 0 where
  pub beginning : IsFlatBeginning s g
  pub unfinished : ¬ Follows s g
  pub stuck : (p : ℕ) (k : Kind) → ¬ IsFlatBeginning s (did g p k)

-- whatever the order, the script doesn't race on one flat memory, not even before it hangs
abbrev pub AreFlatBeginningsRaceFree : Plan → Type 0
AreFlatBeginningsRaceFree s = (g : List Event) → IsFlatBeginning s g → RaceFree g
