-- What is promised of histories that follow a script.
use Rattle.std.specs.Prelude.{◌≡◌, List, replicate}
use Rattle.journal.specs.declared.event.Event.{Event}
use Rattle.journal.specs.WellFormed.{WellFormed}
use Rattle.journal.specs.ExplainedAnswers.{Explained}
use Rattle.journal.specs.Races.{RaceFree}
use Rattle.journal.specs.ReplayMemory.{Replays}
use Rattle.lrc_script.specs.Plan.{Plan}
use Rattle.lrc_script.specs.Lawful.{plan_addresses, IsLawful}
use Rattle.conformance.specs.Follows.{plan_sizes, Follows}
use Rattle.conformance.specs.Like.{SameButValues}
use Rattle.conformance.specs.FlatRuns.{IsFlatRun, IsRecomputedFlat, NeverRacesFlat}

-- each history that follows a script can be recomputed
abbrev pub RecomputedLaw : Type 0
RecomputedLaw = (s : Plan) (h : List Event) → WellFormed (plan_sizes s) h → Follows s h
    → (g : List Event) × IsRecomputedFlat s h g

-- and in one way only: flat runs of a lawful script that are the same except for values are the same
abbrev pub OnlyRecomputedLaw : Type 0
OnlyRecomputedLaw = (s : Plan) (f g : List Event) → IsLawful s → IsFlatRun s f → IsFlatRun s g → SameButValues f g → f ≡ g

-- a script that never races on one flat memory never races, and its explained histories replay on one
abbrev pub RaceFreeRecomputedLaw : Type 0
RaceFreeRecomputedLaw = (s : Plan) (h : List Event) → WellFormed (plan_sizes s) h → Explained h → Follows s h → NeverRacesFlat s
    → RaceFree h × Replays (replicate (plan_addresses s) 0) h
