-- Turns that are drawn.
use Rattle.std.specs.Prelude.{ℕ, ◌≡◌, ◌+◌, ◌⊎◌, ◌++◌, Some, None, List, [], ◌∷◌, slice_get, slice_index_or, take}
use Rattle.lrc_script.specs.declared.script.Instruction.{Instruction}
use Rattle.lrc_script.specs.Plan.{Plan}
use Rattle.cluster.specs.Copies.Local.{Local}
use Rattle.conformance.specs.Draws.{next_drawing}
use Rattle.conformance.specs.DrawnRuns.{HasArrivedAtDrawnEnd, drawing_after_of, drawn_tries_of, drawn_turns_of}
use Rattle.conformance.specs.declared.progress.TurnProgress.{TurnProgress}
use Rattle.lrc_run.specs.declared.steps.pace.Pace.{Pace}
use Rattle.lrc_run.specs.DrawnOrders.{pace_drawing}
use Rattle.cluster.specs.NewClusters.{SharedCluster}
use Rattle.lrc_run.specs.RunTurns.{AreRunTurnsTaken, HaveGoneOnInRunTurns}

-- each processor has arrived at the closing barrier
abbrev pub HaveArrivedAtRunSteps : List (List Instruction) → List TurnProgress → Type 0
HaveArrivedAtRunSteps sections all = (p : ℕ) (section : List Instruction) (at : TurnProgress) → slice_get sections p ≡ Some section
    → slice_get all p ≡ Some at → HasArrivedAtDrawnEnd section at

-- whoever stands at some place of the order has had the turn, after those before it were tried, and the next drawing is due
pub record HasDrawnTurn (sections : List (List Instruction)) (pace next : Pace) (turns more : List ℕ) (old new : List Local)
    (start all : List TurnProgress) : Type 0 where
  pub place : ℕ
  pub more_is : more ≡ turns ++ slice_index_or pace.order.items place 0 ∷ []
  pub tried : AreRunTurnsTaken sections (take (place + 1) pace.order.items) old new start all
  pub order_is : next.order.items ≡ (next_drawing pace.walks pace.turns place (pace_drawing pace)).order
  pub generator_is : next.generator ≡ (next_drawing pace.walks pace.turns place (pace_drawing pace)).generator

-- all have arrived, and none was tried; or the whole order was tried, and none has had the turn
pub record HasDrawnNoTurn (sections : List (List Instruction)) (pace : Pace) (turns more : List ℕ) (old new : List Local)
    (start all : List TurnProgress) : Type 0 where
  pub more_is : more ≡ turns
  pub tried : (AreRunTurnsTaken sections [] old new start all × HaveArrivedAtRunSteps sections all)
      ⊎ AreRunTurnsTaken sections pace.order.items old new start all

-- processors on their way through the script have had these turns, which the seed draws, until all have arrived or none got on
pub record HaveWandered (s : Plan) (seed : ℕ) (turns : List ℕ) (old new : List Local) (start all : List TurnProgress) : Type 0 where
  pub places : List ℕ
  pub turns_are : turns ≡ drawn_turns_of s seed places
  pub tried : (AreRunTurnsTaken s.sections (drawn_tries_of s seed places) old new start all × HaveArrivedAtRunSteps s.sections all)
      ⊎ AreRunTurnsTaken s.sections (drawn_tries_of s seed places ++ (drawing_after_of s seed places).order) old new start all

-- and then they have gone on in rounds by rising number; of the turns that were drawn, these got on
pub record HaveGoneOnAfterWandering (c : SharedCluster) (s : Plan) (seed : ℕ) (turns : List ℕ) (old new : List Local) (start all : List TurnProgress)
    : Type 0 where
  pub between : List Local
  pub half : List TurnProgress
  pub wandered : HaveWandered s seed turns old between start half
  pub first : AreRunTurnsTaken s.sections turns old between start half
  pub gone : HaveGoneOnInRunTurns c s None between new half all
