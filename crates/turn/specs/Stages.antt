-- What a chair's stage says, for the ghost fields of a chair.
use Rattle.std.specs.Prelude.{ℕ, List, [], ◌∷◌, Option, None}
use Rattle.turn.specs.declared.chair.ChairStage.{ChairStage}
use Rattle.turn.specs.declared.chair.ChairStage.TheVariants.{Outside, Waiting, Inside}

-- which slots its seat has taken: while it is inside the one slot, from which the book is out
abbrev pub stage_carries : {B : Type 0} → ChairStage B → List (ℕ × Option B)
stage_carries Outside = []
stage_carries (Waiting m) = []
stage_carries (Inside m b) = (0, None) ∷ []
