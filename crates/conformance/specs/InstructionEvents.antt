-- The events of instructions.
use Rattle.std.specs.Prelude.{ℕ, ◌≡◌, ◌+◌, ◌%◌, ◌^◌, List, [], ◌∷◌, ◌++◌}
use Rattle.journal.specs.declared.event.Kind.{Kind}
use Rattle.journal.specs.declared.event.Kind.TheVariants as kind
use Rattle.lrc_script.specs.declared.script.Instruction.{Instruction}
use Rattle.lrc_script.specs.declared.script.Instruction.TheVariants.{Load, Store, Add, Acquire, Release, Barrier, Set, Await, Cut}

-- these are the events of one instruction
abbrev pub AreEventsOfInstruction : Instruction → List Kind → Type 0
AreEventsOfInstruction (Load a) kinds = (v : ℕ) × (kinds ≡ kind.Load a v ∷ [])
AreEventsOfInstruction (Store a v) kinds = kinds ≡ kind.Store a v ∷ []
AreEventsOfInstruction (Add a v) kinds =
    (reply : ℕ) × (kinds ≡ kind.Load a reply ∷ kind.Store a ((reply + v) % 2 ^ 32) ∷ [])
AreEventsOfInstruction (Acquire l) kinds = kinds ≡ kind.Ask l ∷ kind.Acquire l ∷ []
AreEventsOfInstruction (Release l) kinds = kinds ≡ kind.Release l ∷ []
AreEventsOfInstruction Barrier kinds = kinds ≡ kind.Arrive ∷ kind.Depart ∷ []
AreEventsOfInstruction (Set f) kinds = kinds ≡ kind.Set f ∷ []
AreEventsOfInstruction (Await f) kinds = kinds ≡ kind.Watch f ∷ kind.Await f ∷ []
AreEventsOfInstruction Cut kinds = kinds ≡ []

-- these are the events of the instructions, in order
abbrev pub AreEventsOfInstructions : List Instruction → List Kind → Type 0
AreEventsOfInstructions [] kinds = kinds ≡ []
AreEventsOfInstructions (i ∷ is) kinds =
    (first rest : List Kind) × (kinds ≡ first ++ rest) × AreEventsOfInstruction i first × AreEventsOfInstructions is rest
