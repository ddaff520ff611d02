-- Runs of a program by a layout that leaves no word open to all.
use Rattle.std.specs.Prelude.{ℕ, ◌≡◌, ◌⊎◌, List, length, replicate}
use Rattle.journal.specs.declared.event.Kind.{Kind}
use Rattle.journal.specs.ReplayMemory.{Replays, memory_after}
use Rattle.journal.specs.Log.{Log}
use Rattle.journal.specs.Sizes.{Sizes, addresses}
use Rattle.seats.specs.ProgramRuns.{IsProgramRun, IsProgramRunFault}
use Rattle.seats.specs.Tables.{GuardTables, IsFirstOpenInTables, TablesOpenNothing}
use Rattle.seats.specs.declared.fault.ProcessorFault.{ProcessorFault}
use Rattle.seats.specs.declared.fault.SeatFault.TheVariants.{Open}

-- it is a run of the program, all replies are those of one flat memory, and these are its words at the end
pub record IsGuardedRun {X : Type 0} (g : GuardTables) (did : ℕ → List Kind → X → Type 0) (s : Sizes) (answers : List X)
    (memory : List ℕ) (j : Log) : Type 0 where
  pub ran : IsProgramRun g did s answers j
  pub closed : TablesOpenNothing g
  pub flat : Replays (replicate (addresses s) 0) ran.history
  pub memory_is : memory ≡ memory_after (replicate (addresses s) 0) ran.history
  pub long : length memory ≡ addresses s

-- why such a run fails: as the run of the program does, or nothing was run, since this word is open to all
abbrev pub IsGuardedRunFault : {X : Type 0} → GuardTables → (ℕ → List Kind → X → Type 0) → Sizes → ProcessorFault → Type 0
IsGuardedRunFault g did s told =
    IsProgramRunFault g did s told ⊎ ((a : ℕ) × IsFirstOpenInTables g a × (told ≡ record { processor = 0; fault = Open a }))
