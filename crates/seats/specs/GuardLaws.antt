-- What is promised for itself.
use Rattle.std.specs.Prelude.{ℕ, ◌≡◌, Some, List}
use Rattle.journal.specs.declared.event.Event.{Event}
use Rattle.journal.specs.Events.{events_of}
use Rattle.journal.specs.Races.{Race, RaceFree}
use Rattle.journal.specs.Sizes.{Sizes}
use Rattle.journal.specs.WellFormed.{WellFormed}
use Rattle.seats.specs.declared.guard.Guard.TheVariants.{Open}
use Rattle.seats.specs.Deeds.{deeds}
use Rattle.seats.specs.PhaseGuards.{PhaseGuards, KeepsToPhaseGuards}
use Rattle.seats.specs.Tables.{GuardTables, TablesOpenNothing, guards_of}

-- each processor keeps to the guards in what it did
abbrev pub AllKeepToPhaseGuards : PhaseGuards → List Event → Type 0
AllKeepToPhaseGuards g h = (p : ℕ) → KeepsToPhaseGuards g p (deeds (events_of h p))

-- two accesses of a word race only if it is open to all in some phase
abbrev pub SeatGuardLaw : Type 0
SeatGuardLaw = (s : Sizes) (g : PhaseGuards) (h : List Event) → WellFormed s h → AllKeepToPhaseGuards g h
    → (i k : ℕ) (r : Race h i k) → (n : ℕ) × (g n r.conflict.address ≡ Some Open)

-- nothing races if each keeps to tables in which no word is open to all
abbrev pub SeatTableGuardLaw : Type 0
SeatTableGuardLaw = (s : Sizes) (g : GuardTables) (h : List Event) → WellFormed s h → AllKeepToPhaseGuards (guards_of g) h → TablesOpenNothing g
    → RaceFree h
