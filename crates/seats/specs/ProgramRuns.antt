-- Runs of a program: a thread for each processor of a cluster of its own.
use Rattle.std.specs.Prelude.{ℕ, ◌≡◌, ◌≤◌, ◌⊎◌, Option, Some, None, List, [], Result, Ok, Err, length, slice_get, vec_capacity}
use Rattle.journal.specs.declared.event.Event.{Event}
use Rattle.journal.specs.declared.event.Kind.{Kind}
use Rattle.journal.specs.Events.{events_of}
use Rattle.journal.specs.Log.{Log}
use Rattle.journal.specs.Races.{RaceFree}
use Rattle.journal.specs.Sizes.{Sizes}
use Rattle.book.specs.declared.refused.Refused.TheVariants.{BadSize, NoMemory}
use Rattle.cluster.specs.NewClusters.{SharedCluster, shared_cluster}
use Rattle.cluster.specs.Copies.Local.{Local}
use Rattle.cluster.specs.Copies.Sound.{AreSoundSizes}
use Rattle.cluster.specs.FaithfulJournals.{IsFaithful, IsJournalOf}
use Rattle.seats.specs.Deeds.{deeds}
use Rattle.seats.specs.GuardLaws.{AllKeepToPhaseGuards}
use Rattle.seats.specs.Sitting.{HasWorkedSitting, SittingSeat}
use Rattle.seats.specs.Tables.{GuardTables, TablesOpenNothing, guards_of}
use Rattle.seats.specs.ToldFaults.{IsToldFault}
use Rattle.seats.specs.declared.running.threads.Workers.{Workers}
use Rattle.seats.specs.declared.fault.ProcessorFault.{ProcessorFault}
use Rattle.seats.specs.declared.fault.SeatFault.{SeatFault}
use Rattle.seats.specs.declared.fault.SeatFault.TheVariants.{NoThread, Refused}

-- the seat of this processor, under this layout
abbrev pub program_run_seat : GuardTables → Local → SittingSeat
program_run_seat g m = record { cluster = shared_cluster m.lock m.sizes; number = m.number; layout = g }

-- what a thread is started with
pub record ProgramRunErrand : Type 0 where
  pub processor : Local
  pub layout : GuardTables

-- what a thread that was started so, or couldn't be started, gives back
abbrev pub IsProgramRunWork : {X : Type 0} → (ℕ → List Kind → X → Type 0) → Option ProgramRunErrand → Result (Local × X) SeatFault → Type 0
IsProgramRunWork did (Some e) (Ok r) = HasWorkedSitting did (program_run_seat e.layout e.processor) r.0 r.1
IsProgramRunWork did (Some e) (Err fault) = Unit {0}
IsProgramRunWork did None (Ok r) = ⊥
IsProgramRunWork did None (Err fault) = fault ≡ NoThread

-- a thread for each of these processors, under this layout, or None if it couldn't be started
pub record AreSeatedForProgramRun (g : GuardTables) (ms : List Local) (threads : List (Option ProgramRunErrand)) : Type 0 where
  pub all : length threads ≡ length ms
  pub each : (p : ℕ) (e : ProgramRunErrand) → slice_get threads p ≡ Some (Some e)
      → (slice_get ms p ≡ Some e.processor) × (e.layout ≡ g)

-- nobody has come to an end yet, or faulted
pub record IsNobodyInProgramRun {X : Type 0} (w : Workers X) : Type 0 where
  pub processors_none : w.processors.items ≡ []
  pub answers_none : w.answers.items ≡ []
  pub ends_none : w.ends.items ≡ []

-- there is room for as many
pub record HasRoomForProgramRun {X : Type 0} (w : Workers X) (count : ℕ) : Type 0 where
  pub processors_fit : count ≤ vec_capacity w.processors
  pub answers_fit : count ≤ vec_capacity w.answers
  pub ends_fit : count ≤ vec_capacity w.ends

-- each of these threads was started, and gave back its processor, which has worked, and an answer
pub record HaveAllJoinedProgramRun {X : Type 0} (did : ℕ → List Kind → X → Type 0) (threads : List (Option ProgramRunErrand)) (worked : List Local)
    (answers : List X) : Type 0 where
  pub worked_all : length worked ≡ length threads
  pub answered_all : length answers ≡ length threads
  pub each : (p : ℕ) (n : Local) (x : X) → slice_get worked p ≡ Some n → slice_get answers p ≡ Some x
      → (e : ProgramRunErrand) × (slice_get threads p ≡ Some (Some e)) × HasWorkedSitting did (program_run_seat e.layout e.processor) n x

-- each of these processors has worked under this layout, and answered so
pub record HaveAllWorkedInProgramRun {X : Type 0} (g : GuardTables) (did : ℕ → List Kind → X → Type 0) (ms worked : List Local)
    (answers : List X) : Type 0 where
  pub worked_all : length worked ≡ length ms
  pub answered_all : length answers ≡ length ms
  pub each : (p : ℕ) (m n : Local) (x : X) → slice_get ms p ≡ Some m → slice_get worked p ≡ Some n
      → slice_get answers p ≡ Some x → HasWorkedSitting did (program_run_seat g m) n x

-- this thread was started, and its processor has worked
pub record HasEndedInProgramRun {X : Type 0} (did : ℕ → List Kind → X → Type 0) (threads : List (Option ProgramRunErrand)) (p : ℕ) : Type 0 where
  pub errand : ProgramRunErrand
  pub processor : Local
  pub answer : X
  pub at : slice_get threads p ≡ Some (Some errand)
  pub worked : HasWorkedSitting did (program_run_seat errand.layout errand.processor) processor answer

-- each of these threads that came to its end did
pub record HaveEndedInProgramRun {X : Type 0} (did : ℕ → List Kind → X → Type 0) (threads : List (Option ProgramRunErrand))
    (ends : List (Result (Unit {0}) SeatFault)) : Type 0 where
  pub each : (p : ℕ) → slice_get ends p ≡ Some (Ok tt) → HasEndedInProgramRun did threads p

-- an end for each processor of this cluster; each that came to its end without a fault has worked under this layout
pub record AreProgramRunEnds {X : Type 0} (g : GuardTables) (did : ℕ → List Kind → X → Type 0) (c : SharedCluster)
    (ends : List (Result (Unit {0}) SeatFault)) : Type 0 where
  pub all : length ends ≡ c.sizes.processors
  pub each : (p : ℕ) → slice_get ends p ≡ Some (Ok tt)
      → (m : Local) × (x : X) × HasWorkedSitting did (record { cluster = c; number = p; layout = g }) m x

-- the processors of a cluster of these sizes came to their ends, of which this fault is told
pub record IsToldOfProgramRun {X : Type 0} (g : GuardTables) (did : ℕ → List Kind → X → Type 0) (s : Sizes) (told : ProcessorFault)
    : Type 0 where
  pub cluster : SharedCluster
  pub sizes : cluster.sizes ≡ s
  pub ends : List (Result (Unit {0}) SeatFault)
  pub are : AreProgramRunEnds g did cluster ends
  pub fault : IsToldFault ends (Some told)

-- why a run fails: nothing was run, as a size is bad or no memory was to be had; or all came to their ends
abbrev pub IsProgramRunFault : {X : Type 0} → GuardTables → (ℕ → List Kind → X → Type 0) → Sizes → ProcessorFault → Type 0
IsProgramRunFault g did s told =
    ((told ≡ record { processor = 0; fault = Refused BadSize }) × ¬ AreSoundSizes s)
    ⊎ (told ≡ record { processor = 0; fault = Refused NoMemory })
    ⊎ IsToldOfProgramRun g did s told

-- the journal has the whole history of a cluster of these sizes, which is faithful; each processor kept to the layout, so that
-- nothing races if no word is open to all, and did what the program says of its number, what it did, and its answer
pub record IsProgramRun {X : Type 0} (g : GuardTables) (did : ℕ → List Kind → X → Type 0) (s : Sizes) (answers : List X)
    (j : Log) : Type 0 where
  pub history : List Event
  pub journal : IsJournalOf s [] history j
  pub faithful : IsFaithful s history
  pub kept : AllKeepToPhaseGuards (guards_of g) history
  pub race_free : TablesOpenNothing g → RaceFree history
  pub all : length answers ≡ s.processors
  pub done : (p : ℕ) (x : X) → slice_get answers p ≡ Some x → did p (deeds (events_of history p)) x
