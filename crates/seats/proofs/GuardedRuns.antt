-- Runs by a layout that leaves no word open to all: what a client says of one.
use Rattle.std.proofs.Common.{ℕ, ◌≡◌, ◌%◌, ◌^◌, ◌<◌, inl, inr, true, Some, List, [], length, replicate, slice_get, sym, ap, subst, ◌∙◌, arith}
use Rattle.std.specs.Prelude.{slice_index}
use Rattle.std.proofs.lemmas.List.{length-replicate}
use Rattle.base.proofs.LastWritten.{length-written}
use Rattle.base.proofs.SliceSets.{slice_get-replicate}
use Rattle.std.proofs.lemmas.Option.{get_or_from_slice_get, slice_get_cases}
use Rattle.journal.specs.declared.event.Event.{Event}
use Rattle.journal.specs.declared.event.Kind.{Kind}
use Rattle.journal.specs.Events.{events_of}
use Rattle.journal.specs.ReplayMemory.{Replays, replay_memory_write, memory_after}
use Rattle.journal.specs.Log.{Log}
use Rattle.journal.specs.Sizes.{Sizes, addresses}
use Rattle.cluster.specs.FaithfulJournals.{IsJournalOf}
use Rattle.seats.specs.declared.guard.Guard.TheVariants.{Of, Under}
use Rattle.seats.specs.Deeds.{deeds}
use Rattle.seats.specs.GuardedRuns.{IsGuardedRun}
use Rattle.seats.specs.ProgramRuns.{IsProgramRun}
use Rattle.seats.specs.Tables.{GuardTables, IsPutInTable, TablesOpenNothing, table_guard, guards_of, table_range_has}
use Rattle.seats.specs.WordTallies.{AddsUpTo, word_tally_total}
use Rattle.seats.proofs.KeptByPrograms.{kept_by_program_flat_run, kept_by_program_replayed_whole, kept_by_program_under_put}
use Rattle.seats.proofs.TalliedHistories.{tallied_history_law}

-- a journal of which nothing was cut off replays if the history does
pub guarded_run_journal_replays : {s : Sizes} {h : List Event} {j : Log} → IsJournalOf s [] h j → Replays (replicate (addresses s) 0) h
    → Replays j.base.memory j.events
guarded_run_journal_replays {s} {h} {j} x flat =
    subst (λ m. Replays m j.events) (sym (x.holds.base.after.memory ∙ ap (λ n. replicate n 0) x.addresses_are))
    (subst (Replays (replicate (addresses s) 0)) x.holds.history flat)

-- the end of a run
pub guarded_run : {X : Type 0} {g : GuardTables} {did : ℕ → List Kind → X → Type 0} {s : Sizes} {answers : List X} {memory : List ℕ}
    {j : Log} → IsProgramRun g did s answers j → TablesOpenNothing g → memory ≡ memory_after j.base.memory j.events
    → IsGuardedRun g did s answers memory j
guarded_run {s = s} ran closed is =
    let whole = is ∙ kept_by_program_replayed_whole ran.journal in
    record {
      ran = ran;
      closed = closed;
      flat = kept_by_program_flat_run ran closed;
      memory_is = whole;
      long = ap length whole ∙ length-written (λ (e : Event). replay_memory_write e.kind) (replicate (addresses s) 0) ran.history
          ∙ length-replicate (addresses s) 0;
    }

-- each of its processors answered, and did what the program says of this answer
pub guarded_run_answered : {X : Type 0} {g : GuardTables} {did : ℕ → List Kind → X → Type 0} {s : Sizes} {answers : List X} {j : Log}
    (ran : IsProgramRun g did s answers j) (p : ℕ) → p < s.processors
    → (x : X) × ((slice_get answers p ≡ Some x) × did p (deeds (events_of ran.history p)) x)
guarded_run_answered {answers = answers} ran p less = elim (slice_get_cases answers p).1 [
  | inl found ↦ (found.0, (found.2, ran.done p found.0 found.2))
  | inr past ↦ absurd (let all = ran.all in omega (arith, less, past.0))
]

-- a word under a lock at the end: what each says that it has added to it
pub added_in_all : {X : Type 0} {g : GuardTables} {did : ℕ → List Kind → X → Type 0} {s : Sizes} {answers : List X}
    {memory : List ℕ} {j : Log} (l a : ℕ) (run : IsGuardedRun g did s answers memory j) → a < addresses s
    → ((n : ℕ) → guards_of g n a ≡ Some (Under l)) → (amounts : ℕ → ℕ)
    → ((p : ℕ) (ks : List Kind) (x : X) → slice_get answers p ≡ Some x → did p ks x → AddsUpTo l a (amounts p) ks)
    → slice_index memory a % 2 ^ 32 ≡ word_tally_total amounts s.processors % 2 ^ 32
added_in_all {g = g} {did = did} {s = s} {answers = answers} {memory = memory} l a run within under amounts says =
    let ran = run.ran in
    let end = tallied_history_law s (guards_of g) (replicate (addresses s) 0) ran.history ran.faithful.well_formed ran.kept run.flat l a 0 under
    (slice_get-replicate (addresses s) 0 a within) amounts
    (λ p less. let answer = guarded_run_answered ran p less in says p (deeds (events_of ran.history p)) answer.0 answer.1.0 answer.1.1) in
    let read = get_or_from_slice_get memory a end.0 0 (ap (λ m. slice_get m a) run.memory_is ∙ end.1) in
    let sum = end.2 in
    omega arith

-- a layout of one table, of which some addresses were put under a lock
pub under_new : {old g : GuardTables} {count from to l : ℕ} → old ≡ record { tables = replicate 1 (replicate count (Of 0)); round = 0 }
    → IsPutInTable old 0 from to (Under l) g → (a : ℕ) → table_range_has from to a ≡ true → a < count → (n : ℕ)
    → guards_of g n a ≡ Some (Under l)
under_new {count = count} is put a between within n =
    kept_by_program_under_put (ap (λ t. length t.tables) is) (ap (λ t. t.round) is) put n a between
    (ap (λ t. table_guard t 0 a) is ∙ slice_get-replicate count (Of 0) a within)
