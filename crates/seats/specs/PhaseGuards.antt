-- Who may access which word in which phase.
use Rattle.std.specs.Prelude.{ℕ, ◌≡◌, ◌==◌, Bool, true, false, not, ◌&&◌, ◌||◌, Option, Some, None, List, [], ◌∷◌, count_by, slice_get, take}
use Rattle.journal.specs.declared.event.Kind.{Kind}
use Rattle.journal.specs.declared.event.Kind.TheVariants.{Acquire, Release}
use Rattle.journal.specs.Events.{event_address, event_departs, event_stores}
use Rattle.seats.specs.declared.guard.Guard.{Guard}
use Rattle.seats.specs.declared.guard.Guard.TheVariants.{Under, Of, Shared, Open}

-- the phase that a processor is in after this: how often it has departed from the barrier
abbrev pub guard_phase_after : List Kind → ℕ
guard_phase_after ks = count_by event_departs ks

-- whether a processor that holds the lock, or doesn't, holds it after this event
abbrev pub phase_guard_held_then : Kind → ℕ → Bool → Bool
phase_guard_held_then (Acquire m) l held = (m == l) || held
phase_guard_held_then (Release m) l held = not (m == l) && held
phase_guard_held_then k l held = held

-- and after these
abbrev pub phase_guard_held_on : List Kind → ℕ → Bool → Bool
phase_guard_held_on [] l held = held
phase_guard_held_on (k ∷ ks) l held = phase_guard_held_on ks l (phase_guard_held_then k l held)

-- whether it holds the lock after this, from its start
abbrev pub phase_guard_holds_after : List Kind → ℕ → Bool
phase_guard_holds_after ks l = phase_guard_held_on ks l false

-- whether the guard lets processor p, which holds these locks, access its word; nobody may without a guard
abbrev pub phase_guard_lets_access : Option Guard → ℕ → (ℕ → Bool) → Bool → Bool
phase_guard_lets_access None p holds stores = false
phase_guard_lets_access (Some (Under l)) p holds stores = holds l
phase_guard_lets_access (Some (Of q)) p holds stores = q == p
phase_guard_lets_access (Some Shared) p holds stores = not stores
phase_guard_lets_access (Some Open) p holds stores = true

-- guards of words by phase and address
abbrev pub PhaseGuards : Type 0
PhaseGuards = ℕ → ℕ → Option Guard

-- whether p, which did this before, may access this address, if any
abbrev pub phase_guards_allow_access : PhaseGuards → ℕ → List Kind → Option ℕ → Bool → Bool
phase_guards_allow_access g p before None stores = true
phase_guards_allow_access g p before (Some a) stores = phase_guard_lets_access (g (guard_phase_after before) a) p (phase_guard_holds_after before) stores

-- whether it may do this
abbrev pub phase_guards_allow : PhaseGuards → ℕ → List Kind → Kind → Bool
phase_guards_allow g p before k = phase_guards_allow_access g p before (event_address k) (event_stores k)

-- p keeps to the guards: it may do each thing that it did after those before
pub record KeepsToPhaseGuards (g : PhaseGuards) (p : ℕ) (ks : List Kind) : Type 0 where
  pub each : (i : ℕ) (k : Kind) → slice_get ks i ≡ Some k → phase_guards_allow g p (take i ks) k ≡ true
