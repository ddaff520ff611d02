-- What a seat keeps to.
use Rattle.std.specs.Prelude.{ℕ, ◌≡◌, Bool, false, Some, List, length, slice_index_or}
use Rattle.journal.specs.declared.event.Kind.{Kind}
use Rattle.cluster.specs.Copies.Local.{Local}
use Rattle.seats.specs.PhaseGuards.{KeepsToPhaseGuards, phase_guard_holds_after, phase_guards_allow_access, guard_phase_after}
use Rattle.seats.specs.Sitting.{SittingSeat, seat_deeds}
use Rattle.seats.specs.Tables.{GuardTables, guards_of, table_at}

-- p keeps to this layout in what it did, the table is that of the phase that it is in, and these say which locks it holds
pub record HasKeptLayout (g : GuardTables) (p table locks : ℕ) (ks : List Kind) (held : List Bool) : Type 0 where
  pub keeps : KeepsToPhaseGuards (guards_of g) p ks
  pub table_is : table ≡ table_at g (guard_phase_after ks)
  pub long : length held ≡ locks
  pub holds : (l : ℕ) → slice_index_or held l false ≡ phase_guard_holds_after ks l

-- so does whoever sits there
abbrev pub HasKeptSeatLayout : SittingSeat → ℕ → Local → Type 0
HasKeptSeatLayout id table m = HasKeptLayout id.layout id.number table m.sizes.locks (seat_deeds m) m.held

-- whether the layout lets whoever sits there access this address now
abbrev pub kept_layout_lets_access : SittingSeat → Local → ℕ → Bool → Bool
kept_layout_lets_access id m a stores = phase_guards_allow_access (guards_of id.layout) id.number (seat_deeds m) (Some a) stores
