-- Guards as plain data.
use Rattle.std.specs.Prelude.{ℕ, zero, suc, ◌≡◌, ◌≢◌, ◌+◌, ◌<◌, ◌==◌, Option, Some, List, if◌then◌else◌, Bool, true, ◌&&◌, nat_le, nat_lt, length, slice_get, get_or, []}
use Rattle.seats.specs.declared.guard.Guard.{Guard}
use Rattle.seats.specs.declared.guard.Guard.TheVariants.{Open}
use Rattle.seats.specs.PhaseGuards.{PhaseGuards}

-- tables with a guard for each address from 0: one for each phase in turn, and after the last comes the first of the round
pub record GuardTables : Type 0 where
  pub tables : List (List Guard)
  pub round : ℕ

-- the table of the phase after one with this table
abbrev pub table_next : GuardTables → ℕ → ℕ
table_next g t = if nat_lt (t + 1) (length g.tables) then t + 1 else g.round

-- the table of a phase
abbrev pub table_at : GuardTables → ℕ → ℕ
table_at g zero = 0
table_at g (suc k) = table_next g (table_at g k)

-- the guard of an address in a table, if it has one
abbrev pub table_guard : GuardTables → ℕ → ℕ → Option Guard
table_guard g t a = slice_get (get_or g.tables t []) a

-- the guards by phase
abbrev pub guards_of : GuardTables → PhaseGuards
guards_of g k a = table_guard g (table_at g k) a

-- no address is open to all
abbrev pub TablesOpenNothing : GuardTables → Type 0
TablesOpenNothing g = (t a : ℕ) → table_guard g t a ≢ Some Open

-- this table has the address open to all, no table before it has such an address, nor has it one before this
pub record IsFirstOpenInTables (g : GuardTables) (a : ℕ) : Type 0 where
  pub table : ℕ
  pub is_open : table_guard g table a ≡ Some Open
  pub tables : (t b : ℕ) → t < table → table_guard g t b ≢ Some Open
  pub addresses : (b : ℕ) → b < a → table_guard g table b ≢ Some Open

-- the guard of an address that is given this one, if so and if it has one
abbrev pub table_guard_put : Bool → Guard → Option Guard → Option Guard
table_guard_put true guard (Some old) = Some guard
table_guard_put b guard o = o

-- whether an address is one of these
abbrev pub table_range_has : ℕ → ℕ → ℕ → Bool
table_range_has from to a = nat_le from a && nat_lt a to

-- the addresses from one up to before another were given this guard in the table, if they have one there
pub record IsPutInTable (old : GuardTables) (table from to : ℕ) (guard : Guard) (new : GuardTables) : Type 0 where
  pub round : new.round ≡ old.round
  pub tables : length new.tables ≡ length old.tables
  pub each : (t a : ℕ) → table_guard new t a
      ≡ table_guard_put ((t == table) && table_range_has from to a) guard (table_guard old t a)
