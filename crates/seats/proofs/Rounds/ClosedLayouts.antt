-- Layouts that leave no word open to all.
use Rattle.std.proofs.Common.{ℕ, ◌≡◌, ◌≢◌, inl, inr, arith, Bool, true, false, Option, Some, None, [], replicate, slice_get, sym, ap, ◌∙◌}
use Rattle.std.specs.Prelude.{◌==◌, ◌&&◌}
use Rattle.std.proofs.lemmas.Bool.{cases_lt}
use Rattle.std.proofs.lemmas.List.{get_or-replicate, get_or_past, length-replicate}
use Rattle.std.proofs.lemmas.Option.{none-some}
use Rattle.base.proofs.SliceSets.{slice_get-replicate_found}
use Rattle.seats.specs.declared.guard.Guard.{Guard}
use Rattle.seats.specs.declared.guard.Guard.TheVariants.{Of, Open}
use Rattle.seats.specs.Tables.{GuardTables, IsPutInTable, TablesOpenNothing, table_guard, table_guard_put, table_range_has}

closed_layout_guard : (b : Bool) (guard : Guard) (o : Option Guard) → guard ≢ Open → o ≢ Some Open → table_guard_put b guard o ≢ Some Open
closed_layout_guard true guard (Some old) other was e = other (let same = e in cc)
closed_layout_guard true guard None other was e = was e
closed_layout_guard false guard o other was e = was e

-- a guard that isn't open
pub closed_layout_put : {old new : GuardTables} {table from to : ℕ} {guard : Guard} → IsPutInTable old table from to guard new → guard ≢ Open
    → TablesOpenNothing old → TablesOpenNothing new
closed_layout_put {old} {new} {table} {from} {to} {guard} put other was t a e =
    closed_layout_guard ((t == table) && table_range_has from to a) guard (table_guard old t a) other (was t a) (sym (put.each t a) ∙ e)

-- a new layout
pub closed_layout_new : (n m round : ℕ) → TablesOpenNothing (record { tables = replicate n (replicate m (Of 0)); round = round })
closed_layout_new n m round t a e = elim (cases_lt t n) [
  | inl less ↦ absurd (let owned : slice_get (replicate m (Of 0)) a ≡ Some Open =
      ap (λ gs. slice_get gs a) (sym (get_or-replicate n t (replicate m (Of 0)) [] less)) ∙ e in
      let same : Of 0 ≡ Open = slice_get-replicate_found m (Of 0) Open a owned in cc)
  | inr past ↦ absurd (none-some Open (ap (λ gs. slice_get gs a) (sym (get_or_past (replicate n (replicate m (Of 0))) t []
      (let all = length-replicate n (replicate m (Of 0)) in omega (arith, all, past)))) ∙ e))
]
