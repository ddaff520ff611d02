-- Guards in their tables.
use Rattle.std.proofs.Common.{ℕ, zero, suc, ◌≡◌, ◌<◌, ◌≤◌, inl, inr, Bool, true, false, None, List, [], ◌∷◌, length, map, min, max, slice_get, slice_set, get_or, refl, sym, ap, subst, ◌∙◌, arith}
use Rattle.std.specs.Prelude.{◌&&◌, nat_le, nat_lt}
use Rattle.std.proofs.lemmas.Bool.{cases_eq, cases_lt, eq-eqb, ne_eqb}
use Rattle.std.proofs.lemmas.Bool.Decides.{nat_tests}
use Rattle.std.proofs.lemmas.List.{get_or-set_other, get_or-set_same, length-set}
use Rattle.std.proofs.lemmas.Option.{slice_get_cases}
use Rattle.seats.specs.declared.guard.Guard.{Guard}
use Rattle.seats.specs.Tables.{GuardTables, IsPutInTable, table_guard, table_guard_put, table_range_has}

layout_table_less_same : (a m n : ℕ) → (a < m → a < n) → (a < n → a < m) → nat_lt a m ≡ nat_lt a n
layout_table_less_same a m n to from = elim (cases_lt a m) [
  | inl less ↦ (let more = to less in grind (arith, nat_tests))
  | inr past ↦ elim (cases_lt a n) [
    | inl less ↦ absurd (let more = from less in omega (arith, past, more))
    | inr beyond ↦ grind (arith, nat_tests)
  ]
]

layout_table_put_none : (b : Bool) (guard : Guard) → table_guard_put b guard None ≡ None
layout_table_put_none true guard = refl
layout_table_put_none false guard = refl

-- the addresses up to where a table is written, or that ends before
pub layout_table_put_done : (old : List Guard) (from to address a : ℕ) (guard : Guard) → from ≤ address
    → address ≤ max from (min to (length old)) → min to (length old) ≤ address
    → table_guard_put (table_range_has from address a) guard (slice_get old a) ≡ table_guard_put (table_range_has from to a) guard (slice_get old a)
layout_table_put_done old from to address a guard least most all = elim (slice_get_cases old a).1 [
  | inr past ↦ rw past.1 (layout_table_put_none (table_range_has from address a) guard ∙ sym (layout_table_put_none (table_range_has from to a) guard))
  | inl found ↦ ap (λ b. table_guard_put b guard (slice_get old a)) (same found.1)
]
  where
    same : a < length old → table_range_has from address a ≡ table_range_has from to a
    same within = elim (cases_lt a from) [
      | inl before ↦ (let no : nat_le from a ≡ false = grind (arith, nat_tests) in rw no refl)
      | inr there ↦ ap (λ b. nat_le from a && b) (layout_table_less_same a address to (λ less. omega (arith, less, most, there))
          (λ less. omega (arith, less, all, within)))
    ]

-- what is found among lists that each stand for something
pub layout_table_found_in : {V : Type 0} (f : V → List Guard) (xs : List V) (i : ℕ) (v : V) → i < length xs → v ≡ get_or xs i v
    → f v ≡ get_or (map f xs) i []
layout_table_found_in f [] i v less is = absurd (omega (arith, less))
layout_table_found_in f (x ∷ xs) zero v less is = ap f is
layout_table_found_in f (x ∷ xs) (suc i) v less is = layout_table_found_in f xs i v (omega (arith, less)) is

pub layout_table_set_in : {V : Type 0} (f : V → List Guard) (xs : List V) (i : ℕ) (v : V)
    → map f (slice_set xs i v) ≡ slice_set (map f xs) i (f v)
layout_table_set_in f [] i v = refl
layout_table_set_in f (x ∷ xs) zero v = refl
layout_table_set_in f (x ∷ xs) (suc i) v = ap (λ ys. f x ∷ ys) (layout_table_set_in f xs i v)

-- a table that was written among the others
pub layout_table_put : (old new : GuardTables) (table from to : ℕ) (guard : Guard) (gs : List Guard)
    → new ≡ record old { tables = slice_set old.tables table gs } → table < length old.tables
    → ((a : ℕ) → slice_get gs a ≡ table_guard_put (table_range_has from to a) guard (table_guard old table a))
    → IsPutInTable old table from to guard new
layout_table_put old new table from to guard gs is within each = subst (IsPutInTable old table from to guard) (sym is) (record {
  round = refl;
  tables = length-set old.tables table gs;
  each = λ t a. elim (cases_eq t table) [
    | inl here ↦ (let yes = eq-eqb t table here in
        rw yes (subst (λ k. slice_get (get_or (slice_set old.tables table gs) k []) a
        ≡ table_guard_put (table_range_has from to a) guard (table_guard old k a)) (sym here)
        (ap (λ xs. slice_get xs a) (get_or-set_same old.tables table gs [] within) ∙ each a)))
    | inr other ↦ (let no = ne_eqb t table other in
        rw no (ap (λ xs. slice_get xs a) (get_or-set_other old.tables table t gs [] other)))
  ];
})
