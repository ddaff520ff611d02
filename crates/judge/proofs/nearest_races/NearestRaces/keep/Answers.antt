use Rattle.std.proofs.Common.{◌≡◌, ◌+◌, ◌<◌, ◌≤◌, ℕ, [], ◌∷◌, ◌++◌, List, true, vec_len, subst, sym, refl}
use Rattle.std.specs.Prelude.{Result, Ok, Err, OnOk}
use Rattle.std.proofs.lemmas.Bool.{eq-eqb}
use Rattle.journal.specs.declared.event.Event.{Event}
use Rattle.journal.specs.declared.event.Kind.{Kind}
use Rattle.journal.specs.declared.event.Kind.TheVariants.{Load, Store}
use Rattle.journal.specs.DidEvent.{did, event}
use Rattle.judge.specs.declared.nearest_races.NearestRaces.{NearestRaces}
use Rattle.judge.specs.NearestRaces.{NearestRaceAccessesAreKept, AreNearestRacesOf, is_nearest_race_access, is_nearest_race_store, nearest_race_row}
use Rattle.judge.specs.declared.sparse_table.SparseTable.{SparseTable}
use Rattle.judge.specs.SparseTables.{IsSparseWith, sparse_at, sparse_room}
use Rattle.judge.proofs.NearestRaceSteps.{nearest_race_access_address, nearest_race_access_next, nearest_race_rows_kept, nearest_race_rows_left, nearest_race_store_address}
use Rattle.judge.proofs.LongerSparseTables.{longer_sparse_same, longer_sparse_next}
use Rattle.judge.proofs.nearest_races.NearestRaces.keep.Goals as goal

-- what success gives, success gives
then : {E P Q : Type 0} (r : Result (Unit {0}) E) → OnOk r P → (P → Q) → OnOk r Q
then (Ok x) p f = f p
then (Err e) p f = tt

-- the row of a table was written
record IsWritten (old new : SparseTable ℕ) (row place : ℕ) : Type 0 where
  is : IsSparseWith old new row place
  room : sparse_room new ≡ sparse_room old
  more : vec_len new.kept ≤ vec_len old.kept + 1

-- what is kept after a load
loaded : (j : List Event) (x : NearestRaces) (p a v : ℕ) (after : SparseTable ℕ) → AreNearestRacesOf j x → p < x.processors
    → IsWritten x.accesses after (nearest_race_row x.processors a p) x.cuts.place
    → NearestRaceAccessesAreKept (did j p (Load a v)) (record x { accesses = after })
loaded j x p a v after tells lt written =
    let k : Kind = Load a v in
    let n = x.processors in
    record {
      stores = nearest_race_rows_left n j (event p k) is_nearest_race_store (sparse_at x.stores) (λ b yes_is. absurd cc) tells.kept.stores;
      accesses = nearest_race_rows_kept j p a k is_nearest_race_access (λ b yes_is. nearest_race_access_address k a b refl yes_is)
          (nearest_race_access_next j p k (is_nearest_race_access a) x.cuts.place (eq-eqb a a refl) tells.cuts.place) written.is lt
          tells.kept.accesses;
      stores_sparse = longer_sparse_same j (event p k) x.stores tells.kept.stores_sparse;
      accesses_sparse = longer_sparse_next j (event p k) x.accesses after written.is.sparse written.room written.more
          tells.kept.accesses_sparse;
    }

-- and after a store
stored : (j : List Event) (x : NearestRaces) (p a v : ℕ) (stores accesses : SparseTable ℕ) → AreNearestRacesOf j x → p < x.processors
    → IsWritten x.accesses accesses (nearest_race_row x.processors a p) x.cuts.place
    → IsWritten x.stores stores (nearest_race_row x.processors a p) x.cuts.place
    → NearestRaceAccessesAreKept (did j p (Store a v)) (record x { stores = stores; accesses = accesses })
stored j x p a v stores accesses tells lt first second =
    let k : Kind = Store a v in
    record {
      stores = nearest_race_rows_kept j p a k is_nearest_race_store (λ b yes_is. nearest_race_store_address a v b yes_is)
          (nearest_race_access_next j p k (is_nearest_race_store a) x.cuts.place (eq-eqb a a refl) tells.cuts.place) second.is lt
          tells.kept.stores;
      accesses = nearest_race_rows_kept j p a k is_nearest_race_access (λ b yes_is. nearest_race_access_address k a b refl yes_is)
          (nearest_race_access_next j p k (is_nearest_race_access a) x.cuts.place (eq-eqb a a refl) tells.cuts.place) first.is lt
          tells.kept.accesses;
      stores_sparse = longer_sparse_next j (event p k) x.stores stores second.is.sparse second.room second.more
          tells.kept.stores_sparse;
      accesses_sparse = longer_sparse_next j (event p k) x.accesses accesses first.is.sparse first.room first.more
          tells.kept.accesses_sparse;
    }

-- a table was written in this row
written_in : {old new : SparseTable ℕ} {row r place : ℕ} → row ≡ r → IsSparseWith old new row place → sparse_room new ≡ sparse_room old
    → vec_len new.kept ≤ vec_len old.kept + 1 → IsWritten old new r place
written_in {old = old} {new = new} {place = place} same is room more =
    record { is = subst (λ r. IsSparseWith old new r place) same is; room = room; more = more }

pub returns-in-Load-clause-kept : goal.returns-in-Load-clause-kept
returns-in-Load-clause-kept c = then c.set.result c.set.ensures.set
    (λ is j tells.
    let s = c.args.self.now in
    let p = c.args.event.processor in
    subst (λ k. NearestRaceAccessesAreKept (j ++ event p k ∷ []) (record s { accesses = c.set.new.self })) (sym c.in-Load.is)
    (loaded j s p c.in-Load.address c.in-Load.field-1 c.set.new.self tells c.requires.processor
    (written_in c.row-row.ensures.is is c.set.ensures.room c.set.ensures.few)))

pub returns-in_ok-set-in-Store-clause-kept : goal.returns-in_ok-set-in-Store-clause-kept
returns-in_ok-set-in-Store-clause-kept c = then c.set-in-Store-2.result c.set-in-Store-2.ensures.set
    (λ is j tells.
    let s = c.args.self.now in
    let p = c.args.event.processor in
    let after : NearestRaces = record s { stores = c.set-in-Store-2.new.self; accesses = c.set-in-Store.new.self } in
    subst (λ k. NearestRaceAccessesAreKept (j ++ event p k ∷ []) after) (sym c.in-Store.is)
    (stored j s p c.in-Store.address c.in-Store.field-1 after.stores after.accesses tells c.requires.processor
    (written_in c.row-row-in-Store.ensures.is c.in_ok-set-in-Store.ensures.set c.set-in-Store.ensures.room c.set-in-Store.ensures.few)
    (written_in c.row-row-in-Store.ensures.is is c.set-in-Store-2.ensures.room c.set-in-Store-2.ensures.few)))

not_stores : (k : Kind) (a : ℕ) → ((b v : ℕ) → k ≡ Store b v → ⊥) → is_nearest_race_store a k ≡ true → ⊥
not_stores (Store b v) a none yes_is = none b v refl
not_stores _ a none yes_is = absurd cc

not_accesses : (k : Kind) (a : ℕ) → ((b v : ℕ) → k ≡ Load b v → ⊥) → ((b v : ℕ) → k ≡ Store b v → ⊥)
    → is_nearest_race_access a k ≡ true → ⊥
not_accesses (Load b v) a none not yes_is = none b v refl
not_accesses (Store b v) a none not yes_is = not b v refl
not_accesses _ a none not yes_is = absurd cc

pub returns-in_default : goal.returns-in_default
returns-in_default c = record {
  cuts = refl;
  processors = refl;
  addresses = refl;
  kept = λ j tells.
      (let s = c.args.self.now in
      let n = s.processors in
      let e = c.args.event in record {
        stores = nearest_race_rows_left n j e is_nearest_race_store (sparse_at s.stores) (λ a yes_is. not_stores e.kind a c.in_default.not-Store yes_is) tells.kept.stores;
        accesses = nearest_race_rows_left n j e is_nearest_race_access (sparse_at s.accesses)
            (λ a yes_is. not_accesses e.kind a c.in_default.not-Load c.in_default.not-Store yes_is) tells.kept.accesses;
        stores_sparse = longer_sparse_same j e s.stores tells.kept.stores_sparse;
        accesses_sparse = longer_sparse_same j e s.accesses tells.kept.accesses_sparse;
      });
}
