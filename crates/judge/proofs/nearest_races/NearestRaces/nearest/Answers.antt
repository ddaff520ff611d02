use Rattle.std.proofs.Common.{◌≡◌, ℕ, ◌<◌, ◌↔◌, IsTrue, List, [], ◌∷◌, ◌++◌, length, slice_index, subst, sym, refl, arith}
use Rattle.std.specs.Prelude.{None}
use Rattle.journal.specs.declared.event.Event.{Event}
use Rattle.journal.specs.declared.event.Kind.{Kind}
use Rattle.journal.specs.declared.event.Kind.TheVariants.{Load, Store}
use Rattle.journal.specs.DidEvent.{event}
use Rattle.journal.specs.Events.{event_address}
use Rattle.journal.specs.Races.{Conflict}
use Rattle.journal.proofs.Order.EventPlacesAndCounts.{event_place_at_end}
use Rattle.journal.proofs.Passes.NextRaces.{next_race_none_other}
use Rattle.judge.specs.CutRows.{cut_entry}
use Rattle.judge.specs.declared.nearest_races.NearestRaces.{NearestRaces}
use Rattle.judge.specs.Cuts.{IsCutOf}
use Rattle.judge.specs.SparseTables.{sparse_at}
use Rattle.judge.specs.NearestRaces.{AreNearestRacesOf, IsNearestRaceAccessOf, is_nearest_race_access, is_nearest_race_store, nearest_race_row}
use Rattle.judge.proofs.TellingCuts.{cut_of_equal, cut_of_present}
use Rattle.judge.proofs.NearestRaceSteps.{IsNearestRaceRow, nearest_race_load_conflicts, nearest_race_is, nearest_race_store_conflicts}
use Rattle.judge.proofs.nearest_races.NearestRaces.nearest.Goals as goal

-- the processor's cut, as it was read
cut_of : (j : List Event) (x : NearestRaces) (p : ℕ) (t : List ℕ) → AreNearestRacesOf j x → p < x.processors
    → ((q : ℕ) → slice_index t q ≡ cut_entry x.cuts.processors p q) → IsCutOf j p (slice_index t)
cut_of j x p t tells lt is =
    let present = tells.present in
    cut_of_equal j p (cut_entry x.cuts.processors p) (slice_index t) (λ q. sym (is q))
    (cut_of_present tells.cuts p (omega arith))

-- the rows of a load and of a store
load_row : (j : List Event) (x : NearestRaces) (e : Event) (a v row : ℕ) (t : List ℕ) → AreNearestRacesOf j x → e.kind ≡ Load a v
    → row ≡ nearest_race_row x.processors a 0 → IsCutOf j e.processor (slice_index t)
    → IsNearestRaceRow j e (is_nearest_race_store a) (slice_index t) (sparse_at x.stores) row x.processors
load_row j x e a v row t tells is begins cut = record {
  conflicts = λ f. subst (λ k. Conflict f (event e.processor k) ↔ IsTrue (is_nearest_race_store a f.kind)) (sym is)
      (nearest_race_load_conflicts f e.processor a v);
  range = tells.processors;
  cut = cut;
  last = λ q within. subst (λ r. IsNearestRaceAccessOf j (is_nearest_race_store a) q (sparse_at x.stores r)) (omega arith)
      (tells.kept.stores a q within);
}

store_row : (j : List Event) (x : NearestRaces) (e : Event) (a v row : ℕ) (t : List ℕ) → AreNearestRacesOf j x → e.kind ≡ Store a v
    → row ≡ nearest_race_row x.processors a 0 → IsCutOf j e.processor (slice_index t)
    → IsNearestRaceRow j e (is_nearest_race_access a) (slice_index t) (sparse_at x.accesses) row x.processors
store_row j x e a v row t tells is begins cut = record {
  conflicts = λ f. subst (λ k. Conflict f (event e.processor k) ↔ IsTrue (is_nearest_race_access a f.kind)) (sym is)
      (nearest_race_store_conflicts f e.processor a v);
  range = tells.processors;
  cut = cut;
  last = λ q within. subst (λ r. IsNearestRaceAccessOf j (is_nearest_race_access a) q (sparse_at x.accesses r)) (omega arith)
      (tells.kept.accesses a q within);
}

no_address : (k : Kind) → ((a v : ℕ) → k ≡ Load a v → ⊥) → ((a v : ℕ) → k ≡ Store a v → ⊥)
    → event_address k ≡ None
no_address (Load a v) none not = absurd (none a v refl)
no_address (Store a v) none not = absurd (not a v refl)
no_address _ none not = refl

pub returns-in-Load : goal.returns-in-Load
returns-in-Load c = λ j tells.
    let x = c.args.self.now in
    let e = c.args.event in
    let t = c.of-cut.result.now in
    nearest_race_is c.nearest_race_in_row.result
    (load_row j x e c.in-Load.address c.in-Load.field-1 c.row.result t tells c.in-Load.is c.row.ensures.is
    (cut_of j x e.processor t tells c.requires.processor c.of-cut.ensures.entries))
    c.nearest_race_in_row.ensures

pub returns-in-Store : goal.returns-in-Store
returns-in-Store c = λ j tells.
    let x = c.args.self.now in
    let e = c.args.event in
    let t = c.of-cut.result.now in
    nearest_race_is c.nearest_race_in_row-in-Store.result
    (store_row j x e c.in-Store.address c.in-Store.field-1 c.row-in-Store.result t tells c.in-Store.is c.row-in-Store.ensures.is
    (cut_of j x e.processor t tells c.requires.processor c.of-cut.ensures.entries))
    c.nearest_race_in_row-in-Store.ensures

pub returns-in_default : goal.returns-in_default
returns-in_default c = λ j tells i r.
    next_race_none_other (j ++ c.args.event ∷ []) (length j) c.args.event (event_place_at_end j c.args.event)
    (no_address c.args.event.kind c.in_default.not-Load c.in_default.not-Store) i r
