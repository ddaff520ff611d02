-- What a store writes in the flat memory, and two accesses of one word.
use Rattle.std.proofs.Common.{ℕ, ◌≡◌, ◌≢◌, ◌<◌, ◌⊎◌, inl, inr, List, Some, refl}
use Rattle.std.proofs.lemmas.Bool.{cases_eq}
use Rattle.std.proofs.lemmas.Option.{none-some, some_pair_parts}
use Rattle.journal.specs.declared.event.Event.{Event}
use Rattle.journal.specs.declared.event.Kind.{Kind}
use Rattle.journal.specs.declared.event.Kind.TheVariants.{Store}
use Rattle.journal.specs.DidEvent.{event}
use Rattle.journal.specs.Events.{EventAt, event_address}
use Rattle.journal.specs.HappensBeforeEdges.{HappensBefore}
use Rattle.journal.specs.HappensBeforeEdges.Link.{same}
use Rattle.journal.specs.HappensBeforeEdges.HappensBefore.{edge}
use Rattle.journal.specs.Races.{Race, Conflict}
use Rattle.journal.specs.ReplayMemory.{replay_memory_write}
use Rattle.journal.specs.Base.{Base}
use Rattle.journal.specs.HappensBeforeFromBase.{HappensBeforeFromBase}
use Rattle.journal.specs.HappensBeforeFromBase.HappensBeforeLinkFromBase.{same as same_from}
use Rattle.journal.specs.HappensBeforeFromBase.HappensBeforeFromBase.{edge as edge_base}
use Rattle.journal.specs.RacesFromBase.{RaceFromBase}

-- what writes in the flat memory is a store of that word
pub flat_conflict_store_is : (k : Kind) (a v : ℕ) → replay_memory_write k ≡ Some (a, v) → k ≡ Store a v
flat_conflict_store_is (Store b w) a v h = let e = some_pair_parts b a w v h in cc
flat_conflict_store_is _ a v h = absurd (none-some (a, v) h)

-- a store and an access of its address conflict
pub flat_conflict_of_store : (p q a v : ℕ) (k : Kind) → event_address k ≡ Some a → Conflict (event p (Store a v)) (event q k)
flat_conflict_of_store p q a v k h = record { address = a; first = refl; second = h; stores = inl refl }

-- two accesses that conflict, of which the second ends no race, are not unordered
pub flat_conflict_not_unordered : {j : List Event} {m n : ℕ} {e f : Event} → m < n → EventAt j m e → EventAt j n f → Conflict e f
    → ¬ Race j m n → ¬ (¬ HappensBefore j m n)
flat_conflict_not_unordered {e = e} {f = f} less at to conflict none un = go (cases_eq e.processor f.processor)
  where
    go : (e.processor ≡ f.processor) ⊎ (e.processor ≢ f.processor) → ⊥
    go (inl mine) = un (edge (record { before = less; from = e; to = f; from_at = at; to_at = to; link = same mine }))
    go (inr apart) =
        none (record {
          before = less;
          first = e;
          second = f;
          first_at = at;
          second_at = to;
          apart = apart;
          conflict = conflict;
          unordered = un;
        })

-- the same from a base
pub flat_conflict_not_unordered_from_base : {b : Base} {j : List Event} {m n : ℕ} {e f : Event} → m < n → EventAt j m e → EventAt j n f
    → Conflict e f → ¬ RaceFromBase b j m n → ¬ (¬ HappensBeforeFromBase b j m n)
flat_conflict_not_unordered_from_base {e = e} {f = f} less at to conflict none un = go (cases_eq e.processor f.processor)
  where
    go : (e.processor ≡ f.processor) ⊎ (e.processor ≢ f.processor) → ⊥
    go (inl mine) =
        un (edge_base (record { before = less; from = e; to = f; from_at = at; to_at = to; link = same_from mine }))
    go (inr apart) =
        none (record {
          before = less;
          first = e;
          second = f;
          first_at = at;
          second_at = to;
          apart = apart;
          conflict = conflict;
          unordered = un;
        })
