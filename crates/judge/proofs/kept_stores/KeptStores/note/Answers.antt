use Rattle.std.proofs.Common.{◌≡◌, ◌<◌, ℕ, [], ◌∷◌, ◌++◌, List, inl, inr, subst, sym, ap, ◌∙◌}
use Rattle.std.specs.Prelude.{Result, Ok, Err, OnOk}
use Rattle.base.proofs.SlicesAndCounts.{slice_push_cases}
use Rattle.journal.specs.declared.event.Event.{Event}
use Rattle.journal.specs.EventsInRange.{EventProcessorsInRange}
use Rattle.judge.specs.declared.cuts.Cuts.{Cuts}
use Rattle.judge.specs.declared.kept_stores.KeptStores.{KeptStores}
use Rattle.judge.specs.Cuts.{AreCuts}
use Rattle.judge.specs.KeptStores.{AreKeptStoresOf, KeptStoresAreOf}
use Rattle.judge.proofs.kept_stores.KeptStores.note.Goals as goal

-- what success gives, success gives
then : {E P Q : Type 0} (r : Result (Unit {0}) E) → OnOk r P → (P → Q) → OnOk r Q
then (Ok x) p f = f p
then (Err e) p f = tt

-- one event more of a processor that there is
in_range : (n : ℕ) (j : List Event) (e : Event) → e.processor < n → EventProcessorsInRange n j → EventProcessorsInRange n (j ++ e ∷ [])
in_range n j e lt range i f at = elim (slice_push_cases j e i f at) [
  | inl old ↦ range i f old.1
  | inr new ↦ subst (λ (x : Event). x.processor < n) new.1 lt
]

-- with the cuts, what is kept tells the history
told : (j : List Event) (x : KeptStores) (cuts : Cuts) → EventProcessorsInRange x.processors j → KeptStoresAreOf j x
    → AreCuts j cuts → cuts.present ≡ x.processors → AreKeptStoresOf j (record x { cuts = cuts })
told j x cuts range kept are present = record {
  cuts = are;
  present = present;
  processors = range;
  kept = record { wide = kept.wide; sparse = kept.sparse; stores = kept.stores };
}

pub returns-clause-tells : goal.returns-clause-tells
returns-clause-tells c = then c.note.result c.note.ensures.cuts
    (λ next j tells.
    let x = c.keep.new.self in
    let e = c.args.event in
    let same = c.keep.ensures.processors in
    let cuts = c.keep.ensures.cuts in
    let present = ap (λ (y : Cuts). y.present) cuts ∙ tells.present in
    told (j ++ e ∷ []) x c.note.new.self
    (in_range x.processors j e (subst (λ n. e.processor < n) (sym same) c.requires.processor)
    (subst (λ n. EventProcessorsInRange n j) (sym same) tells.processors))
    (c.in_ok-keep.ensures.kept j tells)
    (next j (subst (AreCuts j) (sym cuts) tells.cuts) (subst (λ n. EventProcessorsInRange n j) (sym present) tells.processors))
    (c.note.ensures.present ∙ (present ∙ sym same)))
