use Rattle.std.proofs.Common.{ℕ, ◌≡◌, [], ◌∷◌, ◌++◌, List, length, subst, sym}
use Rattle.std.specs.Prelude.{map}
use Rattle.std.specs.Global.{Vec}
use Rattle.std.proofs.lemmas.Result.{IfOk-weaker}
use Rattle.journal.specs.declared.event.Event.{Event}
use Rattle.journal.specs.DidEvent.{event}
use Rattle.journal.specs.declared.event.Kind.TheVariants.{Load}
use Rattle.judge.specs.PermittedStores.{AreLatestStores}
use Rattle.judge.specs.Sources.Latest.{IsLatestRow}
use Rattle.judge.specs.KeptStores.{AreKeptStoresOf}
use Rattle.judge.proofs.sources.LoadRows.{load_row_of_stores, load_row_place}
use Rattle.judge.proofs.sources.rows_of_latest.latest_row_of.Goals as goal

pub returns : goal.returns
returns c =
    let e = c.args.event in
    let a = c.in-Load.address in
    let w = c.in-Load.field-1 in
    let stores = c.deref.result.now in
    IfOk-weaker c.latest_store_places.result (λ (v : Vec ℕ). v.items ≡ map load_row_place stores)
    (λ (v : Vec ℕ). (j : List Event) → AreKeptStoresOf j c.args.sources.now → IsLatestRow (j ++ e ∷ []) (length j) v.items)
    (λ v are j tells.
    let found : AreLatestStores (j ++ event e.processor (Load a w) ∷ []) (length j) a stores =
    subst (AreLatestStores (j ++ event e.processor (Load a w) ∷ []) (length j) a) (sym c.deref.ensures.value)
    (c.in_ok-latest.ensures j tells w) in
    subst (IsLatestRow (j ++ e ∷ []) (length j)) (sym are)
    (subst (λ k. IsLatestRow (j ++ event e.processor k ∷ []) (length j) (map load_row_place stores)) (sym c.in-Load.is)
    (load_row_of_stores j e.processor a w stores found)))
    c.latest_store_places.ensures
