-- The last store of a processor that is kept and stands in a past.
use Rattle.std.proofs.Common.{◌≡◌, ℕ, ◌<◌, ◌≤◌, inl, inr, ◌↔◌, List, Option, Some, slice_get, sym, refl, ap, ◌∙◌, MatchOption, arith}
use Rattle.std.specs.Prelude.{None}
use Rattle.std.proofs.lemmas.Bool.{cases_eq, cases_lt}
use Rattle.std.proofs.lemmas.Option.{same_Some}
use Rattle.base.specs.InOrderOnce.{Has, InOrder}
use Rattle.journal.specs.declared.event.Event.{Event}
use Rattle.journal.specs.declared.event.Kind.TheVariants.{Store}
use Rattle.journal.specs.DidEvent.{event}
use Rattle.journal.specs.Events.{EventAt}
use Rattle.journal.specs.Pasts.{InPast}
use Rattle.judge.specs.declared.cut_rows.CutRows.{CutRows}
use Rattle.judge.specs.declared.kept_store.KeptStore.{KeptStore}
use Rattle.judge.specs.KeptInPasts.{IsLastKeptInPast, IsLastKeptInPastOf, IsLastKeptStoreBelow, NoKeptStoreBelow}
use Rattle.judge.specs.KeptStores.{AreKeptStores}

-- p's past has the events of q up to this place
abbrev pub IsKnownUpTo : List Event → ℕ → ℕ → ℕ → Type 0
IsKnownUpTo j p q limit = (i : ℕ) (e : Event) → EventAt j i e → e.processor ≡ q → InPast j p i ↔ (i < limit)

-- the last one below that place is the last one in the past
pub last_kept_found : {n : ℕ} {j : List Event} {cuts : CutRows} {a q : ℕ} {stores : List KeptStore} (p limit : ℕ)
    (o : Option KeptStore) → AreKeptStores n j cuts a q stores → IsKnownUpTo j p q limit
    → MatchOption o (NoKeptStoreBelow stores limit) (IsLastKeptStoreBelow stores limit) → IsLastKeptInPastOf j p stores o
last_kept_found {a = a} {q = q} p limit None are known none = λ y has past.
    let does = (are.each has.0 y has.1).does in
    let low = (known y.place (event q (Store a y.value)) does refl).0 past in
    let high = none has.0 y has.1 in
    absurd (omega arith)
last_kept_found {j = j} {a = a} {q = q} {stores = stores} p limit (Some x) are known found = record {
  has = (found.index, found.at);
  past = (known x.place (event q (Store a x.value)) (are.each found.index x found.at).does refl).1 found.below;
  last = last;
}
  where
    last : (y : KeptStore) → Has stores y → InPast j p y.place → y.place ≤ x.place
    last y has past =
        let does = (are.each has.0 y has.1).does in
        let low = (known y.place (event q (Store a y.value)) does refl).0 past in
        elim (cases_lt found.index has.0) [
          | inl after ↦ (let high = found.later has.0 y after has.1 in absurd (omega arith))
          | inr le ↦ elim (cases_eq has.0 found.index) [
            | inl same ↦
                (let one = same_Some y x (sym has.1 ∙ ap (slice_get stores) same ∙ found.at) in
                let place = ap (λ (z : KeptStore). z.place) one in
                omega arith)
            | inr isnt ↦ (let before = are.rising has.0 found.index y x (omega arith) has.1 found.at in omega arith)
          ]
        ]

-- there is one at most
pub last_kept_one : (j : List Event) (p : ℕ) (stores : List KeptStore) (x y : KeptStore) → InOrder (λ (u v : KeptStore). u.place < v.place) stores
    → IsLastKeptInPast j p stores x → IsLastKeptInPast j p stores y → x ≡ y
last_kept_one j p stores x y rising one other =
    let up = one.last y other.has other.past in
    let down = other.last x one.has one.past in
    elim (cases_lt one.has.0 other.has.0) [
      | inl lt ↦ (let less = rising one.has.0 other.has.0 x y lt one.has.1 other.has.1 in absurd (omega arith))
      | inr le ↦ elim (cases_eq one.has.0 other.has.0) [
        | inl same ↦ same_Some x y (sym one.has.1 ∙ (ap (slice_get stores) same ∙ other.has.1))
        | inr isnt ↦ (let less = rising other.has.0 one.has.0 y x (omega arith) other.has.1 one.has.1 in absurd (omega arith))
      ]
    ]
