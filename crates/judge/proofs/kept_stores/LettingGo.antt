-- Stores that no load may answer any more.
use Rattle.std.proofs.Common.{◌≡◌, ℕ, ◌+◌, ◌-◌, ◌<◌, ◌==◌, cond, inl, inr, List, ◌++◌, drop, length, slice_get, subst, sym, refl, ap, ◌∙◌, arith}
use Rattle.std.proofs.lemmas.Bool.{cases_eq, cases_lt, eq-eqb, ne_eqb}
use Rattle.base.proofs.SlicesAndCounts.{slice_get-drop}
use Rattle.journal.specs.declared.event.Event.{Event}
use Rattle.journal.specs.declared.event.Kind.TheVariants.{Store}
use Rattle.journal.specs.DidEvent.{event}
use Rattle.journal.specs.WellFormed.{Does}
use Rattle.journal.proofs.Order.EventPlacesAndCounts.{event_place_longer}
use Rattle.journal.proofs.Order.HappensBefore.{happens_before_longer}
use Rattle.journal.proofs.Order.IntoPast.{into_past_back, into_past_longer}
use Rattle.journal.proofs.Times.LeavingCloses.{leaving_closes_own_order}
use Rattle.judge.specs.declared.cut_rows.CutRows.{CutRows}
use Rattle.judge.specs.CutRows.{cut_entry}
use Rattle.judge.specs.declared.kept_store.KeptStore.{KeptStore}
use Rattle.judge.specs.KeptInPasts.{IsKeptStoreIndex, IsLastKeptInPast}
use Rattle.judge.specs.KeptStores.{AreKeptStores, HasKeptStoreAt, IsKeptStore}
use Rattle.judge.specs.StoresInPasts.{IsHiddenInPast, MayBeAnsweredLater}

-- what is hidden from each processor may not be answered later
pub letting_go_hidden : (n : ℕ) (j : List Event) (a q i : ℕ) → ((p : ℕ) → p < n → IsHiddenInPast j p a i)
    → ¬ MayBeAnsweredLater n j a q i
letting_go_hidden n j a q i hidden x =
    let h = hidden x.by x.present in
    let past = into_past_longer j x.more x.by h.place h.past in
    let follows = happens_before_longer j x.more h.follows in
    elim x.may [
      | inl l ↦ l.latest h.place h.by h.value (event_place_longer j x.more h.place (event h.by (Store a h.value)) h.does) past follows
      | inr o ↦ o.outside (into_past_back (j ++ x.more) x.by i h.place follows past)
    ]

-- up to which place the last store x of r follows those of q
pub letting_go_followed : (n : ℕ) (j : List Event) (cuts : CutRows) (p a q r i v limit : ℕ) (x : KeptStore) (stores : List KeptStore)
    → AreKeptStores n j cuts a r stores → IsLastKeptInPast j p stores x → Does j i q (Store a v)
    → limit ≡ cond (r == q) x.place (cut_entry cuts x.cut q) → i < limit → IsHiddenInPast j p a i
letting_go_followed n j cuts p a q r i v limit x stores are last does is lt = record {
  place = x.place;
  by = r;
  value = x.value;
  does = kept.does;
  past = last.past;
  follows = elim (cases_eq r q) [
    | inl same ↦
        (let own : limit ≡ x.place = is ∙ (rw (eq-eqb r q same) refl) in
        leaving_closes_own_order j q i x.place (Store a v) (Store a x.value) does
        (subst (λ s. Does j x.place s (Store a x.value)) same kept.does) (omega arith))
    | inr isnt ↦
        (let cut : limit ≡ cut_entry cuts x.cut q = is ∙ (rw (ne_eqb r q isnt) refl) in
        (kept.cut.covers i (event q (Store a v)) does (λ same. isnt (sym same))).1 (omega arith))
  ];
}
  where
    kept : IsKeptStore j cuts a r x
    kept = are.each last.has.0 x last.has.1

-- the stores from this index on are all that may be answered later
pub letting_go_row : (n : ℕ) (j : List Event) (cuts : CutRows) (a q limit from : ℕ) (stores : List KeptStore)
    → AreKeptStores n j cuts a q stores → IsKeptStoreIndex stores limit from
    → ((i v p : ℕ) → Does j i q (Store a v) → i < limit → p < n → IsHiddenInPast j p a i)
    → AreKeptStores n j cuts a q (drop from stores)
letting_go_row n j cuts a q limit from stores are first hidden = record {
  each = λ m x at. are.each (from + m) x (sym (slice_get-drop stores from m) ∙ at);
  rising = λ m k x y lt at to. are.rising (from + m) (from + k) x y (omega arith) (sym (slice_get-drop stores from m) ∙ at)
      (sym (slice_get-drop stores from k) ∙ to);
  all = all;
}
  where
    all : (i : ℕ) → i < length j → MayBeAnsweredLater n j a q i → HasKeptStoreAt (drop from stores) i
    all i lt later =
        let kept = are.all i lt later in
        let m = kept.has.0 in
        let x = kept.store in
        let place = kept.place in
        elim (cases_lt m from) [
          | inl below ↦
              (let low = first.below m x below kept.has.1 in
              let does = (are.each m x kept.has.1).does in
              absurd (letting_go_hidden n j a q i
              (λ p present. hidden i x.value p (subst (λ k. Does j k q (Store a x.value)) place does) (omega arith) present) later))
          | inr le ↦
              (let there : from + (m - from) ≡ m = omega arith in
              record {
                store = x;
                has = (m - from, slice_get-drop stores from (m - from) ∙ ap (slice_get stores) there ∙ kept.has.1);
                place = place;
              })
        ]
