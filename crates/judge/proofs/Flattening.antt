-- One memory after one more event, and the words that its last stores left.
use Rattle.std.proofs.Common.{◌≡◌, ◌≢◌, ℕ, ◌<◌, ◌⊎◌, inl, inr, List, [], ◌∷◌, ◌++◌, length, replicate, Option, Some, slice_get, get_or, subst, sym, refl, ap, ◌∙◌, arith, length-append}
use Rattle.std.specs.Prelude.{None}
use Rattle.std.proofs.lemmas.Bool.{cases_eq, cases_lt}
use Rattle.std.proofs.lemmas.List.{length-replicate}
use Rattle.std.proofs.lemmas.Option.{slice_get-get_or}
use Rattle.base.specs.LastWrite.{LastWrite}
use Rattle.base.proofs.LastWritten.{HasNoLastWrite}
use Rattle.base.proofs.LastWritten.{last_written_word, last_written_word_found, length-written}
use Rattle.base.proofs.SlicesAndCounts.{slice_push_cases}
use Rattle.base.proofs.SliceSets.{slice_get-replicate_found}
use Rattle.journal.specs.declared.event.Event.{Event}
use Rattle.journal.specs.declared.event.Kind.TheVariants.{Store}
use Rattle.journal.specs.DidEvent.{did, event}
use Rattle.journal.specs.WellFormed.{Does}
use Rattle.journal.specs.ReplayMemory.{replay_memory_write, memory_after}
use Rattle.journal.proofs.CopyOfPage.PageStores.{page_store_does_kind}
use Rattle.journal.proofs.Flat.FlatConflicts.{flat_conflict_store_is}
use Rattle.journal.proofs.Order.EventPlacesAndCounts.{event_place_at_end, event_place_longer, event_place_inside}
use Rattle.judge.specs.declared.flat_memory.FlatStore.{FlatStore}
use Rattle.judge.specs.declared.sparse_table.SparseTable.{SparseTable}
use Rattle.judge.specs.LastFlatStores.{IsLastFlatStore, KeepsLastFlatStore}
use Rattle.judge.specs.SparseTables.{IsSparseWith, sparse_at}

-- what an event writes
abbrev pub flattened_write : Event → Option (ℕ × ℕ)
flattened_write e = replay_memory_write e.kind

-- an event that is no store to a leaves the last one
pub flattened_store_others : (j : List Event) (e : Event) (a : ℕ) (o : Option FlatStore) → ((v : ℕ) → e.kind ≢ Store a v)
    → KeepsLastFlatStore j a o → KeepsLastFlatStore (j ++ e ∷ []) a o
flattened_store_others j e a None away none = λ m q w does. elim (slice_push_cases j e m (event q (Store a w)) does) [
  | inl old ↦ none m q w old.1
  | inr new ↦ away w (ap (λ (x : Event). x.kind) new.1)
]
flattened_store_others j e a (Some x) away last = record {
  stores = event_place_longer j (e ∷ []) x.place (event x.by (Store a x.value)) last.stores;
  last = λ m q w does. elim (slice_push_cases j e m (event q (Store a w)) does) [
    | inl old ↦ last.last m q w old.1
    | inr new ↦ absurd (away w (ap (λ (y : Event). y.kind) new.1))
  ];
}

-- a store to a is the last one
flattened_store_next : (j : List Event) (p a v : ℕ)
    → IsLastFlatStore (did j p (Store a v)) a (record { by = p; place = length j; value = v })
flattened_store_next j p a v = record {
  stores = event_place_at_end j (event p (Store a v));
  last = λ m q w does.
      (let lt = event_place_inside (did j p (Store a v)) m (event q (Store a w)) does in
      let long = length-append j (event p (Store a v) ∷ []) in
      omega arith);
}

flattened_store_address : (a b v w : ℕ) → Store a v ≡ Store b w → a ≡ b
flattened_store_address a b v w is = cc

-- of each address, after a store to a
pub flattened_stores_next : (j : List Event) (p a v n : ℕ) {old new : SparseTable FlatStore}
    → IsSparseWith old new a (record { by = p; place = length j; value = v })
    → ((b : ℕ) → b < n → KeepsLastFlatStore j b (sparse_at old b))
    → (b : ℕ) → b < n → KeepsLastFlatStore (did j p (Store a v)) b (sparse_at new b)
flattened_stores_next j p a v n {old = old} {new = new} written are b lt = elim (cases_eq b a) [
  | inl same ↦
      subst (KeepsLastFlatStore (did j p (Store a v)) b) (sym (ap (sparse_at new) same ∙ written.now))
      (subst (λ c. IsLastFlatStore (did j p (Store a v)) c (record { by = p; place = length j; value = v })) (sym same)
      (flattened_store_next j p a v))
  | inr isnt ↦ subst (KeepsLastFlatStore (did j p (Store a v)) b) (sym (written.others b isnt))
      (flattened_store_others j (event p (Store a v)) b (sparse_at old b) (λ w is. isnt (sym (flattened_store_address a b v w is)))
      (are b lt))
]

-- what wrote a word last is a store
flattened_write_stores : (j : List Event) (a v : ℕ) (l : LastWrite flattened_write j a v) → Does j l.place l.item.processor (Store a v)
flattened_write_stores j a v l =
    page_store_does_kind j l.place l.item (Store a v) l.at (flat_conflict_store_is l.item.kind a v l.writes)

-- it is the last store
pub flattened_last : (j : List Event) (a v : ℕ) (l : LastWrite flattened_write j a v)
    → IsLastFlatStore j a (record { by = l.item.processor; place = l.place; value = v })
flattened_last j a v l = record {
  stores = flattened_write_stores j a v l;
  last = λ m q w does. elim (cases_lt l.place m) [
    | inl less ↦ absurd (l.last m (event q (Store a w)) w less does refl)
    | inr le ↦ le
  ];
}

-- and the last store wrote the word
flattened_last_write : (j : List Event) (a : ℕ) (x : FlatStore) → IsLastFlatStore j a x → LastWrite flattened_write j a x.value
flattened_last_write j a x last = record {
  place = x.place;
  item = event x.by (Store a x.value);
  at = last.stores;
  writes = refl;
  last = λ k y u less at writes.
      (let le = last.last k y.processor u (page_store_does_kind j k y (Store a u) at (flat_conflict_store_is y.kind a u writes)) in
      omega (arith, less));
}

-- the word after the last store: 0 if there is none
abbrev pub last_flat_store_word : Option FlatStore → ℕ
last_flat_store_word None = 0
last_flat_store_word (Some x) = x.value

pub flattened_word : (n : ℕ) (j : List Event) (a : ℕ) (o : Option FlatStore) → a < n → KeepsLastFlatStore j a o
    → slice_get (memory_after (replicate n 0) j) a ≡ Some (last_flat_store_word o)
flattened_word n j a (Some x) lt last =
    last_written_word_found flattened_write (replicate n 0) j a x.value (rw length-replicate lt) (flattened_last_write j a x last)
flattened_word n j a None lt none = found ∙ ap Some (zero_is (last_written_word flattened_write (replicate n 0) j a word found))
  where
    word : ℕ
    word = get_or (memory_after (replicate n 0) j) a 0

    within : a < length {A = ℕ} (replicate n 0)
    within = rw length-replicate lt

    found : slice_get (memory_after (replicate n 0) j) a ≡ Some word
    found = slice_get-get_or (memory_after (replicate n 0) j) a 0 (rw length-written within)

    zero_is : LastWrite flattened_write j a word ⊎ ((slice_get (replicate n 0) a ≡ Some word) × HasNoLastWrite flattened_write j a) → word ≡ 0
    zero_is (inl l) = absurd (none l.place l.item.processor word (flattened_write_stores j a word l))
    zero_is (inr (start, _)) = sym (slice_get-replicate_found n 0 word a start)

-- of each history and address there is a last store, or none
pub flattened_found : (n : ℕ) (j : List Event) (a : ℕ) → a < n → (o : Option FlatStore) × KeepsLastFlatStore j a o
flattened_found n j a lt = go (last_written_word flattened_write (replicate n 0) j a word found)
  where
    word : ℕ
    word = get_or (memory_after (replicate n 0) j) a 0

    within : a < length {A = ℕ} (replicate n 0)
    within = rw length-replicate lt

    found : slice_get (memory_after (replicate n 0) j) a ≡ Some word
    found = slice_get-get_or (memory_after (replicate n 0) j) a 0 (rw length-written within)

    go : LastWrite flattened_write j a word ⊎ ((slice_get (replicate n 0) a ≡ Some word) × HasNoLastWrite flattened_write j a)
        → (o : Option FlatStore) × KeepsLastFlatStore j a o
    go (inl l) = (Some (record { by = l.item.processor; place = l.place; value = word }), flattened_last j a word l)
    go (inr (_, nothing)) = (None, λ m q w does. nothing m (event q (Store a w)) w does refl)
