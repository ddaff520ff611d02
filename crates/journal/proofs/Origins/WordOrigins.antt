-- The word of a copy stays until an event of its processor writes it, and is the same in every journal that goes on.
use Rattle.std.proofs.Common.{ℕ, ◌≡◌, ◌≢◌, ◌+◌, ◌<◌, ◌≤◌, ◌/◌, inl, inr, List, [], ◌∷◌, ◌++◌, length, length-append, take, refl, sym, subst, le_of_lt, arith, ◌∙◌}
use Rattle.std.proofs.lemmas.Bool.{cases_lt, cases_order}
use Rattle.std.proofs.lemmas.List.{take-append-le}
use Rattle.std.proofs.lemmas.Option.{none-some}
use Rattle.journal.specs.declared.event.Event.{Event}
use Rattle.journal.specs.declared.event.Kind.{Kind}
use Rattle.journal.specs.declared.event.Kind.TheVariants.{Load, Store, Fetch}
use Rattle.journal.specs.DidEvent.{event}
use Rattle.journal.specs.Sizes.{Sizes}
use Rattle.journal.specs.Events.{EventAt}
use Rattle.journal.specs.WellFormed.{Does}
use Rattle.journal.specs.PageImages.{FetchesPageImage}
use Rattle.journal.specs.OriginWrites.{IsOriginWriteBrought, OriginWritesWord}
use Rattle.journal.specs.CopyAnswers.{IsCopyAnswer, AnswersCopies, CopyAnswerLaw}
use Rattle.journal.specs.CopyOrigins.{TouchesCopy, IsCopyOriginInGap, IsLastCopyOriginInGap}
use Rattle.base.proofs.SlicesAndCounts.{slice_append_cases, slice_push_cases, slice_get-from_take}
use Rattle.journal.proofs.Order.EventPlacesAndCounts.{event_place_longer, event_place_shorter, event_place_does_same}
use Rattle.journal.proofs.CopyOfPage.PageStores.{page_store_same}
use Rattle.journal.proofs.Origins.GapOrigins.{gap_origin_of_brought, gap_origin_brought}

module _ {s : Sizes} {j : List Event} {p a m : ℕ} (es : List Event) (within : m < length j) where
  origin_word_brought_longer : {q i c : ℕ} → IsOriginWriteBrought s j p a m q i c → IsOriginWriteBrought s (j ++ es) p a m q i c
  origin_word_brought_longer {q} {i} {c} b =
      let f = b.fetches in
      gap_origin_brought (f.0, f.1, f.2, event_place_longer j es m (event p (Fetch f.0 (a / s.words) f.1 f.2)) f.3)
      (subst (λ (h : List Event). IsCopyOriginInGap s h p a q i c) (sym (take-append-le m j es (le_of_lt within))) (gap_origin_of_brought b))

  origin_word_brought_shorter : {q i c : ℕ} → IsOriginWriteBrought s (j ++ es) p a m q i c → IsOriginWriteBrought s j p a m q i c
  origin_word_brought_shorter {q} {i} {c} b =
      let f = b.fetches in
      gap_origin_brought (f.0, f.1, f.2, event_place_shorter j es m (event p (Fetch f.0 (a / s.words) f.1 f.2)) within f.3)
      (subst (λ (h : List Event). IsCopyOriginInGap s h p a q i c) (take-append-le m j es (le_of_lt within)) (gap_origin_of_brought b))

  -- an event that writes the word does so as the journal goes on
  pub origin_word_event_longer : {i : ℕ} → OriginWritesWord s j p a m i → OriginWritesWord s (j ++ es) p a m i
  origin_word_event_longer {i} (inl own) =
      inl (own.0, (own.1.0, event_place_longer j es m (event p (Store a own.1.0)) own.1.1))
  origin_word_event_longer {i} (inr x) = inr (record {
    by = x.by;
    closed = x.closed;
    brought = origin_word_brought_longer x.brought;
    last = λ q k d b. x.last q k d (origin_word_brought_shorter b);
  })

  -- and did so before
  pub origin_word_event_shorter : {i : ℕ} → OriginWritesWord s (j ++ es) p a m i → OriginWritesWord s j p a m i
  origin_word_event_shorter {i} (inl own) =
      inl (own.0, (own.1.0, event_place_shorter j es m (event p (Store a own.1.0)) within own.1.1))
  origin_word_event_shorter {i} (inr x) = inr (record {
    by = x.by;
    closed = x.closed;
    brought = origin_word_brought_shorter x.brought;
    last = λ q k d b. x.last q k d (origin_word_brought_longer b);
  })

-- what writes the word is p's, and touches its page
pub origin_word_event_touches : {s : Sizes} {j : List Event} {p a m i : ℕ} → OriginWritesWord s j p a m i
    → (k : Kind) × Does j m p k × TouchesCopy s (a / s.words) k
origin_word_event_touches {a = a} (inl own) = (Store a own.1.0, own.1.1, refl)
origin_word_event_touches {s = s} {a = a} (inr x) =
    let f = x.brought.fetches in (Fetch f.0 (a / s.words) f.1 f.2, f.3, refl)

-- a word stays until it is written
pub origin_word_kept : {s : Sizes} {j : List Event} {p a k v : ℕ} (l : ℕ) → k ≤ l
    → ((m i : ℕ) → k ≤ m → m < l → ¬ OriginWritesWord s j p a m i) → IsCopyAnswer s j p a k v → IsCopyAnswer s j p a l v
origin_word_kept {k = k} l le away (inl none) =
    inl (none.0, λ m i less. elim (cases_lt m k) [ inl old ↦ none.1 m i old | inr new ↦ away m i new less ])
origin_word_kept {k = k} l le away (inr x) = inr (record {
  write = x.write;
  store = x.store;
  by = x.by;
  from =
      let before = x.from.before in
      record {
        before = omega arith;
        writes = x.from.writes;
        last = λ n i low less. elim (cases_lt n k) [ inl old ↦ x.from.last n i low old | inr new ↦ away n i new less ];
      };
  stores = x.stores;
})

-- and is the same as the journal goes on
pub origin_word_longer : {s : Sizes} {j : List Event} {p a k v : ℕ} (es : List Event) → k ≤ length j
    → IsCopyAnswer s j p a k v → IsCopyAnswer s (j ++ es) p a k v
origin_word_longer {k = k} es le (inl none) =
    inl (none.0, λ m i less w. none.1 m i less (origin_word_event_shorter es (omega (arith, less, le)) w))
origin_word_longer {s = s} {j = j} {a = a} {k = k} {v = v} es le (inr x) =
    let before = x.from.before in
    inr (record {
      write = x.write;
      store = x.store;
      by = x.by;
      from = record {
        before = before;
        writes = origin_word_event_longer es (omega arith) x.from.writes;
        last = λ n i low less w. x.from.last n i low less (origin_word_event_shorter es (omega (arith, less, le)) w);
      };
      stores = event_place_longer j es x.store (event x.by (Store a v)) x.stores;
    })

-- events of which none is p's that touches the page leave its words
pub origin_word_on : {s : Sizes} {j : List Event} {p a v : ℕ} (es : List Event)
    → ((k : ℕ) (e : Event) → EventAt es k e → e.processor ≡ p → ¬ TouchesCopy s (a / s.words) e.kind)
    → IsCopyAnswer s j p a (length j) v → IsCopyAnswer s (j ++ es) p a (length (j ++ es)) v
origin_word_on {s} {j} {p} {a} {v} es away word =
    let long = length-append j es in
    origin_word_kept (length (j ++ es)) (omega arith) none (origin_word_longer es (omega arith) word)
  where
    none : (m i : ℕ) → length j ≤ m → m < length (j ++ es) → ¬ OriginWritesWord s (j ++ es) p a m i
    none m i le less w =
        let t = origin_word_event_touches w in
        elim (slice_append_cases j es m (event p t.0) t.1) [
          | inl h ↦ (let old = h.0 in omega arith)
          | inr h ↦ away h.0 (event p t.0) h.2 refl t.2
        ]

-- p's own store is its word's origin until the next one
pub origin_word_own : {s : Sizes} {j : List Event} {p a v : ℕ} (m k : ℕ) → m < k → Does j m p (Store a v)
    → ((n i : ℕ) → m < n → n < k → ¬ OriginWritesWord s j p a n i) → IsCopyAnswer s j p a k v
origin_word_own {p = p} {v = v} m k less does last = inr (record {
  write = m;
  store = m;
  by = p;
  from = record { before = less; writes = inl (refl, (v, does)); last = last };
  stores = does;
})

-- and so is the last store of the gap that a fetch brings
pub origin_word_fetched : {s : Sizes} {j : List Event} {p a v : ℕ} (m k : ℕ) → m < k
    → FetchesPageImage j m p (a / s.words) → IsLastCopyOriginInGap s (take m j) p a v
    → ((n i : ℕ) → m < n → n < k → ¬ OriginWritesWord s j p a n i) → IsCopyAnswer s j p a k v
origin_word_fetched {j = j} {a = a} {v = v} m k less fetches x last = inr (record {
  write = m;
  store = x.place;
  by = x.by;
  from = record {
    before = less;
    writes = inr (record {
      by = x.by;
      closed = x.closed;
      brought = gap_origin_brought fetches x.gap;
      last = λ q i c b. x.last q i c (gap_origin_of_brought b);
    });
    last = last;
  };
  stores = slice_get-from_take j m x.place (event x.by (Store a v)) x.stores;
})

-- a journal without events has no load
pub origin_word_answers_start : (s : Sizes) → AnswersCopies s []
origin_word_answers_start s k p a v does = absurd (none-some (event p (Load a v)) does)

-- a journal goes on with loads that answer so
pub origin_word_answers_on : (s : Sizes) (j es : List Event)
    → ((k p a v : ℕ) → Does es k p (Load a v) → IsCopyAnswer s (j ++ es) p a (length j + k) v) → AnswersCopies s j
    → AnswersCopies s (j ++ es)
origin_word_answers_on s j es new old k p a v does = elim (slice_append_cases j es k (event p (Load a v)) does) [
  | inl h ↦ origin_word_longer es (le_of_lt h.0) (old k p a v h.1)
  | inr h ↦ subst (λ (m : ℕ). IsCopyAnswer s (j ++ es) p a m v) (sym h.1) (new h.0 p a v h.2)
]

-- and with an event that is no load
pub origin_word_answers_push : (s : Sizes) (j : List Event) (e : Event) → ((p a v : ℕ) → e ≢ event p (Load a v))
    → AnswersCopies s j → AnswersCopies s (j ++ e ∷ [])
origin_word_answers_push s j e no_load =
    origin_word_answers_on s j (e ∷ []) (λ k p a v does. elim (slice_push_cases [] e k (event p (Load a v)) does) [
      | inl h ↦ absurd (none-some (event p (Load a v)) h.1)
      | inr h ↦ absurd (no_load p a v h.1)
    ])

-- the store from which a copy has a word is one
origin_word_store_once : {s : Sizes} {j : List Event} {p a m i l : ℕ} → OriginWritesWord s j p a m i → OriginWritesWord s j p a m l
    → i ≡ l
origin_word_store_once (inl own) (inl same) = own.0 ∙ sym same.0
origin_word_store_once {s = s} {j = j} {p = p} {a = a} {m = m} (inl own) (inr x) =
    let f = x.brought.fetches in
    absurd (cc (event_place_does_same j m p p (Store a own.1.0) (Fetch f.0 (a / s.words) f.1 f.2) own.1.1 f.3).1)
origin_word_store_once {s = s} {j = j} {p = p} {a = a} {m = m} (inr x) (inl own) =
    let f = x.brought.fetches in
    absurd (cc (event_place_does_same j m p p (Store a own.1.0) (Fetch f.0 (a / s.words) f.1 f.2) own.1.1 f.3).1)
origin_word_store_once {i = i} {l = l} (inr x) (inr y) = elim (cases_order x.closed y.closed) [
  | inr apart ↦ elim apart [
    | inl less ↦ absurd (x.last y.by l y.closed y.brought (inl less))
    | inr more ↦ absurd (y.last x.by i x.closed x.brought (inl more))
  ]
  | inl same ↦ elim (cases_order i l) [
    | inl is ↦ is
    | inr apart ↦ elim apart [
      | inl less ↦ absurd (x.last y.by l y.closed y.brought (inr (same, less)))
      | inr more ↦ absurd (y.last x.by i x.closed x.brought (inr (sym same, more)))
    ]
  ]
]

-- so a copy has one word at an address before a place
pub origin_word_once : {s : Sizes} {j : List Event} {p a k v w : ℕ} → IsCopyAnswer s j p a k v → IsCopyAnswer s j p a k w
    → v ≡ w
origin_word_once (inl one) (inl two) = one.0 ∙ sym two.0
origin_word_once (inl none) (inr x) = absurd (none.1 x.write x.store x.from.before x.from.writes)
origin_word_once (inr x) (inl none) = absurd (none.1 x.write x.store x.from.before x.from.writes)
origin_word_once {s = s} {j = j} {p = p} {a = a} {v = v} {w = w} (inr x) (inr y) = elim (cases_order x.write y.write) [
  | inr apart ↦ elim apart [
    | inl less ↦ absurd (x.from.last y.write y.store less y.from.before y.from.writes)
    | inr more ↦ absurd (y.from.last x.write x.store more x.from.before x.from.writes)
  ]
  | inl same ↦
      (let P : ℕ → Type 0 = λ m. OriginWritesWord s j p a m x.store in
      let one = origin_word_store_once (subst P same x.from.writes) y.from.writes in
      let Q : ℕ → Type 0 = λ i. Does j i x.by (Store a v) in
      (page_store_same j y.store (subst Q one x.stores) y.stores).2)
]

-- a history that goes on keeps its copies' words, of which each is one
pub origin_word_law : CopyAnswerLaw
origin_word_law = record { once = λ s j p a k v w. origin_word_once; stays = λ s j es p a k v within. origin_word_longer es within }
