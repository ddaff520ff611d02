-- Loads of what is left are explained from the base exactly where they are by the history.
use Rattle.std.proofs.Common.{◌≡◌, ℕ, suc, ◌+◌, ◌<◌, ◌⊎◌, inl, inr, ◌↔◌, List, ◌++◌, Option, Some, length, replicate, get_or, slice_get, slice_index, unwrap_or, subst, sym, refl, ap, ◌∙◌, arith}
use Rattle.std.proofs.lemmas.Bool.{cases_lt, cases_order}
use Rattle.std.proofs.lemmas.List.{length-replicate}
use Rattle.std.proofs.lemmas.Option.{slice_get-get_or, get_or_from_slice_get, slice_get_past, unwrap_or-slice_get}
use Rattle.journal.specs.declared.event.Event.{Event}
use Rattle.journal.specs.declared.event.Kind.TheVariants.{Load, Store}
use Rattle.journal.specs.DidEvent.{event}
use Rattle.journal.specs.Sizes.{Sizes, addresses}
use Rattle.journal.specs.HappensBeforeEdges.{HappensBefore}
use Rattle.journal.specs.WellFormed.{Does, WellFormed}
use Rattle.journal.specs.ExplainedAnswers.{IsAnswer, Explained}
use Rattle.journal.specs.ReplayMemory.{replay_memory_write, memory_after}
use Rattle.journal.specs.Base.{Base}
use Rattle.journal.specs.ExplainedAnswersFromBase.{IsAnswerFromBase, ExplainedFromBase}
use Rattle.journal.specs.EpisodeBases.{IsEpisodeBaseOf}
use Rattle.base.specs.LastWrite.{written, LastWrite}
use Rattle.base.proofs.LastWritten.{HasNoLastWrite}
use Rattle.base.proofs.SlicesAndCounts.{slice_append_cases}
use Rattle.base.proofs.SliceSets.{slice_get-replicate_found}
use Rattle.base.proofs.LastWritten.{last_written_word, last_written_word_found, last_written_exists, length-written}
use Rattle.journal.proofs.Order.EventPlacesAndCounts.{event_place_inside, event_place_longer, event_place_shorter, event_place_behind}
use Rattle.journal.proofs.Order.HappensBefore.{happens_before_goes_forward, happens_before_begins_within, happens_before_longer, happens_before_shorter}
use Rattle.journal.proofs.CopyOfPage.PageStores.{page_store_does_kind, page_store_same}
use Rattle.journal.proofs.CopyOfPage.LoadAnswers.{load_answers_on}
use Rattle.journal.proofs.Flat.FlatConflicts.{flat_conflict_store_is, flat_conflict_not_unordered}
use Rattle.journal.proofs.FromBase.OrderOfLeft.{IsEvenOrderOfLeft, order_of_left_before, order_of_left_before_back}

-- what an event writes in the flat memory
abbrev pub flat : Event → Option (ℕ × ℕ)
flat e = replay_memory_write e.kind

-- an address has a last store among these events, or none
pub explained_by_last_or_none : (c : List Event) (a : ℕ) → ((v : ℕ) × LastWrite flat c a v) ⊎ HasNoLastWrite flat c a
explained_by_last_or_none c a =
    elim (last_written_word flat (replicate (suc a) 0) c a word found) [ inl l ↦ inl (word, l) | inr n ↦ inr n.1 ]
  where
    word : ℕ
    word = get_or (written flat (replicate (suc a) 0) c) a 0

    found : slice_get (written flat (replicate (suc a) 0) c) a ≡ Some word
    found =
        slice_get-get_or (written flat (replicate (suc a) 0) c) a 0
        (rw (length-written, length-replicate) (omega arith))

-- the word of the memory is what was stored last
pub explained_by_last_kept : (size : ℕ) (c : List Event) (a v : ℕ) → a < size → LastWrite flat c a v
    → slice_index (memory_after (replicate size 0) c) a ≡ v
explained_by_last_kept size c a v lt l =
    get_or_from_slice_get (memory_after (replicate size 0) c) a v 0
    (last_written_word_found flat (replicate size 0) c a v (rw length-replicate lt) l)

-- and 0 where nothing was
pub explained_by_last_none_kept : (size : ℕ) (c : List Event) (a : ℕ) → HasNoLastWrite flat c a
    → slice_index (memory_after (replicate size 0) c) a ≡ 0
explained_by_last_none_kept size c a none =
    elim (cases_lt a size) [
      | inl lt ↦ go (last_written_word flat (replicate size 0) c a word (found lt))
      | inr le ↦ sym (unwrap_or-slice_get memory a 0)
          ∙ ap (λ (o : Option ℕ). unwrap_or o 0)
          (slice_get_past memory a (rw (length-written, length-replicate) le))
    ]
  where
    memory : List ℕ
    memory = memory_after (replicate size 0) c

    word : ℕ
    word = get_or memory a 0

    found : a < size → slice_get memory a ≡ Some word
    found lt = slice_get-get_or memory a 0 (rw (length-written, length-replicate) lt)

    go : LastWrite flat c a word ⊎ ((slice_get (replicate size 0) a ≡ Some word) × HasNoLastWrite flat c a) → word ≡ 0
    go (inl l) = absurd (none l.place l.item word l.at l.writes)
    go (inr n) = sym (slice_get-replicate_found size 0 word a n.0)

-- what the last write is, as a store
pub explained_by_last_stores : (c : List Event) (a v : ℕ) → (l : LastWrite flat c a v)
    → Does c l.place l.item.processor (Store a v)
explained_by_last_stores c a v l = page_store_does_kind c l.place l.item (Store a v) l.at (flat_conflict_store_is l.item.kind a v l.writes)

-- an answer was one before the journal went on
explained_by_last_front : (c j : List Event) (k a v : ℕ) → k < length c → IsAnswer (c ++ j) k a v → IsAnswer c k a v
explained_by_last_front c j k a v lt (inl none) =
    inl (none.0, λ i q w does h. none.1 i q w (event_place_longer c j i (event q (Store a w)) does) (happens_before_longer c j h))
explained_by_last_front c j k a v lt (inr l) = inr (record {
  place = l.place;
  by = l.by;
  stores = event_place_shorter c j l.place (event l.by (Store a v)) (happens_before_begins_within c (happens_before_shorter c j lt l.before)) l.stores;
  before = happens_before_shorter c j lt l.before;
  latest =
      λ i q w does h on. l.latest i q w (event_place_longer c j i (event q (Store a w)) does) (happens_before_longer c j h) (happens_before_longer c j on);
})

-- the history is well formed; what was cut off has no race, leaves the base, and happens before all that is left
module _ (s : Sizes) (c j : List Event) (b : Base) (n : ℕ) (well : WellFormed s c)
    (base : IsEpisodeBaseOf s.processors (addresses s) c b) (even : IsEvenOrderOfLeft b c j n)
    (before : (i k : ℕ) → i < length c → k < length j → HappensBefore (c ++ j) i (length c + k)) where
  -- a latest store of what was cut off stored the base's word
  explained_by_last_latest_kept : (m p a v : ℕ) → Does c m p (Store a v)
      → ((i q w : ℕ) → Does c i q (Store a w) → ¬ HappensBefore c m i) → slice_index b.memory a ≡ v
  explained_by_last_latest_kept m p a v does latest =
      ap (λ (ws : List ℕ). slice_index ws a) base.after.memory
      ∙ explained_by_last_kept (addresses s) c a l.0 (well m (event p (Store a v)) does).in_range l.1
      ∙ is (cases_order m l.1.place)
    where
      l : (w : ℕ) × LastWrite flat c a w
      l = last_written_exists flat c m a v (event p (Store a v)) does refl

      stores : Does c l.1.place l.1.item.processor (Store a l.0)
      stores = explained_by_last_stores c a l.0 l.1

      is : (m ≡ l.1.place) ⊎ ((m < l.1.place) ⊎ (l.1.place < m)) → l.0 ≡ v
      is (inl same) =
          sym (page_store_same c l.1.place (subst (λ i. Does c i p (Store a v)) same does)
          stores).2
      is (inr (inl lt)) =
          absurd (flat_conflict_not_unordered lt does stores (record { address = a; first = refl; second = refl; stores = inl refl })
          (base.race_free m l.1.place) (latest l.1.place l.1.item.processor l.0 stores))
      is (inr (inr gt)) = absurd (l.1.last m (event p (Store a v)) v gt does refl)

  explained_by_last_answer : (k a v : ℕ) → k < length j → IsAnswer (c ++ j) (length c + k) a v → IsAnswerFromBase b j k a v
  explained_by_last_answer k a v lt (inl none) =
      inl (
        none.0
            ∙ sym
            (ap (λ (ws : List ℕ). slice_index ws a) base.after.memory ∙ explained_by_last_none_kept (addresses s) c a unwritten),
        λ i q w does h. none.1 (length c + i) q w (event_place_behind c j i (event q (Store a w)) does)
            (order_of_left_before_back b c j n even h),
      )
    where
      unwritten : HasNoLastWrite flat c a
      unwritten m y u at writes =
          none.1 m y.processor u (event_place_longer c j m (event y.processor (Store a u))
          (page_store_does_kind c m y (Store a u) at (flat_conflict_store_is y.kind a u writes)))
          (before m k (event_place_inside c m y at) lt)
  explained_by_last_answer k a v lt (inr l) = elim (slice_append_cases c j l.place (event l.by (Store a v)) l.stores) [
    | inl cut ↦ inl (
      sym (explained_by_last_latest_kept l.place l.by a v cut.1 (λ i q w does h. l.latest i q w
          (event_place_longer c j i (event q (Store a w)) does)
          (before i k (event_place_inside c i (event q (Store a w)) does) lt) (happens_before_longer c j h))),
      λ i q w does h. l.latest (length c + i) q w (event_place_behind c j i (event q (Store a w)) does)
          (order_of_left_before_back b c j n even h) (before l.place i cut.0 (event_place_inside j i (event q (Store a w)) does)),
    )
    | inr left ↦ inr (record {
      place = left.0;
      by = l.by;
      stores = left.2;
      before =
          order_of_left_before b c j n even left.0 k (subst (λ m. HappensBefore (c ++ j) m (length c + k)) left.1 l.before);
      latest =
          λ i q w does h on. l.latest (length c + i) q w (event_place_behind c j i (event q (Store a w)) does)
          (order_of_left_before_back b c j n even h)
          (subst (λ m. HappensBefore (c ++ j) m (length c + i)) (sym left.1) (order_of_left_before_back b c j n even on));
    })
  ]

  explained_by_last_answer_back : (k a v : ℕ) → k < length j → IsAnswerFromBase b j k a v → IsAnswer (c ++ j) (length c + k) a v
  explained_by_last_answer_back k a v lt (inl kept) = go (explained_by_last_or_none c a)
    where
      word : v ≡ slice_index (memory_after (replicate (addresses s) 0) c) a
      word = kept.0 ∙ ap (λ (ws : List ℕ). slice_index ws a) base.after.memory

      untouched : (i q w m : ℕ) → i ≡ length c + m → Does j m q (Store a w) → HappensBefore (c ++ j) i (length c + k)
          → ⊥
      untouched i q w m is does h =
          kept.1 m q w does (order_of_left_before b c j n even m k (subst (λ x. HappensBefore (c ++ j) x (length c + k)) is h))

      go : ((w : ℕ) × LastWrite flat c a w) ⊎ HasNoLastWrite flat c a → IsAnswer (c ++ j) (length c + k) a v
      go (inl l) =
          let stores = explained_by_last_stores c a l.0 l.1 in
          let in_c = event_place_inside c l.1.place l.1.item l.1.at in
          let is : l.0 ≡ v =
          sym (word
          ∙ explained_by_last_kept (addresses s) c a l.0
          (well l.1.place (event l.1.item.processor (Store a l.0)) stores).in_range l.1)
          in
          inr (record {
            place = l.1.place;
            by = l.1.item.processor;
            stores =
                event_place_longer c j l.1.place (event l.1.item.processor (Store a v))
                (subst (λ w. Does c l.1.place l.1.item.processor (Store a w)) is stores);
            before = before l.1.place k in_c lt;
            latest = λ i q w does h on. elim (slice_append_cases c j i (event q (Store a w)) does) [
              | inl cut ↦ l.1.last i (event q (Store a w)) w (happens_before_goes_forward (c ++ j) on) cut.1 refl
              | inr left ↦ untouched i q w left.0 left.1 left.2 h
            ];
          })
      go (inr none) =
          inl (
            word
                ∙ explained_by_last_none_kept (addresses s) c a none,
            λ i q w does h. elim
                (slice_append_cases c j i (event q (Store a w)) does) [
                  | inl cut ↦ none i (event q (Store a w)) w cut.1
                      refl
                  | inr left ↦ untouched i q w left.0 left.1 left.2 h
                ],
          )
  explained_by_last_answer_back k a v lt (inr l) = inr (record {
    place = length c + l.place;
    by = l.by;
    stores = event_place_behind c j l.place (event l.by (Store a v)) l.stores;
    before = order_of_left_before_back b c j n even l.before;
    latest = λ i q w does h on. elim (slice_append_cases c j i (event q (Store a w)) does) [
      | inl cut ↦ (let forward = happens_before_goes_forward (c ++ j) on in omega (arith, cut.0))
      | inr left ↦ l.latest left.0 q w left.2
          (order_of_left_before b c j n even left.0 k (subst (λ m. HappensBefore (c ++ j) m (length c + k)) left.1 h))
          (order_of_left_before b c j n even l.place left.0
          (subst (λ m. HappensBefore (c ++ j) (length c + l.place) m) left.1 on))
    ];
  })

  -- the history is explained exactly where what was cut off is, and what is left is from the base
  pub explained_by_last_same : Explained (c ++ j) ↔ (Explained c × ExplainedFromBase b j)
  explained_by_last_same = ((λ all. (front all, left all)), (λ both. back both.0 both.1))
    where
      left : Explained (c ++ j) → ExplainedFromBase b j
      left all k p a v does =
          explained_by_last_answer k a v (event_place_inside j k (event p (Load a v)) does)
          (all (length c + k) p a v (event_place_behind c j k (event p (Load a v)) does))

      back : Explained c → ExplainedFromBase b j → Explained (c ++ j)
      back cut rest k p a v does = elim (slice_append_cases c j k (event p (Load a v)) does) [
        | inl old ↦ load_answers_on c j k a v old.0 (cut k p a v old.1)
        | inr new ↦ subst (λ m. IsAnswer (c ++ j) m a v) (sym new.1)
            (explained_by_last_answer_back new.0 a v (event_place_inside j new.0 (event p (Load a v)) new.2) (rest new.0 p a v new.2))
      ]

      front : Explained (c ++ j) → Explained c
      front all k p a v does =
          explained_by_last_front c j k a v (event_place_inside c k (event p (Load a v)) does)
          (all k p a v (event_place_longer c j k (event p (Load a v)) does))
