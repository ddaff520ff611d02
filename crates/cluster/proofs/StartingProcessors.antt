-- The start: processors before their first calls, and the book.
use Rattle.std.proofs.Common.{◌≤◌, ℕ, ◌≡◌, ◌<◌, ◌↔◌, Bool, true, false, true≢false, Option, Some, None, List, [], ◌∷◌, ◌++◌, length, replicate, slice_get, slice_index, inl, inr, refl, sym, ap, subst, subst₂, ◌∙◌, add-zero, mul-zero, arith}
use Rattle.std.proofs.Math.Nat.{mul-div_cancel}
use Rattle.std.proofs.lemmas.List.{length-replicate}
use Rattle.std.proofs.lemmas.List.Folds.{sum_by-replicate}
use Rattle.std.proofs.lemmas.Option.{none-some, slice_get_within}
use Rattle.journal.specs.declared.event.Event.{Event}
use Rattle.journal.specs.declared.event.Kind.TheVariants.{Load, Acquire}
use Rattle.journal.specs.Sizes.{Sizes}
use Rattle.journal.specs.Pasts.{InPast}
use Rattle.journal.specs.Times.{IsTimeOf}
use Rattle.journal.specs.WellFormed.{Holds}
use Rattle.journal.specs.MissingIntervals.{MissingInterval}
use Rattle.journal.proofs.Journals.WellFormedStays.{well_formed_stays_start}
use Rattle.journal.proofs.Times.TimesOfPlaces.{time_of_places_none, time_of_places_equal}
use Rattle.journal.proofs.CopyOfPage.UnderBlock.{valid_under_block_start, valid_under_block_answers_start}
use Rattle.journal.proofs.Intervals.DirtyPages.{dirty_page_start}
use Rattle.journal.proofs.Missing.GapsCounted.{gaps_counted_start, gaps_counted_block_start}
use Rattle.journal.proofs.Origins.WordOrigins.{origin_word_answers_start}
use Rattle.base.proofs.SliceSets.{index-zeros}
use Rattle.base.proofs.JoinedLists.{joined_list_in_order-nil}
use Rattle.base.proofs.SlicesAndCounts.{slice_push_cases, slice_get-append_right}
use Rattle.base.proofs.SliceSets.{slice_get-replicate_found, slice_get-replicate}
use Rattle.turn.specs.Chairs.{ChairLockId, lock, chair_view, entries}
use Rattle.turn.specs.declared.chair.ChairToken.{ChairToken}
use Rattle.lockq.specs.LockQueues.{lock_queue_unheld}
use Rattle.book.specs.BookState.{BookState}
use Rattle.book.specs.Transitions.{transition_new_book}
use Rattle.book.proofs.Told.WholeLaws.{whole_new_book_law}
use Rattle.cluster.specs.declared.keeper.View.{View}
use Rattle.cluster.specs.Copies.PageReplica.{PageReplica, IsPageReplica}
use Rattle.cluster.specs.Copies.Local.{Local, blank_local_copy, new_local}
use Rattle.cluster.specs.SeatedProcessor.{seated_processor}
use Rattle.cluster.specs.NewClusters.{SharedCluster, IsNewClusterChair, IsSeatedAtNewCluster, IsNewCluster, HasClusterCoverage}
use Rattle.cluster.proofs.CoveringHistories.{covers}
use Rattle.cluster.specs.Copies.Sound.{AreSoundSizes, IsSound}
use Rattle.cluster.specs.KeptViews.{ExtendsView, KeptViewsInvariant, view_of_nothing, view_book_sizes}
use Rattle.cluster.specs.Covers.{IsCoverAllowedByLock}
use Rattle.cluster.proofs.NotedEvents.{noted_event_valid_is_not_invalid}

starting_processor_replica_blank : (s : Sizes) (p n : ℕ) → IsPageReplica s [] [] p n (replicate s.words 0) (blank_local_copy s)
starting_processor_replica_blank s p n = record {
  valid = λ _. (valid_under_block_start s p n, refl);
  stale = λ h. absurd (noted_event_valid_is_not_invalid h);
  order = joined_list_in_order-nil (λ (x y : MissingInterval). x.place < y.place);
  dirty = dirty_page_start s p n (replicate s.words 0) (length-replicate s.words 0);
}

-- what nobody did is in no past
starting_processor_no_past : (p i : ℕ) → InPast [] p i → ⊥
starting_processor_no_past p i x = none-some x.event x.at

starting_processor_time_zero : (p n : ℕ) → IsTimeOf [] p (slice_index (replicate n 0))
starting_processor_time_zero p n =
    time_of_places_equal [] (InPast [] p) (λ _. 0) (slice_index (replicate n 0)) (λ q. sym (index-zeros n q))
    (time_of_places_none [] (InPast [] p) (starting_processor_no_past p))

-- a processor before its first call
pub starting_processor_sound : (l : ChairLockId) (p : ℕ) (s : Sizes) → AreSoundSizes s → p < s.processors → IsSound (new_local l p s)
starting_processor_sound l p s sizes mine = record {
  sizes = sizes;
  mine = mine;
  few = omega arith;
  well_formed = well_formed_stays_start s;
  inner = λ k e at. absurd (none-some e at);
  short = omega arith;
  time = record { long = length-replicate s.processors 0; is = starting_processor_time_zero p s.processors };
  bases = λ _. replicate s.words 0;
  answers = valid_under_block_answers_start s [] p (λ _. replicate s.words 0);
  counts = gaps_counted_block_start s [] p;
  copies = record {
    long = length-replicate s.pages (blank_local_copy s);
    each =
        λ n c at. subst (IsPageReplica s [] [] p n (replicate s.words 0))
        (slice_get-replicate_found s.pages (blank_local_copy s) c n at) (starting_processor_replica_blank s p n);
  };
  marks = refl;
  clean =
      λ n c at _. subst (λ (x : PageReplica). x.page.dirty ≡ replicate (length x.page.words) false)
      (slice_get-replicate_found s.pages (blank_local_copy s) c n at)
      (ap (λ k. replicate k false) (sym (length-replicate s.words 0)));
  held = record {
    long = length-replicate s.locks false;
    each =
        λ k b at. subst (λ x. (x ≡ true) ↔ Holds [] p k) (slice_get-replicate_found s.locks false b k at) (
          (λ h. absurd (true≢false (sym h))),
          λ h. absurd (none-some (record { processor = p; kind = Acquire k }) h.acquires),
        );
  };
  awaits = record {
    last = λ i a h. absurd (none-some (record { processor = p; kind = a }) h.does);
    some = λ k h. absurd (none-some k h);
  };
  quiet = λ h. absurd (h refl);
  unstored = λ h. absurd (h refl);
}

-- an empty book with a view of nothing for each processor
pub starting_processors_kept : (s : Sizes) → 0 < s.processors → KeptViewsInvariant s [] (transition_new_book s) (replicate s.processors (view_of_nothing s))
starting_processors_kept s some = record {
  told = whole_new_book_law s some;
  explained = λ k p a v d. absurd (none-some (record { processor = p; kind = Load a v }) d);
  counted = gaps_counted_start s;
  copied = origin_word_answers_start s;
  few = omega arith;
  all = length-replicate s.processors (view_of_nothing s);
  each = λ p v at. subst (ExtendsView s [] p) (slice_get-replicate_found s.processors (view_of_nothing s) v p at) (record {
    shape = refl;
    rest = [];
    begins = refl;
    away = λ k e at. absurd (none-some e at);
  });
  behind =
      λ p v at. subst (λ (x : View). x.cut ≤ 0) (slice_get-replicate_found s.processors (view_of_nothing s) v p at)
      (omega arith);
  whole = (0, view_of_nothing s, slice_get-replicate s.processors (view_of_nothing s) 0 some, refl);
  cuts =
      sum_by-replicate (λ (v : View). v.own_cut) s.processors (view_of_nothing s) ∙ mul-zero s.processors;
  owing = refl;
}

-- the sizes of an empty book
pub starting_processors_sizes : (s : Sizes) → 0 < s.words → view_book_sizes (transition_new_book s) ≡ s
starting_processors_sizes s some =
    rw (
      length-replicate s.locks (lock_queue_unheld s.processors),
      length-replicate {A = Option (List ℕ)} s.flags None,
      mul-div_cancel s.pages some,
    )

-- each new processor has a place in it
pub starting_processor_allowed : (l : ChairLockId) (p : ℕ) (s : Sizes) → p < s.processors → IsCoverAllowedByLock (new_local l p s) []
starting_processor_allowed l p s mine = record {
  book = transition_new_book s;
  views = replicate s.processors (view_of_nothing s);
  mine = slice_get-replicate s.processors (view_of_nothing s) p mine;
  kept = starting_processors_kept s (omega arith);
}

-- what a new processor has: an empty block, zero copies and marks, and a zero timestamp; and it holds no lock
pub record AreStartingProcessorParts (s : Sizes) (block : List Event) (copies : List PageReplica) (stored : List Bool) (time : List ℕ)
    (held : List Bool) : Type 0 where
  pub block_is : block ≡ []
  pub copies_are : copies ≡ replicate s.pages (blank_local_copy s)
  pub stored_is : stored ≡ replicate 64 false
  pub time_is : time ≡ replicate s.processors 0
  pub held_is : held ≡ replicate s.locks false

-- with a view of nothing it is a new processor
starting_processor_local : {s : Sizes} {block : List Event} {copies : List PageReplica} {stored : List Bool} {time : List ℕ}
    {held : List Bool} (l : ChairLockId) (e p : ℕ) (v : View) → e ≡ 0 → v ≡ view_of_nothing s
    → AreStartingProcessorParts s block copies stored time held
    → ◌≡◌ {A = Local} (record {
      lock = l;
      entries = e;
      number = p;
      sizes = s;
      seen = v.seen;
      cut = v.cut;
      own_cut = v.own_cut;
      block = block;
      copies = copies;
      stored = stored;
      time = time;
      held = held;
      awaits = None;
    }) (new_local l p s)
starting_processor_local l e p v none nothing are =
    rw (none, nothing, are.block_is, are.copies_are, are.stored_is, are.time_is, are.held_is) refl

pub starting_processor_parts : {s : Sizes} {block : List Event} {copies : List PageReplica} {stored : List Bool} {time : List ℕ}
    {held : List Bool} (chair : ChairToken BookState View) (p : ℕ) → IsNewClusterChair (lock chair) s p chair
    → AreStartingProcessorParts s block copies stored time held
    → seated_processor chair p s block copies stored time held None ≡ new_local (lock chair) p s
starting_processor_parts chair p new are =
    starting_processor_local (lock chair) (entries chair) p (chair_view chair) new.entries_are new.view_is are

-- new processors may have some book, and are covered
pub starting_processors_covered : (c : SharedCluster) (ms : List Local) → AreSoundSizes c.sizes → IsNewCluster c ms → HasClusterCoverage ms
starting_processors_covered c ms sizes new = record {
  allowed =
      λ p m at. (
        [],
        subst (λ (x : Local). IsCoverAllowedByLock x []) (sym (new.each p m at))
            (starting_processor_allowed c.lock p c.sizes (within p m at)),
      );
  covers =
      λ p m at. covers m (subst IsSound (sym (new.each p m at)) (starting_processor_sound c.lock p c.sizes sizes (within p m at)));
}
  where
    within : (p : ℕ) (m : Local) → slice_get ms p ≡ Some m → p < c.sizes.processors
    within p m at = let here = slice_get_within ms p m at in let all = new.all in omega arith

-- the item between two lists
pub starting_processors_middle : {A : Type 0} (xs ys : List A) (x : A) → slice_get (xs ++ x ∷ ys) (length xs) ≡ Some x
starting_processors_middle xs ys x =
    let P : ℕ → Type 0 = λ k. slice_get (xs ++ x ∷ ys) k ≡ Some x in
    subst P (add-zero (length xs)) (slice_get-append_right xs (x ∷ ys) 0)

-- one more chair has its processor
pub starting_processors_seated_more : (s : Sizes) (chairs : List (ChairToken BookState View)) (ms : List Local) (c : ChairToken BookState View)
    (m : Local) → slice_get chairs (length ms) ≡ Some c → m ≡ new_local (lock c) (length ms) s
    → ((p : ℕ) (x : Local) → slice_get ms p ≡ Some x → IsSeatedAtNewCluster s chairs p x) → (p : ℕ) (x : Local)
    → slice_get (ms ++ m ∷ []) p ≡ Some x → IsSeatedAtNewCluster s chairs p x
starting_processors_seated_more s chairs ms c m here is each p x at = elim (slice_push_cases ms m p x at) [
  | inl h ↦ each p x h.1
  | inr h ↦ (let P : ℕ → Local → Type 0 = λ k y. IsSeatedAtNewCluster s chairs k y in subst₂ P (sym h.0) h.1 (record {
    chair = c;
    at = here;
    is = is;
  }))
]
