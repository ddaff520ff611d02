-- What each call does to a processor's copies under its open block.
use Rattle.std.proofs.Common.{ℕ, ◌≡◌, ◌≢◌, ◌/◌, ◌%◌, inl, inr, List, [], ◌∷◌, ◌++◌, Some, None, true, replicate, map, length, sum_by, slice_get, ne_eqb, refl, sym, ap, subst, subst₂, ◌∙◌, append_assoc, append-nil, true≢false}
use Rattle.std.proofs.lemmas.Option.{none-some}
use Rattle.journal.specs.declared.event.Event.{Event}
use Rattle.journal.specs.declared.event.Kind.{Kind}
use Rattle.journal.specs.declared.event.Kind.TheVariants.{Load, Store, Fetch}
use Rattle.journal.specs.DidEvent.{event}
use Rattle.journal.specs.Sizes.{Sizes}
use Rattle.journal.specs.Events.{EventAt, event_takes, event_interval_at}
use Rattle.journal.specs.WellFormed.{Does}
use Rattle.journal.specs.Pasts.{InPast}
use Rattle.journal.specs.Times.{IsTimeOf}
use Rattle.journal.specs.PageImages.{InGap, StoresToPageImage, Lawful, HasPageImageCount, GapCounts}
use Rattle.journal.specs.BroughtCopy.{IsBroughtCopy, BroughtCopyHasNoGap, IsBroughtCopyComplete}
use Rattle.journal.specs.Blocks.{block_write, block_done, BlockAnswers}
use Rattle.journal.proofs.OwnBlocks.{block_with_page}
use Rattle.journal.proofs.OwnBlocks.{IsBlock}
use Rattle.journal.specs.FetchesCountGaps.{BlockFetchesCountGaps}
use Rattle.journal.specs.MissingIntervals.{MissingInterval, MissingIntervalsInOrder, AreMissingIntervalsOfNotices}
use Rattle.journal.specs.CopyOrigins.{TouchesCopy, AreCopyOrigins}
use Rattle.journal.specs.ValidAndStaleCopy.{IsValidCopy, IsStaleCopy}
use Rattle.base.specs.InOrderOnce.{Has}
use Rattle.base.specs.LastWrite.{wrote}
use Rattle.base.specs.AppliedRecords.{records_applied}
use Rattle.base.proofs.JoinedLists.{joined_list_has-nil}
use Rattle.base.proofs.SlicesAndCounts.{slice_push_cases, slice_push_induction}
use Rattle.base.proofs.LastWritten.{last_written_nothing}
use Rattle.journal.proofs.Order.EventPlacesAndCounts.{event_place_longer, event_place_at_end}
use Rattle.journal.proofs.CopyOfPage.LawfulImages.{lawful_image_others, lawful_image_on}
use Rattle.journal.proofs.CopyOfPage.BlockLoads.{block_done-push, block_loads_page_lawful, block_loads_push, block_loads_with_page}
use Rattle.journal.proofs.CopyOfPage.Brought.{brought_start, brought_kept}
use Rattle.journal.proofs.CopyOfPage.CopyWithoutGap.{copy_without_gap_lawful}
use Rattle.journal.proofs.CopyOfPage.CompleteCopies.{complete_copy_of_lawful, complete_copy_no_gap, complete_copy_on, complete_copy_others, complete_copy_block, complete_copy_fetched}
use Rattle.journal.proofs.Missing.MissingGaps.{missing_gap_nothing_taken}
use Rattle.journal.proofs.Missing.GapsCounted.{gaps_counted_block_push}
use Rattle.journal.proofs.Missing.MissingLabels.{missing_fetched, missing_labels_counts}
use Rattle.journal.proofs.Origins.BlockOrigins.{block_origins_zero, block_origins_start, block_origins_others, block_origins_push, block_origins_handed, block_origins_copy_others, block_origins_untouched, block_origins_fetched, block_origins_without}
use Rattle.journal.proofs.Missing.StillMissing.{still_missing_none, still_missing_some, still_missing_others, still_missing_block, still_missing_taken}

-- at the start each copy is valid and zero
pub valid_under_block_start : (s : Sizes) (p n : ℕ) → IsValidCopy s [] [] p n (replicate s.words 0) (replicate s.words 0)
valid_under_block_start s p n = record {
  lawful =
      copy_without_gap_lawful s [] p n (replicate s.words 0)
      (λ i g. none-some (event g.store.by (Store g.store.address g.store.value)) g.store.does) (brought_start s p n);
  gives = refl;
  full = inl (λ i x past. absurd (none-some (event x.by (Store x.address x.value)) x.does));
  origins = block_origins_zero s p n;
}

-- a valid copy is lawful after the block
pub valid_under_block_lawful : (s : Sizes) (j block : List Event) (p n : ℕ) (base page : List ℕ) → IsBlock p block
    → IsValidCopy s j block p n base page → Lawful s (j ++ block) p n page
valid_under_block_lawful s j block p n base page is valid = rw (valid.gives) (block_loads_page_lawful s j block p n base is valid.lawful)

-- and has all of the past
pub valid_under_block_complete : (s : Sizes) (j block : List Event) (p n : ℕ) (base page : List ℕ) → IsBlock p block
    → IsValidCopy s j block p n base page → IsBroughtCopyComplete s (j ++ block) p n
valid_under_block_complete s j block p n base page is valid =
    elim valid.full [
      | inl c ↦ complete_copy_block s j block p n is c
      | inr f ↦ complete_copy_fetched s j block p n f.0 is f.1
    ]

-- so it lacks nothing
pub valid_under_block_no_gap : (s : Sizes) (j block : List Event) (p n : ℕ) (base page : List ℕ) → IsBlock p block
    → IsValidCopy s j block p n base page → BroughtCopyHasNoGap s (j ++ block) p n
valid_under_block_no_gap s j block p n base page is valid =
    complete_copy_no_gap s (j ++ block) p n (valid_under_block_complete s j block p n base page is valid)

-- others' events leave it valid
pub valid_under_block_others : {s : Sizes} {j : List Event} (es : List Event) {block : List Event} {p n : ℕ} {base page : List ℕ}
    → ((k : ℕ) (e : Event) → EventAt es k e → e.processor ≢ p) → IsValidCopy s j block p n base page
    → IsValidCopy s (j ++ es) block p n base page
valid_under_block_others {s = s} {j = j} es {p = p} {n = n} {base = base} away valid = record {
  lawful = lawful_image_others s j es p n base away valid.lawful;
  gives = valid.gives;
  full = elim valid.full [ inl c ↦ inl (complete_copy_others s j es p n away c) | inr f ↦ inr f ];
  origins = block_origins_others es away valid.origins;
}

-- and so does a further event of the block that doesn't fetch the page, with what it stores there done to it
pub valid_under_block_push : (s : Sizes) (j block : List Event) (e : Event) (p n : ℕ) (base page : List ℕ)
    → ((w r d : ℕ) → e ≢ event p (Fetch w n r d)) → IsValidCopy s j block p n base page
    → IsValidCopy s j (block ++ e ∷ []) p n base (wrote page (block_write s n e.kind))
valid_under_block_push s j block e p n base page away valid = record {
  lawful = valid.lawful;
  gives = ap (λ (ws : List ℕ). wrote ws (block_write s n e.kind)) valid.gives ∙ sym (block_done-push s n base block e);
  full =
      elim valid.full [
        | inl c ↦ inl c
        | inr f ↦ inr (
          f.0,
          (f.1.0, f.1.1, f.1.2, event_place_longer block (e ∷ []) f.0 (event p (Fetch f.1.0 n f.1.1 f.1.2)) f.1.3),
        )
      ];
  origins = block_origins_push e away valid.origins;
}

-- a block that is handed in leaves it valid
pub valid_under_block_handed : (s : Sizes) (j block : List Event) (p n : ℕ) (base page : List ℕ) → IsBlock p block
    → IsValidCopy s j block p n base page → IsValidCopy s (j ++ block) [] p n page page
valid_under_block_handed s j block p n base page is valid =
    record {
      lawful = valid_under_block_lawful s j block p n base page is valid;
      gives = refl;
      full = inl (valid_under_block_complete s j block p n base page is valid);
      origins = block_origins_start (block_origins_handed is valid.gives valid.origins);
    }

-- a load of a valid copy is one that the block may answer
pub valid_under_block_load : {s : Sizes} {j block : List Event} {p : ℕ} (a v : ℕ) {base : ℕ → List ℕ} {over page : List ℕ}
    → base (a / s.words) ≡ over → IsValidCopy s j block p (a / s.words) over page
    → slice_get page (a % s.words) ≡ Some v → BlockAnswers s j block p base
    → BlockAnswers s j (block ++ event p (Load a v) ∷ []) p base
valid_under_block_load {s = s} {j = j} {block = block} {p = p} a v {base = base} is valid at answers =
    block_loads_push s j block (event p (Load a v)) p base answers again
  where
    P : ℕ → ℕ → Type 0
    P b w =
        Lawful s j p (b / s.words) (base (b / s.words))
        × (slice_get (block_done s (b / s.words) (base (b / s.words)) block) (b % s.words) ≡ Some w)

    again : (b w : ℕ) → ◌≡◌ {A = Event} (event p (Load a v)) (event p (Load b w)) → P b w
    again b w e =
        let kinds : Load a v ≡ Load b w = ap (λ (x : Event). x.kind) e in
        let same_address : a ≡ b = cc in
        let same_value : v ≡ w = cc in
        subst₂ P same_address same_value
        (rw is (valid.lawful, ap (λ (ws : List ℕ). slice_get ws (a % s.words)) (sym valid.gives) ∙ at))

-- a block without events answers no load
pub valid_under_block_answers_start : (s : Sizes) (j : List Event) (p : ℕ) (base : ℕ → List ℕ) → BlockAnswers s j [] p base
valid_under_block_answers_start s j p base =
    record {
      lawful = λ k a v d. absurd (none-some (event p (Load a v)) d);
      answers = λ k a v d. absurd (none-some (event p (Load a v)) d);
    }

-- what doesn't touch a page stores nothing in it
stale_under_block_untouched_writes : (s : Sizes) (n : ℕ) (k : Kind) → ¬ TouchesCopy s n k → block_write s n k ≡ None
stale_under_block_untouched_writes s n (Store a v) away = rw (ne_eqb (a / s.words) n away)
stale_under_block_untouched_writes s n _ away = refl

-- events of which none is p's that touches the page keep p's copy
pub untouched_under_block : (s : Sizes) (j es : List Event) (p n : ℕ) (page : List ℕ)
    → ((k : ℕ) (e : Event) → EventAt es k e → e.processor ≡ p → ¬ TouchesCopy s n e.kind) → IsBroughtCopy s j p n page
    → IsBroughtCopy s (j ++ es) p n page
untouched_under_block s j es p n page away copy =
    slice_push_induction (λ xs. ((k : ℕ) (e : Event) → EventAt xs k e → e.processor ≡ p → ¬ TouchesCopy s n e.kind)
    → IsBroughtCopy s (j ++ xs) p n page)
    (λ _. rw append-nil copy) step es away
  where
    is_own : (k : Kind) (f : Event) → f ≡ event p k → (f.processor ≡ p → ¬ TouchesCopy s n f.kind) → ¬ TouchesCopy s n k
    is_own k f e away = let P : Event → Type 0 = λ g. g.processor ≡ p → ¬ TouchesCopy s n g.kind in subst P e away refl

    step : (xs : List Event) (e : Event)
        → (((k : ℕ) (f : Event) → EventAt xs k f → f.processor ≡ p → ¬ TouchesCopy s n f.kind) → IsBroughtCopy s (j ++ xs) p n page)
        → ((k : ℕ) (f : Event) → EventAt (xs ++ e ∷ []) k f → f.processor ≡ p → ¬ TouchesCopy s n f.kind)
        → IsBroughtCopy s (j ++ (xs ++ e ∷ [])) p n page
    step xs e ih all =
        let last = all (length xs) e (event_place_at_end xs e) in
        rw (← append_assoc j xs (e ∷ [])) (brought_kept s (j ++ xs) e p n page
        (λ a v in_page is. is_own (Store a v) e is last in_page)
        (λ w r d is. is_own (Fetch w n r d) e is last refl)
        (ih (λ k f at. all k f (event_place_longer xs (e ∷ []) k f at))))

-- others' events leave a stale copy as it is
pub stale_under_block_others : {s : Sizes} {j : List Event} (es : List Event) {block : List Event} {p n : ℕ} {page : List ℕ} {missing : List MissingInterval}
    → ((k : ℕ) (e : Event) → EventAt es k e → e.processor ≢ p) → IsStaleCopy s j block p n page missing
    → IsStaleCopy s (j ++ es) block p n page missing
stale_under_block_others {s = s} {j = j} es {p = p} {n = n} {page = page} {missing = missing} away stale =
    record {
      copy = untouched_under_block s j es p n page (λ k e at mine. absurd (away k e at mine)) stale.copy;
      lacks = still_missing_others s j es p n missing away stale.lacks;
      untouched = stale.untouched;
      origins = block_origins_copy_others es away stale.origins;
    }

-- and so does a further event of the block that doesn't touch the page
pub stale_under_block_push : {s : Sizes} {j block : List Event} (e : Event) {p n : ℕ} {page : List ℕ} {missing : List MissingInterval}
    → ¬ TouchesCopy s n e.kind → IsStaleCopy s j block p n page missing
    → IsStaleCopy s j (block ++ e ∷ []) p n page missing
stale_under_block_push {s = s} {block = block} e {n = n} away stale =
    record {
      copy = stale.copy;
      lacks = stale.lacks;
      untouched = λ k f at. elim (slice_push_cases block e k f at) [
        | inl h ↦ stale.untouched k f h.1
        | inr h ↦ (let P : Event → Type 0 = λ g. ¬ TouchesCopy s n g.kind in subst P h.1 away)
      ];
      origins = stale.origins;
    }

-- a block that is handed in leaves it stale
pub stale_under_block_handed : (s : Sizes) (j block : List Event) (p n : ℕ) (page : List ℕ) (missing : List MissingInterval)
    → IsBlock p block → IsStaleCopy s j block p n page missing → IsStaleCopy s (j ++ block) [] p n page missing
stale_under_block_handed s j block p n page missing is stale = record {
  copy = untouched_under_block s j block p n page (λ k e at _. stale.untouched k e at) stale.copy;
  lacks =
      still_missing_block s j block p n missing is (λ k w r d f. stale.untouched k (event p (Fetch w n r d)) f refl)
      stale.lacks;
  untouched = λ k e at. absurd (none-some e at);
  origins = block_origins_untouched block (λ k e at _. stale.untouched k e at) stale.origins;
}

-- and what some interval stored is in its gap
pub stale_under_block_gap : {s : Sizes} {j block : List Event} {p n : ℕ} {page : List ℕ} {x : MissingInterval} {missing : List MissingInterval}
    → IsBlock p block → IsStaleCopy s j block p n page (x ∷ missing) → (i : ℕ) × InGap s (j ++ block) p n i
stale_under_block_gap {s = s} {j = j} {block = block} {p = p} {n = n} {page = page} {x = x} {missing = missing} is stale =
    still_missing_some s (j ++ block) p n x missing (stale_under_block_handed s j block p n page (x ∷ missing) is stale).lacks

-- a fetch applies the missing records in closing order, and makes it valid
pub stale_under_block_fetched : {s : Sizes} {j block : List Event} {p n : ℕ} (w r d : ℕ) {page : List ℕ} {missing : List MissingInterval}
    → MissingIntervalsInOrder missing → IsStaleCopy s j block p n page missing
    → IsValidCopy s j (block ++ event p (Fetch w n r d) ∷ []) p n
    (records_applied page (map (λ (x : MissingInterval). x.words) missing))
    (records_applied page (map (λ (x : MissingInterval). x.words) missing))
stale_under_block_fetched {s = s} {j = j} {block = block} {p = p} {n = n} w r d {page = page} {missing = missing} order stale = record {
  lawful = missing_fetched s j p n page missing stale.lacks order stale.copy;
  gives = sym (last_written_nothing (λ (f : Event). block_write s n f.kind) new (block ++ e ∷ []) nothing);
  full = inr (length block, (w, r, d, event_place_at_end block e));
  origins = block_origins_fetched block w r d stale.lacks order stale.untouched stale.origins;
}
  where
    e : Event
    e = event p (Fetch w n r d)

    new : List ℕ
    new = records_applied page (map (λ (x : MissingInterval). x.words) missing)

    nothing : (k : ℕ) (f : Event) → EventAt (block ++ e ∷ []) k f → block_write s n f.kind ≡ None
    nothing k f at = elim (slice_push_cases block e k f at) [
      | inl h ↦ stale_under_block_untouched_writes s n f.kind (stale.untouched k f h.1)
      | inr h ↦ (let P : Event → Type 0 = λ g. block_write s n g.kind ≡ None in subst P h.1 refl)
    ]

-- the fetch's counts are how many owners, intervals and words the missing list has
pub stale_under_block_counted : {s : Sizes} {j block : List Event} {p n : ℕ} (writers : ℕ) {page : List ℕ} {missing : List MissingInterval}
    → MissingIntervalsInOrder missing → HasPageImageCount (λ (q : ℕ). (x : MissingInterval) × Has missing x × (x.owner ≡ q)) writers
    → IsStaleCopy s j block p n page missing → BlockFetchesCountGaps s j block p
    → BlockFetchesCountGaps s j
    (block ++ event p (Fetch writers n (length missing) (sum_by (λ (x : MissingInterval). length x.words) missing)) ∷ [])
    p
stale_under_block_counted {s = s} {j = j} {block = block} {p = p} {n = n} writers {missing = missing} order count stale counts =
    gaps_counted_block_push s j block
    (event p (Fetch writers n (length missing) (sum_by (λ (x : MissingInterval). length x.words) missing))) p new counts
  where
    words : ℕ
    words = sum_by (λ (x : MissingInterval). length x.words) missing

    Result : ℕ → ℕ → ℕ → ℕ → Type 0
    Result m w r d = GapCounts s j p m w r d × ((i w' r' d' : ℕ) → ¬ Does block i p (Fetch w' m r' d'))

    new : (m w r d : ℕ) → ◌≡◌ {A = Event} (event p (Fetch writers n (length missing) words)) (event p (Fetch w m r d))
        → Result m w r d
    new m w r d e =
        let kinds : Fetch writers n (length missing) words ≡ Fetch w m r d = ap (λ (x : Event). x.kind) e in
        let a : n ≡ m = cc in
        let b : writers ≡ w = cc in
        let c : length missing ≡ r = cc in
        let f : words ≡ d = cc in
        subst (λ x. Result m w r x) f (subst (λ x. Result m w x words) c (subst₂
        (λ x y. Result x y (length missing) words) a b (
          missing_labels_counts s j p n writers missing stale.lacks
              order count,
          λ i w' r' d' g. stale.untouched i (event p (Fetch w' n r' d')) g refl,
        )))

-- what the block's loads answer is untouched by a fetch of a page that was stale
pub stale_under_block_answers_fetched : {s : Sizes} {j block : List Event} {p n : ℕ} (w r d : ℕ) {page : List ℕ} (new : List ℕ) {missing : List MissingInterval} {base : ℕ → List ℕ}
    → IsStaleCopy s j block p n page missing → BlockAnswers s j block p base
    → BlockAnswers s j (block ++ event p (Fetch w n r d) ∷ []) p (block_with_page n new base)
stale_under_block_answers_fetched {s = s} {j = j} {block = block} {p = p} {n = n} w r d new {base = base} stale answers =
    block_loads_push s j block (event p (Fetch w n r d)) p (block_with_page n new base)
    (block_loads_with_page s j block p n new base (λ k a v load. stale.untouched k (event p (Load a v)) load) answers)
    (λ a v e. absurd (cc (ap (λ (f : Event). f.kind) e)))

-- without a block a valid copy lacks nothing
pub valid_under_no_block_complete : (s : Sizes) (j : List Event) (p n : ℕ) (base page : List ℕ) → IsValidCopy s j [] p n base page
    → IsBroughtCopyComplete s j p n
valid_under_no_block_complete s j p n base page valid =
    elim valid.full [ inl c ↦ c | inr f ↦ absurd (none-some (event p (Fetch f.1.0 n f.1.1 f.1.2)) f.1.3) ]

-- an event by which p gets to know of others' touches no page
taking_under_block_untouched : (s : Sizes) (p n : ℕ) (k : Kind) → event_takes k ≡ true → (m : ℕ) (f : Event) → EventAt (event p k ∷ []) m f
    → ¬ TouchesCopy s n f.kind
taking_under_block_untouched s p n k takes m f at =
    elim (slice_push_cases [] (event p k) m f at) [
      | inl h ↦ absurd (none-some f h.1)
      | inr h ↦ (let P : Event → Type 0 = λ g. ¬ TouchesCopy s n g.kind in subst P h.1 (takes_nothing k takes))
    ]
  where
    takes_nothing : (a : Kind) → event_takes a ≡ true → ¬ TouchesCopy s n a
    takes_nothing (Load a v) h = absurd (true≢false (sym h))
    takes_nothing (Store a v) h = absurd (true≢false (sym h))
    takes_nothing (Fetch w m r d) h = absurd (true≢false (sym h))
    takes_nothing _ h = λ x. x

-- and adds to what a stale copy lacks
pub stale_under_block_taken : {s : Sizes} {j : List Event} {p n : ℕ} {page : List ℕ} (k : Kind) {t t' : ℕ → ℕ} {missing new : List MissingInterval}
    → event_takes k ≡ true → IsTimeOf j p t → IsTimeOf (j ++ event p k ∷ []) p t' → AreMissingIntervalsOfNotices s j p n t t' new
    → IsStaleCopy s j [] p n page missing → IsStaleCopy s (j ++ event p k ∷ []) [] p n page (missing ++ new)
stale_under_block_taken {s = s} {j = j} {p = p} {n = n} {page = page} k takes time after news stale = record {
  copy = untouched_under_block s j (e ∷ []) p n page taking stale.copy;
  lacks = still_missing_taken (record { takes = takes; time = time; after = after }) news stale.lacks;
  untouched = λ m f at. absurd (none-some f at);
  origins = block_origins_untouched (e ∷ []) taking stale.origins;
}
  where
    e : Event
    e = event p k

    taking : (m : ℕ) (f : Event) → EventAt (e ∷ []) m f → f.processor ≡ p → ¬ TouchesCopy s n f.kind
    taking m f at _ = taking_under_block_untouched s p n k takes m f at

-- an event by which p gets to know of no store to the page leaves its valid copy so
pub valid_under_block_taken : {s : Sizes} {j : List Event} {p n : ℕ} {base page : List ℕ} (k : Kind) {t t' : ℕ → ℕ}
    → event_takes k ≡ true → IsTimeOf j p t → IsTimeOf (j ++ event p k ∷ []) p t' → AreMissingIntervalsOfNotices s j p n t t' []
    → IsValidCopy s j [] p n base page → IsValidCopy s (j ++ event p k ∷ []) [] p n page page
valid_under_block_taken {s = s} {j = j} {p = p} {n = n} {base = base} {page = page} k takes time after no_news valid = record {
  lawful = lawful_image_on s j (e ∷ []) p n page nothing (subst (Lawful s j p n) (sym valid.gives) valid.lawful);
  gives = refl;
  full = inl (complete_copy_on s j (e ∷ []) p n nothing (valid_under_no_block_complete s j p n base page valid));
  origins =
      block_origins_start (block_origins_untouched (e ∷ []) (λ m f at _. taking_under_block_untouched s p n k takes m f at)
      (subst (AreCopyOrigins s j p n) (sym valid.gives) (block_origins_without valid.origins)));
}
  where
    e : Event
    e = event p k

    nothing : (i : ℕ) → StoresToPageImage s (j ++ e ∷ []) n i → InPast (j ++ e ∷ []) p i → InPast j p i
    nothing =
        missing_gap_nothing_taken (record { takes = takes; time = time; after = after }) s n (λ q i a v apart does page le less. let x =
        (no_news.each q (event_interval_at j q i)).1 (i, (a, v, does, page, refl), apart, le, less) in
        joined_list_has-nil x.0 x.1)

-- and else it is stale by the new intervals
pub valid_under_block_staled : {s : Sizes} {j : List Event} {p n : ℕ} {base page : List ℕ} (k : Kind) {t t' : ℕ → ℕ} {new : List MissingInterval}
    → event_takes k ≡ true → IsTimeOf j p t → IsTimeOf (j ++ event p k ∷ []) p t' → AreMissingIntervalsOfNotices s j p n t t' new
    → IsValidCopy s j [] p n base page → IsStaleCopy s (j ++ event p k ∷ []) [] p n page new
valid_under_block_staled {s = s} {j = j} {p = p} {n = n} {base = base} {page = page} k takes time after news valid =
    let complete = valid_under_no_block_complete s j p n base page valid in
    stale_under_block_taken k takes time after news (record {
      copy = complete_copy_of_lawful s j p n page complete
          (subst (Lawful s j p n) (sym valid.gives) valid.lawful);
      lacks = still_missing_none s j p n (complete_copy_no_gap s j p n complete);
      untouched = λ k e at. absurd (none-some e at);
      origins = subst (AreCopyOrigins s j p n) (sym valid.gives) (block_origins_without valid.origins);
    })
