-- In a trace's history with its fetches each fetch counts its gap, each access finds its copy whole, and all else is the trace's.
use Rattle.std.proofs.Common.{◌≡◌, ℕ, ◌<◌, inl, inr, List, [], ◌∷◌, ◌++◌, Option, Some, length, zero, suc, true, false, refl, sym, ap, ◌∙◌, subst, arith, take, append_assoc, append-nil}
use Rattle.std.specs.Prelude.{None, not, cond}
use Rattle.std.proofs.lemmas.List.{take-append-le}
use Rattle.std.proofs.lemmas.List.Elements.{filter-append}
use Rattle.std.proofs.lemmas.Option.{none-some}
use Rattle.std.proofs.Math.Seq.{take-append_seam}
use Rattle.base.proofs.SlicesAndCounts.{slice_push_cases}
use Rattle.journal.specs.declared.event.Event.{Event}
use Rattle.journal.specs.declared.event.Kind.{Kind}
use Rattle.journal.specs.declared.event.Kind.TheVariants.{Load, Store, Fetch}
use Rattle.journal.specs.BroughtCopy.{BroughtCopyHasNoGap}
use Rattle.journal.specs.DidEvent.{did, event}
use Rattle.journal.specs.Events.{EventAt}
use Rattle.journal.specs.PageImages.{GapCounts}
use Rattle.journal.specs.Sizes.{Sizes}
use Rattle.journal.proofs.Missing.GapsCounted.{gaps_counted_push, gaps_counted_start}
use Rattle.lrc_pages.specs.Fetched.{AccessesPage, IsDueFetch, IsFetchedAccess, IsFetchedByKind, IsFetchedFrom, IsFetchedWell, did_if, due_fetch, is_a_fetch, unfetched}
use Rattle.lrc_pages.proofs.FetchesDue.{fetch_due_made, no_fetch_due}

-- each access finds its copy whole
record FindsWhole (s : Sizes) (h : List Event) : Type 0 where
  finds : (i n : ℕ) (e : Event) → EventAt h i e → AccessesPage s e.kind n → BroughtCopyHasNoGap s (take i h) e.processor n

-- so it does after an event that does
finds_push : (s : Sizes) (h : List Event) (e : Event) → FindsWhole s h
    → ((n : ℕ) → AccessesPage s e.kind n → BroughtCopyHasNoGap s h e.processor n) → FindsWhole s (h ++ e ∷ [])
finds_push s h e old new = record {
  finds = λ i n f at access. elim (slice_push_cases h e i f at) [
    | inl was ↦ (let within : i < length h = was.0 in
        subst (λ xs. BroughtCopyHasNoGap s xs f.processor n) (sym (take-append-le i h (e ∷ []) (omega arith))) (old.finds i n f was.1 access))
    | inr is ↦
        (let here : take i (h ++ e ∷ []) ≡ h = ap (λ m. take m (h ++ e ∷ [])) is.0 ∙ take-append_seam h (e ∷ []) in
        subst (λ xs. BroughtCopyHasNoGap s xs f.processor n) (sym here)
        (subst (λ (x : Event). BroughtCopyHasNoGap s h x.processor n) is.1
        (new n (subst (λ (x : Event). AccessesPage s x.kind n) (sym is.1) access))))
  ];
}

-- an event more, and the fetches left out
unfetched_one : (h : List Event) (e : Event) (k : Kind) → e.kind ≡ k → is_a_fetch k ≡ false → unfetched (h ++ e ∷ []) ≡ unfetched h ++ e ∷ []
unfetched_one h e k is none =
    filter-append (λ (f : Event). not (is_a_fetch f.kind)) h (e ∷ [])
    ∙ ap (λ b. unfetched h ++ cond (not b) (e ∷ []) []) (ap is_a_fetch is ∙ none)

unfetched_fetch : (h : List Event) (e : Event) (k : Kind) → e.kind ≡ k → is_a_fetch k ≡ true → unfetched (h ++ e ∷ []) ≡ unfetched h
unfetched_fetch h e k is fetch =
    filter-append (λ (f : Event). not (is_a_fetch f.kind)) h (e ∷ [])
    ∙ ap (λ b. unfetched h ++ cond (not b) (e ∷ []) []) (ap is_a_fetch is ∙ fetch) ∙ append-nil (unfetched h)

-- an event that is no fetch, of which each page is whole
well_push : (s : Sizes) (j h : List Event) (e : Event) (k : Kind) → e.kind ≡ k → is_a_fetch k ≡ false
    → ((n : ℕ) → AccessesPage s k n → BroughtCopyHasNoGap s h e.processor n) → IsFetchedWell s j h → IsFetchedWell s (j ++ e ∷ []) (h ++ e ∷ [])
well_push s j h e k is none whole were = record {
  same = unfetched_one h e k is none ∙ ap (λ xs. xs ++ e ∷ []) were.same ∙ sym (unfetched_one j e k is none);
  counts = gaps_counted_push s h e
      (λ p n w r d fetch. absurd (no_fetch (sym (ap is_a_fetch (sym is ∙ ap (λ (x : Event). x.kind) fetch)) ∙ none))) were.counts;
  whole = (finds_push s h e (record { finds = were.whole }) (λ n access. whole n (subst (λ x. AccessesPage s x n) is access))).finds;
}
  where
    no_fetch : true ≡ false → ⊥
    no_fetch is = absurd cc

-- a fetch that counts its gap
well_fetch : (s : Sizes) (j h : List Event) (p n w r d : ℕ) → GapCounts s h p n w r d → IsFetchedWell s j h
    → IsFetchedWell s j (did h p (Fetch w n r d))
well_fetch s j h p n w r d counts were = record {
  same = unfetched_fetch h (event p (Fetch w n r d)) (Fetch w n r d) refl refl ∙ were.same;
  counts = gaps_counted_push s h (event p (Fetch w n r d)) counted were.counts;
  whole = (finds_push s h (event p (Fetch w n r d)) (record { finds = were.whole }) (λ m access. absurd access)).finds;
}
  where
    counted : (q m w' r' d' : ℕ) → event p (Fetch w n r d) ≡ event q (Fetch w' m r' d') → GapCounts s h q m w' r' d'
    counted q m w' r' d' is =
        let a : p ≡ q = ap (λ (e : Event). e.processor) is in
        let k : Fetch w n r d ≡ Fetch w' m r' d' = ap (λ (e : Event). e.kind) is in
        let b : n ≡ m = cc in
        let c : w ≡ w' = cc in
        let e : r ≡ r' = cc in
        let f : d ≡ d' = cc in
        subst (λ x. GapCounts s h x m w' r' d') a (subst (λ x. GapCounts s h p x w' r' d') b
        (subst (λ x. GapCounts s h p n x r' d') c (subst (λ x. GapCounts s h p n w x d') e (subst (λ x. GapCounts s h p n w r x) f counts))))

-- the fetch that is due, if any
well_due : (s : Sizes) (j h : List Event) (p n : ℕ) (o : Option Kind) (w r d : ℕ) → GapCounts s h p n w r d → o ≡ due_fetch n w r d
    → IsFetchedWell s j h → IsFetchedWell s j (did_if h p o)
well_due s j h p n o w zero d counts is were = subst (λ x. IsFetchedWell s j (did_if h p x)) (sym is) were
well_due s j h p n o w (suc r) d counts is were =
    subst (λ x. IsFetchedWell s j (did_if h p x)) (sym is) (well_fetch s j h p n w (suc r) d counts were)

-- after it the copy is whole
due_whole : (s : Sizes) (h : List Event) (p n : ℕ) (o : Option Kind) → IsDueFetch s h p n o → BroughtCopyHasNoGap s (did_if h p o) p n
due_whole s h p n None due = no_fetch_due s h p n due
due_whole s h p n (Some k) due = fetch_due_made s h p n k due

-- an access
well_access : (s : Sizes) (j h : List Event) (e : Event) (k : Kind) (n : ℕ) (m : List Event) → e.kind ≡ k → is_a_fetch k ≡ false
    → ((q : ℕ) → AccessesPage s k q → n ≡ q) → IsFetchedAccess s h e n m → IsFetchedWell s j h → IsFetchedWell s (j ++ e ∷ []) m
well_access s j h e k n m kind none one is were =
    let due = is.due in
    subst (IsFetchedWell s (j ++ e ∷ [])) (sym is.is)
    (well_push s j (did_if h e.processor is.fetch) e k kind none
    (λ q access. subst (λ x. BroughtCopyHasNoGap s (did_if h e.processor is.fetch) e.processor x) (one q access)
    (due_whole s h e.processor n is.fetch due))
    (well_due s j h e.processor n is.fetch due.writers due.records due.words due.counts due.is were))

well_next : (s : Sizes) (j h : List Event) (e : Event) (k : Kind) (m : List Event) → e.kind ≡ k → IsFetchedByKind s h e k m
    → IsFetchedWell s j h → IsFetchedWell s (j ++ e ∷ []) m
well_next s j h e (Load a v) m kind is were = well_access s j h e (Load a v) _ m kind refl (λ q access. access) is were
well_next s j h e (Store a v) m kind is were = well_access s j h e (Store a v) _ m kind refl (λ q access. access) is were
well_next s j h e (Fetch w n r d) m kind is were = subst (IsFetchedWell s (j ++ e ∷ [])) (sym is) (record {
  same = were.same ∙ sym (unfetched_fetch j e (Fetch w n r d) kind refl);
  counts = were.counts;
  whole = were.whole;
})
well_next s j h e k m kind is were = subst (IsFetchedWell s (j ++ e ∷ [])) (sym is) (well_push s j h e k kind refl (λ n access. absurd access) were)

pub fetched_well_start : (s : Sizes) → IsFetchedWell s [] []
fetched_well_start s = record { same = refl; counts = gaps_counted_start s; whole = λ i n e at access. absurd (none-some e at) }

pub fetched_well : (s : Sizes) (i j h k : List Event) → IsFetchedWell s i h → IsFetchedFrom s h j k → IsFetchedWell s (i ++ j) k
fetched_well s i [] h k were is = subst (λ xs. IsFetchedWell s xs k) (sym (append-nil i)) (subst (IsFetchedWell s i) (sym is) were)
fetched_well s i (e ∷ j) h k were is =
    subst (λ xs. IsFetchedWell s xs k) (append_assoc i (e ∷ []) j)
    (fetched_well s (i ++ e ∷ []) j is.0 k (well_next s i h e e.kind is.0 refl is.1 were) is.2)
