-- A trace has one history with its fetches at most.
use Rattle.std.proofs.Common.{◌≡◌, ℕ, List, [], ◌∷◌, ◌++◌, Option, sym, ap, ◌∙◌, subst}
use Rattle.journal.specs.declared.event.Event.{Event}
use Rattle.journal.specs.declared.event.Kind.{Kind}
use Rattle.journal.specs.declared.event.Kind.TheVariants.{Load, Store, Fetch}
use Rattle.journal.specs.PageImages.{StoredInGapOfPageImage}
use Rattle.journal.specs.Sizes.{Sizes}
use Rattle.judge.proofs.GapParts.{GapPartRecords, GapPartWrites}
use Rattle.judge.proofs.ValueCounts.{value_count_unique}
use Rattle.lrc_pages.specs.Fetched.{IsDueFetch, IsFetchedAccess, IsFetchedByKind, IsFetchedFrom, did_if, due_fetch}

one_due : {s : Sizes} {h : List Event} {p n : ℕ} {o q : Option Kind} → IsDueFetch s h p n o → IsDueFetch s h p n q → o ≡ q
one_due {s} {h} {p} {n} {o} {q} x y =
    let a = value_count_unique (GapPartWrites s h p n) x.writers y.writers x.counts.writers_are y.counts.writers_are in
    let b = value_count_unique (GapPartRecords s h p n) x.records y.records x.counts.records_are y.counts.records_are in
    let c = value_count_unique (StoredInGapOfPageImage s h p n) x.words y.words x.counts.words_are y.counts.words_are in
    x.is ∙ ap (λ w. due_fetch n w x.records x.words) a ∙ ap (λ r. due_fetch n y.writers r x.words) b
    ∙ ap (due_fetch n y.writers y.records) c ∙ sym y.is

one_access : (s : Sizes) (h : List Event) (e : Event) (n : ℕ) (m k : List Event) → IsFetchedAccess s h e n m → IsFetchedAccess s h e n k → m ≡ k
one_access s h e n m k x y = x.is ∙ ap (λ o. did_if h e.processor o ++ e ∷ []) (one_due x.due y.due) ∙ sym y.is

one_by_kind : (s : Sizes) (h : List Event) (e : Event) (kind : Kind) (m k : List Event) → IsFetchedByKind s h e kind m
    → IsFetchedByKind s h e kind k → m ≡ k
one_by_kind s h e (Load a v) m k x y = one_access s h e _ m k x y
one_by_kind s h e (Store a v) m k x y = one_access s h e _ m k x y
one_by_kind s h e (Fetch w n r d) m k x y = x ∙ sym y
one_by_kind s h e _ m k x y = x ∙ sym y

pub one_fetched : (s : Sizes) (i j h k : List Event) → IsFetchedFrom s i j h → IsFetchedFrom s i j k → h ≡ k
one_fetched s i [] h k x y = x ∙ sym y
one_fetched s i (e ∷ j) h k x y =
    one_fetched s x.0 j h k x.2
    (subst (λ m. IsFetchedFrom s m j k) (sym (one_by_kind s i e e.kind x.0 y.0 x.1 y.1)) y.2)
