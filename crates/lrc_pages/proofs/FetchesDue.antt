-- The fetch that is due.
use Rattle.std.proofs.Common.{◌≡◌, ℕ, zero, suc, ◌<◌, List, Option, Some, refl, sym, ◌∙◌, subst}
use Rattle.std.specs.Prelude.{None, IfSome, MatchOption}
use Rattle.std.proofs.lemmas.Option.{none-some, same_Some}
use Rattle.journal.specs.declared.event.Event.{Event}
use Rattle.journal.specs.declared.event.Kind.{Kind}
use Rattle.journal.specs.declared.event.Kind.TheVariants.{Fetch}
use Rattle.journal.specs.BroughtCopy.{BroughtCopyHasNoGap}
use Rattle.journal.specs.DidEvent.{did}
use Rattle.journal.specs.PageImages.{GapCounts}
use Rattle.journal.specs.Sizes.{Sizes}
use Rattle.journal.specs.WellFormed.{WellFormedKindInRange}
use Rattle.judge.specs.declared.miscounted.Miscounted.{Miscounted}
use Rattle.judge.specs.Miscounted.{Miscounts}
use Rattle.lrc_pages.specs.Fetched.{AccessesPage, IsDueFetch, due_fetch}
use Rattle.lrc_pages.proofs.AccessedPages.{accessed_page_within}
use Rattle.lrc_pages.proofs.GapsShrink.{no_gap_counted, no_gap_fetched}

-- what a fetch that counts nothing has to count
pub miscounted_due : (s : Sizes) (h : List Event) (e : Event) (n : ℕ) (x : Miscounted) → e.kind ≡ Fetch 0 n 0 0 → Miscounts s h e x
    → GapCounts s h e.processor n x.writers x.records x.words
miscounted_due s h e n x is m =
    let both : Fetch 0 n 0 0 ≡ Fetch m.writers m.page m.records m.words = sym is ∙ m.fetch in
    let same : m.page ≡ n = cc in
    subst (λ y. GapCounts s h e.processor y x.writers x.records x.words) same m.due

none_whole : (s : Sizes) (h : List Event) (p n w r d : ℕ) → GapCounts s h p n w r d → None ≡ due_fetch n w r d → BroughtCopyHasNoGap s h p n
none_whole s h p n w zero d counts is = no_gap_counted s h p n w d counts
none_whole s h p n w (suc r) d counts is = absurd (none-some (Fetch w n (suc r) d) is)

-- if none is, the copy lacks nothing
pub no_fetch_due : (s : Sizes) (h : List Event) (p n : ℕ) → IsDueFetch s h p n None → BroughtCopyHasNoGap s h p n
no_fetch_due s h p n due = none_whole s h p n due.writers due.records due.words due.counts due.is

some_whole : (s : Sizes) (h : List Event) (p n : ℕ) (k : Kind) (w r d : ℕ) → Some k ≡ due_fetch n w r d → BroughtCopyHasNoGap s (did h p k) p n
some_whole s h p n k w zero d is = absurd (none-some k (sym is))
some_whole s h p n k w (suc r) d is =
    subst (λ x. BroughtCopyHasNoGap s (did h p x) p n) (sym (same_Some k (Fetch w n (suc r) d) is)) (no_gap_fetched s h p n w (suc r) d)

-- and after one it lacks nothing
pub fetch_due_made : (s : Sizes) (h : List Event) (p n : ℕ) (k : Kind) → IsDueFetch s h p n (Some k) → BroughtCopyHasNoGap s (did h p k) p n
fetch_due_made s h p n k due = some_whole s h p n k due.writers due.records due.words due.is

-- the page of an access, as the code has it
abbrev pub IsPageOf : Kind → ℕ → Option ℕ → Type 0
IsPageOf k words o =
    MatchOption o ((s : Sizes) (n : ℕ) → s.words ≡ words → ¬ AccessesPage s k n) (λ n. (s : Sizes) → s.words ≡ words → AccessesPage s k n)

pub page_of_within : (s : Sizes) (k : Kind) (o : Option ℕ) (room : ℕ) → 0 < s.words → WellFormedKindInRange s k → room ≡ s.pages
    → IsPageOf k s.words o → IfSome o (λ n. n < room)
page_of_within s k None room some lt is page = tt
page_of_within s k (Some n) room some lt is page = subst (λ r. n < r) (sym is) (accessed_page_within s k n some lt (page s refl))

pub page_of_accessed : (s : Sizes) (k : Kind) (o : Option ℕ) → IsPageOf k s.words o
    → MatchOption o ((n : ℕ) → ¬ AccessesPage s k n) (AccessesPage s k)
page_of_accessed s k None page = λ n. page s n refl
page_of_accessed s k (Some n) page = page s refl
