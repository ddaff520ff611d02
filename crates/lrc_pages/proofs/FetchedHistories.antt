-- A trace with its fetches, an event at a time.
use Rattle.std.proofs.Common.{◌≡◌, ℕ, List, [], ◌∷◌, ◌++◌, true, false, refl, sym, subst}
use Rattle.journal.specs.declared.event.Event.{Event}
use Rattle.journal.specs.declared.event.Kind.{Kind}
use Rattle.journal.specs.declared.event.Kind.TheVariants.{Load, Store, Fetch}
use Rattle.journal.specs.Sizes.{Sizes}
use Rattle.lrc_pages.specs.Fetched.{AccessesPage, IsFetchedAccess, IsFetchedByKind, IsFetchedFrom, is_a_fetch}

-- one more event
pub fetched_from_push : (s : Sizes) (h j : List Event) (e : Event) (k m : List Event) → IsFetchedFrom s h j k
    → IsFetchedByKind s k e e.kind m → IsFetchedFrom s h (j ++ e ∷ []) m
fetched_from_push s h [] e k m is next = (m, subst (λ x. IsFetchedByKind s x e e.kind m) is next, refl)
fetched_from_push s h (f ∷ j) e k m rest next = (rest.0, rest.1, fetched_from_push s rest.0 j e k m rest.2 next)

-- an access
pub fetched_by_access : (s : Sizes) (h : List Event) (e : Event) (k : Kind) (n : ℕ) (m : List Event) → AccessesPage s k n
    → IsFetchedAccess s h e n m → IsFetchedByKind s h e k m
fetched_by_access s h e (Load a v) n m page is = subst (λ x. IsFetchedAccess s h e x m) (sym page) is
fetched_by_access s h e (Store a v) n m page is = subst (λ x. IsFetchedAccess s h e x m) (sym page) is
fetched_by_access s h e _ n m page is = absurd page

-- an event that is none, and no fetch
pub fetched_by_other : (s : Sizes) (h : List Event) (e : Event) (k : Kind) → ((n : ℕ) → ¬ AccessesPage s k n)
    → is_a_fetch k ≡ false → IsFetchedByKind s h e k (h ++ e ∷ [])
fetched_by_other s h e (Load a v) none fetch = absurd (none _ refl)
fetched_by_other s h e (Store a v) none fetch = absurd (none _ refl)
fetched_by_other s h e (Fetch w n r d) none fetch = absurd cc
fetched_by_other s h e _ none fetch = refl

-- a fetch
pub fetched_by_fetch : (s : Sizes) (h : List Event) (e : Event) (k : Kind) → is_a_fetch k ≡ true → IsFetchedByKind s h e k h
fetched_by_fetch s h e (Fetch w n r d) is = refl
fetched_by_fetch s h e (Load a v) is = absurd cc
fetched_by_fetch s h e (Store a v) is = absurd cc
fetched_by_fetch s h e _ is = absurd cc
