-- Sets of locks, by what they have.
use Rattle.std.proofs.Common.{◌≡◌, ◌≢◌, ◌⊎◌, ◌↔◌, ◌==◌, ℕ, List, ◌∷◌, ◌++◌, filter, not, take, drop, subst, sym, refl, ap, ◌∙◌, take-append-drop, true≢false, inl, inr}
use Rattle.std.proofs.lemmas.Bool.{cases_eq, eq-eqb, ne_eqb}
use Rattle.base.specs.InOrderOnce.{Has}
use Rattle.base.proofs.FilteredInOrder.{filtered_in_order_has}
use Rattle.base.proofs.JoinedLists.{joined_list_has-append, joined_list_has-cons}
use Rattle.journal.specs.declared.event.Event.{Event}
use Rattle.journal.specs.declared.event.Kind.{Kind}
use Rattle.journal.specs.declared.event.Kind.TheVariants.{Acquire, Release}
use Rattle.journal.specs.DidEvent.{did, event}
use Rattle.journal.specs.WellFormed.{Holds}
use Rattle.journal.proofs.Journals.WellFormedStays.{well_formed_stays_holds_cases, well_formed_stays_holds_longer, well_formed_stays_holds_now}
use Rattle.judge.specs.declared.locksets.held_locks.HeldLocks.{HeldLocks}
use Rattle.judge.specs.Locksets.Held.{AreHeldLocks, HasHeldLock}

-- a lock that is put anywhere into a list is in it, and so is what was there
pub sets_held_inserted : (g : List ℕ) (at m l : ℕ) → Has (take at g ++ m ∷ drop at g) l ↔ ((m ≡ l) ⊎ Has g l)
sets_held_inserted g at m l = (there, back)
  where
    whole : take at g ++ drop at g ≡ g
    whole = take-append-drop at g

    there : Has (take at g ++ m ∷ drop at g) l → (m ≡ l) ⊎ Has g l
    there has = elim ((joined_list_has-append (take at g) (m ∷ drop at g) l).0 has) [
      | inl front ↦ inr (subst (λ xs. Has xs l) whole ((joined_list_has-append (take at g) (drop at g) l).1 (inl front)))
      | inr rest ↦
          elim ((joined_list_has-cons m (drop at g) l).0 rest) [
            | inl is ↦ inl is
            | inr behind ↦ inr (subst (λ xs. Has xs l) whole ((joined_list_has-append (take at g) (drop at g) l).1 (inr behind)))
          ]
    ]

    back : (m ≡ l) ⊎ Has g l → Has (take at g ++ m ∷ drop at g) l
    back (inl is) = (joined_list_has-append (take at g) (m ∷ drop at g) l).1 (inr ((joined_list_has-cons m (drop at g) l).1 (inl is)))
    back (inr has) = elim ((joined_list_has-append (take at g) (drop at g) l).0 (subst (λ xs. Has xs l) (sym whole) has)) [
      | inl front ↦ (joined_list_has-append (take at g) (m ∷ drop at g) l).1 (inl front)
      | inr behind ↦
          (joined_list_has-append (take at g) (m ∷ drop at g) l).1 (inr ((joined_list_has-cons m (drop at g) l).1 (inr behind)))
    ]

-- a list without a lock
pub sets_held_without : (g : List ℕ) (m l : ℕ) → Has (filter (λ (q : ℕ). not (q == m)) g) l ↔ (Has g l × (l ≢ m))
sets_held_without g m l =
    let kept = filtered_in_order_has (λ (q : ℕ). not (q == m)) g l in (
      λ has. let r = kept.0 has in (r.0, λ is. true≢false (sym r.1 ∙ ap not (eq-eqb l m is))),
      λ has. kept.1 (has.0, ap not (ne_eqb l m has.1)),
    )

-- an event that neither acquires nor releases l leaves whether p holds it
sets_held_left : (j : List Event) (p l : ℕ) (k : Kind) → k ≢ Acquire l → k ≢ Release l → Holds (did j p k) p l ↔ Holds j p l
sets_held_left j p l k acquires releases = (
  λ h. elim (well_formed_stays_holds_cases j (event p k) p l h) [
    | inl old ↦ old.0
    | inr now ↦ absurd (acquires (ap (λ (e : Event). e.kind) now))
  ],
  λ h. well_formed_stays_holds_longer j (event p k) p l (λ is. releases (ap (λ (e : Event). e.kind) is)) h,
)

-- p acquires a lock
pub sets_held_acquired : (j : List Event) (p m : ℕ) (g h : HeldLocks) → HasHeldLock h m
    → ((l : ℕ) → l ≢ m → HasHeldLock h l ↔ HasHeldLock g l) → AreHeldLocks j p g → AreHeldLocks (did j p (Acquire m)) p h
sets_held_acquired j p m g h now others old l = elim (cases_eq l m) [
  | inl is ↦ (
    λ at. subst (Holds (did j p (Acquire m)) p) (sym is) (well_formed_stays_holds_now j p m),
    λ holds. subst (HasHeldLock h) (sym is) now,
  )
  | inr isnt ↦
      (let same = sets_held_left j p l (Acquire m) (λ eq. isnt (sym (cc eq))) (λ eq. cc eq) in (
        λ at. same.1 ((old l).0 ((others l isnt).0 at)),
        λ holds. (others l isnt).1 ((old l).1 (same.0 holds)),
      ))
]

-- p releases a lock
pub sets_held_released : (j : List Event) (p m : ℕ) (g h : HeldLocks) → ¬ HasHeldLock h m
    → ((l : ℕ) → l ≢ m → HasHeldLock h l ↔ HasHeldLock g l) → AreHeldLocks j p g
    → AreHeldLocks (did j p (Release m)) p h
sets_held_released j p m g h now others old l = elim (cases_eq l m) [
  | inl is ↦ (
    λ at. absurd (now (subst (HasHeldLock h) is at)),
    λ holds. absurd (released (subst (Holds (did j p (Release m)) p) is holds)),
  )
  | inr isnt ↦
      (let same = sets_held_left j p l (Release m) (λ eq. cc eq) (λ eq. isnt (sym (cc eq))) in (
        λ at. same.1 ((old l).0 ((others l isnt).0 at)),
        λ holds. (others l isnt).1 ((old l).1 (same.0 holds)),
      ))
]
  where
    released : ¬ Holds (did j p (Release m)) p m
    released holds = elim (well_formed_stays_holds_cases j (event p (Release m)) p m holds) [
      | inl old ↦ old.1 refl
      | inr now ↦ absurd (cc (ap (λ (e : Event). e.kind) now))
    ]

-- p does anything else
pub sets_held_other : (j : List Event) (p : ℕ) (k : Kind) (h : HeldLocks) → ((m : ℕ) → k ≢ Acquire m) → ((m : ℕ) → k ≢ Release m)
    → AreHeldLocks j p h → AreHeldLocks (did j p k) p h
sets_held_other j p k h acquires releases old l =
    let same = sets_held_left j p l k (acquires l) (releases l) in
    (λ at. same.1 ((old l).0 at), λ holds. (old l).1 (same.0 holds))
