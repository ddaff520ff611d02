-- What a front tells, as the history goes on.
use Rattle.std.proofs.Common.{◌≡◌, ◌≢◌, ℕ, ◌+◌, ◌<◌, ◌≤◌, ◌↔◌, inl, inr, List, [], ◌∷◌, ◌++◌, length, Option, Some, Bool, IsTrue, true, false, cond, ◌==◌, ◌&&◌, ◌||◌, slice_index, slice_index_or, slice_set, subst, sym, refl, ap, ◌∙◌, get_or-set_same, get_or-set_other, arith}
use Rattle.std.specs.Prelude.{None}
use Rattle.std.proofs.lemmas.Bool.{cases_eq, eq-eqb, ne_eqb}
use Rattle.std.proofs.lemmas.List.Sums.{count_by-le-length}
use Rattle.std.proofs.lemmas.Option.{same_Some, none-some}
use Rattle.journal.specs.declared.event.Event.{Event}
use Rattle.journal.specs.declared.event.Kind.{Kind}
use Rattle.journal.specs.declared.event.Kind.TheVariants.{Acquire, Release, Set}
use Rattle.journal.specs.DidEvent.{event}
use Rattle.journal.specs.EventsInRange.{EventProcessorsInRange}
use Rattle.journal.specs.Sizes.{Sizes}
use Rattle.journal.specs.Events.{EventAt, event_count}
use Rattle.journal.specs.WellFormed.{Holds, LastIs}
use Rattle.base.proofs.SlicesAndCounts.{slice_push_cases}
use Rattle.journal.proofs.Order.EventPlacesAndCounts.{event_place_at_end, event_place_longer, event_count-append}
use Rattle.journal.proofs.Journals.WellFormedStays.{well_formed_stays_last_now, well_formed_stays_last_longer, well_formed_stays_holds_now, well_formed_stays_holds_longer, well_formed_stays_holds_cases}
use Rattle.judge.specs.declared.frontier.LastEvent.{LastEvent}
use Rattle.judge.specs.LaxWellFormed.{LaxAllowed}
use Rattle.judge.specs.FrontTells.{FrontTellsLastOf, FrontTellsFlagSet, front_tells_holder_after, front_tells_flag_set_after}

-- one event and no other
pub front_noting_one_away : (e : Event) (p : ℕ) → e.processor ≢ p → (m : ℕ) (f : Event) → EventAt (e ∷ []) m f → f.processor ≢ p
front_noting_one_away e p isnt m f at is = elim (slice_push_cases [] e m f at) [
  | inl none ↦ absurd (omega (arith, none.0))
  | inr same ↦ isnt (ap (λ (x : Event). x.processor) same.1 ∙ is)
]

-- one processor of the range more
pub front_noting_range_next : (j : List Event) (e : Event) (n : ℕ) → EventProcessorsInRange n j → e.processor < n
    → EventProcessorsInRange n (j ++ e ∷ [])
front_noting_range_next j e n range lt m f at = elim (slice_push_cases j e m f at) [
  | inl old ↦ range m f old.1
  | inr new ↦ subst (λ (x : Event). x.processor < n) new.1 lt
]

-- another processor's event leaves the last one
front_noting_last_others : (j : List Event) (e : Event) (p : ℕ) (o : Option LastEvent) → e.processor ≢ p → FrontTellsLastOf j p o
    → FrontTellsLastOf (j ++ e ∷ []) p o
front_noting_last_others j e p None apart none = λ m f at is. elim (slice_push_cases j e m f at) [
  | inl old ↦ none m f old.1 is
  | inr new ↦ apart (ap (λ (x : Event). x.processor) new.1 ∙ is)
]
front_noting_last_others j e p (Some x) apart last = well_formed_stays_last_longer j (e ∷ []) p x.place x.kind (front_noting_one_away e p apart) last

pub front_noting_lasts_next : (j : List Event) (e : Event) (last : List (Option LastEvent)) (place : ℕ) → e.processor < length last
    → place ≡ length j → ((p : ℕ) → FrontTellsLastOf j p (slice_index_or last p None)) → (p : ℕ)
    → FrontTellsLastOf (j ++ e ∷ []) p
    (slice_index_or (slice_set last e.processor (Some (record { place = place; kind = e.kind }))) p None)
front_noting_lasts_next j e last place within is old p = elim (cases_eq p e.processor) [
  | inl same ↦ subst (λ q. FrontTellsLastOf (j ++ e ∷ []) q (slice_index_or next q None)) (sym same)
      (subst (FrontTellsLastOf (j ++ e ∷ []) e.processor) (sym (get_or-set_same last e.processor (Some now) None within))
      (subst (λ n. LastIs (j ++ e ∷ []) e.processor n e.kind) (sym is) (well_formed_stays_last_now j e)))
  | inr isnt ↦ subst (FrontTellsLastOf (j ++ e ∷ []) p) (sym (get_or-set_other last e.processor p (Some now) None isnt))
      (front_noting_last_others j e p (slice_index_or last p None) (λ one. isnt (sym one)) (old p))
]
  where
    now : LastEvent
    now = record { place = place; kind = e.kind }

    next : List (Option LastEvent)
    next = slice_set last e.processor (Some now)

-- a count of one more event
pub front_noting_count_one : (is : Kind → Bool) (e : Event) (q : ℕ)
    → event_count is (e ∷ []) q ≡ cond ((e.processor == q) && is e.kind) 1 0
front_noting_count_one is e q = go ((e.processor == q) && is e.kind) refl
  where
    go : (b : Bool) → ((e.processor == q) && is e.kind) ≡ b → event_count is (e ∷ []) q ≡ cond b 1 0
    go true h = rw h refl
    go false h = rw h refl

pub front_noting_counts_next : (is : Kind → Bool) (j : List Event) (e : Event) (old new : List ℕ)
    → ((q : ℕ) → slice_index new q ≡ slice_index old q + cond ((e.processor == q) && is e.kind) 1 0)
    → ((q : ℕ) → slice_index old q ≡ event_count is j q) → (q : ℕ) → slice_index new q ≡ event_count is (j ++ e ∷ []) q
front_noting_counts_next is j e old new step was q =
    step q ∙ ap (λ n. n + cond ((e.processor == q) && is e.kind) 1 0) (was q)
    ∙ ap (λ n. event_count is j q + n) (sym (front_noting_count_one is e q)) ∙ sym (event_count-append is j (e ∷ []) q)

-- no count is past the number of events
pub front_noting_count_small : (is : Kind → Bool) (j : List Event) (q : ℕ) → event_count is j q ≤ length j
front_noting_count_small is j q = count_by-le-length (λ (e : Event). (e.processor == q) && is e.kind) j

-- an event that neither acquires nor releases l leaves its holder
front_noting_holder_kept : (j : List Event) (e : Event) (q l : ℕ) (o : Option ℕ) → e.kind ≢ Acquire l → e.kind ≢ Release l
    → (o ≡ Some q) ↔ Holds j q l → (o ≡ Some q) ↔ Holds (j ++ e ∷ []) q l
front_noting_holder_kept j e q l o acquires releases was = (
  λ is. well_formed_stays_holds_longer j e q l (λ same. releases (ap (λ (x : Event). x.kind) same)) (was.0 is),
  λ holds. elim (well_formed_stays_holds_cases j e q l holds) [
    | inl old ↦ was.1 old.0
    | inr new ↦ absurd (acquires (ap (λ (x : Event). x.kind) new))
  ],
)

-- who acquires l holds it, where nobody did
front_noting_holder_acquired : (j : List Event) (p q l : ℕ) → ((r : ℕ) → ¬ Holds j r l)
    → (Some p ≡ Some q) ↔ Holds (j ++ event p (Acquire l) ∷ []) q l
front_noting_holder_acquired j p q l free = (
  λ is. subst (λ r. Holds (j ++ event p (Acquire l) ∷ []) r l) (same_Some p q is) (well_formed_stays_holds_now j p l),
  λ holds. elim (well_formed_stays_holds_cases j (event p (Acquire l)) q l holds) [
    | inl old ↦ absurd (free q old.0)
    | inr new ↦ ap (λ (x : Event). Some x.processor) new
  ],
)

-- nobody holds l after its holder's release
front_noting_holder_released : (j : List Event) (p q l : ℕ) (o : Option ℕ) → ((r : ℕ) → (o ≡ Some r) ↔ Holds j r l) → Holds j p l
    → (None ≡ Some q) ↔ Holds (j ++ event p (Release l) ∷ []) q l
front_noting_holder_released j p q l o was mine = (
  λ is. absurd (none-some q is),
  λ holds. elim (well_formed_stays_holds_cases j (event p (Release l)) q l holds) [
    | inl old ↦
        (let one = same_Some p q (sym ((was p).1 mine) ∙ (was q).1 old.0) in
        absurd (old.1 (ap (λ r. event r (Release l)) one)))
    | inr new ↦ (let kind = ap (λ (x : Event). x.kind) new in absurd cc)
  ],
)

pub front_noting_holders_next : (s : Sizes) (j : List Event) (p : ℕ) (k : Kind) (l : ℕ) (o : Option ℕ) → LaxAllowed s j p k
    → ((r : ℕ) → (o ≡ Some r) ↔ Holds j r l) → (q : ℕ)
    → (front_tells_holder_after o l p k ≡ Some q) ↔ Holds (j ++ event p k ∷ []) q l
front_noting_holders_next s j p (Acquire m) l o allowed was q = elim (cases_eq m l) [
  | inl is ↦ subst (λ b. (cond b (Some p) o ≡ Some q) ↔ Holds (j ++ event p (Acquire m) ∷ []) q l)
      (sym (eq-eqb m l is))
      (subst (λ n. (Some p ≡ Some q) ↔ Holds (j ++ event p (Acquire m) ∷ []) q n) is
      (front_noting_holder_acquired j p q m allowed))
  | inr isnt ↦ subst (λ b. (cond b (Some p) o ≡ Some q) ↔ Holds (j ++ event p (Acquire m) ∷ []) q l)
      (sym (ne_eqb m l isnt))
      (front_noting_holder_kept j (event p (Acquire m)) q l o (λ is. isnt (same_acquire is)) (λ is. absurd cc) (was q))
]
  where
    same_acquire : Acquire m ≡ Acquire l → m ≡ l
    same_acquire is = cc
front_noting_holders_next s j p (Release m) l o allowed was q = elim (cases_eq m l) [
  | inl is ↦ subst (λ b. (cond b None o ≡ Some q) ↔ Holds (j ++ event p (Release m) ∷ []) q l) (sym (eq-eqb m l is))
      (subst (λ n. (None ≡ Some q) ↔ Holds (j ++ event p (Release n) ∷ []) q l) (sym is)
      (front_noting_holder_released j p q l o was (subst (Holds j p) is allowed)))
  | inr isnt ↦ subst (λ b. (cond b None o ≡ Some q) ↔ Holds (j ++ event p (Release m) ∷ []) q l)
      (sym (ne_eqb m l isnt))
      (front_noting_holder_kept j (event p (Release m)) q l o (λ is. absurd cc) (λ is. isnt (same_release is)) (was q))
]
  where
    same_release : Release m ≡ Release l → m ≡ l
    same_release is = cc
front_noting_holders_next s j p k l o allowed was q =
    front_noting_holder_kept j (event p k) q l o (λ is. absurd cc) (λ is. absurd cc) (was q)

-- an event that doesn't set f leaves whether it is set
front_noting_set_kept : (j : List Event) (e : Event) (f : ℕ) (b : Bool) → e.kind ≢ Set f → IsTrue b ↔ FrontTellsFlagSet j f
    → IsTrue b ↔ FrontTellsFlagSet (j ++ e ∷ []) f
front_noting_set_kept j e f b isnt was = (
  λ is. (let old = was.0 is in (old.0, old.1, event_place_longer j (e ∷ []) old.0 (event old.1 (Set f)) old.2)),
  λ is. elim (slice_push_cases j e is.0 (event is.1 (Set f)) is.2) [
    | inl old ↦ was.1 (is.0, is.1, old.1)
    | inr new ↦ absurd (isnt (ap (λ (x : Event). x.kind) new.1))
  ],
)

pub front_noting_sets_next : (j : List Event) (p : ℕ) (k : Kind) (f : ℕ) (b : Bool) → IsTrue b ↔ FrontTellsFlagSet j f
    → IsTrue (front_tells_flag_set_after b f k) ↔ FrontTellsFlagSet (j ++ event p k ∷ []) f
front_noting_sets_next j p (Set g) f b was = elim (cases_eq g f) [
  | inl is ↦ subst (λ x. IsTrue (x || b) ↔ FrontTellsFlagSet (j ++ event p (Set g) ∷ []) f) (sym (eq-eqb g f is)) (
    λ _. subst (FrontTellsFlagSet (j ++ event p (Set g) ∷ [])) is (length j, p, event_place_at_end j (event p (Set g))),
    λ _. refl,
  )
  | inr isnt ↦ subst (λ x. IsTrue (x || b) ↔ FrontTellsFlagSet (j ++ event p (Set g) ∷ []) f) (sym (ne_eqb g f isnt))
      (front_noting_set_kept j (event p (Set g)) f b (λ is. isnt (same_set is)) was)
]
  where
    same_set : Set g ≡ Set f → g ≡ f
    same_set is = cc
front_noting_sets_next j p k f b was = front_noting_set_kept j (event p k) f b (λ is. absurd cc) was
