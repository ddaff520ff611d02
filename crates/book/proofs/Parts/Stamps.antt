-- Timestamps under one more event.
use Rattle.std.proofs.Common.{◌≡◌, ◌≢◌, ℕ, ◌+◌, ◌<◌, max, inl, inr, List, [], ◌∷◌, length, replicate, Bool, cond, false, true, slice_index, subst, sym, refl, ap, ◌∙◌, arith}
use Rattle.std.proofs.lemmas.Bool.{cases_eq}
use Rattle.std.proofs.lemmas.List.{length-set, length-replicate, get_or-set_same, get_or-set_other}
use Rattle.base.proofs.SliceSets.{index-zeros}
use Rattle.journal.specs.declared.event.Event.{Event}
use Rattle.journal.specs.declared.event.Kind.{Kind}
use Rattle.journal.specs.declared.event.Kind.TheVariants.{Release}
use Rattle.journal.specs.Sizes.{Sizes}
use Rattle.journal.specs.Events.{event_closes, event_takes, event_count}
use Rattle.journal.specs.WellFormed.{WellFormed}
use Rattle.journal.specs.Pasts.{InPast, InPastOfSome}
use Rattle.journal.specs.Times.{IsTimeIn}
use Rattle.journal.specs.Brings.{Brings, BringsFromKind}
use Rattle.journal.proofs.Times.TimesOfPlaces.{time_of_places_equal, time_of_places_none}
use Rattle.journal.proofs.Times.PushedTimes.{pushed_time_others, pushed_time_own_quiet, pushed_time_own_closing, pushed_time_own_taking}
use Rattle.journal.proofs.Journals.HoldingReleases.{holding_release_time}
use Rattle.vtime.specs.TicksAndJoins.{tick, join}
use Rattle.vtime.proofs.Joins.{length-join, get_or-join}
use Rattle.journal.specs.DidEvent.{event, did}
use Rattle.book.specs.BookStamps.{IsBookStamp}
use Rattle.book.proofs.Parts.LastEvents.{last_event_away, last_event_count, last_event_count_others}

-- an entry of a tick, as a count of the one event
stamp_tick_index : (t : List ℕ) (p : ℕ) (k : Kind) (q : ℕ) → event_closes k ≡ true → p < length t
    → slice_index t q + event_count event_closes (event p k ∷ []) q ≡ slice_index (tick t p) q
stamp_tick_index t p k q closes lt = elim (cases_eq q p) [
  | inl is ↦ (let P : ℕ
      → Type 0 = λ x. slice_index t x + event_count event_closes (event p k ∷ []) x ≡ slice_index (tick t p) x in
      subst P (sym is) here)
  | inr isnt ↦ (let e = get_or-set_other t p q (slice_index t p + 1) 0 isnt in
      let c = last_event_count_others event_closes [] p k q isnt in omega arith)
]
  where
    here : slice_index t p + event_count event_closes (event p k ∷ []) p ≡ slice_index (tick t p) p
    here =
        let e = get_or-set_same t p (slice_index t p + 1) 0 lt in
        let c = last_event_count event_closes [] p k in
        let one = ap (λ (b : Bool). cond {A = ℕ} b 1 0) closes in
        omega arith

pub stamp_equal : (n : ℕ) (h : List Event) (among : ℕ → Type 0) (t : List ℕ) (u : ℕ → ℕ) → length t ≡ n
    → ((q : ℕ) → u q ≡ slice_index t q) → IsTimeIn h among u → IsBookStamp n h among t
stamp_equal n h among t u long same is = record { long = long; is = time_of_places_equal h among u (slice_index t) same is }

-- zeros where nothing is counted
pub stamp_none : (n : ℕ) (h : List Event) (some : ℕ → Type 0) → ((i : ℕ) → some i → ⊥)
    → IsBookStamp n h some (replicate n 0)
stamp_none n h some none =
    stamp_equal n h some (replicate n 0) (λ _. 0) (length-replicate {A = ℕ} n 0) (λ q. sym (index-zeros n q))
    (time_of_places_none h some none)

-- others' timestamps stay
pub stamp_others : (n : ℕ) (h : List Event) (p : ℕ) (k : Kind) (q : ℕ) (t : List ℕ) → q ≢ p
    → IsBookStamp n h (InPast h q) t → IsBookStamp n (did h p k) (InPast (did h p k) q) t
stamp_others n h p k q t isnt x =
    record { long = x.long; is = pushed_time_others h (event p k ∷ []) q (slice_index t) (last_event_away p q k isnt) x.is }

-- a closing event ticks
pub stamp_closing : (n : ℕ) (h : List Event) (p : ℕ) (k : Kind) (t : List ℕ) → p < n → event_takes k ≡ false
    → event_closes k ≡ true → IsBookStamp n h (InPast h p) t → IsBookStamp n (did h p k) (InPast (did h p k) p) (tick t p)
stamp_closing n h p k t lt quiet closes x =
    let long = x.long in
    stamp_equal n (did h p k) (InPast (did h p k) p) (tick t p)
    (λ q. slice_index t q + event_count event_closes (event p k ∷ []) q)
    (length-set t p (slice_index t p + 1) ∙ x.long) (λ q. stamp_tick_index t p k q closes (omega arith))
    (pushed_time_own_closing h (event p k) (slice_index t) quiet x.is)

-- a joined time
pub stamp_join : (n : ℕ) (h : List Event) (among : ℕ → Type 0) (t u : List ℕ) → length t ≡ n → length u ≡ n
    → IsTimeIn h among (λ q. max (slice_index t q) (slice_index u q)) → IsBookStamp n h among (join t u)
stamp_join n h among t u long other is =
    stamp_equal n h among (join t u) (λ q. max (slice_index t q) (slice_index u q))
    (length-join t u (other ∙ sym long) ∙ long) (λ q. sym (get_or-join t u q)) is

-- an event that takes joins what it brings
pub stamp_taking : (n : ℕ) (h : List Event) (p : ℕ) (k : Kind) (t u : List ℕ) → event_closes k ≡ false
    → IsBookStamp n h (InPast h p) t → IsBookStamp n h (Brings h p k) u
    → IsBookStamp n (did h p k) (InPast (did h p k) p) (join t u)
stamp_taking n h p k t u quiet x y =
    stamp_join n (did h p k) (InPast (did h p k) p) t u x.long y.long
    (pushed_time_own_taking h (event p k) (slice_index t) (slice_index u) quiet x.is y.is)

-- after a release the releaser's time is the lock's
pub stamp_released : (s : Sizes) (h : List Event) (p l : ℕ) (t : List ℕ) → WellFormed s (did h p (Release l))
    → IsBookStamp s.processors (did h p (Release l)) (InPast (did h p (Release l)) p) t
    → IsBookStamp s.processors (did h p (Release l))
    (InPastOfSome (did h p (Release l)) (BringsFromKind (did h p (Release l)) (Release l))) t
stamp_released s h p l t well x =
    record { long = x.long; is = holding_release_time s h (event p (Release l)) l (slice_index t) refl well x.is }

-- an event that neither takes nor closes leaves its processor's timestamp
pub stamp_quiet : (n : ℕ) (h : List Event) (p : ℕ) (k : Kind) (t : List ℕ) → event_takes k ≡ false
    → event_closes k ≡ false → IsBookStamp n h (InPast h p) t → IsBookStamp n (did h p k) (InPast (did h p k) p) t
stamp_quiet n h p k t takes closes x =
    record { long = x.long; is = pushed_time_own_quiet h (event p k) (slice_index t) takes closes x.is }
