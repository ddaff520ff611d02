-- What one more event changes in who did what last.
use Rattle.std.proofs.Common.{◌≡◌, ◌≢◌, ℕ, ◌+◌, ◌≤◌, inl, inr, List, [], ◌∷◌, length, Bool, cond, true, false, Option, None, subst, sym, refl, ap, ◌∙◌, arith}
use Rattle.std.proofs.lemmas.Bool.{cases_eq, eq-eqb, true≢false}
use Rattle.std.proofs.lemmas.Option.{none-some}
use Rattle.journal.specs.declared.event.Event.{Event}
use Rattle.journal.specs.declared.event.Kind.{Kind}
use Rattle.journal.specs.declared.event.Kind.TheVariants.{Acquire, Release}
use Rattle.journal.specs.Events.{EventAt, event_count}
use Rattle.journal.specs.WellFormed.{LastIs, Holds}
use Rattle.journal.specs.AwaitedNext.{awaited_next, AwaitsNothingNext}
use Rattle.base.proofs.SlicesAndCounts.{slice_push_cases}
use Rattle.journal.proofs.Order.EventPlacesAndCounts.{event_count-append}
use Rattle.journal.proofs.Times.TimesOfPlaces.{time_of_places_one_event}
use Rattle.journal.proofs.Journals.WellFormedStays.{well_formed_stays_last_cases, well_formed_stays_last_now, well_formed_stays_last_longer, well_formed_stays_holds_cases, well_formed_stays_holds_longer}
use Rattle.journal.specs.DidEvent.{event, did}
use Rattle.book.specs.BookStamps.{IsAwaitedByBookStamps}

-- the one event is not another's
pub last_event_away : (p q : ℕ) (k : Kind) → q ≢ p → (m : ℕ) (f : Event) → EventAt (event p k ∷ []) m f → f.processor ≢ q
last_event_away p q k isnt m f at same =
    elim (slice_push_cases [] (event p k) m f at)
    [ inl old ↦ none-some f old.1 | inr new ↦ isnt (sym same ∙ sym (ap (λ x. x.processor) new.1)) ]

-- another's last event stays its last
pub last_event_others : (h : List Event) (p : ℕ) (k : Kind) (q i : ℕ) (a : Kind) → q ≢ p → LastIs h q i a
    → LastIs (did h p k) q i a
last_event_others h p k q i a isnt last = well_formed_stays_last_longer h (event p k ∷ []) q i a (last_event_away p q k isnt) last

pub last_event_own : (h : List Event) (p : ℕ) (k : Kind) → LastIs (did h p k) p (length h) k
last_event_own h p k = well_formed_stays_last_now h (event p k)

-- a kind of which this doesn't hold is none of which it does
pub last_event_unlike : (is : Kind → Bool) (k a : Kind) → is k ≡ false → is a ≡ true → k ≢ a
last_event_unlike is k a never does e = true≢false (sym does ∙ sym (ap is e) ∙ never)

-- who has not done this last has not after another's or another kind of event
pub last_event_none : (h : List Event) (p : ℕ) (k : Kind) (i : ℕ) (a : Kind) → k ≢ a → ¬ LastIs (did h p k) p i a
last_event_none h p k i a isnt last =
    elim (well_formed_stays_last_cases h (event p k) p i a last) [ inl own ↦ isnt (sym own.2) | inr other ↦ other.0 refl ]

-- an event that neither acquires nor releases the lock leaves who holds it
pub last_event_leaves_holder : (h : List Event) (p : ℕ) (k : Kind) (q l : ℕ) → k ≢ Release l → Holds h q l → Holds (did h p k) q l
last_event_leaves_holder h p k q l isnt held = well_formed_stays_holds_longer h (event p k) q l (λ e. isnt (ap (λ x. x.kind) e)) held

pub last_event_held_before : (h : List Event) (p : ℕ) (k : Kind) (q l : ℕ) → k ≢ Acquire l → Holds (did h p k) q l → Holds h q l
last_event_held_before h p k q l isnt held =
    elim (well_formed_stays_holds_cases h (event p k) q l held) [ inl old ↦ old.0 | inr new ↦ absurd (isnt (ap (λ x. x.kind) new)) ]

-- one event counts for its processor, where it is of these kinds
pub last_event_count : (is : Kind → Bool) (h : List Event) (p : ℕ) (k : Kind)
    → event_count is (did h p k) p ≡ event_count is h p + cond (is k) 1 0
last_event_count is h p k = let sum = event_count-append is h (event p k ∷ []) p in let own =
    eq-eqb p p refl in sum ∙ rw own (omega arith)

pub last_event_count_others : (is : Kind → Bool) (h : List Event) (p : ℕ) (k : Kind) (q : ℕ) → q ≢ p
    → event_count is (did h p k) q ≡ event_count is h q
last_event_count_others is h p k q isnt =
    let sum = event_count-append is h (event p k ∷ []) q in
    elim (time_of_places_one_event is (event p k) q) [ inl none ↦ omega arith | inr one ↦ absurd (isnt (sym one.0)) ]

-- and none where it is not
pub last_event_count_kept : (is : Kind → Bool) (h : List Event) (p : ℕ) (k : Kind) (q : ℕ) → is k ≡ false
    → event_count is (did h p k) q ≡ event_count is h q
last_event_count_kept is h p k q isnt = elim (cases_eq q p) [
  | inl same ↦ (let P : ℕ → Type 0 = λ x. event_count is (did h p k) x ≡ event_count is h x in
      subst P (sym same)
      (let sum = last_event_count is h p k in let e = ap (λ (c : Bool). cond {A = ℕ} c 1 0) isnt in omega arith))
  | inr apart ↦ last_event_count_others is h p k q apart
]

-- counts grow
pub last_event_count_grows : (is : Kind → Bool) (h : List Event) (p : ℕ) (k : Kind) (q : ℕ)
    → event_count is h q ≤ event_count is (did h p k) q
last_event_count_grows is h p k q = let sum = event_count-append is h (event p k ∷ []) q in omega arith

-- who waits for nothing is idle
pub last_event_awaits_idle : (h : List Event) (p : ℕ) → IsAwaitedByBookStamps h p None → AwaitsNothingNext h p
last_event_awaits_idle h p w i a last = sym (w.last i a last)

pub last_event_awaited_others : (h : List Event) (p : ℕ) (k : Kind) (q : ℕ) (w : Option Kind) → q ≢ p → IsAwaitedByBookStamps h q w
    → IsAwaitedByBookStamps (did h p k) q w
last_event_awaited_others h p k q w isnt x = record {
  last = λ i a last. elim (well_formed_stays_last_cases h (event p k) q i a last)
      [ inl own ↦ absurd (isnt (sym own.0)) | inr old ↦ x.last i a old.1 ];
  some = λ b is. (let s = x.some b is in (s.0, s.1, last_event_others h p k q s.0 s.1 isnt s.2));
}

pub last_event_awaited_now : (h : List Event) (p : ℕ) (k : Kind) → IsAwaitedByBookStamps (did h p k) p (awaited_next k)
last_event_awaited_now h p k = record {
  last = λ i a last. elim (well_formed_stays_last_cases h (event p k) p i a last)
      [ inl own ↦ ap (λ x. awaited_next x) (sym own.2) | inr old ↦ absurd (old.0 refl) ];
  some = λ b is. (length h, k, last_event_own h p k);
}
