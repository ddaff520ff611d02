-- Which locks a processor holds after an event of its own.
use Rattle.std.proofs.Common.{ℕ, ◌<◌, slice_index_or, arith, ◌≡◌, ◌≢◌, ◌↔◌, Bool, true, false, true≢false, List, inl, inr, refl, sym, ap}
use Rattle.std.proofs.lemmas.Option.{slice_get-get_or}
use Rattle.journal.specs.declared.event.Event.{Event}
use Rattle.journal.specs.declared.event.Kind.{Kind}
use Rattle.journal.specs.declared.event.Kind.TheVariants.{Acquire, Release}
use Rattle.journal.specs.DidEvent.{event, did}
use Rattle.journal.specs.WellFormed.{Holds}
use Rattle.journal.proofs.Journals.WellFormedStays.{well_formed_stays_holds_cases, well_formed_stays_holds_now}
use Rattle.book.specs.BookStamps.{EachStampedAt}
use Rattle.book.proofs.Parts.Each.{each_set, each_kept}
use Rattle.book.proofs.Parts.LastEvents.{last_event_leaves_holder, last_event_held_before}
use Rattle.cluster.specs.Copies.Local.{Local}
use Rattle.cluster.specs.Copies.Sound.{IsSound}
use Rattle.cluster.specs.Copies.AfterNews.{locks_held_after_news}

-- the mark says whether p holds lock l
abbrev pub IsLockMark : List Event → ℕ → ℕ → Bool → Type 0
IsLockMark h p l b = (b ≡ true) ↔ Holds h p l

-- a lock that the event doesn't name stays held or not
lock_mark_kept : (h : List Event) (p : ℕ) (k : Kind) (l : ℕ) (b : Bool) → k ≢ Acquire l → k ≢ Release l
    → IsLockMark h p l b
    → IsLockMark (did h p k) p l b
lock_mark_kept h p k l b acquire release is = (
  (λ yes. last_event_leaves_holder h p k p l release (is.0 yes)),
  (λ holds. is.1 (last_event_held_before h p k p l acquire holds)),
)

-- who releases a lock doesn't hold it
lock_mark_released : (h : List Event) (p l : ℕ) → ¬ Holds (did h p (Release l)) p l
lock_mark_released h p l holds = elim (well_formed_stays_holds_cases h (event p (Release l)) p l holds) [
  | inl old ↦ old.1 refl
  | inr new ↦ absurd (cc (ap (λ (e : Event). e.kind) new))
]

-- the marks after an event are what the history says
pub lock_marks_after_event : (n : ℕ) (h : List Event) (p : ℕ) (k : Kind) (held : List Bool)
    → EachStampedAt n (IsLockMark h p) held
    → EachStampedAt n (IsLockMark (did h p k) p) (locks_held_after_news k held)
lock_marks_after_event n h p (Acquire l) held all = each_set n (IsLockMark h p) (IsLockMark (did h p (Acquire l)) p) held l true all
    (λ m b isnt at is. lock_mark_kept h p (Acquire l) m b (λ e. isnt (cc e)) (λ e. absurd cc) is)
    (λ _. well_formed_stays_holds_now h p l, λ _. refl)
lock_marks_after_event n h p (Release l) held all = each_set n (IsLockMark h p) (IsLockMark (did h p (Release l)) p) held l false all
    (λ m b isnt at is. lock_mark_kept h p (Release l) m b (λ e. absurd cc) (λ e. isnt (cc e)) is)
    (λ yes. absurd (true≢false (sym yes)), λ holds. absurd (lock_mark_released h p l holds))
lock_marks_after_event n h p k held all = each_kept n (IsLockMark h p) (IsLockMark (did h p k) p) held all
    (λ m b at is. lock_mark_kept h p k m b (λ e. absurd cc) (λ e. absurd cc) is)

-- a lock's mark tells whether the processor holds it
pub lock_mark_tells_held : (m : Local) (l : ℕ) → IsSound m → l < m.sizes.locks
    → (slice_index_or m.held l false ≡ true) ↔ Holds m.seen m.number l
lock_mark_tells_held m l sound within =
    let long = sound.held.long in
    sound.held.each l (slice_index_or m.held l false) (slice_get-get_or m.held l false (omega arith))
