-- A history has no more stores in a gap than events.
use Rattle.std.proofs.Common.{ℕ, zero, suc, refl, ◌≡◌, ◌≤◌, ◌+◌, Some, List, [], ◌∷◌, length, slice_get, ap, subst, ◌∙◌, arith}
use Rattle.std.proofs.lemmas.Option.{none-some, same_Some}
use Rattle.journal.specs.declared.event.Event.{Event}
use Rattle.journal.specs.declared.event.Kind.{Kind}
use Rattle.journal.specs.declared.event.Kind.TheVariants.{Store}
use Rattle.journal.specs.DidEvent.{event}
use Rattle.journal.specs.Events.{event_interval_at}
use Rattle.journal.specs.Sizes.{Sizes}
use Rattle.journal.specs.PageImages.{HasPageImageCount, StoredInGapOfPageImage}
use Rattle.base.specs.InOrderOnce.{Has}
use Rattle.base.proofs.OnceWithout.{once_le}

-- where an event stores
counted_gap_store_address : Kind → ℕ
counted_gap_store_address (Store a v) = a
counted_gap_store_address _ = 0

-- who did each of these events, in which of its intervals, and where it stored
counted_gap_store_marks : List Event → ℕ → List Event → List (ℕ × ℕ × ℕ)
counted_gap_store_marks j start [] = []
counted_gap_store_marks j start (e ∷ es) =
    (e.processor, event_interval_at j e.processor start, counted_gap_store_address e.kind) ∷ counted_gap_store_marks j (suc start) es

length-counted_gap_store_marks : (j : List Event) (start : ℕ) (es : List Event) → length (counted_gap_store_marks j start es) ≡ length es
unfolding counted_gap_store_marks
length-counted_gap_store_marks j start [] = refl
length-counted_gap_store_marks j start (e ∷ es) = ap suc (length-counted_gap_store_marks j (suc start) es)

counted_gap_store_mark_at : (j : List Event) (start : ℕ) (es : List Event) (i q a v : ℕ) → slice_get es i ≡ Some (event q (Store a v))
    → Has (counted_gap_store_marks j start es) (q, event_interval_at j q (start + i), a)
unfolding counted_gap_store_marks counted_gap_store_address
counted_gap_store_mark_at j start [] i q a v at = absurd (none-some (event q (Store a v)) at)
counted_gap_store_mark_at j start (e ∷ es) zero q a v at =
    let is : e ≡ event q (Store a v) = same_Some e (event q (Store a v)) at in
    let same : start ≡ start + 0 = omega arith in
    (zero, rw (is, ← same) refl)
counted_gap_store_mark_at j start (e ∷ es) (suc i) q a v at =
    let rest = counted_gap_store_mark_at j (suc start) es i q a v at in
    let same : suc start + i ≡ start + suc i = omega arith in
    (suc rest.0, rw (← same) rest.1)

-- so what is counted of them is no more than its events
pub counted_gap_stores_few : (s : Sizes) (j : List Event) (p n words : ℕ) → HasPageImageCount (StoredInGapOfPageImage s j p n) words → words ≤ length j
counted_gap_stores_few s j p n words count =
    let le = once_le count.list (counted_gap_store_marks j 0 j) count.once (λ x h. (
    let stored = (count.each x).0 h in
    let here = counted_gap_store_mark_at j 0 j stored.0 x.0 x.2 stored.1 stored.2 in
    let from : 0 + stored.0 ≡ stored.0 = omega arith in
    let P : ℕ → Type 0 = λ k. Has (counted_gap_store_marks j 0 j) (x.0, k, x.2) in
    subst P (ap (λ (i : ℕ). event_interval_at j x.0 i) from ∙ stored.4) here)) in
    let all = length-counted_gap_store_marks j 0 j in
    let long = count.length_is in
    omega arith
