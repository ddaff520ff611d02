-- Timestamps of events, one after the other.
use Rattle.std.proofs.Common.{◌≡◌, ◌+◌, ℕ, inl, inr, List, [], ◌∷◌, ◌++◌, length, slice_index, subst, take, arith}
use Rattle.base.proofs.SlicesAndCounts.{slice_push_cases}
use Rattle.journal.specs.declared.event.Event.{Event}
use Rattle.journal.specs.Events.{EventAt}
use Rattle.journal.specs.Times.{IsTimeIn, IsTimeOf}
use Rattle.journal.proofs.Order.EventPlacesAndCounts.{event_place_same}
use Rattle.lrc_picture.specs.Timestamps.{ArePictureTimestampsAfter}

-- a timestamp with the same entries
pub drawn_timestamps_same : (j : List Event) (among : ℕ → Type 0) (t u : ℕ → ℕ) → ((q : ℕ) → u q ≡ t q) → IsTimeIn j among t
    → IsTimeIn j among u
drawn_timestamps_same j among t u same time = record {
  covers = λ q i x.
      (let c = time.covers q i x in
      let is = same q in
      ((λ h. (let lt = c.0 h in omega arith)), λ lt. c.1 (omega arith)));
  within = λ q. (let le = time.within q in let is = same q in omega arith);
}

-- an event's timestamp more
pub drawn_timestamps_next : (j : List Event) (times : List (List ℕ)) (k : ℕ) (t : List ℕ) (e : Event) → length times ≡ k
    → ArePictureTimestampsAfter j times → EventAt j k e → IsTimeOf (take (k + 1) j) e.processor (slice_index t)
    → ArePictureTimestampsAfter j (times ++ t ∷ [])
drawn_timestamps_next j times k t e long are at now n f u there is = elim (slice_push_cases times t n u is) [
  | inl old ↦ are n f u there old.1
  | inr new ↦
      (let same : k ≡ n = omega (arith, new.0) in
      let here = subst (λ m. EventAt j m e) same at in
      subst (λ (x : List ℕ). IsTimeOf (take (n + 1) j) f.processor (slice_index x)) new.1
      (subst (λ (g : Event). IsTimeOf (take (n + 1) j) g.processor (slice_index t)) (event_place_same j n e f here there)
      (subst (λ m. IsTimeOf (take (m + 1) j) e.processor (slice_index t)) same now)))
]
