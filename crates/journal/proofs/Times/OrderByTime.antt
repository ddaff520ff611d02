-- What timestamps are for: they tell happens-before, and what is new.
use Rattle.std.proofs.Common.{◌≡◌, ◌≢◌, ℕ, ◌<◌, ◌≤◌, ◌↔◌, List, [], ◌∷◌, ◌++◌, length, take, drop, false, subst, sym, ap, ◌∙◌, take-append-drop, take-take, suc, arith}
use Rattle.std.proofs.lemmas.List.{length-take-le}
use Rattle.journal.specs.declared.event.Event.{Event}
use Rattle.journal.specs.declared.event.Kind.{Kind}
use Rattle.journal.specs.DidEvent.{event}
use Rattle.journal.specs.Events.{event_count, event_interval_at, event_closes, event_takes}
use Rattle.journal.specs.HappensBeforeEdges.{HappensBefore}
use Rattle.journal.specs.WellFormed.{Does}
use Rattle.journal.specs.Pasts.{InPast}
use Rattle.journal.specs.Times.{IsTimeOf}
use Rattle.base.proofs.SlicesAndCounts.{slice_get-take, slice_take-suc_at}
use Rattle.journal.proofs.Order.EventPlacesAndCounts.{event_place_inside, event_place_at_end}
use Rattle.journal.proofs.Order.HappensBefore.{happens_before_extension}
use Rattle.journal.proofs.Order.IntoPast.{into_past_reaches_new}
use Rattle.journal.proofs.Times.PushedTimes.{pushed_time_covers_past}

-- what happens before an event that takes nothing is the past that its processor had
pub order_by_time_past : (j : List Event) (k p i : ℕ) (b : Kind) → Does j k p b → event_takes b ≡ false
    → HappensBefore j i k ↔ InPast (take k j) p i
order_by_time_past j k p i b at quiet =
    let e : Event = event p b in
    let lt = event_place_inside j k e at in
    let long : length (take k j) ≡ k = length-take-le k j (omega arith) in
    let split : (take k j ++ e ∷ []) ++ drop (suc k) j ≡ j =
    ap (λ xs. xs ++ drop (suc k) j) (sym (slice_take-suc_at j k e at)) ∙ take-append-drop (suc k) j in
    let new = into_past_reaches_new (take k j) e i quiet in
    let within : length (take k j) < length (take k j ++ e ∷ []) =
    event_place_inside (take k j ++ e ∷ []) (length (take k j)) e (event_place_at_end (take k j) e) in
    let same = happens_before_extension (take k j ++ e ∷ []) (drop (suc k) j) i (length (take k j)) within in
    let P : List Event → ℕ → Type 0 = λ xs m. HappensBefore xs i m in
    let there : HappensBefore ((take k j ++ e ∷ []) ++ drop (suc k) j) i (length (take k j)) → HappensBefore j i k =
    λ h. subst (λ xs. P xs k) split (subst (λ m. P ((take k j ++ e ∷ []) ++ drop (suc k) j) m) long h) in
    let back : HappensBefore j i k → HappensBefore ((take k j ++ e ∷ []) ++ drop (suc k) j) i (length (take k j)) =
    λ h. subst (λ xs. P xs (length (take k j))) (sym split) (subst (λ m. P j m) (sym long) h) in
    ((λ h. new.0 (same.0 (back h))), (λ x. there (same.1 (new.1 x))))

-- an earlier event happens before another processor's that takes nothing exactly where its timestamp before that
-- counts the event's interval
pub order_by_time_counts : {j : List Event} {k p q i : ℕ} {a b : Kind} {t : ℕ → ℕ} → IsTimeOf (take k j) p t → Does j i q a
    → Does j k p b → event_takes b ≡ false → q ≢ p → i < k → HappensBefore j i k ↔ (event_interval_at j q i < t q)
order_by_time_counts {j = j} {k = k} {p = p} {q = q} {i = i} {a = a} {b = b} {t = t} time does at quiet apart lt =
    let past = order_by_time_past j k p i b at quiet in
    let counts = pushed_time_covers_past (take k j) p q i a t time (slice_get-take j k i lt ∙ does) apart in
    let le : i ≤ k = omega arith in
    let front : event_interval_at (take k j) q i ≡ event_interval_at j q i =
    ap (λ (xs : List Event). event_count event_closes xs q) (take-take i k j le) in
    ((λ h. (let below = counts.0 (past.0 h) in omega arith)), (λ below. past.1 (counts.1 (omega arith))))
