-- Places where a processor's interval ends, or where none has begun.
use Rattle.std.proofs.Common.{ℕ, ◌≡◌, ◌≢◌, ◌<◌, ◌≤◌, inl, inr, List, [], ◌∷◌, ◌++◌, length, false, true≢false, refl, sym, ap, ◌∙◌, subst, arith, length-append}
use Rattle.std.proofs.lemmas.Bool.{cases_lt}
use Rattle.std.proofs.Math.Seq.{take-append_seam}
use Rattle.journal.specs.declared.event.Event.{Event}
use Rattle.journal.specs.DidEvent.{event}
use Rattle.journal.specs.Events.{event_count, event_closes}
use Rattle.journal.proofs.Order.EventPlacesAndCounts.{event_count-append, event_count-front, event_count-front-le, event_count-mono, event_count-past, event_place_at_end, event_place_does, event_place_longer, event_place_shorter}
use Rattle.journal.proofs.Times.LeavingCloses.{leaving_closes_past}
use Rattle.journal.proofs.Times.TimesOfPlaces.{time_of_places_one_event}
use Rattle.judge.specs.Cuts.{IsCutOf}
use Rattle.judge.specs.StoredSteps.{IsStoredLimit}

-- it stays one as the history goes on
pub stored_limit_longer : (j es : List Event) (q v : ℕ) → IsStoredLimit j q v → IsStoredLimit (j ++ es) q v
stored_limit_longer j es q v is = record {
  within = (let top = is.within in let sum = length-append j es in omega arith);
  closed = λ i e at mine lt.
      (let top = is.within in
      let old = is.closed i e (event_place_shorter j es i e (omega arith) at) mine lt in
      let first = event_count-front event_closes j es i q (omega arith) in
      let second = event_count-front event_closes j es v q top in
      omega arith);
}

-- and was one before, if the history was that long
pub stored_limit_shorter : (j es : List Event) (q v : ℕ) → v ≤ length j → IsStoredLimit (j ++ es) q v → IsStoredLimit j q v
stored_limit_shorter j es q v top is = record {
  within = top;
  closed = λ i e at mine lt.
      (let new = is.closed i e (event_place_longer j es i e at) mine lt in
      let first = event_count-front event_closes j es i q (omega arith) in
      let second = event_count-front event_closes j es v q top in
      omega arith);
}

-- behind an event that closes nothing there is none of its processor
pub stored_limit_inner : (j : List Event) (e : Event) (v : ℕ) → event_closes e.kind ≡ false
    → IsStoredLimit (j ++ e ∷ []) e.processor v → v ≤ length j
stored_limit_inner j e v inner is = elim (cases_lt (length j) v) [
  | inl lt ↦
      (let new = is.closed (length j) e (event_place_at_end j e) refl lt in
      let top = event_count-front-le event_closes (j ++ e ∷ []) v e.processor in
      let sum = event_count-append event_closes j (e ∷ []) e.processor in
      let seam = ap (λ (xs : List Event). event_count event_closes xs e.processor) (take-append_seam j (e ∷ [])) in
      elim (time_of_places_one_event event_closes e e.processor) [
        | inl none ↦ absurd (omega arith)
        | inr one ↦ absurd (true≢false (sym one.1 ∙ inner))
      ])
  | inr le ↦ le
]

-- an entry of a processor's cut is one of another processor
pub stored_limit_of_cut : {j : List Event} {p : ℕ} {t : ℕ → ℕ} → IsCutOf j p t → (q : ℕ) → q ≢ p → IsStoredLimit j q (t q)
stored_limit_of_cut {j = j} {p = p} {t = t} cut q apart = record {
  within = cut.within q;
  closed = λ i e at mine lt.
      (let other : e.processor ≢ p = λ is. apart (sym mine ∙ is) in
      let past = (cut.covers i e at other).1 (subst (λ r. i < t r) (sym mine) lt) in
      let does = event_place_does j i q e at mine in
      let close = leaving_closes_past j p q i e.kind does apart past in
      let below = (cut.covers close.close (event q close.closes.kind) close.closes.does apart).0 close.inside in
      let up = event_count-mono event_closes j i close.close q close.from in
      let more = event_count-past event_closes j close.close (t q) q close.closes.kind close.closes.does close.closes.closes below in
      omega arith);
}
