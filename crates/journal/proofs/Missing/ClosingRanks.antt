-- Intervals by their closing numbers.
use Rattle.std.proofs.Common.{ℕ, ◌≡◌, ◌<◌, ◌≤◌, inl, inr, List, [], ◌∷◌, ◌++◌, true, length, take, arith, sym, ap, ◌∙◌, le_of_lt}
use Rattle.std.proofs.Math.Seq.{take-append_seam}
use Rattle.std.proofs.lemmas.Bool.{cases_lt}
use Rattle.std.proofs.lemmas.List.{take-append-le}
use Rattle.journal.specs.declared.event.Event.{Event}
use Rattle.journal.specs.DidEvent.{event}
use Rattle.journal.specs.Events.{event_closes, event_count}
use Rattle.journal.specs.MissingIntervals.{missing_interval_closed_count, IsMissingIntervalPlace}
use Rattle.base.proofs.SlicesAndCounts.{slice_count_by-mono}
use Rattle.journal.proofs.Order.EventPlacesAndCounts.{event_place_inside, event_place_longer, event_place_at_end, event_count-front}
use Rattle.journal.proofs.Times.IntervalNumbers.{interval_number_once}

-- what comes later changes no front
pub closing_rank_count_front : (j es : List Event) (i : ℕ) → i ≤ length j
    → missing_interval_closed_count (take i (j ++ es)) ≡ missing_interval_closed_count (take i j)
closing_rank_count_front j es i le = ap missing_interval_closed_count (take-append-le i j es le)

-- a lower closing number is closed earlier
pub closing_rank_before : {j : List Event} {q k a r m b : ℕ} (x : IsMissingIntervalPlace j q k a) (y : IsMissingIntervalPlace j r m b) → a < b
    → x.at < y.at
closing_rank_before {j = j} x y less = elim (cases_lt x.at y.at) [
  | inl h ↦ h
  | inr le ↦ (let up = slice_count_by-mono (λ (e : Event). event_closes e.kind) j y.at x.at le in let here = x.before in
      let there = y.before in absurd (omega arith))
]

-- an interval has one closing number
pub closing_rank_once : (j : List Event) (q k a b : ℕ) → IsMissingIntervalPlace j q k a → IsMissingIntervalPlace j q k b → a ≡ b
closing_rank_once j q k a b x y =
    sym x.before
    ∙ ap (λ (m : ℕ). missing_interval_closed_count (take m j))
    (interval_number_once j q x.at y.at x.closes y.closes (x.number ∙ sym y.number))
    ∙ y.before

-- it keeps it as the journal goes on
pub closing_rank_longer : (j es : List Event) (q k a : ℕ) → IsMissingIntervalPlace j q k a → IsMissingIntervalPlace (j ++ es) q k a
closing_rank_longer j es q k a x =
    let e : Event = event q x.closes.kind in
    let within = le_of_lt (event_place_inside j x.at e x.closes.does) in
    record {
      at = x.at;
      closes = record { kind = x.closes.kind; does = event_place_longer j es x.at e x.closes.does; closes = x.closes.closes };
      number = event_count-front event_closes j es x.at q within ∙ x.number;
      before = closing_rank_count_front j es x.at within ∙ x.before;
    }

-- a closing event closes its processor's open interval, after all that were closed before
pub closing_rank_now : (j : List Event) (e : Event) → event_closes e.kind ≡ true
    → IsMissingIntervalPlace (j ++ e ∷ []) e.processor (event_count event_closes j e.processor) (missing_interval_closed_count j)
closing_rank_now j e closes = record {
  at = length j;
  closes = record { kind = e.kind; does = event_place_at_end j e; closes = closes };
  number = ap (λ (xs : List Event). event_count event_closes xs e.processor) (take-append_seam j (e ∷ []));
  before = ap missing_interval_closed_count (take-append_seam j (e ∷ []));
}
