-- When a journal's history is within given sizes: its arrivals in front, and the events behind them.
use Rattle.std.proofs.Common.{ℕ, ◌+◌, ◌-◌, ◌<◌, ◌≤◌, List, ◌++◌, inl, inr, length, sym, subst, ◌∙◌, arith}
use Rattle.std.proofs.lemmas.Bool.{cases_lt}
use Rattle.base.proofs.SlicesAndCounts.{slice_append_cases, slice_get-append_left, slice_get-append_right}
use Rattle.journal.specs.declared.event.Event.{Event}
use Rattle.journal.specs.declared.event.Kind.TheVariants.{Arrive}
use Rattle.journal.specs.DidEvent.{event}
use Rattle.journal.specs.Events.{EventAt}
use Rattle.journal.specs.JournalHistory.{IsJournalHistory, journal_history_arrivals}
use Rattle.journal.specs.Log.{Log}
use Rattle.journal.specs.Opening.{IsOpening}
use Rattle.journal.specs.Sizes.{Sizes}
use Rattle.journal.proofs.Order.EventPlacesAndCounts.{event_place_same, event_place_inside}
use Rattle.judge.specs.SizedHistory.{IsHistoryInSizes, IsHistoryOfSizes}
use Rattle.judge.specs.Miscounted.{IsEventInSizes}
use Rattle.judge.specs.JudgedSizes.{AreStreamedSizes}

module _ (s : Sizes) (n : ℕ) (xs : List Event) (opening : IsOpening n xs) (j : List Event) where
  -- an arrival of so many processors is within the sizes of as many
  sized_journal_arrival : n ≤ s.processors → (k : ℕ) (e : Event) → EventAt xs k e → IsEventInSizes s e
  sized_journal_arrival few k e at =
      let within = event_place_inside xs k e at in
      let long = opening.long in
      let lt : k < n = omega arith in
      subst (IsEventInSizes s) (event_place_same xs k (event k Arrive) e (opening.each k lt) at)
      (record { processor = omega arith; kind = tt })

  sized_journal_front : n ≤ s.processors → IsHistoryInSizes s j → IsHistoryInSizes s (xs ++ j)
  sized_journal_front few within k e at = elim (slice_append_cases xs j k e at) [
    | inl front ↦ sized_journal_arrival few k e front.1
    | inr behind ↦ within behind.0 e behind.2
  ]

  sized_journal_rest : IsHistoryInSizes s (xs ++ j) → IsHistoryInSizes s j
  sized_journal_rest within k e at = within (length xs + k) e (slice_get-append_right xs j k ∙ at)

  -- the last processor that arrives is one of the sizes', so all are
  sized_journal_arrived : IsHistoryInSizes s (xs ++ j) → n ≤ s.processors
  sized_journal_arrived within = elim (cases_lt 0 n) [
    | inr none ↦ omega arith
    | inl some ↦
        (let p = n - 1 in
        let lt : p < n = omega arith in
        let long = opening.long in
        let at = slice_get-append_left xs j p (omega arith) ∙ opening.each p lt in
        let low = (within p (event p Arrive) at).processor in
        omega arith)
  ]

-- a history of a journal is within the sizes just where the journal is
pub sized_journal_if_within : (s : Sizes) (log : Log) (h : List Event) → IsJournalHistory log h → AreStreamedSizes s
    → IsHistoryInSizes s h → IsHistoryOfSizes s log
sized_journal_if_within s log h x judged within =
    let all = subst (IsHistoryInSizes s) x.whole within in
    record {
      judged = judged;
      processors = sized_journal_arrived s (journal_history_arrivals log) x.front x.opening log.events all;
      within = sized_journal_rest s (journal_history_arrivals log) x.front x.opening log.events all;
    }

pub sized_journal_within : (s : Sizes) (log : Log) (h : List Event) → IsJournalHistory log h → IsHistoryOfSizes s log
    → IsHistoryInSizes s h
sized_journal_within s log h x fits =
    subst (IsHistoryInSizes s) (sym x.whole)
    (sized_journal_front s (journal_history_arrivals log) x.front x.opening log.events fits.processors fits.within)
