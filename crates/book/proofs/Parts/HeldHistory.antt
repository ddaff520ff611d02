-- What the journal has to do with the history of which it holds what is left. Nothing else opens `HoldsRepresentedHistory`.
use Rattle.std.proofs.Common.{ℕ, ◌+◌, ◌^◌, ◌<◌, ◌≤◌, ◌++◌, List, [], length, take, refl, ap, ◌∙◌, append_assoc, length-append, arith}
use Rattle.base.specs.Limits.{most_events, most_cut}
use Rattle.journal.specs.declared.event.Event.{Event}
use Rattle.journal.specs.Log.{Log}
use Rattle.journal.specs.Sizes.{Sizes}
use Rattle.journal.specs.WellFormed.{WellFormed}
use Rattle.journal.specs.JournalCuts.{JournalWasCut}
use Rattle.journal.specs.HistoryLaws.{HistoryLawSizes}
use Rattle.journal.proofs.Journals.HistoryAfterCut.{history_after_no_cut_law, history_after_cut_law}
use Rattle.book.specs.Transitions.{transition_appended, transition_new_book}
use Rattle.book.specs.RepresentedHistory.{HoldsRepresentedHistory}

-- the history has no more events than this: as many as may have been cut off, and the journal's
abbrev pub held_history_happened : Log → ℕ
held_history_happened log = most_cut + length log.events

-- the journal of an empty book holds the empty history
pub held_history_new : (s : Sizes) → HoldsRepresentedHistory (transition_new_book s).journal []
held_history_new s = record
    { taken = []; rest = history_after_no_cut_law (transition_new_book s).journal [] (record { whole = refl; history = refl }) }

-- a journal that goes on holds the history that goes on
pub held_history_longer : (log : Log) (h es : List Event) → HoldsRepresentedHistory log h → HoldsRepresentedHistory (transition_appended log es) (h ++ es)
held_history_longer log h es holds = record {
  taken = holds.taken;
  rest = record {
    history = ap (λ (xs : List Event). xs ++ es) holds.rest.history ∙ append_assoc holds.taken log.events es;
    base = holds.rest.base;
    few = holds.rest.few;
  };
}

-- its room is no matter
pub held_history_room : (log : Log) (h : List Event) (room : ℕ) → HoldsRepresentedHistory log h → HoldsRepresentedHistory (record log { room = room }) h
held_history_room log h room holds = record {
  taken = holds.taken;
  rest = record { history = holds.rest.history; base = holds.rest.base; few = holds.rest.few };
}

-- nor is a cut: it holds the same history
pub held_history_cut : (s : Sizes) (h : List Event) (old new : Log) → HistoryLawSizes s old → WellFormed s h → HoldsRepresentedHistory old h
    → JournalWasCut old new → HoldsRepresentedHistory new h
held_history_cut s h old new of well holds was = record {
  taken = holds.taken ++ take was.taken old.events;
  rest = history_after_cut_law s old new holds.taken h of well holds.rest was;
}

pub held_history_long : (log : Log) (h : List Event) → HoldsRepresentedHistory log h → length h ≤ held_history_happened log
held_history_long log h holds =
    let long = ap (λ (es : List Event). length es) holds.rest.history ∙ length-append holds.taken log.events in
    let cut = holds.rest.base.after.cut in
    let few = holds.rest.few in
    omega arith

-- where the journal has room within its limit, a number of events of the history is a number of 64 bits
pub held_history_happened_fits : (log : Log) (owing : ℕ) → length log.events + owing ≤ most_events + 2 ^ 12
    → held_history_happened log + 1 < 2 ^ 64
held_history_happened_fits log owing few = omega arith
