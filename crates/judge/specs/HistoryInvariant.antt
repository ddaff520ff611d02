-- What contracts see of a history, and what is true of each.
use Rattle.judge.specs.declared.history.History.TheInside.{Inside}
use Rattle.judge.specs.SizedHistory.{IsSizedHistory, SizedHistory}

abbrev pub history_invariant_seen : Inside → SizedHistory
history_invariant_seen h = record { sizes = h.sizes; cut = h.cut; opening = h.opening; events = h.events.now }

abbrev pub HistoryInvariant : Inside → Type 0
HistoryInvariant h = IsSizedHistory (history_invariant_seen h)
