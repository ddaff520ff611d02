use Rattle.std.proofs.Common.{◌≡◌, List, take, ◌++◌}
use Rattle.journal.specs.declared.event.Event.{Event}
use Rattle.lrc_check.specs.HistoryJudge.{IsHistoryJudgeOf, IsNextPartOfHistory}
use Rattle.lrc_check.proofs.history_judge.HistoryJudge.read_all.Given as goal

-- the events so far were judged
abbrev pub invariant-loop-at : goal.invariant-loop-at
invariant-loop-at l = record {
  judged : (j : List Event) → IsNextPartOfHistory j l.events l.fn.self → IsHistoryJudgeOf (j ++ take l.at l.events) l.self;
  rules : l.self.rules ≡ l.fn.self.rules;
  sizes : l.self.judge.sizes ≡ l.fn.self.judge.sizes;
}
