-- What is asked of the event that comes next in a history that is judged.
use Rattle.std.proofs.Common.{◌≡◌, true, List, [], ◌∷◌, ◌++◌}
use Rattle.std.specs.Prelude.{None, is_some}
use Rattle.journal.specs.declared.event.Event.{Event}
use Rattle.lrc_check.specs.declared.history_judge.HistoryJudge.{HistoryJudge}
use Rattle.lrc_check.specs.declared.trace_judge.TraceJudge.{TraceJudge}
use Rattle.lrc_check.specs.HistoryJudge.{ComesNextInHistory, HasJudgedNext}
use Rattle.lrc_check.specs.TraceJudge.{ComesNextToRead, IsTraceJudgeOf}

-- what the judge reads
pub history_next_read : (j : List Event) (x : HistoryJudge) → ComesNextInHistory j x → ComesNextToRead j x.judge
history_next_read j x next = record { judged = next.judged.judged; few = next.few }

-- what is to be kept of the event
pub history_next_kept : {j : List Event} {x : HistoryJudge} {y : TraceJudge} → (e : Event) → ComesNextInHistory j x
    → IsTraceJudgeOf (j ++ e ∷ []) y → y.model ≡ x.judge.model → y.lax ≡ x.judge.lax → y.sizes ≡ x.judge.sizes
    → is_some y.racing ≡ is_some x.judge.racing → (x.rules.ends_at_race ≡ true → y.race ≡ None) → HasJudgedNext j e x.judge (record x { judge = y })
history_next_kept e next now model lax sizes racing unraced = record {
  before = next.judged;
  few = next.few;
  now = now;
  model = model;
  lax = lax;
  sizes = sizes;
  racing = racing;
  unraced = unraced;
}
