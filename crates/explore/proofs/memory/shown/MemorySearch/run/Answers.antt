use Rattle.std.proofs.Common.{ℕ, List, Option, IfSome, inl, inr, sym, subst}
use Rattle.lrc_script.specs.Plan.{plan_of}
use Rattle.conformance.specs.declared.script_runner.LockChoice.TheVariants.{Ticket}
use Rattle.explore.specs.declared.outcomes.answer.ScriptOutcome.{ScriptOutcome}
use Rattle.explore.specs.Explored.{explored_outcome}
use Rattle.explore.specs.MemoryShown.{IsShownBySchedule}
use Rattle.explore.proofs.memory.shown.MemorySearch.run.Goals as goal

pub returns-in_ok-add-in-Some : goal.returns-in_ok-add-in-Some
returns-in_ok-add-in-Some g c =
    let shows : List ℕ → List (List ℕ) → Type 0 =
    IsShownBySchedule (λ s turns end. g.T.ScriptRunner.followed s Ticket turns end) (plan_of c.args.script.now) c.args.detail in
    let found : Option ScriptOutcome → Type 0 = λ x. IfSome x (λ outcome. shows c.args.schedule.turns.items (explored_outcome outcome)) in
    let shown : shows c.args.schedule.turns.items (explored_outcome c.in-Some.outcome) = subst found c.in-Some.is c.in_ok-outcome.ensures in
    λ before o t has. elim (c.in_ok-add-in-Some.ensures o t has) [
      | inl old ↦ before o t old
      | inr new ↦ subst (shows t.turns.items) (sym new.0) (subst (λ u. shows u.turns.items (explored_outcome c.in-Some.outcome)) (sym new.1) shown)
    ]
