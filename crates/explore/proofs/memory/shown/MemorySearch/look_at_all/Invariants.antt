use Rattle.lrc_script.specs.Plan.{plan_of}
use Rattle.conformance.specs.declared.script_runner.LockChoice.TheVariants.{Ticket}
use Rattle.explore.specs.MemoryShown.{IsMemoryShown}
use Rattle.explore.proofs.memory.shown.MemorySearch.look_at_all.Given as goal

abbrev pub invariant-loop : goal.invariant-loop
invariant-loop g l =
    IsMemoryShown (λ s turns end. g.T.ScriptRunner.followed s Ticket turns end) (plan_of l.fn.script) l.fn.detail l.fn.self.shown
    → IsMemoryShown (λ s turns end. g.T.ScriptRunner.followed s Ticket turns end) (plan_of l.fn.script) l.fn.detail l.self.shown
