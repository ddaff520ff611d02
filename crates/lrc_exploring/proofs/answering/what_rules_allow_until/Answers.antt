use Rattle.std.proofs.Common.{subst}
use Rattle.explore.specs.AllowedUntil.{IsAllowedUntil}
use Rattle.lrc_script.specs.Plan.{plan_of}
use Rattle.explore.specs.MemoryShown.{IsMemoryShown}
use Rattle.conformance.specs.declared.script_runner.LockChoice.TheVariants.{Ticket}
use Rattle.lrc_exploring.proofs.answering.what_rules_allow_until.Goals as goal

pub returns-in-Ok-clause-allowed : goal.returns-in-Ok-clause-allowed
returns-in-Ok-clause-allowed g c =
    let o = c.args.options.now in
    let s = plan_of c.args.script.now in
    subst (λ d. IsAllowedUntil s d o.until.items o.most c.in_ok-allowed.allowed) c.explore_detail-detail.ensures
    (subst (λ ws. IsAllowedUntil s c.explore_detail-detail.result ws o.most c.in_ok-allowed.allowed) c.deref.ensures.value c.in_ok-allowed.ensures)

pub returns-in-Ok-clause-shown : goal.returns-in-Ok-clause-shown
returns-in-Ok-clause-shown g c =
    subst (λ d. IsMemoryShown (λ s turns end. g.T.ScriptRunner.followed s Ticket turns end) (plan_of c.args.script.now) d c.in-Ok.shown)
    c.explore_detail-detail.ensures c.in-Ok.ensures
