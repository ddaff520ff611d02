use Rattle.std.proofs.Common.{◌<◌, refl, subst, sym, ◌∙◌}
use Rattle.std.proofs.lemmas.Bool.{false≢true}
use Rattle.std.proofs.lemmas.Option.{none-some}
use Rattle.journal.specs.declared.event.Kind.{Kind}
use Rattle.judge.specs.Why.{WhyWaitsFor}
use Rattle.explore.proofs.Enabled.{enabled_idle_may_follow, enabled_waiting_may_follow, enabled_only_awaited}
use Rattle.explore.proofs.state.waits.Waiting.may_follow.Goals as goal

pub returns-then-is_same_waiting_kind : goal.returns-then-is_same_waiting_kind
returns-then-is_same_waiting_kind c = λ s j many range tells.
    let p = c.args.processor in
    let k = c.args.kind in
    let waits =
    subst (WhyWaitsFor j p) (c.if-is_same_waiting_kind.ensures.0 refl) ((c.of.ensures j tells c.in-Some.awaited).0 c.in-Some.is) in
    let within = subst (λ n. p < n) (sym many) c.requires.processor in
    let come = c.has_come.ensures s j many tells waits in
    let follows = enabled_waiting_may_follow s j p k within range waits in
    ((λ yes. follows.0 (come.0 yes)), (λ may. come.1 (follows.1 may)))

pub returns-else-is_same_waiting_kind : goal.returns-else-is_same_waiting_kind
returns-else-is_same_waiting_kind c = λ s j many range tells. (
  λ yes. absurd (false≢true (sym c.if-is_same_waiting_kind.false ∙ yes)),
  λ may. c.is_same_waiting_kind.ensures.1
      (enabled_only_awaited s j c.args.processor c.in-Some.awaited c.args.kind
      ((c.of.ensures j tells c.in-Some.awaited).0 c.in-Some.is) may),
)

pub returns-in-None : goal.returns-in-None
returns-in-None c = λ s j many range tells.
    let p = c.args.processor in
    let idle : (b : Kind) → ¬ WhyWaitsFor j p b = λ b waits. none-some b (sym c.in-None.is ∙ (c.of.ensures j tells b).1 waits) in
    let within = subst (λ n. p < n) (sym many) c.requires.processor in
    let begins = c.may_begin.ensures s j tells idle in
    let follows = enabled_idle_may_follow s j p c.args.kind within range idle in
    ((λ yes. follows.0 (begins.0 yes)), (λ may. begins.1 (follows.1 may)))
