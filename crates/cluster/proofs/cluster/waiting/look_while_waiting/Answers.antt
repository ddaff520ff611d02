use Rattle.std.proofs.Common.{true≢false, sym, ◌∙◌}
use Rattle.cluster.proofs.cluster.waiting.look_while_waiting.Goals as goal

pub returns-then-is_ready-clause-stuck : goal.returns-then-is_ready-clause-stuck
returns-then-is_ready-clause-stuck c s h told = (
  λ is. absurd (cc is),
  λ dead. absurd (dead.not_ready c.args.p ((c.is_ready.ensures s h told).0 c.if-is_ready.true)),
)

pub is_deadlocked-requires : goal.is_deadlocked-requires
is_deadlocked-requires c = record { told = c.requires.call.take.by }

pub returns-then-are_idle-clause-deserted : goal.returns-then-are_idle-clause-deserted
returns-then-are_idle-clause-deserted c s h told said ready =
    true≢false (sym ((c.is_ready.ensures s h told).1 ready) ∙ c.if-is_ready.false)
