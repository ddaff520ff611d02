use Rattle.std.proofs.Common.{inl, inr}
use Rattle.explore.proofs.text.unranked_locks.note_text_asks_for.Goals as goal

pub loop-held-init : goal.loop-held-init
loop-held-init c = λ x has. inl has

pub loop-held-preserved : goal.loop-held-preserved
loop-held-preserved c = λ x has. elim (c.in_ok-note_text_ask_holding.ensures x has) [
  | inl before ↦ c.loop-held.invariant x before
  | inr now ↦ inr now
]

pub returns : goal.returns
returns c = c.loop-held.invariant
