use Rattle.std.proofs.Common.{◌≡◌, ap, sym, slice_index_or, ◌∙◌, arith}
use Rattle.std.specs.Prelude.{None}
use Rattle.std.proofs.lemmas.List.{get_or_past}
use Rattle.std.proofs.lemmas.Option.{none-some}
use Rattle.explore.specs.WaitCodes.{wait_code_holder, wait_code_nobody}
use Rattle.explore.proofs.state.waits.Waiting.holder.Goals as goal

pub returns-then-lock-lt-MOST_LOCKS : goal.returns-then-lock-lt-MOST_LOCKS
returns-then-lock-lt-MOST_LOCKS c = λ j tells q.
    let same = c.processor.ensures in
    ((λ is. (tells.holders c.args.lock q).0 (sym same ∙ is)), (λ holds. same ∙ (tells.holders c.args.lock q).1 holds))

pub returns-else-lock-lt-MOST_LOCKS : goal.returns-else-lock-lt-MOST_LOCKS
returns-else-lock-lt-MOST_LOCKS c = λ j tells q.
    let past = c.if-lock-lt-MOST_LOCKS.false in
    let long = tells.holders_long in
    let nobody : wait_code_holder (slice_index_or c.args.self.now.holders c.args.lock wait_code_nobody) ≡ None =
    ap wait_code_holder (get_or_past c.args.self.now.holders c.args.lock wait_code_nobody (omega (arith, past, long))) in
    ((λ is. absurd (none-some q is)), (λ holds. absurd (none-some q (sym nobody ∙ (tells.holders c.args.lock q).1 holds))))
