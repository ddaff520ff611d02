use Rattle.std.proofs.Common.{false, sym, ◌∙◌, arith}
use Rattle.std.proofs.lemmas.Bool.{false≢true}
use Rattle.std.proofs.lemmas.List.{get_or_past}
use Rattle.explore.proofs.state.waits.Waiting.is_set.Goals as goal

pub returns-else-flag-lt-MOST_FLAGS : goal.returns-else-flag-lt-MOST_FLAGS
returns-else-flag-lt-MOST_FLAGS c = λ j tells.
    let past = c.if-flag-lt-MOST_FLAGS.false in
    let long = tells.flags_long in
    let none = get_or_past c.args.self.now.flags c.args.flag false (omega (arith, past, long)) in
    ((λ is. absurd (grind (arith, past, is))), (λ set. absurd (false≢true (sym none ∙ (tells.flags c.args.flag).1 set))))
