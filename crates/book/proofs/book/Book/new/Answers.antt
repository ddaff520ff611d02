use Rattle.std.proofs.Common.{refl, ◌∙◌}
use Rattle.book.proofs.book.Book.new.Goals as goal

pub returns : goal.returns
returns c =
    let history = c.in_ok-journal.ensures in
    let idle = c.in_ok-times.ensures in
    let unused = c.in_ok-locks.ensures in
    c.in_ok-new.ensures.ok ∙ rw (
      history.journal,
      history.closed,
      idle.times,
      idle.awaits,
      unused.processors,
      unused.locks,
      unused.flags,
      unused.transit,
      c.new-barrier.ensures.value,
    ) refl
