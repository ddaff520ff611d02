use Rattle.std.proofs.Common.{◌≡◌, ◌∙◌, map}
use Rattle.std.specs.Arc.{arc_value}
use Rattle.book.proofs.Calling.IdleCalls.{idle_call_interval_open, idle_call_still_open}
use Rattle.book.proofs.book.Book.watch.Goals.{After-deref_mut-parts}
use Rattle.book.proofs.book.Book.watch.Goals as goal

-- the parts hold the book as it is found
same : (c : After-deref_mut-parts) → c.deref_mut-parts.result.now ≡ c.args.self.now
same c = c.deref_mut-parts.ensures.value ∙ c.self.view_is

pub open_interval-interval-requires : goal.open_interval-interval-requires
open_interval-interval-requires c =
    idle_call_interval_open c.deref_mut-parts.result.now c.args.self.now c.args.processor c.args.block.now
    (same (goal.at.open_interval-interval-requires c).After-deref_mut-parts) c.requires.call

pub close-requires-clause-open : goal.close-requires-clause-open
close-requires-clause-open c =
    idle_call_still_open c.deref_mut-parts.result.now c.args.processor c.open_interval-interval.result
    (map arc_value c.args.records.items) c.open_interval-interval.ensures
