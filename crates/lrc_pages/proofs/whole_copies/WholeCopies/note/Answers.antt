use Rattle.std.proofs.Common.{sym, ◌∙◌}
use Rattle.lrc_pages.proofs.CopiesWhole.{whole_copies_on, whole_copies_taken}
use Rattle.lrc_pages.proofs.whole_copies.WholeCopies.note.Goals as goal

pub returns-then-takes_by_kind-clause-whole : goal.returns-then-takes_by_kind-clause-whole
returns-then-takes_by_kind-clause-whole c = λ s h were.
    whole_copies_taken s h c.args.event c.args.self.now c.take.new.self c.take.ensures.taken were

pub returns-else-takes_by_kind-clause-whole : goal.returns-else-takes_by_kind-clause-whole
returns-else-takes_by_kind-clause-whole c = λ s h were.
    whole_copies_on s h c.args.event c.args.self.now (sym c.takes_by_kind.ensures ∙ c.if-takes_by_kind.false) were
