use Rattle.std.proofs.Common.{true≢false, refl, sym, ◌∙◌}
use Rattle.cluster.proofs.PreparingRoom.{prepared_room_never_late}
use Rattle.cluster.proofs.cluster.taking.take_from_book.Goals as goal

pub returns-then-not-is_ready-clause-absent : goal.returns-then-not-is_ready-clause-absent
returns-then-not-is_ready-clause-absent c s h told =
    let is = c.is_ready.ensures s h told in
    ((λ e ready. absurd (true≢false (sym (is.1 ready) ∙ c.if-not-is_ready.true))), (λ late. refl))

pub take_ready_from_book-requires-clause-ready : goal.take_ready_from_book-requires-clause-ready
take_ready_from_book-requires-clause-ready c s h told = (c.is_ready.ensures s h told).0 c.if-not-is_ready.false

pub returns-clause-absent : goal.returns-clause-absent
returns-clause-absent c s h told =
    let ready = (c.is_ready.ensures s h told).0 c.if-not-is_ready.false in (
      λ is. absurd (prepared_room_never_late c.take_ready_from_book.result c.take_ready_from_book.ensures.only is),
      λ late. absurd (late ready),
    )
