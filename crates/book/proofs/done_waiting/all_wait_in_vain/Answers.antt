use Rattle.std.proofs.Common.{Some, ap, ◌∙◌, sym, below_more}
use Rattle.book.proofs.Calling.WaitingPlaces.{WaitsInVainAtPlace, waiting_place_read_at, waiting_place_idle, waiting_place_done_not_vain}
use Rattle.journal.specs.declared.closing_and_awaited.Awaited.{Awaited}
use Rattle.book.proofs.done_waiting.all_wait_in_vain.Goals as goal

pub returns-in_default : goal.returns-in_default
returns-in_default c =
    waiting_place_idle c.args.awaits.now c.args.flags.now c.args.mail.now c.loop-p.p c.loop-p-test.true
    (waiting_place_read_at c.args.awaits.now c.loop-p.p _ c.loop-p-test.true c.in_default.is)

pub mail_has_come-requires-clause-flag : goal.mail_has_come-requires-clause-flag
mail_has_come-requires-clause-flag c f is =
    c.requires.flags c.loop-p.p f
    (waiting_place_read_at c.args.awaits.now c.loop-p.p _ c.loop-p-test.true c.in-Some.is
    ∙ ap (λ (a : Awaited). Some (Some a)) is)

pub returns-then-mail_has_come : goal.returns-then-mail_has_come
returns-then-mail_has_come c =
    waiting_place_done_not_vain c.args.awaits.now c.args.flags.now c.args.mail.now c.loop-p.p c.in-Some.awaited c.loop-p-test.true
    (waiting_place_read_at c.args.awaits.now c.loop-p.p _ c.loop-p-test.true c.in-Some.is)
    (sym c.mail_has_come.ensures ∙ c.if-mail_has_come.true)

pub loop-p-preserved : goal.loop-p-preserved
loop-p-preserved c =
    below_more (WaitsInVainAtPlace c.args.awaits.now c.args.flags.now c.args.mail.now) c.loop-p.p c.loop-p.invariant (
      c.in-Some.awaited,
      waiting_place_read_at c.args.awaits.now c.loop-p.p _ c.loop-p-test.true c.in-Some.is,
      sym c.mail_has_come.ensures ∙ c.if-mail_has_come.false,
    )
