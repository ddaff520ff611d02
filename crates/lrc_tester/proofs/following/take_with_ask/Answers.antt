use Rattle.std.proofs.Common.{None, [], ◌∷◌, subst, sym}
use Rattle.std.proofs.lemmas.Option.{slice_get-get_or}
use Rattle.lrc_tester.specs.Following.{IsEventNoted}
use Rattle.lrc_tester.proofs.EventsNoted.{events_noted_outside_ask, events_noted_put_in, events_noted_put_in_none}
use Rattle.lrc_tester.proofs.following.take_with_ask.Goals as goal

pub returns-then-event-come-clause-noted : goal.returns-then-event-come-clause-noted
returns-then-event-come-clause-noted c s g rows old = events_noted_outside_ask s c.args.come.now g c.args.event c.if-event-come.true old

pub returns-in-Some-clause-noted : goal.returns-in-Some-clause-noted
returns-in-Some-clause-noted c s g rows old =
    subst (λ h. IsEventNoted s c.take_both.new.come h c.take_both.result)
    (sym (events_noted_put_in s c.args.come.now _ g c.args.event (c.in-Some.kind ∷ [])
    (slice_get-get_or c.args.come.now c.args.event.processor (record { made = 0; reply = 0; last = None }) c.if-event-come.false) old c.in-Some.ensures))
    (c.take_both.ensures.noted s g rows old)

pub returns-in-None-clause-noted : goal.returns-in-None-clause-noted
returns-in-None-clause-noted c s g rows old =
    subst (λ h. IsEventNoted s c.take_note.new.come h c.take_note.result)
    (sym (events_noted_put_in_none s c.args.come.now _ g c.args.event
    (slice_get-get_or c.args.come.now c.args.event.processor (record { made = 0; reply = 0; last = None }) c.if-event-come.false) old c.in-None.ensures))
    (c.take_note.ensures.noted s g rows old)
