use Rattle.std.proofs.Common.{None, get_or, length, refl, sym, ◌∙◌, arith}
use Rattle.std.proofs.lemmas.Option.{slice_get-get_or, slice_get_read}
use Rattle.lrc_tester.proofs.EventsNoted.{events_noted_call, events_noted_fetch, events_noted_stray}
use Rattle.lrc_tester.proofs.following.take_note.Goals as goal

pub returns-then-is_fetch-clause-noted : goal.returns-then-is_fetch-clause-noted
returns-then-is_fetch-clause-noted c s g rows old = events_noted_fetch s c.args.come.now g c.args.event (sym c.is_fetch.ensures ∙ c.if-is_fetch.true) old

pub returns-in-Some-clause-noted : goal.returns-in-Some-clause-noted
returns-in-Some-clause-noted c s g rows old =
    events_noted_call s c.args.rows.now c.args.come.now c.deref.result.now (get_or c.args.come.now c.args.event.processor (record { made = 0; reply = 0; last = None })) c.in-Some.next g c.args.event
    (record {
      rows_are = rows;
      call = sym c.is_fetch.ensures ∙ c.if-is_fetch.false;
      row = c.index-rows-event.result;
      steps_are = c.deref.ensures.value;
      row_at = slice_get_read c.args.rows.now (length c.args.rows.now) c.args.event.processor c.index-rows-event.result refl (omega (arith, c.requires.long, c.requires.inside)) c.index-rows-event.is;
      come_at = slice_get-get_or c.args.come.now c.args.event.processor _ c.requires.inside;
    })
    old c.in-Some.ensures

pub returns-in-None-clause-noted : goal.returns-in-None-clause-noted
returns-in-None-clause-noted c s g rows old =
    events_noted_stray s c.args.rows.now c.args.come.now c.deref.result.now (get_or c.args.come.now c.args.event.processor (record { made = 0; reply = 0; last = None })) g c.args.event
    (record {
      rows_are = rows;
      call = sym c.is_fetch.ensures ∙ c.if-is_fetch.false;
      row = c.index-rows-event.result;
      steps_are = c.deref.ensures.value;
      row_at = slice_get_read c.args.rows.now (length c.args.rows.now) c.args.event.processor c.index-rows-event.result refl (omega (arith, c.requires.long, c.requires.inside)) c.index-rows-event.is;
      come_at = slice_get-get_or c.args.come.now c.args.event.processor _ c.requires.inside;
    })
    old c.in-None.ensures
