use Rattle.std.proofs.Common.{◌∙◌}
use Rattle.std.proofs.lemmas.Option.{slice_get-get_or}
use Rattle.lrc_tester.proofs.EventsNoted.{events_noted_more, events_noted_stray_at}
use Rattle.lrc_tester.proofs.following.first_stray.Goals as goal

pub returns-then-not-take_with_ask-clause-stray : goal.returns-then-not-take_with_ask-clause-stray
returns-then-not-take_with_ask-clause-stray c s are start =
    events_noted_stray_at s c.args.events.now c.loop-place.place c.calls_made-made.result c.loop-place.come _
    (slice_get-get_or c.args.events.now c.loop-place.place _ c.loop-place-test.true)
    (c.loop-place.invariant.come s are start)
    (c.if-not-take_with_ask.ensures.noted s _ are (c.loop-place.invariant.come s are start))
    c.calls_made-made.ensures

pub loop-place-preserved : goal.loop-place-preserved
loop-place-preserved c = record {
  long = c.if-not-take_with_ask.ensures.long ∙ c.loop-place.invariant.long;
  come = λ s are start.
      events_noted_more s c.args.events.now c.loop-place.place c.take_with_ask.new.come _
      (slice_get-get_or c.args.events.now c.loop-place.place _ c.loop-place-test.true)
      (c.if-not-take_with_ask.ensures.noted s _ are (c.loop-place.invariant.come s are start));
}
