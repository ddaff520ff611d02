use Rattle.std.proofs.Common.{◌≤◌, ℕ, length, sym, ap, ◌∙◌, arith, below_more}
use Rattle.std.proofs.lemmas.Option.{slice_get-get_or, slice_get_within, same_Some}
use Rattle.journal.specs.declared.event.Event.{Event}
use Rattle.journal.specs.declared.event.Kind.TheVariants.{Load}
use Rattle.journal.specs.DidEvent.{event}
use Rattle.journal.specs.Events.{EventAt}
use Rattle.lrc_picture.specs.Label.{picture_label_text}
use Rattle.lrc_picture.proofs.Lanes.{lane_event_at}
use Rattle.lrc_picture.proofs.label.widest_picture_label.Goals as goal

pub loop-event-preserved : goal.loop-event-preserved
loop-event-preserved c =
    let events = c.args.events.now in
    let i = c.loop-event.event-index in
    let old = c.loop-event.invariant in
    let most = c.greater-most.result in
    let at = slice_get-get_or events i (event 0 (Load 0 0)) c.loop-event-test.true in
    let text = ap length c.in_ok-text.ensures.text in
    let bytes = ap length c.as_bytes.ensures.value in
    let P : ℕ → Type 0 = λ k. (e : Event) → EventAt events k e → length (picture_label_text e.kind) ≤ most in
    record {
      fits =
          below_more P i (λ k lt e there. omega (arith, old.fits k lt e there, c.greater-most.ensures.first))
          (λ e there.
          let same = ap (λ (x : Event). length (picture_label_text x.kind)) (same_Some (lane_event_at events i) e (sym at ∙ there)) in
          omega (arith, same, text, bytes, c.greater-most.ensures.second));
      short = c.greater-most.ensures.least 96 old.short (omega (arith, bytes, c.in_ok-text.ensures.short));
    }

pub returns-clause-fits : goal.returns-clause-fits
returns-clause-fits c = λ k e at.
    let events = c.args.events.now in
    let within = slice_get_within events k e at in
    let end = c.loop-event-test.false in
    c.loop-event.invariant.fits k (omega arith) e at
