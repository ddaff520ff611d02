use Rattle.std.proofs.Common.{◌≡◌, ℕ, ◌+◌, length, subst, sym, ◌∙◌, arith}
use Rattle.std.specs.Global.{Vec}
use Rattle.journal.specs.declared.event.Event.{Event}
use Rattle.journal.specs.Events.{EventAt}
use Rattle.judge.specs.declared.sizes.Sizes.{Sizes as Given}
use Rattle.judge.specs.Miscounted.{IsEventInSizes}
use Rattle.judge.specs.JudgedSizes.{AreJudgedSizes, judged_sizes_of}
use Rattle.causes.specs.declared.written.WrittenWord.{WrittenWord}
use Rattle.causes.specs.FetchedOrigins.{AreOriginsBefore}
use Rattle.causes.specs.EventWrites.{AreAllEventWrites, AreEventWrites}
use Rattle.causes.proofs.Rows.{rows_next}
use Rattle.causes.proofs.written.all_written.Goals as goal

pub written_at-requires-clause-sizes : goal.written_at-requires-clause-sizes
written_at-requires-clause-sizes c =
    let old = c.loop-place.invariant in
    subst (λ (x : Given). AreJudgedSizes (judged_sizes_of x)) old.sizes old.tells.long.sizes

pub written_at-requires-clause-words : goal.written_at-requires-clause-words
written_at-requires-clause-words c =
    subst (λ (x : Given). AreOriginsBefore (judged_sizes_of x) c.args.events.now (c.loop-place.place + 1) c.update_origins.new.words)
    c.loop-place.invariant.sizes c.update_origins.ensures

pub loop-place-preserved : goal.loop-place-preserved
loop-place-preserved c =
    let events = c.args.events.now in
    let s = judged_sizes_of c.args.sizes in
    let place = c.loop-place.place in
    let old = c.loop-place.invariant in
    let rows = c.loop-place.rows in
    let long : length rows.items ≡ place = omega (arith, rows.ok.0, old.long) in
    record {
      tells = c.in_ok-note.ensures.tells;
      sizes = c.note.ensures.sizes ∙ old.sizes;
      words = subst (λ (x : Given). AreOriginsBefore (judged_sizes_of x) events (place + 1) c.update_origins.new.words) old.sizes
          c.update_origins.ensures;
      long = (let len = c.in_ok-push.ensures.len in let was = old.long in omega arith);
      rows =
          subst (AreAllEventWrites s events) (sym c.in_ok-push.ensures.items)
          (rows_next (λ (k : ℕ) (row : Vec WrittenWord). AreEventWrites s events k row.items) rows.items place
          c.in_ok-written_at.field-0 long old.rows c.in_ok-written_at.ensures);
    }

pub note-requires-clause-within : goal.note-requires-clause-within
note-requires-clause-within c =
    subst (λ (x : Given). (k : ℕ) (e : Event) → EventAt c.args.events.now k e → IsEventInSizes (judged_sizes_of x) e)
    (sym c.loop-place.invariant.sizes) c.requires.within
