use Rattle.std.proofs.Common.{◌≡◌, List, Some, length, slice_get, subst, sym, refl, ◌∙◌, arith}
use Rattle.std.specs.Global.{Vec}
use Rattle.std.proofs.lemmas.Option.{none-some}
use Rattle.judge.specs.declared.sizes.Sizes.{Sizes as Given}
use Rattle.judge.specs.Miscounted.{IsEventInSizes}
use Rattle.judge.specs.JudgedSizes.{judged_sizes_of}
use Rattle.causes.specs.declared.event_dues.Due.{Due}
use Rattle.causes.specs.Dues.{AreAllDues, AreDues}
use Rattle.causes.proofs.DueSpans.{due_span_rows_next}
use Rattle.causes.proofs.event_dues.all_dues.Goals as goal

pub loop-place-init : goal.loop-place-init
loop-place-init c = record {
  tells = c.requires.start;
  sizes = refl;
  long = c.in_ok-rows.ensures.len;
  rows = λ k e row here at.
      absurd (none-some row
      (subst (λ (rows : List (Vec Due)). slice_get rows k ≡ Some row) c.in_ok-rows.ensures.items at));
}

pub dues_at-requires : goal.dues_at-requires
dues_at-requires c =
    let old = c.loop-place.invariant in
    record {
      few = c.requires.few;
      place = c.loop-place-test.true;
      within = λ k e at.
          subst (λ (x : Given). IsEventInSizes (judged_sizes_of x) e) (sym old.sizes) (c.requires.within k e at);
      so_far = old.tells;
    }

pub loop-place-preserved : goal.loop-place-preserved
loop-place-preserved c =
    let events = c.args.events.now in
    let place = c.loop-place.place in
    let old = c.loop-place.invariant in
    let rows = c.loop-place.rows in
    let row = c.in_ok-dues_at.field-0 in
    let long : length rows.items ≡ place = omega (arith, rows.ok.0, old.long) in
    record {
      tells = c.in_ok-dues_at.ensures.tells;
      sizes = c.dues_at.ensures.sizes ∙ old.sizes;
      long = (let len = c.in_ok-push.ensures.len in let was = old.long in omega arith);
      rows =
          subst (AreAllDues (judged_sizes_of c.args.gaps.now.sizes) events) (sym c.in_ok-push.ensures.items)
          (due_span_rows_next (judged_sizes_of c.args.gaps.now.sizes) events rows.items place row long old.rows
          (λ e at. subst (λ (x : Given). AreDues (judged_sizes_of x) events place e row.items) old.sizes
          (c.in_ok-dues_at.ensures.dues e at)));
    }

pub returns-clause-dues : goal.returns-clause-dues
returns-clause-dues c = c.loop-place.invariant.rows
