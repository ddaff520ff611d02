use Rattle.std.proofs.Common.{◌≡◌, ℕ, List, Some, length, slice_get, subst, sym, ◌∙◌, arith}
use Rattle.std.specs.Global.{Vec}
use Rattle.std.proofs.lemmas.Option.{none-some}
use Rattle.journal.specs.EventsInRange.{EventProcessorsInRange}
use Rattle.causes.specs.News.{AreIncomingNews, AreNewsRising}
use Rattle.causes.proofs.Rows.{rows_next}
use Rattle.causes.proofs.news.all_news.Goals as goal

pub loop-place-init : goal.loop-place-init
loop-place-init c = record {
  cuts = c.requires.start;
  present = c.requires.present;
  long = c.in_ok-rows.ensures.len;
  rows = λ k row at.
      absurd (none-some row
      (subst (λ (rows : List (Vec ℕ)). slice_get rows k ≡ Some row) c.in_ok-rows.ensures.items at));
}

pub next_step-requires : goal.next_step-requires
next_step-requires c =
    let old = c.loop-place.invariant in
    record {
      place = c.loop-place-test.true;
      few = c.requires.few;
      processors = subst (λ n. EventProcessorsInRange n c.args.events.now) (sym old.present) c.requires.processors;
      so_far = old.cuts;
    }

pub news-requires : goal.news-requires
news-requires c = record {
  few_processors = (let few = c.requires.start.long.few in let present = c.requires.present in omega arith);
  processors = c.requires.processors;
  index = c.requires.index;
  step = c.in_ok-step.ensures.step;
}

pub loop-place-preserved : goal.loop-place-preserved
loop-place-preserved c =
    let events = c.args.events.now in
    let place = c.loop-place.place in
    let old = c.loop-place.invariant in
    let rows = c.loop-place.rows in
    let row = c.in_ok-news.field-0 in
    let long : length rows.items ≡ place = omega (arith, rows.ok.0, old.long) in
    record {
      cuts = c.in_ok-step.ensures.cuts;
      present = c.in_ok-step.ensures.present ∙ old.present;
      long = (let len = c.in_ok-push.ensures.len in let was = old.long in omega arith);
      rows =
          subst (AreIncomingNews events)
          (sym c.in_ok-push.ensures.items)
          (rows_next (λ (k : ℕ) (xs : Vec ℕ). AreNewsRising events k xs.items) rows.items place row long old.rows
          (subst (λ n. AreNewsRising events n row.items) c.in_ok-step.ensures.place c.in_ok-news.ensures));
    }

pub returns-clause-long : goal.returns-clause-long
returns-clause-long c =
    let over = c.loop-place-test.false in
    let top = c.loop-place.auto.place-end in
    let long = c.loop-place.invariant.long in
    omega arith

pub returns-clause-news : goal.returns-clause-news
returns-clause-news c = c.loop-place.invariant.rows
