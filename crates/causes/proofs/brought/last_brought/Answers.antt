use Rattle.std.proofs.Common.{◌≡◌, ◌<◌, subst, arith}
use Rattle.causes.specs.FetchedOrigins.{FetchedOriginLastApplied}
use Rattle.causes.proofs.BroughtStores.{BroughtStoreAppliedUpTo, brought_store_applied_next, brought_store_applied_start}
use Rattle.causes.proofs.brought.last_brought.Goals as goal

pub loop-by-init : goal.loop-by-init
loop-by-init c = λ s j looked fetch page. brought_store_applied_start s j c.args.fetch.now.reader c.args.address c.args.fetch.now.place

pub loop-by-preserved : goal.loop-by-preserved
loop-by-preserved c = λ s j looked fetch page.
    let x : BroughtStoreAppliedUpTo s j c.args.fetch.now.reader c.args.address c.args.fetch.now.place c.loop-by.by c.loop-by.last
    c.brought_by.result c.later_brought-last.result =
    record {
      later = c.later_brought-last.ensures;
      below = c.loop-by.invariant s j looked fetch page;
      own = c.brought_by.ensures s j looked fetch page;
    } in
    brought_store_applied_next c.loop-by.last c.brought_by.result c.later_brought-last.result x

pub returns : goal.returns
returns c = λ s j looked fetch page.
    let end = c.loop-by-test.false in
    let top = c.loop-by.auto.by-end in
    let is : c.loop-by.by ≡ 16 = omega arith in
    subst (λ n. FetchedOriginLastApplied s j c.args.fetch.now.reader c.args.address c.args.fetch.now.place (λ q. q < n) c.loop-by.last) is
    (c.loop-by.invariant s j looked fetch page)
