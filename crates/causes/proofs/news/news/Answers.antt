use Rattle.std.proofs.Common.{◌≡◌, ℕ, subst, arith}
use Rattle.std.proofs.lemmas.List.Sorted.{IsNonDecreasingBy-from_sort}
use Rattle.causes.proofs.FreshNews.{AreFreshNewsBelow, fresh_news_sorted_all, fresh_news_next_processor}
use Rattle.causes.proofs.news.news.Goals as goal

pub loop-by-preserved : goal.loop-by-preserved
loop-by-preserved c =
    fresh_news_next_processor c.args.events.now c.args.step.now c.loop-by.by c.loop-by.places.items c.add_news.new.places.items
    c.loop-by.invariant c.in_ok-add_news.ensures.has c.in_ok-add_news.ensures.once

pub returns : goal.returns
returns c =
    let end = c.loop-by-test.false in
    let top = c.loop-by.auto.by-end in
    let is : c.loop-by.by ≡ c.args.processors = omega arith in
    let whole = subst (λ n. AreFreshNewsBelow c.args.events.now c.args.step.now n c.loop-by.places.items) is c.loop-by.invariant in
    fresh_news_sorted_all c.sort_unstable.new.self.items c.requires.processors c.requires.step whole c.sort_unstable.ensures.permutation
    (IsNonDecreasingBy-from_sort (λ (x : ℕ). x) c.sort_unstable.new.self.items c.sort_unstable.ensures.sorted)
