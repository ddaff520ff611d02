use Rattle.std.proofs.Common.{rules, List, filter, map, Bor, ap, arith, ◌∙◌}
use Rattle.std.specs.List.{flat_map}
use Rattle.std.proofs.lemmas.List.{take_all}
use Rattle.std.proofs.lemmas.List.Sorted.{IsNonDecreasingBy-from_sort_by_key}
use Rattle.interval.specs.declared.interval.KeptInterval.{KeptInterval}
use Rattle.interval.specs.KeptClosings.{kept_closing_sent_interval, is_news_of_kept_closings}
use Rattle.interval.proofs.Records.ReadItems.{ReadsItem}
use Rattle.interval.proofs.Queues.Merged.{MergedQueuesHold}
use Rattle.interval.proofs.News.Gathered.{gathered_records_sent, gathered_sent_more, gathered_news_rise}
use Rattle.interval.proofs.News.InClosingOrder.{closing_order_between}
use Rattle.interval.proofs.Order.SortedPlaces.{sorted_places_all}
use Rattle.interval.proofs.closed.Closed.between_and_more.Goals as goal

abbrev kept : Bor KeptInterval → KeptInterval
kept k = k.now

pub loop-kept-init : goal.loop-kept-init
loop-kept-init c = c.in_ok-sent.ensures.items

pub loop-kept-preserved : goal.loop-kept-preserved
loop-kept-preserved c =
    let read : ReadsItem c.deref-kept-items.result.now c.loop-kept.kept-index c.kept-item.result =
    record { inside = c.loop-kept-test.true; is = c.kept-item.is } in
    gathered_sent_more kept read c.loop-kept.invariant c.in_ok-send.ensures

pub returns-clause-value : goal.returns-clause-value
returns-clause-value c =
    let sorted = IsNonDecreasingBy-from_sort_by_key (λ (k : Bor KeptInterval). k.now.place) _
    c.sort_unstable_by_key.ensures.sorted (λ a r q k. search rules) in
    let hold : MergedQueuesHold c.self.inside.queues.items c.self.inside.pushed c.args.self.now =
    record { seen = c.self.view_is; are = c.self.invariant } in
    let all =
    sorted_places_all kept _ c.in_ok-news.news.items c.sort_unstable_by_key.new.self.items
    (gathered_news_rise hold c.args.old.now c.args.new.now) c.in_ok-news.ensures c.sort_unstable_by_key.ensures.permutation sorted in
    c.loop-kept.invariant
    ∙ ap (λ (ks : List (Bor KeptInterval)). flat_map kept_closing_sent_interval (map kept ks))
    (take_all c.loop-kept.kept-index c.deref-kept-items.result.now (omega arith) ∙ c.deref-kept-items.ensures.value)
    ∙ ap (flat_map kept_closing_sent_interval) all
    ∙ gathered_records_sent (filter (is_news_of_kept_closings c.args.old.now c.args.new.now) c.args.self.now.kept)

pub returns-clause-in_order : goal.returns-clause-in_order
returns-clause-in_order c =
    let hold : MergedQueuesHold c.self.inside.queues.items c.self.inside.pushed c.args.self.now =
    record { seen = c.self.view_is; are = c.self.invariant } in
    closing_order_between hold c.args.old.now c.args.new.now (returns-clause-value c)
