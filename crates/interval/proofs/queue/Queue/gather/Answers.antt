use Rattle.std.proofs.Common.{◌≡◌, ◌-◌, ◌+◌, ◌++◌, ◌∷◌, [], ℕ, List, map, filter, take, Bor, Vec, Global, sym, ap, arith, ◌∙◌}
use Rattle.std.proofs.lemmas.List.{append-nil, map-append, take_all}
use Rattle.interval.specs.declared.interval.KeptInterval.{KeptInterval}
use Rattle.interval.specs.KeptClosings.{kept_closing_has_records}
use Rattle.interval.specs.IntervalQueues.{interval_queue_within}
use Rattle.interval.proofs.Counts.WalkedNews.{walked_news_within}
use Rattle.interval.proofs.News.Gathered.{gathered_grown_picked, gathered_grown_passed, gathered_within_few}
use Rattle.interval.proofs.queue.Queue.gather.Goals as goal
use Rattle.interval.proofs.queue.Queue.gather.Goals.{then-leaves_records+in_ok-push, else-leaves_records}

abbrev now : List (Bor KeptInterval) → List KeptInterval
now ks = map (λ (k : Bor KeptInterval). k.now) ks

pub loop-index-init : goal.loop-index-init
loop-index-init c =
    let start = c.args.from - c.self.inside.first in
    let none : start - start ≡ 0 = omega arith in
    sym (ap (λ (n : ℕ). now c.args.news.now.items ++ filter kept_closing_has_records (take n (interval_queue_within c.args.self.now c.args.from c.args.to))) none
    ∙ append-nil (now c.args.news.now.items))

pub loop-index-preserved : goal.loop-index-preserved
loop-index-preserved c =
    let start = c.args.from - c.self.inside.first in
    let len = c.len.ensures in
    let after = c.loop-index.auto.index in
    let news = interval_queue_within c.args.self.now c.args.from c.args.to in
    let before = now c.args.news.now.items in
    let read = walked_news_within c.args.from c.args.to c.loop-index.index c.self.view_is after (omega arith) c.index-kept.ensures in
    let next : c.loop-index.index - start + 1 ≡ c.loop-index.index + 1 - start = omega arith in
    let goes_on = ap (λ (n : ℕ). before ++ filter kept_closing_has_records (take n news)) next in
    elim c.if-leaves_records.branch [
      | then-leaves_records+in_ok-push w ↦
          ap (λ (v : Vec (Bor KeptInterval) Global). now v.items) w.news-is ∙ ap now w.in_ok-push.ensures.items
          ∙ map-append (λ (k : Bor KeptInterval). k.now) c.loop-index.news.items (c.index-kept.result ∷ [])
          ∙ gathered_grown_picked kept_closing_has_records before read (sym c.leaves_records.ensures ∙ w.if-leaves_records.true) c.loop-index.invariant
          ∙ goes_on
      | else-leaves_records w ↦
          ap (λ (v : Vec (Bor KeptInterval) Global). now v.items) w.news-is
          ∙ gathered_grown_passed kept_closing_has_records before read (sym c.leaves_records.ensures ∙ w.if-leaves_records.false) c.loop-index.invariant
          ∙ goes_on
    ]

pub returns : goal.returns
returns c =
    let start = c.args.from - c.self.inside.first in
    let len = c.len.ensures in
    let few = gathered_within_few _ c.args.self.now c.args.from c.args.to c.self.view_is in
    c.loop-index.invariant
    ∙ ap (λ (ks : List KeptInterval). now c.args.news.now.items ++ filter kept_closing_has_records ks)
    (take_all (c.loop-index.index - start) (interval_queue_within c.args.self.now c.args.from c.args.to) (omega arith))
