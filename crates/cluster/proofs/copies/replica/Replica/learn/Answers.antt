use Rattle.std.proofs.Common.{List, map, sym, ap, subst, ◌∙◌}
use Rattle.journal.specs.MissingIntervals.{MissingIntervalsInOrder}
use Rattle.book.specs.PageNews.{page_news_of_notice}
use Rattle.interval.specs.SentIntervals.{SentRecord}
use Rattle.page.specs.declared.page.Access.TheVariants.{Invalid}
use Rattle.cluster.specs.Copies.Backlogs.{IsInsertedInBacklog}
use Rattle.cluster.specs.Copies.PageReplica.{PageReplica}
use Rattle.cluster.proofs.copies.Learned.{learned_news}
use Rattle.cluster.proofs.copies.replica.Replica.learn.Goals as goal

pub put-requires-clause-order : goal.put-requires-clause-order
put-requires-clause-order c =
    subst (λ (r : PageReplica). MissingIntervalsInOrder (map page_news_of_notice r.missing)) (sym c.self.view_is) c.requires.order

pub returns-clause-news : goal.returns-clause-news
returns-clause-news c =
    let old : PageReplica = c.args.self.now in
    let page = c.set_invalid.ensures ∙ ap (λ (r : PageReplica). record r.page { access = Invalid }) c.self.view_is in
    let P : List SentRecord → Type 0 = λ xs. IsInsertedInBacklog xs c.args.sent c.put.new.self.records in
    let put = subst P (ap (λ (r : PageReplica). r.missing) c.self.view_is) c.put.ensures.put in
    learned_news old _ c.args.sent put.at c.requires put.among page put.put
