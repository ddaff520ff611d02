use Rattle.std.proofs.Common.{List, sym, ap, subst, ◌∙◌}
use Rattle.interval.specs.SentIntervals.{SentRecord, IsSentInIntervalOrder}
use Rattle.interval.proofs.Queues.Merged.{MergedQueuesHold}
use Rattle.interval.proofs.News.InClosingOrder.{closing_order_push}
use Rattle.interval.proofs.closed.Closed.between_after_interval.Goals as goal
use Rattle.interval.proofs.closed.Closed.between_after_interval.Goals.{then-covers+then-not-covers+in_ok-send, else-covers}

pub returns-clause-in_order : goal.returns-clause-in_order
returns-clause-in_order c =
    let P : List SentRecord → Type 0 = λ s. IsSentInIntervalOrder s in
    elim c.if-covers.branch [
      | then-covers+then-not-covers+in_ok-send w ↦
          let sent = ap (λ v. v.items) w.sent-is ∙ w.in_ok-send.ensures in
          let hold : MergedQueuesHold c.self.inside.queues.items c.self.inside.pushed c.args.self.now =
          record { seen = c.self.view_is; are = c.self.invariant } in
          closing_order_push hold c.args.interval.now c.args.old.now c.args.new.now c.requires.pages
          c.in_ok-sent.ensures.value sent
      | else-covers w ↦ subst P (ap (λ v. v.items) (sym w.sent-is)) c.in_ok-sent.ensures.in_order
    ]
