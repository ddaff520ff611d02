use Rattle.std.proofs.Common.{◌≡◌, ℕ, List, ap, length, subst, sym, vec_len}
use Rattle.std.specs.Prelude.{IfOk}
use Rattle.std.specs.Global.{Vec}
use Rattle.journal.specs.declared.event.Event.{Event}
use Rattle.journal.specs.EventsInRange.{EventProcessorsInRange}
use Rattle.judge.specs.declared.sizes.Sizes.{Sizes as Given}
use Rattle.causes.specs.News.{AreIncomingNews}
use Rattle.causes.proofs.news.incoming_news.Goals as goal

pub all_news-requires : goal.all_news-requires
all_news-requires c = record {
  few = c.events-events.ensures.few;
  present = c.in_ok-cuts.ensures.present;
  processors =
      subst (λ n. EventProcessorsInRange n c.events-events.result.now)
      (ap (λ (s : Given). s.processors) (sym c.sizes-processors.ensures.value)) c.events-events.ensures.processors;
  start = c.in_ok-cuts.ensures.cuts;
  index = c.in_ok-index.ensures;
}

pub returns-clause-long : goal.returns-clause-long
returns-clause-long c =
    subst (λ (j : List Event). IfOk c.all_news.result (λ (v : Vec (Vec ℕ)). vec_len v ≡ length j)) c.events-events.ensures.value
    c.all_news.ensures.long

pub returns-clause-news : goal.returns-clause-news
returns-clause-news c =
    subst (λ j. IfOk c.all_news.result (λ (v : Vec (Vec ℕ)). AreIncomingNews j v.items)) c.events-events.ensures.value c.all_news.ensures.news
