use Rattle.std.proofs.Common.{rules, ℕ, ◌≡◌, ◌<◌, ◌+◌, ◌++◌, [], ◌∷◌, List, Some, length, append_assoc, slice_get, slice_set, sym, ap, subst, ◌∙◌, arith}
use Rattle.std.specs.Vec.Iter.{into_iter_items}
use Rattle.interval.specs.SentIntervals.{SentRecord}
use Rattle.cluster.specs.Copies.PageReplica.{PageReplica}
use Rattle.cluster.specs.Copies.AfterNews.{IsAfterNews, AreAfterNews, CopiesMayLackNews, CopyMayLackNews}
use Rattle.cluster.proofs.copies.LoopItems.{loop_item_at}
use Rattle.cluster.proofs.copies.LearnedAll.{learned_all_page_within, may_learn_one_of_all, may_learn_all_others, learned_all_news_more, learned_all_news_start}
use Rattle.cluster.proofs.copies.learning.learn.Goals as goal

pub loop-sent-init : goal.loop-sent-init
loop-sent-init c =
    let came = c.into_iter-sent-iterator.ensures.into_iter_gives.0 in
    let P : List SentRecord → Type 0 = λ ys. CopiesMayLackNews c.args.replicas.now ys in
    record {
      came = came;
      news = learned_all_news_start c.args.replicas.now c.args.notices.items c.requires;
      may = subst P (sym came) c.requires;
    }

pub bounds-replicas-page : goal.bounds-replicas-page
bounds-replicas-page c =
    let xs = c.loop-sent.replicas in
    let x : SentRecord = c.in-Some.sent in
    let rest = into_iter_items c.next.new.self in
    let P : List SentRecord → Type 0 = λ ys. CopiesMayLackNews xs ys in
    let may = subst P c.in-Some.ensures.steps.0 c.loop-sent.invariant.may in
    let same : c.sent.inside.notice.page ≡ x.notice.page = ap (λ (y : SentRecord). y.notice.page) c.sent.view_is in
    let within = learned_all_page_within xs x rest may in
    omega arith

pub offset_bounds-replicas-page : goal.offset_bounds-replicas-page
offset_bounds-replicas-page c =
    let xs = c.loop-sent.replicas in
    let x : SentRecord = c.in-Some.sent in
    let rest = into_iter_items c.next.new.self in
    let P : List SentRecord → Type 0 = λ ys. CopiesMayLackNews xs ys in
    let may = subst P c.in-Some.ensures.steps.0 c.loop-sent.invariant.may in
    let same : c.sent.inside.notice.page ≡ x.notice.page = ap (λ (y : SentRecord). y.notice.page) c.sent.view_is in
    let within = learned_all_page_within xs x rest may in
    let below : c.sent.inside.notice.page < length xs = omega arith in
    search rules

pub learn-requires : goal.learn-requires
learn-requires c =
    let xs = c.loop-sent.replicas in
    let x : SentRecord = c.in-Some.sent in
    let rest = into_iter_items c.next.new.self in
    let P : List SentRecord → Type 0 = λ ys. CopiesMayLackNews xs ys in
    let may = subst P c.in-Some.ensures.steps.0 c.loop-sent.invariant.may in
    let same : c.sent.inside.notice.page ≡ x.notice.page = ap (λ (y : SentRecord). y.notice.page) c.sent.view_is in
    let copy : PageReplica = c.index-replicas-page.result in
    let within = learned_all_page_within xs x rest may in
    let at : slice_get xs c.sent.inside.notice.page ≡ Some copy =
    loop_item_at xs c.sent.inside.notice.page copy (omega arith) c.index-replicas-page.is
    in
    let Q : ℕ → Type 0 = λ n. slice_get xs n ≡ Some copy in
    let R : PageReplica → Type 0 = λ d. CopyMayLackNews d (x ∷ []) in
    subst R c.index-replicas-page.is (may_learn_one_of_all xs x rest may copy (subst Q same at))

pub loop-sent-preserved : goal.loop-sent-preserved
loop-sent-preserved c =
    let xs = c.loop-sent.replicas in
    let x : SentRecord = c.in-Some.sent in
    let rest = into_iter_items c.next.new.self in
    let P : List SentRecord → Type 0 = λ ys. CopiesMayLackNews xs ys in
    let may = subst P c.in-Some.ensures.steps.0 c.loop-sent.invariant.may in
    let page = c.sent.inside.notice.page in
    let same : page ≡ x.notice.page = ap (λ (y : SentRecord). y.notice.page) c.sent.view_is in
    let copy : PageReplica = c.index-replicas-page.result in
    let within = learned_all_page_within xs x rest may in
    let here : slice_get xs page ≡ Some copy = loop_item_at xs page copy (omega arith) c.index-replicas-page.is in
    let Q : ℕ → Type 0 = λ n. slice_get xs n ≡ Some copy in
    let at = subst Q same here in
    let d : PageReplica = c.learn.new.self in
    let R : PageReplica → Type 0 = λ e. IsAfterNews e (x ∷ []) d × (d.room + 1 ≡ e.room) in
    let is = subst R (sym c.index-replicas-page.is) (c.learn.ensures.news, c.learn.ensures.room) in
    let S : ℕ → Type 0 = λ n. CopiesMayLackNews (slice_set xs n d) rest in
    let T : ℕ → Type 0 = λ n. AreAfterNews c.args.replicas.now (c.loop-sent.yielded ++ x ∷ []) (slice_set xs n d) in
    let news = c.loop-sent.invariant.news in
    let more = learned_all_news_more xs x rest may copy at d is.0 is.1 c.args.replicas.now c.loop-sent.yielded news in
    record {
      came = append_assoc c.loop-sent.yielded (x ∷ []) rest
          ∙ sym (ap (λ (ys : List SentRecord). c.loop-sent.yielded ++ ys) c.in-Some.ensures.steps.0)
          ∙ c.loop-sent.invariant.came;
      news = subst T (sym same) more;
      may = subst S (sym same) (may_learn_all_others xs x rest may copy at d is.0 is.1);
    }
