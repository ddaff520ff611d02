use Rattle.std.proofs.Common.{◌≡◌, Some, slice_get, slice_set, sym, ap, subst, ◌+◌, ◌∙◌, arith}
use Rattle.cluster.specs.Copies.PageReplica.{PageReplica}
use Rattle.cluster.specs.Copies.AfterNews.{copy_cleaned_after_news}
use Rattle.cluster.proofs.copies.LoopItems.{loop_item_at}
use Rattle.cluster.proofs.copies.Cleaned.{IsCleanBelow, clean_start, clean_more, clean_end, clean_past}
use Rattle.cluster.proofs.copies.harvesting.clean.Goals as goal
use Rattle.cluster.proofs.copies.harvesting.clean.Goals.{in-Some+then-page-replicas, in_default}

pub loop-page-init : goal.loop-page-init
loop-page-init c = record { within = omega arith; clean = clean_start c.args.replicas.now c.args.stored.now c.requires }

pub loop-page-preserved : goal.loop-page-preserved
loop-page-preserved c =
    let now = c.loop-page.replicas in
    let page = c.in-Some.page in
    let copy : PageReplica = c.index-replicas-page.result in
    let at : slice_get now page ≡ Some copy = loop_item_at now page copy (omega arith) c.index-replicas-page.is in
    let so_far = c.loop-page.invariant.clean in
    let more =
    clean_more c.args.replicas.now now c.args.stored.now c.loop-page.next so_far page copy c.in-Some.ensures.some
    at in
    let is : copy_cleaned_after_news copy ≡ c.clean.new.self = ap copy_cleaned_after_news c.index-replicas-page.is ∙ sym c.clean.ensures in
    let P : PageReplica → Type 0 =
    λ d. IsCleanBelow c.args.replicas.now (slice_set now page d) c.args.stored.now (page + 1) in
    record {
      within = let few = c.requires.few in let long = c.loop-page.auto.replicas in omega arith;
      clean = subst P is more;
    }

pub returns-clause-copies : goal.returns-clause-copies
returns-clause-copies c =
    let old = c.args.replicas.now in
    let now = c.loop-page.replicas in
    let so_far = c.loop-page.invariant.clean in
    let few = c.requires.few in
    let long = c.loop-page.auto.replicas in
    elim c.match-first_from.branch [
      | in-Some+then-page-replicas w ↦ clean_past old now c.args.stored.now c.loop-page.next so_far w.in-Some.page
          w.in-Some.ensures.some (omega arith)
      | in_default w ↦
          clean_end old now c.args.stored.now c.loop-page.next so_far (omega arith) w.in_default.ensures.none
    ]
