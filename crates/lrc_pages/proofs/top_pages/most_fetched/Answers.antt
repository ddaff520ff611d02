use Rattle.std.proofs.Common.{◌∷◌, [], List, ℕ, Some, length, length-append, slice_index, sym, subst, ap, arith}
use Rattle.lrc_pages.proofs.ToldPages.{AreToldSoFar, told_most, told_so_far_next}
use Rattle.lrc_pages.proofs.top_pages.most_fetched.Goals as goal

pub loop-preserved : goal.loop-preserved
loop-preserved c =
    let old = c.loop.invariant in
    let xs = c.args.fetches.now in
    let page = c.in-Some.page in
    let items = ap (λ (ys : List ℕ). length ys) c.in_ok-push.ensures.items in
    let long = length-append c.loop.pages.items (page ∷ []) in
    let was = old.long in
    record {
      long = omega arith;
      within = c.in-Some.ensures.within;
      told = subst (AreToldSoFar (slice_index xs) (Some page)) (sym c.in_ok-push.ensures.items)
          (told_so_far_next (slice_index xs) c.loop.last c.loop.pages.items page c.in-Some.ensures.next old.told);
    }

pub returns : goal.returns
returns c =
    let old = c.loop.invariant in
    told_most (slice_index c.args.fetches.now) c.loop.last c.loop.pages.items c.args.most (omega arith) old.told
