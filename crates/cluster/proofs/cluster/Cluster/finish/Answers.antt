use Rattle.std.proofs.Common.{List, map, sym, subst}
use Rattle.std.specs.Vec.{vec_items}
use Rattle.journal.specs.declared.event.Event.{Event}
use Rattle.cluster.specs.NewClusters.{SharedCluster}
use Rattle.cluster.specs.Finishing.{AreAllToFinish, AreBlocksToFinish, IsFinishing}
use Rattle.cluster.proofs.ApartToFinish.{apart_to_finish_all_chairs, apart_to_finish_all_blocks, finishing_starts_apart, finished_apart}
use Rattle.cluster.proofs.cluster.Cluster.finish.Given as given
use Rattle.cluster.proofs.cluster.Cluster.finish.Goals as goal
use Rattle.cluster.proofs.cluster.Cluster.finish.Goals.{After-close-book}

-- all blocks are to come
begun : (g : given.Over) (c : After-close-book g) → (h : List Event)
    × IsFinishing c.self.inside.shape c.args.processors.items 0 h c.close-book.result
    × AreBlocksToFinish c.args.processors.items (map vec_items c.finish_taking_apart-chairs.result.1.items)
begun g c =
    let all = subst (λ (s : SharedCluster). AreAllToFinish s c.args.processors.items) (sym c.self.view_is) c.requires in
    let apart = c.finish_taking_apart-chairs.ensures in (
      _,
      finishing_starts_apart _ _ _ _ all apart c.close-book.result c.self.invariant.1.some_processors c.close-book.ensures,
      apart_to_finish_all_blocks _ _ _ _ all apart,
    )

pub close-book-requires : goal.close-book-requires
close-book-requires g c =
    let all = subst (λ (s : SharedCluster). AreAllToFinish s c.args.processors.items) (sym c.self.view_is) c.requires in
    apart_to_finish_all_chairs _ _ _ _ all c.finish_taking_apart-chairs.ensures _ c.self.invariant.0

pub finish_handing_in-requires : goal.finish_handing_in-requires
finish_handing_in-requires g c =
    let b = begun g (goal.at.finish_handing_in-requires g c).After-close-book in
    (_, _, b.0, b.1, rw (c.as_slice.ensures.value) b.2)

pub returns : goal.returns
returns g c =
    let b = begun g (goal.at.returns g c).After-close-book in
    let done = c.finish_handing_in.ensures _ _ b.0 b.1 (rw (c.as_slice.ensures.value) b.2) in
    rw (← c.self.view_is) (finished_apart _ _ done.0 _ _ done.1 c.into_journal.ensures)
