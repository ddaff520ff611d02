use Rattle.std.proofs.Common.{◌≡◌, Some, map, slice_get, subst, arith}
use Rattle.std.specs.Vec.{vec_items}
use Rattle.std.proofs.lemmas.List.{length-map}
use Rattle.cluster.specs.Finishing.{IsFinishing}
use Rattle.cluster.proofs.copies.LoopItems.{loop_item_at}
use Rattle.cluster.proofs.FinishingLastBlocks.{last_blocks_mapped_at, may_last_block, fits_last_block, finishing_one_more_block}
use Rattle.cluster.proofs.cluster.finishing.finish_handing_in.Goals as goal
use Rattle.cluster.proofs.cluster.finishing.finish_handing_in.Goals.{After-index-blocks-p}

-- the block that is handed in stands at its place
here : (c : After-index-blocks-p)
    → slice_get (map vec_items c.args.blocks.now) c.loop-p.p ≡ Some c.index-blocks-p.result.items
here c =
    last_blocks_mapped_at vec_items c.args.blocks.now c.loop-p.p c.index-blocks-p.result
    (loop_item_at c.args.blocks.now c.loop-p.p c.index-blocks-p.result c.loop-p-test.true c.index-blocks-p.is)

pub last-requires-clause-call : goal.last-requires-clause-call
last-requires-clause-call c =
    let r = c.requires in
    let fin = c.loop-p.invariant r.0 r.1 r.2 r.3 r.4 in
    let at = here (goal.at.last-requires-clause-call c).After-index-blocks-p in
    rw (c.as_slice.ensures.value) (may_last_block _ _ _ _ _ fin.1 _ r.4 _ at)

pub last-requires-clause-room : goal.last-requires-clause-room
last-requires-clause-room c =
    let r = c.requires in
    let fin = c.loop-p.invariant r.0 r.1 r.2 r.3 r.4 in
    let at = here (goal.at.last-requires-clause-room c).After-index-blocks-p in
    rw (c.as_slice.ensures.value) (fits_last_block _ _ _ _ _ fin.1 _ r.4 _ at)

pub loop-p-preserved : goal.loop-p-preserved
loop-p-preserved c =
    λ s ms h start are. (
    let fin = c.loop-p.invariant s ms h start are in
    let at = here (goal.at.loop-p-preserved c).After-index-blocks-p in
    let more = finishing_one_more_block _ _ _ _ _ fin.1 _ are _ at in
    (more.0, rw (c.last.ensures, c.as_slice.ensures.value) more.1)
    )

pub returns : goal.returns
returns c =
    λ s ms h start are. (
    let fin = c.loop-p.invariant s ms h start are in
    let long = length-map c.args.blocks.now vec_items in
    let all = are.all in
    let P : _ = λ n. IsFinishing s ms n fin.0 c.loop-p.book in
    (fin.0, subst P (omega arith) fin.1)
    )
