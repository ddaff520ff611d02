use Rattle.std.proofs.Common.{◌≡◌, ◌+◌, ◌<◌, length, refl, subst, arith}
use Rattle.std.proofs.lemmas.Option.{slice_get_read}
use Rattle.cluster.proofs.FinishingLastBlocks.{last_blocks_mapped_at}
use Rattle.lrc_script.specs.Plan.{plan_of}
use Rattle.lrc_run.proofs.DrawnPlaces.{AreDrawnTurnsSummed, drawn_turns_summed_more}
use Rattle.lrc_run.proofs.steps.drawn.turns_of.Goals as goal

pub loop-p-preserved : goal.loop-p-preserved
loop-p-preserved c =
    let s = plan_of c.args.script.now in
    let vs = c.args.script.now.sections.items in
    let k = c.loop-p.p in
    let v = c.index.result.now in
    let within : k < length vs = omega (arith, c.loop-p-test.true, c.len-p-end.ensures, c.args.script.now.sections.ok) in
    let at = last_blocks_mapped_at (λ section. section.items) vs k v (slice_get_read vs (length vs) k v refl within c.index.ensures) in
    let same : length v.items ≡ c.len.result = omega (arith, c.len.ensures, v.ok) in
    let more = drawn_turns_summed_more s k c.loop-p.turns v.items c.requires at c.loop-p.invariant in
    subst (λ n. AreDrawnTurnsSummed s (k + 1) (c.loop-p.turns + (n + 1))) same more.summed
