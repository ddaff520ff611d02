use Rattle.std.proofs.Common.{◌++◌, ◌∷◌, [], List, map, append_assoc, sym, ap, ◌∙◌, arith}
use Rattle.std.proofs.lemmas.List.{length_push, map-append}
use Rattle.std.proofs.lemmas.Grind.{common_steps}
use Rattle.std.specs.Vec.{vec_items}
use Rattle.std.specs.Vec.Iter.{into_iter_items}
use Rattle.cluster.specs.Copies.Local.{Local}
use Rattle.cluster.proofs.ApartToFinish.{apart_to_finish_more}
use Rattle.cluster.proofs.cluster.finishing.finish_taking_apart.Goals as goal

pub loop-processor-preserved : goal.loop-processor-preserved
loop-processor-preserved g c =
    let inv = c.loop-processor.invariant in
    let yielded = c.loop-processor.yielded in
    let m = c.in-Some.processor in
    let more = length_push yielded m in
    let parts = c.into_parts-chair.result in
    let one =
    apart_to_finish_more yielded c.loop-processor.chairs.items (map vec_items c.loop-processor.blocks.items) m parts.0
    parts.1.items inv.apart c.into_parts-chair.ensures in
    record {
      came =
          append_assoc yielded (m ∷ []) (into_iter_items c.next.new.self)
          ∙ sym (ap (λ (xs : List Local). yielded ++ xs) c.in-Some.ensures.steps.0) ∙ inv.came;
      apart = rw (c.push_reserved.ensures.items, c.push_reserved-in-loop-processor.ensures.items, map-append) one;
      chairs = let was = inv.chairs in let grew = c.push_reserved.ensures.len in omega arith;
      blocks = let was = inv.blocks in let grew = c.push_reserved-in-loop-processor.ensures.len in omega arith;
      room = let was = inv.room in let same = c.push_reserved.ensures.capacity in omega arith;
      more_room =
          let was = inv.more_room in let same = c.push_reserved-in-loop-processor.ensures.capacity in omega arith;
    }

pub returns : goal.returns
returns g c = grind (arith, common_steps)
