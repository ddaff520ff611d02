use Rattle.std.proofs.Common.{sym, ap, subst}
use Rattle.cluster.specs.declared.keeper.View.{View}
use Rattle.turn.specs.Chairs.{lock}
use Rattle.cluster.specs.Copies.Sound.{IsSound}
use Rattle.cluster.proofs.StartingProcessors.{AreStartingProcessorParts, starting_processor_sound, starting_processor_parts}
use Rattle.cluster.proofs.processor.Processor.seated.Goals as goal

pub invariant_of-result : goal.invariant_of-result
invariant_of-result g c =
    let x = c.args.parts in
    let are = c.requires.parts in
    let new : AreStartingProcessorParts c.args.shape x.block.items x.replicas.items c.none.result x.time x.held.items = record {
      block_is = are.block;
      copies_are = are.replicas;
      stored_is = c.none.ensures;
      time_is = are.time;
      held_is = are.held;
    } in
    let same = starting_processor_parts c.args.chair c.args.number c.requires.chair new in (
      subst IsSound (sym same)
          (starting_processor_sound (lock c.args.chair) c.args.number c.args.shape c.requires.sizes c.requires.number),
      record {
        place_is = c.requires.chair.place_is;
        shape_is = ap (λ (v : View). v.shape) c.requires.chair.view_is;
        outside = c.requires.chair.outside;
      },
      are.room,
    )
