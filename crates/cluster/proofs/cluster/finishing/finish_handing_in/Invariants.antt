use Rattle.std.proofs.Common.{List, map}
use Rattle.std.specs.Vec.{vec_items}
use Rattle.journal.specs.declared.event.Event.{Event}
use Rattle.journal.specs.Sizes.{Sizes}
use Rattle.cluster.specs.Copies.Local.{Local}
use Rattle.cluster.specs.Finishing.{AreBlocksToFinish, IsFinishing}
use Rattle.cluster.proofs.cluster.finishing.finish_handing_in.Given as goal

abbrev pub invariant-loop-p : goal.invariant-loop-p
invariant-loop-p l =
    (s : Sizes) (ms : List Local) (h : List Event) → IsFinishing s ms 0 h l.initial.book
    → AreBlocksToFinish ms (map vec_items l.blocks) → (g : List Event) × IsFinishing s ms l.p g l.book
