use Rattle.std.proofs.Common.{true, set, ap, ◌∙◌, arith}
use Rattle.page.proofs.MarkBits.{mark_bits_set}
use Rattle.cluster.proofs.copies.mark_set.MarkSet.add.Goals as goal

pub returns : goal.returns
returns c =
    mark_bits_set 64 c.self.inside.bits c.args.number c.requires (omega arith)
    ∙ ap (λ ms. set ms c.args.number true) c.self.view_is
