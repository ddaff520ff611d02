use Rattle.explore.proofs.TextWalks.UsesNoted.{uses_noted_phase}
use Rattle.explore.proofs.text.walked_words.WalkedUses.note.Goals as goal

pub returns : goal.returns
returns c =
    uses_noted_phase c.args.self.now _ c.args.row.now c.args.stores c.joined-user.result c.in_ok-insert.ensures.updates
    c.joined-user.ensures.old c.joined-user.ensures.new
