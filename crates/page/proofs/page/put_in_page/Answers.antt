use Rattle.std.proofs.Common.{length}
use Rattle.page.proofs.MarkBits.{mark_bits_set, mark_bits_below_set}
use Rattle.page.proofs.page.put_in_page.Goals as goal

pub returns-clause-dirty : goal.returns-clause-dirty
returns-clause-dirty c =
    mark_bits_set (length c.args.words.now) c.args.dirty.now c.args.offset c.requires.in_range c.requires.few

pub returns-clause-below : goal.returns-clause-below
returns-clause-below c below =
    mark_bits_below_set (length c.args.words.now) c.args.dirty.now c.args.offset c.requires.in_range c.requires.few below
