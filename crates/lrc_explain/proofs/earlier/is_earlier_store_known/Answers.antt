use Rattle.std.proofs.Common.{arith}
use Rattle.lrc_explain.proofs.earlier.is_earlier_store_known.Goals as goal

pub of-requires : goal.of-requires
of-requires c =
    let count = c.requires.tells.1.long.count in
    let lt = c.requires.processor in
    omega arith
