use Rattle.std.proofs.Common.{eqb, rules}
use borrow.Author.Tests.{tests}
use Rattle.std.proofs.lemmas.Iterator.Consumers.{count_from_yields_List}
use Rattle.std.proofs.lemmas.Iterator.Splits.{YieldsList-from_slice_split}
use Rattle.lrc_script.proofs.line.number_count.Goals as goal

pub returns-in-Some : goal.returns-in-Some
returns-in-Some c =
    rw c.in-Some.is (count_from_yields_List c.split.result _ c.count.ensures.ran (YieldsList-from_slice_split _
    (λ b. eqb b 32) c.in-Some.line.now c.split.ensures.rest c.split.ensures.done c.split.ensures.closure
    (λ x b q k. search (rules, tests))))
