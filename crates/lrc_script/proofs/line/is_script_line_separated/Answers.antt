use Rattle.std.proofs.Common.{eqb, rules}
use borrow.Author.Tests.{tests}
use Rattle.std.proofs.lemmas.Iterator.Search.{all_from_yields_List}
use Rattle.std.proofs.lemmas.Iterator.Splits.{YieldsList-from_slice_split}
use Rattle.lrc_script.specs.LineReading.{line_read_word_has_bytes}
use Rattle.lrc_script.proofs.line.is_script_line_separated.Goals as goal

pub returns : goal.returns
returns c =
    all_from_yields_List line_read_word_has_bytes _ _ _ c.all.ensures.ran (YieldsList-from_slice_split _ (λ b. eqb b 32)
    c.args.line.now c.split.ensures.rest c.split.ensures.done c.split.ensures.closure
    (λ x b q k. search (rules, tests)))
    (λ x b q k. search (rules, tests))
