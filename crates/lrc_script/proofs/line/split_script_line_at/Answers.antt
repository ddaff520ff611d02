use Rattle.std.proofs.Common.{eqb, rules, sym, ◌∙◌}
use borrow.Author.Tests.{tests}
use Rattle.std.proofs.lemmas.List.{take_rest}
use Rattle.std.proofs.lemmas.Iterator.{YieldsList-from_slice}
use Rattle.std.proofs.lemmas.Iterator.Search.{position_from_yields_List}
use Rattle.lrc_script.proofs.Reading.Splits.{split_from_some, split_from_none}
use Rattle.lrc_script.proofs.line.split_script_line_at.Goals as goal

pub returns-in-Some-clause-parts : goal.returns-in-Some-clause-parts
returns-in-Some-clause-parts c =
    let found =
    position_from_yields_List (λ b. eqb b c.args.separator) _ _ c.position.result c.position.ensures.ran
    (YieldsList-from_slice c.args.bytes.now c.iter.ensures.rest) (λ x b q k. search (rules, tests)) in
    rw take_rest
    (split_from_some (λ b. eqb b c.args.separator) c.args.bytes.now c.in-Some.at (sym c.in-Some.is ∙ found))

pub returns-in-None-clause-parts : goal.returns-in-None-clause-parts
returns-in-None-clause-parts c =
    let found =
    position_from_yields_List (λ b. eqb b c.args.separator) _ _ c.position.result c.position.ensures.ran
    (YieldsList-from_slice c.args.bytes.now c.iter.ensures.rest) (λ x b q k. search (rules, tests)) in
    split_from_none (λ b. eqb b c.args.separator) c.args.bytes.now (sym c.in-None.is ∙ found)
