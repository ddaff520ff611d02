use Rattle.std.proofs.Common.{◌++◌, ◌∷◌, [], List, map, arith, ap, ◌∙◌}
use Rattle.std.specs.Global.{Vec}
use Rattle.std.proofs.lemmas.List.{map_push}
use Rattle.lrc_script.specs.declared.script.Instruction.{Instruction}
use Rattle.lrc_tester.specs.Drawing.Draw.{drawn_sections}
use Rattle.lrc_tester.proofs.drawing.Drawn.Repeated.{one_section, ahead_more, ahead_none, sections_repeated}
use Rattle.lrc_tester.proofs.drawing.draw.sections.Goals as goal

pub loop-preserved : goal.loop-preserved
loop-preserved c =
    let items = λ (v : Vec Instruction). v.items in
    ahead_more (one_section c.args.style c.args.shape) (λ n. drawn_sections n c.args.style c.args.shape) _ _ _ _ _ _ _
    _ (sections_repeated c.args.style c.args.shape) (omega arith)
    (ap (map items) c.in_ok-push.ensures.items ∙ map_push items c.loop.sections.items c.in_ok-section.field-0
    ∙ ap (λ (is : List Instruction). map items c.loop.sections.items ++ is ∷ [])
    c.in_ok-section.ensures.items)
    c.in_ok-section.ensures.state c.loop.invariant

pub returns : goal.returns
returns c =
    (ahead_none (one_section c.args.style c.args.shape) (λ n. drawn_sections n c.args.style c.args.shape) _ _ _ _ _
    (sections_repeated c.args.style c.args.shape) (omega arith) c.loop.invariant).0
