use Rattle.std.proofs.Common.{◌≡◌}
use Rattle.std.proofs.lemmas.Result.{IfOk-weaker}
use Rattle.lrc_tester.specs.declared.drawing.draw.Style.TheVariants.{Free}
use Rattle.lrc_script.specs.Plan.{plan_of}
use Rattle.lrc_script.specs.Lawful.{IsLawful}
use Rattle.lrc_tester.specs.Drawing.Draw.{drawn, seeded}
use Rattle.lrc_tester.proofs.drawing.Drawn.Lawful.{lawful_from}
use Rattle.lrc_tester.proofs.drawing.draw.free.Goals as goal

pub returns-clause-lawful : goal.returns-clause-lawful
returns-clause-lawful c =
    IfOk-weaker c.script.result (λ s. plan_of s ≡ drawn Free (seeded c.args.seed)) (λ s. IsLawful (plan_of s))
    (λ s e. lawful_from Free (seeded c.args.seed) (plan_of s) e) c.script.ensures

pub returns-clause-drawn : goal.returns-clause-drawn
returns-clause-drawn c = c.script.ensures
