use Rattle.std.proofs.Common.{◌∷◌, [], ◌++◌, sym, ap, ◌∙◌}
use Rattle.std.proofs.lemmas.List.{map-append}
use Rattle.test_crews.proofs.crews.running.gathered.Goals as goal

pub loop-processor-preserved : goal.loop-processor-preserved
loop-processor-preserved g c =
    c.in_ok-push.ensures.items ∙ ap (λ ps. ps ++ c.in-Some.processor ∷ []) c.loop-processor.invariant
    ∙ sym (map-append _ c.loop-processor.yielded ((c.in-Some.processor, c.in-Some.outcome) ∷ []))
