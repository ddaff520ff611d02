use Rattle.std.proofs.Common.{ap, ap₂, ◌∙◌, ◌++◌, ◌∷◌, [], List}
use Rattle.std.proofs.lemmas.List.{replicate_more}
use Rattle.cluster.specs.Copies.PageReplica.{PageReplica}
use Rattle.cluster.specs.Copies.Local.{blank_local_copy}
use Rattle.cluster.proofs.processor.processor_copies.Goals as goal

pub loop-preserved : goal.loop-preserved
loop-preserved c =
    c.in_ok-push.ensures.items
    ∙ ap₂ (λ (xs : List PageReplica) (x : PageReplica). xs ++ x ∷ []) c.loop.invariant
    (c.in_ok-zero.ensures ∙ ap blank_local_copy c.shape.view_is)
    ∙ replicate_more c.loop.counter (blank_local_copy c.args.shape)
