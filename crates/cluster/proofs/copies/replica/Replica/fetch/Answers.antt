use Rattle.std.proofs.Common.{length, sym, subst}
use Rattle.cluster.specs.Copies.PageReplica.{PageReplica, AllFitPageReplica}
use Rattle.cluster.specs.Copies.MissingRecordCounts.{FitMissingRecordCounts}
use Rattle.cluster.proofs.copies.replica.Replica.fetch.Goals as goal

pub apply_all_to_replica-counts-requires-clause-fit : goal.apply_all_to_replica-counts-requires-clause-fit
apply_all_to_replica-counts-requires-clause-fit c =
    (subst (λ (r : PageReplica). AllFitPageReplica (length r.page.words) r.missing) (sym c.self.view_is) c.requires.fit)

pub apply_all_to_replica-counts-requires-clause-few : goal.apply_all_to_replica-counts-requires-clause-few
apply_all_to_replica-counts-requires-clause-few c = subst (λ (r : PageReplica). FitMissingRecordCounts r.missing) (sym c.self.view_is) c.requires.few
