use Rattle.std.proofs.Common.{◌≡◌, Some, slice_get, sym, subst, arith}
use Rattle.page.specs.declared.page.Access.TheVariants.{Invalid}
use Rattle.cluster.specs.Copies.Sound.{IsSound}
use Rattle.cluster.proofs.CoveringHistories.{covers}
use Rattle.cluster.proofs.FetchingMissing.{fetched_missing_fit, fetched_missing_countable, fetched_missing_newest, fetched_missing_sound, fetched_missing_stale_read, fetching_missing_done}
use Rattle.cluster.proofs.processor.Processor.fetch.Given as given
use Rattle.cluster.proofs.processor.Processor.fetch.Goals as goal
use Rattle.cluster.proofs.processor.Processor.fetch.Goals.{After-index_mut}

-- the copy that is read is the processor's, and stale
read : (g : given.Over) (c : After-index_mut g)
    → let x = c.index_mut.result.now in
    IsSound c.args.self.now × (slice_get c.args.self.now.copies c.args.page ≡ Some x) × (x.page.access ≡ Invalid)
read g c =
    let sound = subst IsSound c.self.view_is c.self.invariant.0 in
    let at =
    fetched_missing_stale_read _ _ _ _ c.self.view_is (sym c.in_ok-admit_fetch.ensures) c.index_mut.ensures.value sound in
    (sound, at.0, at.1)

pub returns-in_err-admit_fetch-clause-covers : goal.returns-in_err-admit_fetch-clause-covers
returns-in_err-admit_fetch-clause-covers g c = covers _ (subst IsSound c.self.view_is c.self.invariant.0)

pub fetch-counts-requires-clause-few : goal.fetch-counts-requires-clause-few
fetch-counts-requires-clause-few g c =
    let r = read g (goal.at.fetch-counts-requires-clause-few g c).After-index_mut in
    fetched_missing_countable _ r.0 _ _ r.1 r.2

pub fetch-counts-requires-clause-invalid : goal.fetch-counts-requires-clause-invalid
fetch-counts-requires-clause-invalid g c = (read g (goal.at.fetch-counts-requires-clause-invalid g c).After-index_mut).2

pub fetch-counts-requires-clause-fit : goal.fetch-counts-requires-clause-fit
fetch-counts-requires-clause-fit g c =
    let r = read g (goal.at.fetch-counts-requires-clause-fit g c).After-index_mut in
    fetched_missing_fit _ r.0 _ _ r.1 r.2

pub returns-clause-ok : goal.returns-clause-ok
returns-clause-ok g c =
    let r = read g (goal.at.returns-clause-ok g c).After-index_mut in
    record {
      copy = c.index_mut.result.now;
      at = r.1;
      counts = c.fetch-counts.result;
      are = c.fetch-counts.ensures.counts;
      newest = fetched_missing_newest _ r.0 _ _ r.1 r.2;
      after =
          fetching_missing_done _ _ _ c.index_mut.result.now _ c.fetch-counts.result _ c.self.view_is c.fetch-counts.ensures.copy
          c.push_reserved.ensures.items;
    }

pub invariant_of-self : goal.invariant_of-self
invariant_of-self g c =
    let r = read g (goal.at.invariant_of-self g c).After-index_mut in
    let after =
    fetching_missing_done _ _ _ c.index_mut.result.now _ c.fetch-counts.result _ c.self.view_is c.fetch-counts.ensures.copy
    c.push_reserved.ensures.items in
    let free = sym c.in_ok-admit_fetch.ensures in (
      subst IsSound (sym after)
          (fetched_missing_sound _ r.0 _ _ r.1 r.2 c.fetch-counts.result c.fetch-counts.ensures.counts free),
      c.self.invariant.1,
      (let kept = c.self.invariant.2 in let same = c.push_reserved.ensures.capacity in omega arith),
    )

pub returns-clause-covers : goal.returns-clause-covers
returns-clause-covers g c = covers _ (invariant_of-self g c).0
