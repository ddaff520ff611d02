use Rattle.test_crews.proofs.crews.Stepping.{by_call, by_cut, by_fetch}
use Rattle.test_crews.proofs.crews.calls.make.Goals as goal

pub returns-in-Ask : goal.returns-in-Ask
returns-in-Ask g c = rw c.done-in-Ask.ensures (by_call _ _ _ _ _ _ _ _ _ c.requires c.ask.ensures)

pub returns-in-Release : goal.returns-in-Release
returns-in-Release g c = rw c.done-in-Release.ensures (by_call _ _ _ _ _ _ _ _ _ c.requires c.release.ensures)

pub returns-in-Arrive : goal.returns-in-Arrive
returns-in-Arrive g c = rw c.done-in-Arrive.ensures (by_call _ _ _ _ _ _ _ _ _ c.requires c.arrive.ensures)

pub returns-in-Set : goal.returns-in-Set
returns-in-Set g c = rw c.done-in-Set.ensures (by_call _ _ _ _ _ _ _ _ _ c.requires c.set.ensures)

pub returns-in-Watch : goal.returns-in-Watch
returns-in-Watch g c = rw c.done-in-Watch.ensures (by_call _ _ _ _ _ _ _ _ _ c.requires c.watch.ensures)

pub returns-in-Flush : goal.returns-in-Flush
returns-in-Flush g c = rw c.done-in-Flush.ensures (by_call _ _ _ _ _ _ _ _ _ c.requires c.flush.ensures)

pub returns-in-Audit : goal.returns-in-Audit
returns-in-Audit g c = rw c.copy.ensures (by_call _ _ _ _ _ _ _ _ _ c.requires c.audit.ensures.call)

pub returns-in-Take : goal.returns-in-Take
returns-in-Take g c = rw c.done-in-Take.ensures (by_call _ _ _ _ _ _ _ _ _ c.requires c.take.ensures)

pub returns-in-Cut : goal.returns-in-Cut
returns-in-Cut g c = rw c.done-in-Cut.ensures (by_cut _ _ _ _ c.requires c.cut.ensures)

pub returns-in-Fetch : goal.returns-in-Fetch
returns-in-Fetch g c =
    rw c.done-in-Fetch.ensures (by_fetch c.args.cluster.now c.args.processor.now c.fetch.new.self c.in-Fetch.page
    c.fetch.result c.requires c.fetch.ensures.err c.fetch.ensures.ok c.fetch.ensures.covers)
