use Rattle.std.proofs.Common.{subst, sym}
use Rattle.causes.specs.Paths.{IsPathWay}
use Rattle.causes.proofs.ReachedPaths.{reached_path_way_longer}
use Rattle.causes.proofs.ways.Ways.+lead.Goals as goal

pub returns : goal.returns
returns t c =
    let events = c.args.events.now in
    let i = c.args.from in
    let k = c.args.to in
    subst (IsPathWay events i k) (sym c.in_ok-push.ensures.items)
    (reached_path_way_longer events i c.in-Some.before k c.in_ok-places.places.items c.in_ok-places.ensures c.in-Some.ensures.0)
