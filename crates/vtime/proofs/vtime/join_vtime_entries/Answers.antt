use Rattle.std.proofs.Common.{add-one, arith, ◌≡◌, ◌∙◌, sym, ap, take}
use Rattle.std.proofs.lemmas.List.{take_all}
use Rattle.vtime.specs.TicksAndJoins.{join}
use Rattle.vtime.proofs.Joins.{join-nil, join-take_suc, get_or-join}
use Rattle.vtime.proofs.vtime.join_vtime_entries.Goals as goal

pub loop-q-init : goal.loop-q-init
loop-q-init c = sym (join-nil c.args.mine.now)

pub loop-q-preserved : goal.loop-q-preserved
loop-q-preserved c =
    let more = join-take_suc c.args.mine.now c.args.theirs.now c.loop-q.q c.loop-q-test.true (omega arith) in
    rw add-one (cc (more, c.max.ensures, c.loop-q.invariant))

joined : (c : goal.After-loop-q) → c.loop-q.mine ≡ join c.args.mine.now c.args.theirs.now
joined c =
    let whole : take c.loop-q.q c.args.theirs.now ≡ c.args.theirs.now = take_all _ _ (omega arith) in
    c.loop-q.invariant ∙ ap (join c.args.mine.now) whole

pub returns : goal.returns
returns c = record {
  value = joined c;
  greater = λ q. rw (joined c) (get_or-join c.args.mine.now c.args.theirs.now q);
}
