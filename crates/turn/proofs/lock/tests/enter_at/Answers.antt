use Rattle.turn.proofs.ChairLists.{chair_list_at, chair_list_whole_again}
use Rattle.turn.proofs.lock.tests.enter_at.Goals as goal

pub pass_through-requires-clause-own : goal.pass_through-requires-clause-own
pass_through-requires-clause-own g c κs within =
    (chair_list_at (g.T.Turn.id c.args.turn.now) (g.T.Turn.size c.args.turn.now) c.args.chairs.now.items c.requires.all
    c.args.place c.index_mut.result.now c.requires.place c.index_mut.ensures.value).0

pub pass_through-requires-clause-outside : goal.pass_through-requires-clause-outside
pass_through-requires-clause-outside g c κs within =
    (chair_list_at (g.T.Turn.id c.args.turn.now) (g.T.Turn.size c.args.turn.now) c.args.chairs.now.items c.requires.all
    c.args.place c.index_mut.result.now c.requires.place c.index_mut.ensures.value).2

pub returns : goal.returns
returns g c =
    let same = c.pass_through.ensures in
    chair_list_whole_again (g.T.Turn.id c.args.turn.now) (g.T.Turn.size c.args.turn.now) c.args.chairs.now.items c.requires.all
    c.args.place c.index_mut.result.now c.requires.place c.index_mut.ensures.value c.pass_through.new.chair
    same.0 same.1
