use Rattle.explore.proofs.KeptStates.{kept_state_part_placed}
use Rattle.explore.proofs.state.kept_state.place_state_part.Goals as goal

pub returns : goal.returns
returns g c =
    let e = c.in_ok-place.ensures in
    kept_state_part_placed g.T.PartialEq.eq c.args.parts.now.keys c.insert_full.new.self.keys c.args.part e.stored.0 c.in_ok-place.place e.keys e.unique
    e.stored.1 e.stored.2
