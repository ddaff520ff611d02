use Rattle.std.proofs.Common.{arith}
use Rattle.explore.proofs.MachineSteps.{machine_step_read_at}
use Rattle.explore.proofs.StateOrigins.{state_origins_at, state_origins_long}
use Rattle.explore.proofs.state.origins.Origins.from.Goals as goal

pub index-requires : goal.index-requires
index-requires c =
    let x = c.args.self.now in
    let long = state_origins_long 0 x.origins.items x.makers.items in
    let lt = c.requires in
    omega (arith, long, lt)

pub returns : goal.returns
returns c = λ o at.
    let x = c.args.self.now in
    (state_origins_at 0 x.origins.items x.makers.items c.args.place c.index.result.now o (machine_step_read_at x.origins.items c.args.place c.index.result.now (let long = state_origins_long 0 x.origins.items x.makers.items in let lt = c.requires in omega (arith, long, lt)) c.index.ensures) at).0
