use Rattle.std.proofs.Common.{◌-◌, ◌≤◌, sym, subst, ap, take, drop, ◌∙◌, arith}
use Rattle.explore.proofs.MachineSteps.{machine_step_read_at}
use Rattle.explore.proofs.StateOrigins.{state_origins_at, state_origins_long, state_origins_within}
use Rattle.explore.proofs.state.origins.Origins.makers.Goals as goal

pub start-requires : goal.start-requires
start-requires c =
    let x = c.args.self.now in
    let long = state_origins_long 0 x.origins.items x.makers.items in
    let lt = c.requires.place in
    omega (arith, long, lt)

pub index-requires : goal.index-requires
index-requires c =
    let x = c.args.self.now in
    let long = state_origins_long 0 x.origins.items x.makers.items in
    let lt = c.requires.place in
    omega (arith, long, lt)

pub slice_bounds-result-count : goal.slice_bounds-result-count
slice_bounds-result-count c =
    let x = c.args.self.now in
    subst (λ n. n ≤ c.index.result.now.ends) (sym c.start.ensures)
    (state_origins_within 0 x.origins.items _ c.args.place c.index.result.now c.requires.in_order (machine_step_read_at x.origins.items c.args.place c.index.result.now (let long = state_origins_long 0 x.origins.items x.makers.items in let lt = c.requires.place in omega (arith, long, lt)) c.index.ensures)).0

pub returns : goal.returns
returns c = λ o at.
    let x = c.args.self.now in
    ap (λ ms. take (c.index.result.now.ends - c.start.result) (drop c.start.result ms)) c.deref.ensures.value
    ∙ ap (λ n. take (c.index.result.now.ends - n) (drop n x.makers.items)) c.start.ensures
    ∙ (state_origins_at 0 x.origins.items x.makers.items c.args.place c.index.result.now o (machine_step_read_at x.origins.items c.args.place c.index.result.now (let long = state_origins_long 0 x.origins.items x.makers.items in let lt = c.requires.place in omega (arith, long, lt)) c.index.ensures) at).1

pub slice_bounds-result-start : goal.slice_bounds-result-start
slice_bounds-result-start c = slice_bounds-result-count c

pub slice_bounds-result-end : goal.slice_bounds-result-end
slice_bounds-result-end c =
    let x = c.args.self.now in
    let within = (state_origins_within 0 x.origins.items _ c.args.place c.index.result.now c.requires.in_order (machine_step_read_at x.origins.items c.args.place c.index.result.now (let long = state_origins_long 0 x.origins.items x.makers.items in let lt = c.requires.place in omega (arith, long, lt)) c.index.ensures)).1 in
    let long = c.deref.ensures.len in
    omega (arith, within, long)
