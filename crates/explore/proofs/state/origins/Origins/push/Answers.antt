use Rattle.std.proofs.Common.{List, length, ap, ap₂, refl, subst, sym, ◌∙◌, length-append, arith}
use Rattle.explore.specs.declared.state.origins.Origin.{Origin}
use Rattle.explore.specs.Origins.{AreOriginsInOrderFrom, state_origins_from}
use Rattle.explore.proofs.StateOrigins.{state_origins_long, state_origins_makers_few, state_origins_push, state_origins_push_in_order}
use Rattle.explore.proofs.state.origins.Origins.push.Goals as goal

pub returns-clause-pushed : goal.returns-clause-pushed
returns-clause-pushed c =
    let x = c.args.self.now in
    let o : Origin = record { from = c.args.from; ends = c.len-ends.result } in
    let makers = c.in_ok-extend_from_slice.ensures.items in
    let origins = c.in_ok-push.ensures.items in
    ap₂ (state_origins_from 0) origins makers
    ∙ state_origins_push 0 x.origins.items x.makers.items c.args.makers.now c.args.from c.requires.in_order o refl (c.len-ends.ensures ∙ c.extend_from_slice.new.self.ok.0 ∙ ap (λ (ms : List _). length ms) makers)

pub returns-clause-in_order : goal.returns-clause-in_order
returns-clause-in_order c =
    let x = c.args.self.now in
    let o : Origin = record { from = c.args.from; ends = c.len-ends.result } in
    let makers = c.in_ok-extend_from_slice.ensures.items in
    let longer = ap (λ (ms : List _). length ms) makers ∙ length-append x.makers.items c.args.makers.now in
    let new = length c.extend_from_slice.new.self.items in
    subst (λ os. AreOriginsInOrderFrom 0 os new) (sym c.in_ok-push.ensures.items)
    (state_origins_push_in_order 0 x.origins.items (length x.makers.items) new c.requires.in_order (omega (arith, longer)) (let most = c.requires.makers in omega (arith, longer, most)) o (c.len-ends.ensures ∙ c.extend_from_slice.new.self.ok.0))

pub overflow_cast-ends : goal.overflow_cast-ends
overflow_cast-ends c =
    let x = c.args.self.now in
    let many = state_origins_makers_few 0 x.origins.items (length x.makers.items) c.requires.in_order in
    let origins = state_origins_long 0 x.origins.items x.makers.items in
    let few = c.requires.few in
    let most = c.requires.makers in
    let longer = ap (λ (ms : List _). length ms) c.in_ok-extend_from_slice.ensures.items ∙ length-append x.makers.items c.args.makers.now in
    let is = c.len-ends.ensures in
    let ok = c.extend_from_slice.new.self.ok.0 in
    omega (arith, many, origins, few, most, longer, is, ok)
