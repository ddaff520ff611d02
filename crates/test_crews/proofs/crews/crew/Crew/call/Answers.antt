use Rattle.std.proofs.Common.{◌≡◌, length, refl, ◌∙◌, slice_get, Some, arith}
use Rattle.std.proofs.lemmas.Option.{slice_get_read}
use Rattle.base.proofs.SliceSets.{slice_get-set_other}
use Rattle.test_crews.proofs.crews.Crewing.{members_set, same_calls}
use Rattle.test_crews.proofs.crews.crew.Crew.call.Goals as goal

pub make-requires-after_bounds : goal.make-requires-after_bounds
make-requires-after_bounds g c κs within =
    let ms = c.self.inside.processors.items in
    let old = c.index_mut.result.now in
    let at : slice_get ms c.args.p ≡ Some old =
    slice_get_read ms (length ms) c.args.p old refl (omega arith) c.index_mut.ensures.value in
    (c.self.invariant.each c.args.p old at).of

pub invariant_of-self : goal.invariant_of-self
invariant_of-self g c =
    let ms = c.self.inside.processors.items in
    let old = c.index_mut.result.now in
    let at : slice_get ms c.args.p ≡ Some old =
    slice_get_read ms (length ms) c.args.p old refl (omega arith) c.index_mut.ensures.value in
    let own = c.self.invariant.each c.args.p old at in
    members_set c.self.inside.cluster ms c.args.p c.make.new.processor c.self.invariant
    (record { of = c.make.ensures.own; number_is = c.make.ensures.number ∙ own.number_is })

pub returns-clause-own : goal.returns-clause-own
returns-clause-own g c =
    let ms = c.self.inside.processors.items in
    rw (← c.self.view_is) (record {
      cluster = refl;
      others = λ q isnt. slice_get-set_other ms c.args.p q c.make.new.processor isnt;
    })

pub returns-clause-refused : goal.returns-clause-refused
returns-clause-refused g c =
    let ms = c.self.inside.processors.items in
    let old = c.index_mut.result.now in
    let at : slice_get ms c.args.p ≡ Some old =
    slice_get_read ms (length ms) c.args.p old refl (omega arith) c.index_mut.ensures.value in
    rw (← c.self.view_is)
    (same_calls c.make.result ms c.args.p old c.make.new.processor at c.make.ensures.kept)
