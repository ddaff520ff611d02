use Rattle.std.proofs.Common.{ℕ, ◌≡◌, ◌+◌, Some, List, [], ◌∷◌, ◌++◌, length, slice_get, refl, sym, ap, subst, append_assoc, ◌∙◌, arith}
use Rattle.std.specs.Vec.Iter.{into_iter_items}
use Rattle.base.proofs.SlicesAndCounts.{slice_get-append_right}
use Rattle.cluster.specs.Copies.Local.{Local, new_local}
use Rattle.cluster.specs.NewClusters.{SharedCluster}
use Rattle.test_crews.proofs.seated.tests.sit_in_turn.Given.{Over}
use Rattle.test_crews.proofs.seated.tests.sit_in_turn.Goals as goal

-- the item behind a front
behind : {A : Type 0} (front rest all : List A) (x : A) → front ++ x ∷ rest ≡ all → slice_get all (length front) ≡ Some x
behind front rest all x is =
    let place : length front ≡ length front + 0 = omega arith in
    subst (λ ys. slice_get ys (length front) ≡ Some x) is
    (ap (slice_get (front ++ x ∷ rest)) place ∙ slice_get-append_right front (x ∷ rest) 0)

-- a new processor, by its own number
numbered : {c : SharedCluster} {p : ℕ} {m : Local} → m ≡ new_local c.lock p c.sizes → m ≡ new_local c.lock m.number c.sizes
numbered {c} {p} {m} is = subst (λ n. m ≡ new_local c.lock n c.sizes) (sym (ap (λ (x : Local). x.number) is)) is

at : (g : Over) (c : goal.In-Some g) → slice_get c.args.processors.items (length c.loop-processor.yielded) ≡ Some c.in-Some.processor
at g c =
    behind c.loop-processor.yielded (into_iter_items c.next.new.self) c.args.processors.items c.in-Some.processor
    (sym (ap (λ xs. c.loop-processor.yielded ++ xs) c.in-Some.ensures.steps.0) ∙ c.loop-processor.invariant)

pub sit-requires-clause-new : goal.sit-requires-clause-new
sit-requires-clause-new g c κs within = numbered (c.requires.new.each (length c.loop-processor.yielded) c.in-Some.processor (at g c))

pub sit-requires-clause-covers : goal.sit-requires-clause-covers
sit-requires-clause-covers g c κs within = c.requires.covered.covers (length c.loop-processor.yielded) c.in-Some.processor (at g c)

pub sit-requires-clause-allowed : goal.sit-requires-clause-allowed
sit-requires-clause-allowed g c κs within = c.requires.covered.allowed (length c.loop-processor.yielded) c.in-Some.processor (at g c)

pub loop-processor-preserved : goal.loop-processor-preserved
loop-processor-preserved g c =
    append_assoc c.loop-processor.yielded (c.in-Some.processor ∷ []) (into_iter_items c.next.new.self)
    ∙ sym (ap (λ xs. c.loop-processor.yielded ++ xs) c.in-Some.ensures.steps.0) ∙ c.loop-processor.invariant
