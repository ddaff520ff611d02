use Rattle.std.proofs.Common.{ℕ, ◌≡◌, ◌++◌, ◌∷◌, [], List, length, slice_get, Some, append_assoc, subst, sym, ap, ◌∙◌, arith}
use Rattle.std.proofs.lemmas.List.{length_push}
use Rattle.std.proofs.lemmas.Option.{slice_get_within}
use Rattle.std.proofs.lemmas.Grind.{elements}
use Rattle.std.specs.Vec.Iter.{into_iter_items}
use Rattle.base.proofs.SlicesAndCounts.{slice_get-append_left, slice_get-last}
use Rattle.turn.specs.Chairs.{lock}
use Rattle.cluster.specs.Copies.Local.{Local, new_local}
use Rattle.cluster.specs.NewClusters.{IsNewClusterChair}
use Rattle.cluster.proofs.StartingProcessors.{starting_processors_middle, starting_processors_seated_more}
use Rattle.cluster.proofs.cluster.Cluster.seat_all.Goals as goal

pub seated-requires-clause-chair : goal.seated-requires-clause-chair
seated-requires-clause-chair g c κs within =
    let inv = c.loop-chair.invariant in
    let here : slice_get c.args.chairs.items (length c.loop-chair.yielded) ≡ Some c.in-Some.chair =
    rw (← inv.came, c.in-Some.ensures.steps.0)
    (starting_processors_middle c.loop-chair.yielded (into_iter_items c.next.new.self) c.in-Some.chair) in
    let place : length c.loop-chair.yielded ≡ c.len.result = let n = c.len.ensures in
    let made = inv.made in omega arith in
    let P : ℕ → Type 0 = λ k. IsNewClusterChair (lock c.in-Some.chair) c.args.shape k c.in-Some.chair in
    subst P place (c.requires.chairs.1 (length c.loop-chair.yielded) c.in-Some.chair here)

pub seated-requires-clause-parts : goal.seated-requires-clause-parts
seated-requires-clause-parts g c κs within =
    c.loop-chair.invariant.parts (length c.pop.new.self.items) c.in-Some-pop.own
    (rw (c.in-Some-pop.ensures.items) (slice_get-last c.pop.new.self.items c.in-Some-pop.own))

pub loop-chair-preserved : goal.loop-chair-preserved
loop-chair-preserved g c =
    let inv = c.loop-chair.invariant in
    let chairs = c.args.chairs.items in
    let chair = c.in-Some.chair in
    let yielded = c.loop-chair.yielded in
    let more = length_push yielded chair in
    let here : slice_get chairs (length yielded) ≡ Some chair =
    rw (← inv.came, c.in-Some.ensures.steps.0) (starting_processors_middle yielded (into_iter_items c.next.new.self) chair) in
    let made : length yielded ≡ length c.loop-chair.all.items = let m = inv.made in omega arith in
    let long : c.len.result ≡ length c.loop-chair.all.items = let n = c.len.ensures in omega arith in
    let P : ℕ → Type 0 = λ k. slice_get chairs k ≡ Some chair in
    let Q : ℕ → Type 0 = λ k. c.seated.result ≡ new_local (lock chair) k c.args.shape in
    let each =
    starting_processors_seated_more c.args.shape chairs c.loop-chair.all.items chair c.seated.result (subst P made here)
    (subst Q long c.seated.ensures) inv.each in
    record {
      came =
          append_assoc yielded (chair ∷ []) (into_iter_items c.next.new.self)
          ∙ sym (ap (λ xs. yielded ++ xs) c.in-Some.ensures.steps.0) ∙ inv.came;
      left = let was = inv.left in let one = c.in-Some-pop.ensures.cases in omega arith;
      parts =
          λ p x at. inv.parts p x (rw (c.in-Some-pop.ensures.items) (slice_get-append_left c.pop.new.self.items
          (c.in-Some-pop.own ∷ []) p (slice_get_within c.pop.new.self.items p x at) ∙ at));
      made = let was = inv.made in let one = c.push_reserved.ensures.len in omega arith;
      each = λ p m at. each p m (subst (λ (xs : List Local). slice_get xs p ≡ Some m) c.push_reserved.ensures.items at);
      room = let was = inv.room in let same = c.push_reserved.ensures.capacity in omega arith;
    }

pub returns : goal.returns
returns g c = grind (arith, elements)

pub unreachable-requires : goal.unreachable-requires
unreachable-requires g c = grind (arith, elements)
