use Rattle.std.proofs.Common.{◌≡◌, ◌/◌, Some, slice_get, sym, subst, arith}
use Rattle.std.proofs.lemmas.Grind.{common_steps}
use Rattle.page.specs.declared.page.Access.TheVariants.{Valid}
use Rattle.cluster.specs.Copies.Sound.{IsSound}
use Rattle.cluster.proofs.CoveringHistories.{covers}
use Rattle.cluster.proofs.MayAccessAndFetch.{may_access_copy_read, may_access_place_within, may_access_room_within}
use Rattle.cluster.proofs.NotedEvents.{noted_event_offset_in_page, noted_event_stored_sound, noted_event_store_done}
use Rattle.cluster.proofs.processor.Processor.store.Given as given
use Rattle.cluster.proofs.processor.Processor.store.Goals as goal
use Rattle.cluster.proofs.processor.Processor.store.Goals.{After-index_mut}

-- the copy that is read is the processor's, and valid
read : (g : given.Over) (c : After-index_mut g)
    → let m = c.args.self.now in
    let x = c.index_mut.result.now in
    (slice_get m.copies (c.args.address / m.sizes.words) ≡ Some x) × (x.page.access ≡ Valid)
read g c =
    may_access_copy_read _ _ _ _ _ c.self.view_is (sym c.in_ok-page.ensures.refused) c.in_ok-page.ensures.place.0
    c.index_mut.ensures.value

pub index_mut-requires : goal.index_mut-requires
index_mut-requires g c =
    let place = c.in_ok-page.ensures.place.0 in
    let within = may_access_place_within _ _ c.args.address _ c.self.view_is (sym c.in_ok-page.ensures.refused) place in
    let long = c.self.inside.replicas.ok.0 in
    omega arith

pub add-requires : goal.add-requires
add-requires g c =
    let place = c.in_ok-page.ensures.place.0 in
    let within = may_access_place_within _ _ c.args.address _ c.self.view_is (sym c.in_ok-page.ensures.refused) place in
    let long = c.self.invariant.0.copies.long in
    let few = c.self.invariant.0.sizes.pages in
    omega arith

pub push_reserved-requires : goal.push_reserved-requires
push_reserved-requires g c =
    let room = may_access_room_within _ _ c.args.address c.self.view_is (sym c.in_ok-page.ensures.refused) in
    let kept = c.self.invariant.2 in
    let long = c.self.inside.block.ok.0 in
    omega arith

pub store-requires-clause-in_range : goal.store-requires-clause-in_range
store-requires-clause-in_range g c =
    let r = read g (goal.at.store-requires-clause-in_range g c).After-index_mut in
    rw (c.in_ok-page.ensures.place.1)
    (noted_event_offset_in_page _ c.args.address _ r.0 (subst IsSound c.self.view_is c.self.invariant.0))

pub store-requires-clause-valid : goal.store-requires-clause-valid
store-requires-clause-valid g c = (read g (goal.at.store-requires-clause-valid g c).After-index_mut).1

pub returns-in_err-page-clause-covers : goal.returns-in_err-page-clause-covers
returns-in_err-page-clause-covers g c = covers _ (subst IsSound c.self.view_is c.self.invariant.0)

pub returns-clause-ok : goal.returns-clause-ok
returns-clause-ok g c = record {
  copy = c.index_mut.result.now;
  at = (read g (goal.at.returns-clause-ok g c).After-index_mut).0;
  after =
      let place = c.in_ok-page.ensures.place in
      noted_event_store_done c.args.address c.args.value c.index_mut.result.now c.self.view_is place.0 place.1 c.store.ensures
      c.push_reserved.ensures.items c.add.ensures;
}

pub invariant_of-self : goal.invariant_of-self
invariant_of-self g c =
    let r = read g (goal.at.invariant_of-self g c).After-index_mut in
    let place = c.in_ok-page.ensures.place in
    let after =
    noted_event_store_done c.args.address c.args.value c.index_mut.result.now c.self.view_is place.0 place.1 c.store.ensures c.push_reserved.ensures.items c.add.ensures in
    let sound =
    noted_event_stored_sound _ c.args.address c.args.value _ (sym c.in_ok-page.ensures.refused) r.0
    (subst IsSound c.self.view_is c.self.invariant.0) in (
      subst IsSound (sym after) sound,
      c.self.invariant.1,
      (let kept = c.self.invariant.2 in let same = c.push_reserved.ensures.capacity in omega arith),
    )

pub returns-clause-covers : goal.returns-clause-covers
returns-clause-covers g c = covers _ (invariant_of-self g c).0

pub returns-clause-calls : goal.returns-clause-calls
returns-clause-calls g c = grind (arith, common_steps)
