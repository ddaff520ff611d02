use Rattle.std.proofs.Common.{◌≡◌, ◌/◌, ◌%◌, ◌∷◌, [], ◌∙◌, Some, append_assoc, slice_get, sym, ap, subst, arith}
use Rattle.journal.specs.declared.event.Kind.TheVariants.{Load}
use Rattle.journal.specs.DidEvent.{event}
use Rattle.journal.specs.Events.{events_of}
use Rattle.cluster.specs.Copies.Local.{Local, calls, local_noted}
use Rattle.page.specs.declared.page.Access.TheVariants.{Valid}
use Rattle.cluster.specs.Copies.Sound.{IsSound}
use Rattle.cluster.proofs.CoveringHistories.{covers}
use Rattle.cluster.proofs.MayAccessAndFetch.{may_access_copy_read, may_access_place_within, may_access_room_within}
use Rattle.cluster.proofs.NotedEvents.{noted_event_offset_in_page, noted_event_loaded}
use Rattle.cluster.proofs.processor.Processor.load.Given as given
use Rattle.cluster.proofs.processor.Processor.load.Goals as goal
use Rattle.cluster.proofs.processor.Processor.load.Goals.{After-index}

-- the copy that is read is the processor's, and valid
read : (g : given.Over) (c : After-index g)
    → let m = c.args.self.now in
    let x = c.index.result.now in
    (slice_get m.copies (c.args.address / m.sizes.words) ≡ Some x) × (x.page.access ≡ Valid)
read g c =
    may_access_copy_read _ _ _ _ _ c.self.view_is (sym c.in_ok-page.ensures.refused) c.in_ok-page.ensures.place.0
    c.index.ensures

pub index-requires : goal.index-requires
index-requires g c =
    let place = c.in_ok-page.ensures.place.0 in
    let within = may_access_place_within _ _ c.args.address _ c.self.view_is (sym c.in_ok-page.ensures.refused) place in
    let long = c.self.inside.replicas.ok.0 in
    omega arith

pub push_reserved-requires : goal.push_reserved-requires
push_reserved-requires g c =
    let room = may_access_room_within _ _ c.args.address c.self.view_is (sym c.in_ok-page.ensures.refused) in
    let kept = c.self.invariant.2 in
    let long = c.self.inside.block.ok.0 in
    omega arith

pub load-value-requires-clause-in_range : goal.load-value-requires-clause-in_range
load-value-requires-clause-in_range g c =
    let r = read g (goal.at.load-value-requires-clause-in_range g c).After-index in
    rw (c.in_ok-page.ensures.place.1)
    (noted_event_offset_in_page _ c.args.address _ r.0 (subst IsSound c.self.view_is c.self.invariant.0))

pub load-value-requires-clause-valid : goal.load-value-requires-clause-valid
load-value-requires-clause-valid g c = (read g (goal.at.load-value-requires-clause-valid g c).After-index).1

pub returns-in_err-page-clause-covers : goal.returns-in_err-page-clause-covers
returns-in_err-page-clause-covers g c = covers _ (subst IsSound c.self.view_is c.self.invariant.0)

pub returns-clause-word : goal.returns-clause-word
returns-clause-word g c = record {
  copy = c.index.result.now;
  at = (read g (goal.at.returns-clause-word g c).After-index).0;
  word = rw (← c.in_ok-page.ensures.place.1) c.load-value.ensures;
}

pub returns-clause-ok : goal.returns-clause-ok
returns-clause-ok g c =
    rw (c.push_reserved.ensures.items) (ap (λ (x : Local). local_noted x (Load c.args.address c.load-value.result))
    c.self.view_is)

pub returns-clause-calls : goal.returns-clause-calls
returns-clause-calls g c =
    let m = c.args.self.now in
    ap calls (returns-clause-ok g c)
    ∙ sym (append_assoc (events_of m.seen m.number) m.block (event m.number (Load c.args.address c.load-value.result) ∷ []))

pub invariant_of-self : goal.invariant_of-self
invariant_of-self g c =
    let r = read g (goal.at.invariant_of-self g c).After-index in
    let m = c.args.self.now in
    let word : slice_get c.index.result.now.page.words (c.args.address % m.sizes.words) ≡ Some c.load-value.result =
    rw (← c.in_ok-page.ensures.place.1) c.load-value.ensures in
    let sound =
    noted_event_loaded m c.args.address c.load-value.result c.index.result.now (sym c.in_ok-page.ensures.refused) r.0 word
    (subst IsSound c.self.view_is c.self.invariant.0) in (
      rw (c.push_reserved.ensures.items) (subst (λ (x : Local).
          IsSound (local_noted x (Load c.args.address c.load-value.result))) (sym c.self.view_is) sound),
      c.self.invariant.1,
      (let kept = c.self.invariant.2 in let same = c.push_reserved.ensures.capacity in omega arith),
    )

pub returns-clause-covers : goal.returns-clause-covers
returns-clause-covers g c = covers _ (invariant_of-self g c).0
