use Rattle.std.proofs.Common.{inl, inr, subst, sym, refl, arith}
use Rattle.std.proofs.lemmas.Bool.{cases_lt}
use Rattle.journal.specs.declared.event.Kind.TheVariants.{Store}
use Rattle.journal.specs.DidEvent.{event}
use Rattle.journal.proofs.Order.EventPlacesAndCounts.{event_place_inside}
use Rattle.judge.specs.KeptStores.{AreKeptStores}
use Rattle.judge.proofs.kept_stores.AnsweringKept.{answering_kept_later}
use Rattle.judge.proofs.kept_stores.KeptStores.unknown_by.Goals as goal

pub first_kept_store_from-requires : goal.first_kept_store_from-requires
first_kept_store_from-requires c =
    let s = c.args.self.now in
    let j = c.requires.tells.0 in
    (subst (AreKeptStores s.processors j s.known.cuts c.args.address c.args.by) (sym c.stores_of-stores.ensures)
    (c.requires.tells.1.kept.stores c.args.address c.args.by c.requires.by)).rising

pub returns : goal.returns
returns c = λ j tells.
    let s = c.args.self.now in
    let p = c.args.processor in
    let a = c.args.address in
    let q = c.args.by in
    let stores = c.stores_of-stores.result.now in
    let are = subst (AreKeptStores s.processors j s.known.cuts a q) (sym c.stores_of-stores.ensures)
    (tells.kept.stores a q c.requires.by) in
    let first = c.first_kept_store_from.ensures in
    let known = c.known_up_to.ensures j tells in
    record {
      within = first.within;
      sound = λ m x le at.
          (let does = (are.each m x at).does in
          let above = first.above m x le at in
          (does, λ past. (let below = (known x.place (event q (Store a x.value)) does refl).0 past in omega arith)));
      complete = λ i v does outside.
          (let kept = are.all i (event_place_inside j i (event q (Store a v)) does)
          (answering_kept_later s.processors j p a q i v c.requires.processor tells.processors does outside) in
          let place = kept.place in
          let m = kept.has.0 in
          elim (cases_lt m c.first_kept_store_from.result) [
            | inl lt ↦
                (let below = first.below m kept.store lt kept.has.1 in
                absurd (outside ((known i (event q (Store a v)) does refl).1 (omega arith))))
            | inr le ↦ (m, kept.store, le, kept.has.1, place)
          ]);
    }
