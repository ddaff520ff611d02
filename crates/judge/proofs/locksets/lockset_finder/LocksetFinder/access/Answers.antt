use Rattle.std.proofs.Common.{◌↔◌, ℕ, List, length, subst, sym, refl, ◌∙◌, arith}
use Rattle.std.proofs.lemmas.List.{length-map}
use Rattle.std.proofs.lemmas.Option.{slice_get_read}
use Rattle.base.specs.InOrderOnce.{Has}
use Rattle.journal.specs.WellFormed.{Holds}
use Rattle.journal.proofs.Order.EventPlacesAndCounts.{event_place_does}
use Rattle.judge.specs.Locksets.Held.{AreHeldLocks}
use Rattle.judge.specs.Locksets.Unlocked.{unlocked_event}
use Rattle.judge.proofs.locksets.lockset_finder.LocksetFinder.access.Goals as goal

pub returns : goal.returns
returns c = λ h j a e tells comes mine is stores.
    let p = c.args.processor in
    let sets = c.args.self.now.held.items in
    let held = c.index.result.now in
    let long = tells.sets in
    let inside = c.requires.processor in
    let set = tells.held p held (slice_get_read sets (length sets) p held refl (omega (arith, c.args.self.now.held.ok.0)) c.index.ensures) in
    record {
      place = tells.cuts.place ∙ length-map j unlocked_event;
      kind = e.kind;
      does = event_place_does h (length j) p e comes.at mine;
      address = is;
      stores = stores;
      held = subst (λ xs. AreHeldLocks xs p c.in_ok-held.held) (sym comes.begins)
          (λ l. subst (λ (locks : List ℕ). Has locks l ↔ Holds j p l) (sym c.in_ok-held.ensures) (set l));
    }
