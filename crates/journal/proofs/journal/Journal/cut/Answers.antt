use Rattle.std.proofs.Common.{◌≡◌, List, length, take, drop, subst, sym, refl, ap, ◌∙◌, arith}
use Rattle.journal.specs.declared.event.Event.{Event}
use Rattle.journal.specs.Log.{Log}
use Rattle.journal.specs.EventsInRange.{EventAddressesInRange}
use Rattle.journal.specs.RacesFromBase.{RaceFreeFromBase}
use Rattle.journal.specs.EpisodeBases.{IsEpisodeBaseAfter}
use Rattle.journal.specs.JournalCuts.{JournalWasCut}
use Rattle.journal.specs.KeptBaseState.{base_of_kept_state}
use Rattle.journal.proofs.Journals.JournalMemory.{journal_memory_addresses_part}
use Rattle.journal.proofs.journal.Journal.cut.Goals as goal

pub overflow_add-cut_events : goal.overflow_add-cut_events
overflow_add-cut_events c =
    let few = rw c.in_ok-taken.ensures.ok_part at c.part.ensures.few in
    omega (arith, few, c.cut_events.ensures.limit)

pub after-requires-clause-addresses : goal.after-requires-clause-addresses
after-requires-clause-addresses c =
    let j = c.self.inside in
    let part = journal_memory_addresses_part j.addresses j.processors c.in_ok-taken.taken j.events.items c.self.invariant.in_range in
    let long =
    subst (λ n. EventAddressesInRange n (take c.in_ok-taken.taken (drop j.processors j.events.items)))
    (sym c.self.invariant.kept.long) part in
    rw c.events.ensures.value (subst
    (λ (l : Log). EventAddressesInRange (length j.kept.memory.items) (take c.in_ok-taken.taken l.events))
    c.self.view_is long)

pub returns-clause-ok : goal.returns-clause-ok
returns-clause-ok c =
    let j = c.self.inside in
    let log = c.args.self.now in
    let taken = c.in_ok-taken.taken in
    let kept = c.in_ok-kept.kept in
    let same : c.race_of_part.new.self ≡ log = c.race_of_part.ensures.same in
    let free = rw c.in_default.is at c.in_ok-first.ensures.race in
    let left : c.take_off.new.self ≡ record log { events = drop taken log.events; base = base_of_kept_state kept } =
    c.take_off.ensures ∙ ap (λ (l : Log). record l { events = drop taken l.events; base = base_of_kept_state kept }) same in
    subst (JournalWasCut log) (sym left) (record {
      taken = taken;
      may = record {
        place = rw c.in_ok-taken.ensures.ok_part at c.part.ensures.place;
        few = omega (arith, c.cut_events.ensures.value, c.if-cut_events-taken-gt-MOST_CUT.false);
      };
      race_free = subst (λ (l : Log). RaceFreeFromBase l.base (take taken l.events)) same free;
      base =
          subst (λ (l : Log). IsEpisodeBaseAfter l.base (take taken l.events) (base_of_kept_state kept)) (c.self.view_is ∙ same) (subst
          (λ (xs : List Event). IsEpisodeBaseAfter (base_of_kept_state j.kept) (take taken xs) (base_of_kept_state kept))
          (c.events.ensures.value ∙ sym (ap (λ (l : Log). l.events) c.self.view_is))
          c.in_ok-kept.ensures.after);
      left = refl;
    })
