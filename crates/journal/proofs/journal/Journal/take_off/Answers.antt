use Rattle.std.proofs.Common.{◌-◌, List, length, take, drop, subst, sym, ap, ◌∙◌, arith}
use Rattle.journal.specs.declared.event.Event.{Event}
use Rattle.journal.specs.Log.{Log}
use Rattle.journal.specs.EventsInRange.{EventAddressesInRange, EventProcessorsInRange}
use Rattle.journal.specs.Opening.{IsOpening}
use Rattle.journal.specs.CutEpisodes.{AreCutEpisodes}
use Rattle.journal.specs.KeptBaseState.{IsKeptBaseState}
use Rattle.journal.proofs.Journals.JournalMemory.{journal_memory_processors_part, journal_memory_processors_cut, journal_memory_addresses_cut, journal_memory_opening_cut, journal_memory_behind_whole}
use Rattle.journal.proofs.journal.Journal.take_off.Goals as goal

pub of-self-inside-requires-clause-processors : goal.of-self-inside-requires-clause-processors
of-self-inside-requires-clause-processors c =
    let j = c.self.inside in
    let left = c.remove_from_journal.new.events.items in
    rw c.deref.ensures.value (journal_memory_processors_part j.processors j.processors (length left - j.processors) left (subst
    (EventProcessorsInRange j.processors) (sym c.remove_from_journal.ensures.items)
    (journal_memory_processors_cut j.processors c.args.taken j.events.items j.processors c.self.invariant.by_processors)))

pub invariant_of-self : goal.invariant_of-self
invariant_of-self c =
    let j = c.self.inside in
    let held = c.self.invariant in
    let items = c.remove_from_journal.ensures.items in
    let len = c.remove_from_journal.ensures.len in
    let behind =
    ap (λ (xs : List Event). take (length xs - j.processors) (drop j.processors xs)) c.deref.ensures.value
    ∙ journal_memory_behind_whole j.processors c.remove_from_journal.new.events.items in
    record {
      reserved = omega (arith, c.remove_from_journal.ensures.capacity, held.reserved);
      few = omega (arith, held.few);
      few_processors = held.few_processors;
      opening =
          subst (λ (xs : List Event). IsOpening j.processors (take j.processors xs)) (sym items)
          (journal_memory_opening_cut j.processors c.args.taken j.events.items held.opening);
      by_processors =
          subst (EventProcessorsInRange j.processors) (sym items)
          (journal_memory_processors_cut j.processors c.args.taken j.events.items j.processors held.by_processors);
      in_range =
          subst (EventAddressesInRange j.addresses) (sym items)
          (journal_memory_addresses_cut j.processors c.args.taken j.events.items j.addresses held.in_range);
      kept = subst (λ (l : Log). IsKeptBaseState l.addresses c.args.kept) (sym c.self.view_is) c.requires.kept;
      episodes =
          subst (λ (xs : List Event). AreCutEpisodes j.processors xs c.of-self-inside.result) behind
          c.of-self-inside.ensures;
      race = tt;
    }
