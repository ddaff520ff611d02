use Rattle.std.proofs.Common.{rules, List, drop, subst, sym, ap, ◌∙◌}
use Rattle.std.proofs.Math.Seq.{drop-length}
use Rattle.journal.specs.declared.event.Event.{Event}
use Rattle.journal.specs.CutEpisodes.{AreCutEpisodes}
use Rattle.journal.proofs.Journals.JournalMemory.{journal_memory_opening_processors, journal_memory_opening_addresses, journal_memory_opening_whole}
use Rattle.journal.proofs.journal.Journal.new.Goals as goal

pub invariant_of-result : goal.invariant_of-result
invariant_of-result c =
    let events = c.in_ok-journal_opening.field-0.items in
    let opening = c.in_ok-journal_opening.ensures in
    let none = ap (λ n. drop n events) (sym opening.long) ∙ drop-length events in
    record {
      reserved = search rules;
      few = search rules;
      few_processors = c.requires;
      opening = journal_memory_opening_whole c.args.processors events opening;
      by_processors = journal_memory_opening_processors c.args.processors events opening;
      in_range = journal_memory_opening_addresses c.args.processors events opening c.args.addresses;
      kept = c.in_ok-new.ensures.kept;
      episodes =
          subst (λ (xs : List Event). AreCutEpisodes c.args.processors xs c.new-2.result) (sym none)
          (c.new-2.ensures c.args.processors);
      race = tt;
    }
