use Rattle.std.proofs.Common.{List, sym, subst, arith}
use Rattle.std.proofs.lemmas.Option.{get_or_from_slice_get, slice_get_within}
use Rattle.journal.specs.declared.event.Event.{Event}
use Rattle.journal.specs.Sizes.{Sizes}
use Rattle.judge.specs.SizedHistory.{IsHistoryInSizes}
use Rattle.judge.specs.JudgedSizes.{AreStreamedSizes}
use Rattle.lrc_check.specs.Traces.LawfulTraces.{IsLawfulTrace, IsWithinLawfulTrace}
use Rattle.lrc_check.specs.Traces.Sizes.{trace_sizes_of}
use Rattle.lrc_check.proofs.trace_history.trace_history_of.Goals as goal

trace_in_sizes : (s : Sizes) (es : List Event) → IsLawfulTrace s es → IsHistoryInSizes s es
trace_in_sizes s es trace k e at =
    let within = subst (IsWithinLawfulTrace s) (get_or_from_slice_get es k e e at)
    (trace.events k e (slice_get_within es k e at)) in
    record { processor = within.processor; kind = within.kind }

pub unwrap-requires : goal.unwrap-requires
unwrap-requires c =
    let s = trace_sizes_of c.args.sizes in
    let es = c.args.events.now in
    c.new.ensures.fits.1 (record {
      judged = subst AreStreamedSizes (sym c.trace_history_sizes.ensures) c.requires.trace.sizes.streamed;
      opening = omega arith;
      few_opening = omega arith;
      few = (let few = c.requires.few in omega arith);
      within = subst (λ (t : Sizes). IsHistoryInSizes t es) (sym c.trace_history_sizes.ensures)
          (trace_in_sizes s es c.requires.trace);
    })
