use Rattle.std.proofs.Common.{refl, ap, arith}
use Rattle.std.proofs.lemmas.Grind.{elements}
use Rattle.journal.specs.declared.event.Event.{Event}
use Rattle.judge.specs.JudgedSizes.{judged_sizes_of}
use Rattle.judge.specs.GapTally.{gap_tally_place_of}
use Rattle.judge.specs.FetchGaps.{fetch_gap_time}
use Rattle.judge.proofs.GapEvents.{gap_event_fetched_others}
use Rattle.judge.proofs.KeepingGaps.{keeping_gaps}
use Rattle.judge.proofs.gaps.Gaps.keep.Goals as goal

pub returns-in_default : goal.returns-in_default
returns-in_default c = record {
  sizes = refl;
  clocks = refl;
  long = c.requires.tells.1.long;
  kept = λ j tells.
      (let g = c.args.self.now in
      let e = c.args.event in
      keeping_gaps j e g g.fetched (λ q a v is. c.in_default.not-Store a v (ap (λ (x : Event). x.kind) is))
      (λ n p lt. gap_event_fetched_others (judged_sizes_of g.sizes) j e p n (fetch_gap_time g.fetched (gap_tally_place_of n p))
      (λ w r d is. c.in_default.not-Fetch w n r d (ap (λ (x : Event). x.kind) is)) (tells.are.fetched n p lt))
      (let few = tells.are.few in omega arith) tells.are);
}

pub returns-in-Store-clause-kept : goal.returns-in-Store-clause-kept
returns-in-Store-clause-kept c = grind (arith, elements)

pub returns-in-Fetch-clause-kept : goal.returns-in-Fetch-clause-kept
returns-in-Fetch-clause-kept c = grind (arith, elements)
