use Rattle.std.proofs.Common.{◌∙◌, List, length, take, ap, subst, sym}
use Rattle.std.proofs.lemmas.List.{length-take-le}
use Rattle.journal.specs.declared.event.Event.{Event}
use Rattle.judge.specs.SizedHistory.{SizedHistory}
use Rattle.lrc_check.specs.ToldTraces.{IsToldTraceUpToLie, is_told_trace_a_lie}
use Rattle.lrc_check.specs.Traces.Labels.{AreTraceLabelsShown}
use Rattle.lrc_check.specs.Traces.Sizes.{trace_sizes_of}
use Rattle.lrc_check.proofs.FoundRaces.{IsFoundRace, found_race_by_verdict}
use Rattle.lrc_check.proofs.ToldHistories.{told_events_of_checked}
use Rattle.lrc_check.proofs.telling_traces.tell_judged_trace.Goals as goal

pub returns : goal.returns
returns c =
    let rules = c.args.rules in
    let m = rules.model in
    let lax = rules.lax in
    let s = trace_sizes_of c.args.labelled.now.trace.sizes in
    let j = c.args.labelled.now.trace.events.items in
    let found = c.args.judged.now.found in
    let checked = c.requires.found in
    let h = c.trace_history_of.result in
    let front = sym (ap (λ (x : SizedHistory). x.events) c.trace_history_of.ensures.whole ∙ ap (take found.count) c.deref-events.ensures.value) in
    let told = told_events_of_checked rules s j found c.requires.on checked in
    record {
      sizes = c.trace_history_of.ensures.sizes;
      events = subst (λ b. IsToldTraceUpToLie b m lax s j (h.events)) (sym c.in_ok-lie.ensures)
          (subst (IsToldTraceUpToLie (is_told_trace_a_lie found.verdict) m lax s j) front told);
      shown = subst (λ (xs : List Event). AreTraceLabelsShown c.args.labelled.now.labels (length xs) c.in_ok-labels.labels) front
          (subst (λ n. AreTraceLabelsShown c.args.labelled.now.labels n c.in_ok-labels.labels) (sym (length-take-le found.count j checked.within))
          c.in_ok-labels.ensures);
      race = subst (λ xs. IsFoundRace xs found.race) front
          (found_race_by_verdict rules s (take found.count j) found.race found.verdict checked.verdict);
    }
