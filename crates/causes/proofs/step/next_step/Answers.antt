use Rattle.std.proofs.Common.{◌≡◌, ◌+◌, ◌<◌, ℕ, List, slice_index, slice_index_or, subst, sym, take, arith}
use Rattle.std.proofs.lemmas.Option.{slice_get-get_or}
use Rattle.journal.specs.declared.event.Event.{Event}
use Rattle.journal.specs.declared.event.Kind.TheVariants.{Load}
use Rattle.journal.specs.DidEvent.{event}
use Rattle.judge.specs.declared.cuts.Cuts.{Cuts}
use Rattle.judge.specs.CutRows.{cut_entry}
use Rattle.judge.specs.Cuts.{AreCuts, IsCutOf}
use Rattle.judge.proofs.TellingCuts.{cut_of_equal, cut_of_present}
use Rattle.causes.proofs.step.next_step.Goals as goal

-- a list of the entries of a processor's cut is that cut
read_cut : (j : List Event) (cuts : Cuts) (p : ℕ) (xs ys : List ℕ) → AreCuts j cuts → p < cuts.present
    → ((q : ℕ) → slice_index xs q ≡ cut_entry cuts.processors p q) → ys ≡ xs → IsCutOf j p (slice_index ys)
read_cut j cuts p xs ys are low read same =
    subst (λ zs. IsCutOf j p (slice_index zs)) (sym same)
    (cut_of_equal j p (cut_entry cuts.processors p) (slice_index xs) (λ q. sym (read q)) (cut_of_present are p low))

pub returns-clause-step : goal.returns-clause-step
returns-clause-step c =
    let events = c.args.events.now in
    let place = c.args.place in
    let e = slice_index_or events place (event 0 (Load 0 0)) in
    let at = slice_get-get_or events place (event 0 (Load 0 0)) c.requires.place in
    let low = c.requires.processors place e at in
    let present = c.note_step.ensures.present in
    record {
      event = e;
      at = at;
      before = read_cut (take place events) c.args.cuts.now e.processor c.of.result.now c.in_ok-before.before.items
          c.requires.so_far low c.of.ensures.entries c.in_ok-before.ensures.items;
      after = read_cut (take (place + 1) events) c.note_step.new.cuts e.processor c.of-2.result.now c.in_ok-after.after.items
          c.in_ok-note_step.ensures.cuts (omega arith) c.of-2.ensures.entries c.in_ok-after.ensures.items;
    }
