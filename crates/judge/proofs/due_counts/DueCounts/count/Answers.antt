use Rattle.std.proofs.Common.{◌≡◌, ◌<◌, ℕ, [], ◌∷◌, ◌++◌, List, inl, inr, subst, sym, ap, ◌∙◌}
use Rattle.base.proofs.SlicesAndCounts.{slice_push_cases}
use Rattle.journal.specs.declared.event.Event.{Event}
use Rattle.journal.specs.EventsInRange.{EventProcessorsInRange}
use Rattle.judge.specs.declared.cuts.Cuts.{Cuts}
use Rattle.judge.specs.declared.due_counts.DueCounts.{DueCounts}
use Rattle.judge.specs.declared.sizes.Sizes.{Sizes}
use Rattle.judge.specs.declared.stored_counts.StoredCounts.{StoredCounts}
use Rattle.judge.specs.Cuts.{AreCuts}
use Rattle.judge.specs.DueCounts.{AreDueFetchedCuts}
use Rattle.judge.specs.JudgedSizes.{judged_sizes_of}
use Rattle.judge.specs.StoredCounts.{AreStoredCountsOf}
use Rattle.judge.proofs.due_counts.DueCounts.count.Goals as goal

-- one event more of a processor that there is
in_range : (n : ℕ) (j : List Event) (e : Event) → e.processor < n → EventProcessorsInRange n j → EventProcessorsInRange n (j ++ e ∷ [])
in_range n j e lt range i f at = elim (slice_push_cases j e i f at) [
  | inl old ↦ range i f old.1
  | inr new ↦ subst (λ (x : Event). x.processor < n) new.1 lt
]

pub returns-clause-tells : goal.returns-clause-tells
returns-clause-tells c = λ j tells.
    let next = c.in_ok-note.ensures.cuts in
    let x = c.args.self.now in
    let e = c.args.event in
    let k = c.keep.new.self in
    let rest = c.keep.ensures.rest in
    let cuts = ap (λ (y : DueCounts). y.cuts) rest in
    let stored = ap (λ (y : DueCounts). y.stored) rest in
    let sizes : c.note.new.self.sizes ≡ x.stored.sizes = c.note.ensures.sizes ∙ ap (λ (y : StoredCounts). y.sizes) stored in
    let range : EventProcessorsInRange x.stored.sizes.processors (j ++ e ∷ []) =
    in_range x.stored.sizes.processors j e c.requires.within.processor tells.processors in
    let present : k.cuts.present ≡ x.stored.sizes.processors = ap (λ (y : Cuts). y.present) cuts ∙ tells.present in
    record {
      cuts = next j (subst (AreCuts j) (sym cuts) tells.cuts)
          (subst (λ n. EventProcessorsInRange n j) (sym present) tells.processors);
      present = c.note-2.ensures.present ∙ present ∙ sym (ap (λ (s : Sizes). s.processors) sizes);
      processors = subst (λ (s : Sizes). EventProcessorsInRange s.processors (j ++ e ∷ [])) (sym sizes) range;
      fetched = subst (λ (s : Sizes). AreDueFetchedCuts (judged_sizes_of s) (j ++ e ∷ []) k.fetched) (sym sizes)
          (c.in_ok-keep.ensures.fetched j tells);
      stored = c.in_ok-is_full.ensures.tells j (subst (AreStoredCountsOf j) (sym stored) tells.stored)
          (sym tells.cuts.place ∙ sym (ap (λ (y : Cuts). y.place) cuts));
    }
