-- What a load may answer under a model stays as the history goes on.
use Rattle.std.proofs.Common.{◌≡◌, ℕ, suc, ◌<◌, ◌≤◌, inl, inr, List, ◌++◌, length, replicate, Some, slice_get, subst, sym, arith}
use Rattle.std.proofs.lemmas.List.{take-append-le}
use Rattle.journal.specs.declared.event.Event.{Event}
use Rattle.journal.specs.declared.event.Kind.TheVariants.{Store}
use Rattle.journal.specs.DidEvent.{event}
use Rattle.journal.specs.Sizes.{addresses}
use Rattle.journal.specs.Races.{RaceFree}
use Rattle.journal.specs.ReplayMemory.{memory_after}
use Rattle.journal.proofs.Order.EventPlacesAndCounts.{event_place_longer, event_place_shorter}
use Rattle.journal.proofs.Order.HappensBefore.{happens_before_longer, happens_before_shorter}
use Rattle.judge.specs.declared.models.MemoryModel.TheVariants as model
use Rattle.judge.specs.Models.{ModelAnswersStayLaw, ModelConcurrentStore}
use Rattle.judge.proofs.sources.Answering.{answering_longer_law}

-- an unordered store stays one
owed_stays_unordered_longer : (j es : List Event) (k a v : ℕ) → k < length j → ModelConcurrentStore j k a v
    → ModelConcurrentStore (j ++ es) k a v
owed_stays_unordered_longer j es k a v lt x = record {
  place = x.place;
  by = x.by;
  stores = event_place_longer j es x.place (event x.by (Store a v)) x.stores;
  before = x.before;
  unordered = λ h. x.unordered (happens_before_shorter j es lt h);
}

owed_stays_unordered_shorter : (j es : List Event) (k a v : ℕ) → k < length j → ModelConcurrentStore (j ++ es) k a v
    → ModelConcurrentStore j k a v
owed_stays_unordered_shorter j es k a v lt x = record {
  place = x.place;
  by = x.by;
  stores =
      (let before = x.before in event_place_shorter j es x.place (event x.by (Store a v)) (omega arith) x.stores);
  before = x.before;
  unordered = λ h. x.unordered (happens_before_longer j es h);
}

pub owed_stays_law : ModelAnswersStayLaw
owed_stays_law model.RaceFree s j es k a v lt =
    let le : suc k ≤ length j = omega arith in
    let front = take-append-le (suc k) j es le in
    let stays = answering_longer_law j es k a v lt in (
      λ owed free. stays.0 (owed (subst RaceFree (sym front) free)),
      λ owed free. stays.1 (owed (subst RaceFree front free)),
    )
owed_stays_law model.HappensBefore s j es k a v lt =
    let stays = answering_longer_law j es k a v lt in (
      λ owed. elim owed [ inl x ↦ inl (stays.0 x) | inr x ↦ inr (owed_stays_unordered_shorter j es k a v lt x) ],
      λ owed. elim owed [ inl x ↦ inl (stays.1 x) | inr x ↦ inr (owed_stays_unordered_longer j es k a v lt x) ],
    )
owed_stays_law model.LazyRelease s j es k a v lt = answering_longer_law j es k a v lt
owed_stays_law model.Sequential s j es k a v lt =
    let le : k ≤ length j = omega arith in
    let front = take-append-le k j es le in
    let P : List Event → Type 0 = λ xs. slice_get (memory_after (replicate (addresses s) 0) xs) a ≡ Some v in
    ((λ owed. subst P front owed), (λ owed. subst P (sym front) owed))
