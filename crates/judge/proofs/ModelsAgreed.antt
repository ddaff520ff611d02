-- Up to its first race the models are one.
use Rattle.std.proofs.Common.{ℕ, suc, ◌≡◌, ◌<◌, inl, inr, ◌↔◌, List, [], ◌∷◌, ◌++◌, length, replicate, drop, take, Some, slice_get, subst, sym, refl, ap, ◌∙◌, arith, take-append-drop}
use Rattle.std.proofs.lemmas.List.{length-take-le}
use Rattle.std.proofs.Math.Seq.{take-append_seam}
use Rattle.base.proofs.SlicesAndCounts.{slice_take-suc_at}
use Rattle.journal.specs.declared.event.Event.{Event}
use Rattle.journal.specs.declared.event.Kind.TheVariants.{Load}
use Rattle.journal.specs.DidEvent.{did, event}
use Rattle.journal.specs.Sizes.{Sizes, addresses}
use Rattle.journal.specs.WellFormed.{Does}
use Rattle.journal.specs.ExplainedAnswers.{IsAnswer}
use Rattle.journal.specs.Races.{RaceFree}
use Rattle.journal.specs.ReplayMemory.{memory_after}
use Rattle.journal.proofs.Order.EventPlacesAndCounts.{event_place_at_end, event_place_inside}
use Rattle.journal.proofs.Flat.FlatConflicts.{flat_conflict_not_unordered, flat_conflict_of_store}
use Rattle.judge.specs.declared.models.MemoryModel.{MemoryModel}
use Rattle.judge.specs.declared.models.MemoryModel.TheVariants as model
use Rattle.judge.specs.Models.{IsModelAnswer, ModelConcurrentStore, ModelsAgreeLaw}
use Rattle.judge.proofs.Flattening.{flattened_found}
use Rattle.judge.proofs.FlatAnswers.{flat_answer_memory}
use Rattle.judge.proofs.OwedStays.{owed_stays_law}

-- p loads v at a after j, and no two of all these events race
module _ (s : Sizes) (j : List Event) (p a v : ℕ) (range : a < addresses s) (free : RaceFree (did j p (Load a v)))
  where
    abbrev pub IsAgreedAnswer : Type 0
    IsAgreedAnswer = IsAnswer (did j p (Load a v)) (length j) a v

    agreed_whole : take (suc (length j)) (did j p (Load a v)) ≡ did j p (Load a v)
    agreed_whole =
        slice_take-suc_at (did j p (Load a v)) (length j) (event p (Load a v)) (event_place_at_end j (event p (Load a v)))
        ∙ ap (λ xs. xs ++ event p (Load a v) ∷ []) (take-append_seam j (event p (Load a v) ∷ []))

    -- a store before it that doesn't happen before it would race with it
    agreed_none_concurrent : ¬ ModelConcurrentStore (did j p (Load a v)) (length j) a v
    agreed_none_concurrent x =
        flat_conflict_not_unordered x.before x.stores (event_place_at_end j (event p (Load a v)))
        (flat_conflict_of_store x.by p a v (Load a v) refl) (free x.place (length j)) x.unordered

    agreed_flat : (slice_get (memory_after (replicate (addresses s) 0) j) a ≡ Some v) ↔ IsAgreedAnswer
    agreed_flat =
        let found = flattened_found (addresses s) j a range in
        flat_answer_memory j p a v free (addresses s) found.0 range found.1

    -- under each model it is what the past says
    pub agreed_with_past : (m : MemoryModel) → IsModelAnswer m s (did j p (Load a v)) (length j) a v ↔ IsAgreedAnswer
    agreed_with_past model.RaceFree = ((λ owed. owed (subst RaceFree (sym agreed_whole) free)), (λ answer none. answer))
    agreed_with_past model.HappensBefore = (
      λ owed. elim owed [ inl answer ↦ answer | inr x ↦ absurd (agreed_none_concurrent x) ],
      λ answer. inl answer,
    )
    agreed_with_past model.LazyRelease = ((λ owed. owed), (λ answer. answer))
    agreed_with_past model.Sequential =
        let P : List Event → Type 0 = λ xs. slice_get (memory_after (replicate (addresses s) 0) xs) a ≡ Some v in
        let front = take-append_seam j (event p (Load a v) ∷ []) in (
          λ owed. agreed_flat.0 (subst P front owed),
          λ answer. subst P (sym front) (agreed_flat.1 answer),
        )

-- two models, of a load that is the last event
agreed_at_end : (m n : MemoryModel) (s : Sizes) (j : List Event) (p a v : ℕ) → a < addresses s → RaceFree (did j p (Load a v))
    → IsModelAnswer m s (did j p (Load a v)) (length j) a v → IsModelAnswer n s (did j p (Load a v)) (length j) a v
agreed_at_end m n s j p a v range free owed =
    (agreed_with_past s j p a v range free n).1 ((agreed_with_past s j p a v range free m).0 owed)

-- two models, of a load at place k
agreed_one_way : (m n : MemoryModel) (s : Sizes) (j : List Event) (k p a v : ℕ) → Does j k p (Load a v) → a < addresses s
    → RaceFree (take (suc k) j) → IsModelAnswer m s j k a v → IsModelAnswer n s j k a v
agreed_one_way m n s j k p a v does range free owed =
    subst (λ xs. IsModelAnswer n s xs k a v) split
    ((owed_stays_law n s front (drop (suc k) j) k a v within).1
    (at_end_front n (agreed_at_end m n s (take k j) p a v range (subst RaceFree last free) (at_end_back m
    ((owed_stays_law m s front (drop (suc k) j) k a v within).0 (subst (λ xs. IsModelAnswer m s xs k a v) (sym split) owed))))))
  where
    front : List Event
    front = take (suc k) j

    inside : k < length j
    inside = event_place_inside j k (event p (Load a v)) does

    last : front ≡ did (take k j) p (Load a v)
    last = slice_take-suc_at j k (event p (Load a v)) does

    long : length (take k j) ≡ k
    long = length-take-le k j (omega (arith, inside))

    within : k < length front
    within = let whole = length-take-le (suc k) j (omega (arith, inside)) in omega arith

    split : front ++ drop (suc k) j ≡ j
    split = take-append-drop (suc k) j

    at_end_back : (w : MemoryModel) → IsModelAnswer w s front k a v → IsModelAnswer w s (did (take k j) p (Load a v)) (length (take k j)) a v
    at_end_back w x = subst (λ i. IsModelAnswer w s (did (take k j) p (Load a v)) i a v) (sym long) (subst (λ xs. IsModelAnswer w s xs k a v) last x)

    at_end_front : (w : MemoryModel) → IsModelAnswer w s (did (take k j) p (Load a v)) (length (take k j)) a v → IsModelAnswer w s front k a v
    at_end_front w x = subst (λ xs. IsModelAnswer w s xs k a v) (sym last) (subst (λ i. IsModelAnswer w s (did (take k j) p (Load a v)) i a v) long x)

pub models_agree_law : ModelsAgreeLaw
models_agree_law m n s j k p a v does range free =
    (agreed_one_way m n s j k p a v does range free, agreed_one_way n m s j k p a v does range free)
