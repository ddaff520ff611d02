-- Two histories that begin a lawful script are the same if they are alike, and their loads answer the words of copies: a copy
-- has a word from a store that stands before.
use Rattle.std.proofs.Common.{ℕ, ◌≡◌, ◌<◌, ◌≤◌, inl, inr, List, ◌∷◌, ◌++◌, length, subst, arith}
use Rattle.std.proofs.lemmas.Option.{slice_get_within}
use Rattle.journal.specs.declared.event.Event.{Event}
use Rattle.journal.specs.declared.event.Kind.TheVariants.{Load, Store}
use Rattle.journal.specs.CopyAnswers.{AnswersCopies, IsCopyAnswer}
use Rattle.journal.specs.DidEvent.{event}
use Rattle.journal.specs.Sizes.{Sizes}
use Rattle.journal.specs.OriginWrites.{OriginWritesWord}
use Rattle.journal.proofs.Order.EventPlacesAndCounts.{event_place_shorter}
use Rattle.journal.proofs.Origins.WordOrigins.{origin_word_once, origin_word_event_longer, origin_word_event_shorter}
use Rattle.conformance.specs.Follows.{plan_sizes}
use Rattle.conformance.specs.SameTurns.{SameValuesLaw}
use Rattle.conformance.proofs.Recomputing.AnsweredAlike.{answered_alike_only, answered_alike_stands}

-- the store from which an event has a word stands in the history
copy_values_store_within : {s : Sizes} {j : List Event} {p a m i : ℕ} → m < length j → OriginWritesWord s j p a m i → i < length j
copy_values_store_within within (inl own) = let same = own.0 in omega arith
copy_values_store_within {j = j} {i = i} within (inr x) =
    slice_get_within j i (event x.by (Store _ x.brought.value)) x.brought.does

-- a copy's word before a place comes from the events before it alone
copy_values_word_before : {s : Sizes} {j : List Event} {p a k v : ℕ} (es : List Event) → k ≤ length j → IsCopyAnswer s (j ++ es) p a k v
    → IsCopyAnswer s j p a k v
copy_values_word_before es le (inl none) =
    inl (none.0, λ m i less writes. none.1 m i less (origin_word_event_longer es (omega (arith, less, le)) writes))
copy_values_word_before {j = j} {a = a} {v = v} es le (inr x) =
    let before = x.from.before in
    let within : x.write < length j = omega (arith, before, le) in
    let writes = origin_word_event_shorter es within x.from.writes in
    inr (record {
      write = x.write;
      store = x.store;
      by = x.by;
      from = record {
        before = before;
        writes = writes;
        last = λ n i low less later. x.from.last n i low less (origin_word_event_longer es (omega (arith, less, le)) later);
      };
      stores = event_place_shorter j es x.store (event x.by (Store a v)) (copy_values_store_within within writes) x.stores;
    })

-- so the events before a load say what it answers
copy_values_load_word : (s : Sizes) {h : List Event} (front us : List Event) (p a v : ℕ) → AnswersCopies s h
    → h ≡ front ++ event p (Load a v) ∷ us → IsCopyAnswer s front p a (length front) v
copy_values_load_word s front us p a v copied is =
    let word = copied (length front) p a v (answered_alike_stands front us (event p (Load a v)) is) in
    copy_values_word_before (event p (Load a v) ∷ us) (omega arith) (subst (λ (j : List Event). IsCopyAnswer s j p a (length front) v) is word)

-- two histories that are alike, with such answers, are the same
pub copy_values_same_law : SameValuesLaw
copy_values_same_law s g h lawful x y like =
    answered_alike_only s g h lawful (λ i e at. (x.well_formed i e at).processor) x.begins y.begins like
    (λ front us vs p a v w one other. origin_word_once (copy_values_load_word (plan_sizes s) front us p a v x.copied one)
    (copy_values_load_word (plan_sizes s) front vs p a w y.copied other))
