-- Before its first race an explained journal is one of a flat memory.
use Rattle.std.proofs.Common.{ℕ, ◌≡◌, ◌<◌, ◌≤◌, ◌⊎◌, inl, inr, refl, List, Option, Some, take, replicate, slice_get, get_or, length, arith, sym, ap, subst, ◌∙◌, take-take, take_all, le_refl}
use Rattle.std.proofs.lemmas.Option.{slice_get-get_or, get_or_from_slice_get}
use Rattle.std.proofs.lemmas.List.{length-replicate}
use Rattle.std.proofs.lemmas.Bool.{cases_order}
use Rattle.journal.specs.declared.event.Event.{Event}
use Rattle.journal.specs.declared.event.Kind.{Kind}
use Rattle.journal.specs.declared.event.Kind.TheVariants.{Load, Store}
use Rattle.journal.specs.DidEvent.{event}
use Rattle.journal.specs.Events.{event_address}
use Rattle.journal.specs.WellFormed.{Does}
use Rattle.journal.specs.ExplainedAnswers.{Explained}
use Rattle.journal.specs.Races.{Race, RaceFree}
use Rattle.journal.specs.ReplayMemory.{replay_memory_write, memory_after, Replays}
use Rattle.journal.specs.Base.{Base, no_base}
use Rattle.journal.specs.HappensBeforeFromBase.{HappensBeforeFromBase}
use Rattle.journal.specs.ExplainedAnswersFromBase.{LatestExplainedAnswerFromBase, IsAnswerFromBase, ExplainedFromBase}
use Rattle.journal.specs.RacesFromBase.{RaceFromBase, IsFirstRaceFromBase, RaceFreeFromBase}
use Rattle.base.specs.LastWrite.{LastWrite}
use Rattle.base.proofs.LastWritten.{HasNoLastWrite}
use Rattle.base.proofs.SlicesAndCounts.{slice_get-take, slice_get-from_take, slice_get-take_within}
use Rattle.base.proofs.LastWritten.{last_written_word, length-written}
use Rattle.journal.proofs.CopyOfPage.PageStores.{page_store_does_kind, page_store_same}
use Rattle.journal.proofs.Flat.FlatConflicts.{flat_conflict_store_is, flat_conflict_of_store, flat_conflict_not_unordered_from_base}
use Rattle.journal.proofs.FromBase.OrderOfLeft.{order_of_left_goes_forward}
use Rattle.journal.proofs.FromBase.Uncut.{uncut_race, uncut_explained}

-- j is explained, and no race ends before place k
record IsExplainedBeforeRace (b : Base) (j : List Event) (k : ℕ) : Type 0 where
  pub explained : ExplainedFromBase b j
  pub free : (m n : ℕ) → n < k → ¬ RaceFromBase b j m n

-- what the last store before a load wrote is what the load answered
flat_before_race_answers_last : {b : Base} {j : List Event} {k p v w : ℕ} → IsExplainedBeforeRace b j k → (i a : ℕ) → i < k
    → Does j i p (Load a v) → LastWrite (λ (e : Event). replay_memory_write e.kind) (take i j) a w → w ≡ v
flat_before_race_answers_last {b} {j} {k} {p} {v} {w} x i a less loads l = go (x.explained i p a v loads)
  where
    before : l.place < i
    before = slice_get-take_within j i l.place l.item l.at

    is : l.item.kind ≡ Store a w
    is = flat_conflict_store_is l.item.kind a w l.writes

    stores : Does j l.place l.item.processor (Store a w)
    stores = page_store_does_kind j l.place l.item (Store a w) (slice_get-from_take j i l.place l.item l.at) is

    ordered : (m q u n y : ℕ) (f : Kind) → m < n → n < k → event_address f ≡ Some a → Does j m q (Store a u)
        → Does j n y f → ¬ (¬ HappensBeforeFromBase b j m n)
    ordered m q u n y f h g at d to =
        flat_conflict_not_unordered_from_base h d to (flat_conflict_of_store q y a u f at) (x.free m n g)

    latest : (s : LatestExplainedAnswerFromBase b j i a v) → (l.place ≡ s.place) ⊎ ((l.place < s.place) ⊎ (s.place < l.place))
        → w ≡ v
    latest s (inl e) =
        let P : ℕ
        → Type 0 = λ m. Does j m l.item.processor (Store a w) in
        (page_store_same j s.place (subst P e stores) s.stores).2
    latest s (inr (inl h)) =
        absurd (l.last s.place (event s.by (Store a v)) v h
        (slice_get-take j i s.place (order_of_left_goes_forward b j s.before) ∙ s.stores) refl)
    latest s (inr (inr h)) =
        absurd (ordered l.place l.item.processor w i p (Load a v) before less refl stores loads (λ y. ordered s.place
        s.by v l.place l.item.processor (Store a w) h (omega (arith, before, less)) refl s.stores stores
        (s.latest l.place l.item.processor w stores y)))

    go : IsAnswerFromBase b j i a v → w ≡ v
    go (inl n) =
        absurd (ordered l.place l.item.processor w i p (Load a v) before less refl stores loads
        (n.1 l.place l.item.processor w stores))
    go (inr s) = latest s (cases_order l.place s.place)

-- with loads in range: up to a place before which no race ends, a journal that is explained from a base replays from it
pub flat_race_up_to_from_base : (b : Base) (j : List Event) (k : ℕ)
    → ((i p a v : ℕ) → Does j i p (Load a v) → a < length b.memory) → ExplainedFromBase b j
    → ((m n : ℕ) → n < k → ¬ RaceFromBase b j m n) → Replays b.memory (take k j)
flat_race_up_to_from_base b j k ranges explained free i p a v loads =
    subst P (sym (take-take i k j before_k)) (found ∙ ap Some (go (last_written_word f b.memory (take i j) a word found)))
  where
    f : Event → Option (ℕ × ℕ)
    f e = replay_memory_write e.kind

    P : List Event → Type 0
    P es = slice_get (memory_after b.memory es) a ≡ Some v

    less : i < k
    less = slice_get-take_within j k i (event p (Load a v)) loads

    before_k : i ≤ k
    before_k = omega (arith, less)

    does : Does j i p (Load a v)
    does = slice_get-from_take j k i (event p (Load a v)) loads

    word : ℕ
    word = get_or (memory_after b.memory (take i j)) a 0

    found : slice_get (memory_after b.memory (take i j)) a ≡ Some word
    found = slice_get-get_or (memory_after b.memory (take i j)) a 0 (rw length-written (ranges i p a v does))

    untouched : (slice_get b.memory a ≡ Some word) × HasNoLastWrite f (take i j) a → IsAnswerFromBase b j i a v → word ≡ v
    untouched n (inl z) = sym (get_or_from_slice_get b.memory a word 0 n.0) ∙ sym z.0
    untouched n (inr x) =
        absurd (n.1 x.place (event x.by (Store a v)) v
        (slice_get-take j i x.place (order_of_left_goes_forward b j x.before) ∙ x.stores) refl)

    go : LastWrite f (take i j) a word ⊎ ((slice_get b.memory a ≡ Some word) × HasNoLastWrite f (take i j) a) → word ≡ v
    go (inl l) = flat_before_race_answers_last (record { explained = explained; free = free }) i a less does l
    go (inr n) = untouched n (explained i p a v does)

-- up to the second event of its first race it replays
pub flat_before_race_from_base : (b : Base) (j : List Event) (i k : ℕ)
    → ((m p a v : ℕ) → Does j m p (Load a v) → a < length b.memory) → ExplainedFromBase b j → IsFirstRaceFromBase b j i k
    → Replays b.memory (take k j)
flat_before_race_from_base b j i k ranges explained first =
    flat_race_up_to_from_base b j k ranges explained
    (λ m n h r. let least : k ≤ n = first.least_second m n r in absurd (omega arith))

-- without a race it replays whole
pub flat_race_free_from_base : (b : Base) (j : List Event) → ((i p a v : ℕ) → Does j i p (Load a v) → a < length b.memory)
    → ExplainedFromBase b j → RaceFreeFromBase b j → Replays b.memory j
flat_race_free_from_base b j ranges explained free =
    subst (Replays b.memory) (take_all (length j) j (le_refl (length j)))
    (flat_race_up_to_from_base b j (length j) ranges explained (λ m n h. free m n))

-- the same from no base: up to a place before which no race ends, an explained journal replays
pub flat_before_race_up_to : (size : ℕ) (j : List Event) (k : ℕ) → ((i p a v : ℕ) → Does j i p (Load a v) → a < size)
    → Explained j → ((m n : ℕ) → n < k → ¬ Race j m n) → Replays (replicate size 0) (take k j)
flat_before_race_up_to size j k ranges explained free =
    flat_race_up_to_from_base (no_base size) j k (λ m p a v does. rw length-replicate (ranges m p a v does))
    ((uncut_explained size j).0 explained) (λ m n h r. free m n h ((uncut_race size j m n).1 r))

-- without a race it replays whole
pub flat_race_free : (size : ℕ) (j : List Event) → ((i p a v : ℕ) → Does j i p (Load a v) → a < size) → Explained j
    → RaceFree j → Replays (replicate size 0) j
flat_race_free size j ranges explained free =
    flat_race_free_from_base (no_base size) j (λ m p a v does. rw length-replicate (ranges m p a v does))
    ((uncut_explained size j).0 explained) (λ m n r. free m n ((uncut_race size j m n).1 r))
