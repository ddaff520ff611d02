-- A load of a lawful copy answers what it may.
use Rattle.std.proofs.Common.{ℕ, ◌≡◌, ◌<◌, ◌⊎◌, ◌/◌, ◌%◌, inl, inr, List, [], ◌∷◌, ◌++◌, Option, Some, replicate, slice_get, length, arith, refl, sym, ap, subst, ◌∙◌}
use Rattle.std.proofs.lemmas.Bool.{cases_order}
use Rattle.std.proofs.lemmas.Option.{same_Some}
use Rattle.journal.specs.declared.event.Event.{Event}
use Rattle.journal.specs.declared.event.Kind.TheVariants.{Load, Store}
use Rattle.journal.specs.DidEvent.{event}
use Rattle.journal.specs.Sizes.{Sizes}
use Rattle.journal.specs.HappensBeforeEdges.{HappensBefore}
use Rattle.journal.specs.Pasts.{InPast}
use Rattle.journal.specs.WellFormed.{Does}
use Rattle.journal.specs.ExplainedAnswers.{IsAnswer, Explained}
use Rattle.journal.specs.PageImages.{page_image_write, IsImage, Lawful}
use Rattle.base.specs.InOrderOnce.{Has}
use Rattle.base.specs.LastWrite.{LastWrite}
use Rattle.base.proofs.LastWritten.{HasNoLastWrite}
use Rattle.base.proofs.SlicesAndCounts.{slice_push_cases}
use Rattle.base.proofs.SliceSets.{slice_get-replicate_found}
use Rattle.base.proofs.LastWritten.{last_written_word}
use Rattle.journal.proofs.Order.EventPlacesAndCounts.{event_place_longer, event_place_shorter}
use Rattle.journal.proofs.Order.HappensBefore.{happens_before_goes_forward, happens_before_begins_within, happens_before_longer, happens_before_shorter}
use Rattle.journal.proofs.Order.IntoPast.{into_past_within, into_past_reaches_new}
use Rattle.journal.proofs.CopyOfPage.PageStores.{page_store_writes, page_stores_to, page_store_at}

-- v was stored at a at one of these places, and no other such store happens after it
pub record LoadAnswersLatestAmong (j : List Event) (among : ℕ → Type 0) (a v : ℕ) : Type 0 where
  pub place : ℕ
  pub by : ℕ
  pub stores : Does j place by (Store a v)
  pub here : among place
  pub latest : (i q w : ℕ) → Does j i q (Store a w) → among i → ¬ HappensBefore j place i

-- a word of an image is 0 where nothing is stored, or a latest store
pub load_answers_image_word : {s : Sizes} {j : List Event} {among : ℕ → Type 0} {n : ℕ} {page : List ℕ} → IsImage s j among n page
    → (a v : ℕ) → a / s.words ≡ n → slice_get page (a % s.words) ≡ Some v
    → ((v ≡ 0) × ((i q w : ℕ) → Does j i q (Store a w) → ¬ among i)) ⊎ LoadAnswersLatestAmong j among a v
load_answers_image_word {s} {j} {among} {n} {page} image a v in_page h =
    go (last_written_word f (replicate s.words 0) image.order (a % s.words) v
    (ap (λ (ws : List ℕ). slice_get ws (a % s.words)) (sym image.gives) ∙ h))
  where
    f : ℕ → Option (ℕ × ℕ)
    f i = page_image_write s (slice_get j i)

    last : (l : LastWrite f image.order (a % s.words) v) (i q w : ℕ) → Does j i q (Store a w)
        → (x : Has image.order i) → (l.place ≡ x.0) ⊎ ((l.place < x.0) ⊎ (x.0 < l.place)) → ¬ HappensBefore j l.item i
    last l i q w does x (inl e) before =
        let same : l.item ≡ i = same_Some l.item i (sym l.at ∙ ap (slice_get image.order) e ∙ x.1) in
        let less : l.item < i = happens_before_goes_forward j before in
        omega arith
    last l i q w does x (inr (inl less)) before = l.last x.0 i w less x.1 (page_store_writes s j i q a w does)
    last l i q w does x (inr (inr less)) before = image.extends x.0 l.place i l.item less x.1 l.at before

    go : LastWrite f image.order (a % s.words) v
        ⊎ ((slice_get (replicate s.words 0) (a % s.words) ≡ Some v) × HasNoLastWrite f image.order (a % s.words))
        → ((v ≡ 0) × ((i q w : ℕ) → Does j i q (Store a w) → ¬ among i)) ⊎ LoadAnswersLatestAmong j among a v
    go (inl l) =
        let x = (image.each l.item).0 (l.place, l.at) in
        inr (record {
          place = l.item;
          by = x.1.by;
          stores = page_store_at s j n l.item a v x.1 in_page l.writes;
          here = x.0;
          latest =
              λ i q w does some. let y = (image.each i).1 (some, page_stores_to s j n i q a w does in_page) in
              last l i q w does y (cases_order l.place y.0);
        })
    go (inr r) =
        inl (
          sym (slice_get-replicate_found s.words 0 v (a % s.words) r.0),
          λ i q w does some. let y =
              (image.each i).1 (some, page_stores_to s j n i q a w does in_page) in r.1 y.0 i w y.1
              (page_store_writes s j i q a w does),
        )

-- a load of a lawful copy answers what it may
pub load_answers : {s : Sizes} {j : List Event} {p n : ℕ} {page : List ℕ} → Lawful s j p n page → (a v : ℕ)
    → a / s.words ≡ n → slice_get page (a % s.words) ≡ Some v → IsAnswer (j ++ event p (Load a v) ∷ []) (length j) a v
load_answers {s} {j} {p} {n} {page} lawful a v in_page h = go (load_answers_image_word lawful a v in_page h)
  where
    e : Event
    e = event p (Load a v)

    past : (i : ℕ) → HappensBefore (j ++ e ∷ []) i (length j) → InPast j p i
    past i = (into_past_reaches_new j e i refl).0

    old : (i q w : ℕ) → InPast j p i → Does (j ++ e ∷ []) i q (Store a w) → Does j i q (Store a w)
    old i q w x d = event_place_shorter j (e ∷ []) i (event q (Store a w)) (into_past_within j p i x) d

    go : ((v ≡ 0) × ((i q w : ℕ) → Does j i q (Store a w) → ¬ InPast j p i)) ⊎ LoadAnswersLatestAmong j (InPast j p) a v
        → IsAnswer (j ++ e ∷ []) (length j) a v
    go (inl n) = inl (n.0, λ i q w d before. n.1 i q w (old i q w (past i before) d) (past i before))
    go (inr l) = inr (record {
      place = l.place;
      by = l.by;
      stores = event_place_longer j (e ∷ []) l.place (event l.by (Store a v)) l.stores;
      before = (into_past_reaches_new j e l.place refl).1 l.here;
      latest =
          λ i q w d before on. l.latest i q w (old i q w (past i before) d) (past i before)
          (happens_before_shorter j (e ∷ []) (into_past_within j p i (past i before)) on);
    })

-- an answer stays one as the journal goes on
pub load_answers_on : (j es : List Event) (k a v : ℕ) → k < length j → IsAnswer j k a v → IsAnswer (j ++ es) k a v
load_answers_on j es k a v within answer = go answer
  where
    past : (i : ℕ) → HappensBefore (j ++ es) i k → HappensBefore j i k
    past i = happens_before_shorter j es within

    old : (i q w : ℕ) → HappensBefore j i k → Does (j ++ es) i q (Store a w) → Does j i q (Store a w)
    old i q w x d = event_place_shorter j es i (event q (Store a w)) (happens_before_begins_within j x) d

    go : IsAnswer j k a v → IsAnswer (j ++ es) k a v
    go (inl n) = inl (n.0, λ i q w d before. n.1 i q w (old i q w (past i before) d) (past i before))
    go (inr l) = inr (record {
      place = l.place;
      by = l.by;
      stores = event_place_longer j es l.place (event l.by (Store a v)) l.stores;
      before = happens_before_longer j es l.before;
      latest =
          λ i q w d before on. l.latest i q w (old i q w (past i before) d) (past i before)
          (happens_before_shorter j es (happens_before_begins_within j (past i before)) on);
    })

-- an explained journal stays so by an event that is no load, or a load that answers what it may
pub load_answers_push : (j : List Event) (e : Event) → Explained j
    → ((p a v : ℕ) → e ≡ event p (Load a v) → IsAnswer (j ++ e ∷ []) (length j) a v) → Explained (j ++ e ∷ [])
load_answers_push j e explained new k p a v d = elim (slice_push_cases j e k (event p (Load a v)) d) [
  | inl x ↦ load_answers_on j (e ∷ []) k a v x.0 (explained k p a v x.1)
  | inr x ↦ (let P : ℕ → Type 0 = λ m. IsAnswer (j ++ e ∷ []) m a v in subst P (sym x.0) (new p a v x.1))
]
