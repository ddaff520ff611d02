-- Copies and loads under a processor's open block.
use Rattle.std.proofs.Common.{ℕ, ◌≡◌, ◌≢◌, ◌<◌, ◌/◌, ◌%◌, List, [], ◌∷◌, ◌++◌, Some, inl, inr, take, length, slice_get, eq-eqb, ne_eqb, arith, refl, sym, ap, subst, ◌∙◌, append_assoc, append-nil}
use Rattle.std.proofs.lemmas.List.{take-append-le}
use Rattle.std.proofs.Math.Seq.{take-append_seam}
use Rattle.journal.specs.declared.event.Event.{Event}
use Rattle.journal.specs.declared.event.Kind.TheVariants.{Load}
use Rattle.journal.specs.DidEvent.{event}
use Rattle.journal.specs.Sizes.{Sizes}
use Rattle.journal.specs.Events.{EventAt}
use Rattle.journal.specs.WellFormed.{Does}
use Rattle.journal.specs.ExplainedAnswers.{IsAnswer, Explained}
use Rattle.journal.specs.PageImages.{Lawful}
use Rattle.journal.specs.Blocks.{block_write, block_done, BlockAnswers}
use Rattle.journal.proofs.OwnBlocks.{block_with_page}
use Rattle.journal.proofs.OwnBlocks.{IsBlock}
use Rattle.base.specs.LastWrite.{wrote}
use Rattle.base.proofs.SlicesAndCounts.{slice_push_cases, slice_push_induction}
use Rattle.base.proofs.LastWritten.{written-append}
use Rattle.journal.proofs.Order.EventPlacesAndCounts.{event_place_inside, event_place_longer, event_place_at_end}
use Rattle.journal.proofs.Order.BlockPasts.{block_pasts_front, block_pasts_last}
use Rattle.journal.proofs.CopyOfPage.LawfulImages.{lawful_image_others, lawful_image_event}
use Rattle.journal.proofs.CopyOfPage.LoadAnswers.{load_answers, load_answers_push}

-- a block with one more event does that event's store besides
pub block_done-push : (s : Sizes) (n : ℕ) (page : List ℕ) (block : List Event) (e : Event)
    → block_done s n page (block ++ e ∷ []) ≡ wrote (block_done s n page block) (block_write s n e.kind)
block_done-push s n page block e = written-append (λ (x : Event). block_write s n x.kind) page block (e ∷ [])

-- a lawful copy with a block's stores done to it is lawful after the block
pub block_loads_page_lawful : (s : Sizes) (j block : List Event) (p n : ℕ) (base : List ℕ) → IsBlock p block
    → Lawful s j p n base → Lawful s (j ++ block) p n (block_done s n base block)
block_loads_page_lawful s j block p n base is lawful =
    slice_push_induction (λ es. IsBlock p es → Lawful s (j ++ es) p n (block_done s n base es)) (λ _. rw append-nil lawful)
    step block is
  where
    step : (es : List Event) (e : Event) → (IsBlock p es → Lawful s (j ++ es) p n (block_done s n base es))
        → IsBlock p (es ++ e ∷ []) → Lawful s (j ++ (es ++ e ∷ [])) p n (block_done s n base (es ++ e ∷ []))
    step es e ih more =
        let last = block_pasts_last p es e more in
        let P : ℕ → Type 0 =
        λ q. Lawful s ((j ++ es) ++ event q e.kind ∷ []) p n
        (wrote (block_done s n base es) (block_write s n e.kind)) in
        rw (block_done-push s n base es e, ← append_assoc j es (e ∷ [])) (subst P (sym last.0) (lawful_image_event s
        (j ++ es) p n (block_done s n base es) e.kind last.1 (ih (block_pasts_front p es (e ∷ []) more))))

-- what the loads of a block answer, its front's do
pub block_loads_front : (s : Sizes) (j block es : List Event) (p : ℕ) (base : ℕ → List ℕ)
    → BlockAnswers s j (block ++ es) p base → BlockAnswers s j block p base
block_loads_front s j block es p base x = record {
  lawful = λ k a v d. x.lawful k a v (longer k a v d);
  answers =
      λ k a v d. let le = event_place_inside block k (event p (Load a v)) d in
      rw (take-append-le k block es (omega arith)) at (x.answers k a v (longer k a v d));
}
  where
    longer : (k a v : ℕ) → Does block k p (Load a v) → Does (block ++ es) k p (Load a v)
    longer k a v = event_place_longer block es k (event p (Load a v))

-- what the last load of a block answers is explained
block_loads_last_answer : (s : Sizes) (j es : List Event) (p a v : ℕ) (base : ℕ → List ℕ) → IsBlock p es
    → BlockAnswers s j (es ++ event p (Load a v) ∷ []) p base
    → IsAnswer ((j ++ es) ++ event p (Load a v) ∷ []) (length (j ++ es)) a v
block_loads_last_answer s j es p a v base is x =
    let here = event_place_at_end es (event p (Load a v)) in
    let word = rw (take-append_seam es (event p (Load a v) ∷ [])) at (x.answers (length es) a v here) in
    load_answers (block_loads_page_lawful s j es p (a / s.words) (base (a / s.words)) is (x.lawful (length es) a v here)) a v refl
    word

-- a block whose loads answer so is explained behind an explained journal
pub block_loads_explained : (s : Sizes) (j block : List Event) (p : ℕ) (base : ℕ → List ℕ) → IsBlock p block
    → BlockAnswers s j block p base → Explained j → Explained (j ++ block)
block_loads_explained s j block p base is answers explained =
    slice_push_induction (λ es. IsBlock p es → BlockAnswers s j es p base → Explained (j ++ es))
    (λ _ _. rw append-nil explained) step block is answers
  where
    step : (es : List Event) (e : Event) → (IsBlock p es → BlockAnswers s j es p base → Explained (j ++ es))
        → IsBlock p (es ++ e ∷ []) → BlockAnswers s j (es ++ e ∷ []) p base → Explained (j ++ (es ++ e ∷ []))
    step es e ih more x =
        rw (← append_assoc j es (e ∷ []))
        (load_answers_push (j ++ es) e (ih front (block_loads_front s j es (e ∷ []) p base x)) new)
      where
        front : IsBlock p es
        front = block_pasts_front p es (e ∷ []) more

        new : (q a v : ℕ) → e ≡ event q (Load a v) → IsAnswer ((j ++ es) ++ e ∷ []) (length (j ++ es)) a v
        new q a v i =
            let load : ℕ → Event = λ r. event r (Load a v) in
            let mine : q ≡ p = sym (ap (λ (f : Event). f.processor) i) ∙ (block_pasts_last p es e more).0 in
            let P : Event → Type 0 =
            λ f. BlockAnswers s j (es ++ f ∷ []) p base → IsAnswer ((j ++ es) ++ f ∷ []) (length (j ++ es)) a v in
            subst P (sym (i ∙ ap load mine)) (block_loads_last_answer s j es p a v base front) x

-- others' events keep what the loads of a block answer
pub block_loads_others : (s : Sizes) (j es block : List Event) (p : ℕ) (base : ℕ → List ℕ)
    → ((k : ℕ) (e : Event) → EventAt es k e → e.processor ≢ p) → BlockAnswers s j block p base
    → BlockAnswers s (j ++ es) block p base
block_loads_others s j es block p base away x =
    record {
      lawful = λ k a v d. lawful_image_others s j es p (a / s.words) (base (a / s.words)) away (x.lawful k a v d);
      answers = x.answers;
    }

-- a further event of the block: if it is a load, it answers the word of its copy
pub block_loads_push : (s : Sizes) (j block : List Event) (e : Event) (p : ℕ) (base : ℕ → List ℕ)
    → BlockAnswers s j block p base
    → ((a v : ℕ) → e ≡ event p (Load a v)
    → Lawful s j p (a / s.words) (base (a / s.words))
    × (slice_get (block_done s (a / s.words) (base (a / s.words)) block) (a % s.words) ≡ Some v))
    → BlockAnswers s j (block ++ e ∷ []) p base
block_loads_push s j block e p base x new = record { lawful = lawful; answers = answers }
  where
    lawful : (k a v : ℕ) → Does (block ++ e ∷ []) k p (Load a v) → Lawful s j p (a / s.words) (base (a / s.words))
    lawful k a v d =
        elim (slice_push_cases block e k (event p (Load a v)) d) [ inl h ↦ x.lawful k a v h.1 | inr h ↦ (new a v h.1).0 ]

    answers : (k a v : ℕ) → Does (block ++ e ∷ []) k p (Load a v)
        → slice_get (block_done s (a / s.words) (base (a / s.words)) (take k (block ++ e ∷ []))) (a % s.words)
        ≡ Some v
    answers k a v d = elim (slice_push_cases block e k (event p (Load a v)) d) [
      | inl h ↦ (let within : k < length block = h.0 in
          rw (take-append-le k block (e ∷ []) (omega arith)) (x.answers k a v h.1))
      | inr h ↦ rw (h.0, take-append_seam block (e ∷ [])) ((new a v h.1).1)
    ]

-- other bases, which agree at the pages that the block loads from
pub block_loads_rebase : (s : Sizes) (j block : List Event) (p : ℕ) (base other : ℕ → List ℕ)
    → ((k a v : ℕ) → Does block k p (Load a v) → other (a / s.words) ≡ base (a / s.words))
    → BlockAnswers s j block p base → BlockAnswers s j block p other
block_loads_rebase s j block p base other same x = record {
  lawful = λ k a v d. rw (same k a v d) (x.lawful k a v d);
  answers = λ k a v d. rw (same k a v d) (x.answers k a v d);
}

-- the page that was put in
pub block_loads_with_page_same : (n : ℕ) (page : List ℕ) (base : ℕ → List ℕ) → block_with_page n page base n ≡ page
block_loads_with_page_same n page base = rw (eq-eqb n n refl)

-- the other pages
pub block_loads_with_page_other : (n m : ℕ) (page : List ℕ) (base : ℕ → List ℕ) → m ≢ n → block_with_page n page base m ≡ base m
block_loads_with_page_other n m page base apart = rw (ne_eqb m n apart)

-- another base of a page that the block does not load from
pub block_loads_with_page : (s : Sizes) (j block : List Event) (p n : ℕ) (page : List ℕ) (base : ℕ → List ℕ)
    → ((k a v : ℕ) → Does block k p (Load a v) → a / s.words ≢ n) → BlockAnswers s j block p base
    → BlockAnswers s j block p (block_with_page n page base)
block_loads_with_page s j block p n page base away =
    block_loads_rebase s j block p base (block_with_page n page base)
    (λ k a v d. block_loads_with_page_other n (a / s.words) page base (away k a v d))
