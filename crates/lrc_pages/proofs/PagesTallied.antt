-- How often pages are fetched, as a history goes on.
use Rattle.std.proofs.Common.{◌≡◌, ◌≢◌, ℕ, ◌+◌, ◌<◌, ◌^◌, inl, inr, List, [], ◌∷◌, ◌++◌, refl, sym, ap, ◌∙◌, subst, arith, length-append, slice_index}
use Rattle.std.specs.Prelude.{cond}
use Rattle.std.proofs.lemmas.Bool.Decides.{eqb_tells}
use Rattle.std.proofs.lemmas.List.Sums.{sum_by_push}
use Rattle.journal.specs.declared.event.Event.{Event}
use Rattle.journal.specs.declared.event.Kind.{Kind}
use Rattle.journal.specs.declared.event.Kind.TheVariants.{Fetch}
use Rattle.journal.specs.Sizes.{Sizes}
use Rattle.lrc_pages.specs.declared.page_tallies.PageTallies.{PageTallies}
use Rattle.lrc_pages.specs.PageTallies.{ArePageTallies, IsPageTallied, page_fetch_of, page_fetched_words, page_fetched_words_of, page_fetches}

-- one more event
fetches_push : (h : List Event) (e : Event) (n : ℕ) → page_fetches (h ++ e ∷ []) n ≡ page_fetches h n + page_fetch_of n e.kind
fetches_push h e n = sum_by_push (λ (f : Event). page_fetch_of n f.kind) h e

words_push : (h : List Event) (e : Event) (n : ℕ) → page_fetched_words (h ++ e ∷ []) n ≡ page_fetched_words h n + page_fetched_words_of n e.kind
words_push h e n = sum_by_push (λ (f : Event). page_fetched_words_of n f.kind) h e

-- after an event that is no fetch
pub tallied_other : (s : Sizes) (h : List Event) (e : Event) (t : PageTallies) → ((n : ℕ) → page_fetch_of n e.kind ≡ 0)
    → ((n : ℕ) → page_fetched_words_of n e.kind ≡ 0) → ArePageTallies s h t → ArePageTallies s (h ++ e ∷ []) t
tallied_other s h e t none nothing were = record {
  fetches_room = were.fetches_room;
  words_room = were.words_room;
  fetches = λ n. (let was = were.fetches n in let push = fetches_push h e n in let is = none n in omega arith);
  words = λ n. (let was = were.words n in let push = words_push h e n in let is = nothing n in omega arith);
  few_fetches = λ n. (let was = were.few_fetches n in let long = length-append h (e ∷ []) in omega arith);
  few_words = λ n. (let was = were.few_words n in let long = length-append h (e ∷ []) in omega arith);
}

-- after a fetch of page n
pub tallied_fetch : (s : Sizes) (h : List Event) (e : Event) (old new : PageTallies) (w n r d : ℕ) → e.kind ≡ Fetch w n r d → d < 2 ^ 32
    → IsPageTallied old new n d → ArePageTallies s h old → ArePageTallies s (h ++ e ∷ []) new
tallied_fetch s h e old new w n r d is few now were = record {
  fetches_room = now.fetches_room ∙ were.fetches_room;
  words_room = now.words_room ∙ were.words_room;
  fetches = λ m. elim (eqb_tells n m) [
    | inl same ↦
        (let was = were.fetches m in
        let push = fetches_push h e m in
        let one : page_fetch_of m e.kind ≡ 1 = ap (page_fetch_of m) is ∙ ap (λ b. cond b 1 0) same.0 in
        let more : slice_index new.fetches.items m ≡ slice_index old.fetches.items m + 1 = subst (λ x. slice_index new.fetches.items x ≡ slice_index old.fetches.items x + 1) same.1 now.fetches in
        omega arith)
    | inr other ↦
        (let was = were.fetches m in
        let push = fetches_push h e m in
        let none : page_fetch_of m e.kind ≡ 0 = ap (page_fetch_of m) is ∙ ap (λ b. cond b 1 0) other.0 in
        let more = now.other_fetches m (λ back. other.1 (sym back)) in
        omega arith)
  ];
  words = λ m. elim (eqb_tells n m) [
    | inl same ↦
        (let was = were.words m in
        let push = words_push h e m in
        let one : page_fetched_words_of m e.kind ≡ d = ap (page_fetched_words_of m) is ∙ ap (λ b. cond b d 0) same.0 in
        let more : slice_index new.words.items m ≡ slice_index old.words.items m + d = subst (λ x. slice_index new.words.items x ≡ slice_index old.words.items x + d) same.1 now.words in
        omega arith)
    | inr other ↦
        (let was = were.words m in
        let push = words_push h e m in
        let none : page_fetched_words_of m e.kind ≡ 0 = ap (page_fetched_words_of m) is ∙ ap (λ b. cond b d 0) other.0 in
        let more = now.other_words m (λ back. other.1 (sym back)) in
        omega arith)
  ];
  few_fetches = λ m. elim (eqb_tells n m) [
    | inl same ↦
        (let was = were.few_fetches m in
        let long = length-append h (e ∷ []) in
        let more : slice_index new.fetches.items m ≡ slice_index old.fetches.items m + 1 = subst (λ x. slice_index new.fetches.items x ≡ slice_index old.fetches.items x + 1) same.1 now.fetches in
        omega arith)
    | inr other ↦
        (let was = were.few_fetches m in
        let long = length-append h (e ∷ []) in
        let more = now.other_fetches m (λ back. other.1 (sym back)) in
        omega arith)
  ];
  few_words = λ m. elim (eqb_tells n m) [
    | inl same ↦
        (let was = were.few_words m in
        let long = length-append h (e ∷ []) in
        let more : slice_index new.words.items m ≡ slice_index old.words.items m + d = subst (λ x. slice_index new.words.items x ≡ slice_index old.words.items x + d) same.1 now.words in
        omega arith)
    | inr other ↦
        (let was = were.few_words m in
        let long = length-append h (e ∷ []) in
        let more = now.other_words m (λ back. other.1 (sym back)) in
        omega arith)
  ];
}

-- what is no fetch is no fetch of any page
pub no_page_fetch : (n : ℕ) (k : Kind) → ((w m r d : ℕ) → k ≢ Fetch w m r d) → page_fetch_of n k ≡ 0
no_page_fetch n (Fetch w m r d) none = absurd (none w m r d refl)
no_page_fetch n _ none = refl

pub no_page_words : (n : ℕ) (k : Kind) → ((w m r d : ℕ) → k ≢ Fetch w m r d) → page_fetched_words_of n k ≡ 0
no_page_words n (Fetch w m r d) none = absurd (none w m r d refl)
no_page_words n _ none = refl
