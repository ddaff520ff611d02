-- Copies that are taken to be whole, as a history goes on.
use Rattle.std.proofs.Common.{◌≡◌, ◌≢◌, ℕ, ◌≤◌, List, [], ◌∷◌, ◌++◌, suc, inl, inr, length, false, subst, subst₂, sym, ap, ap₂, ◌∙◌, arith, length-append, slice_index, vec_len}
use Rattle.std.proofs.lemmas.Bool.Decides.{eqb_tells}
use Rattle.std.specs.Global.{Vec}
use Rattle.journal.specs.declared.event.Event.{Event}
use Rattle.journal.specs.BroughtCopy.{BroughtCopyHasNoGap}
use Rattle.journal.specs.Events.{event_takes}
use Rattle.journal.specs.Sizes.{Sizes}
use Rattle.lrc_pages.specs.declared.whole_copies.WholeCopies.{WholeCopies}
use Rattle.lrc_pages.specs.WholeCopies.{AreWholeCopies, HasTaken, IsFoundWhole, takes_of, whole_at, whole_copy_at}
use Rattle.lrc_pages.proofs.GapsShrink.{no_gap_on}

-- after an event that takes nothing
pub whole_copies_on : (s : Sizes) (h : List Event) (e : Event) (c : WholeCopies) → event_takes e.kind ≡ false → AreWholeCopies s h c
    → AreWholeCopies s (h ++ e ∷ []) c
whole_copies_on s h e c quiet were = record {
  room = were.room;
  few = λ p. (let few = were.few p in let long = length-append h (e ∷ []) in omega arith);
  before = were.before;
  whole = λ p n at. no_gap_on s h e p n (λ mine. quiet) (were.whole p n at);
}

-- after an event by which its processor takes
pub whole_copies_taken : (s : Sizes) (h : List Event) (e : Event) (old new : WholeCopies) → HasTaken old new e.processor → AreWholeCopies s h old
    → AreWholeCopies s (h ++ e ∷ []) new
whole_copies_taken s h e old new taken were = record {
  room = record { takes = taken.room ∙ were.room.takes; whole = ap (λ v. vec_len v) taken.whole ∙ were.room.whole };
  few = λ p. (let few = were.few p in
      let long = length-append h (e ∷ []) in
      elim (eqb_tells p e.processor) [
        | inl mine ↦ (let is : takes_of new p ≡ suc (takes_of old p) = subst (λ q. takes_of new q ≡ suc (takes_of old q)) (sym mine.1) taken.now in omega arith)
        | inr other ↦ (let is = taken.others p other.1 in omega arith)
      ]);
  before = λ p n. (let before = were.before p n in
      let whole = same p n in
      elim (eqb_tells p e.processor) [
        | inl mine ↦ (let is : takes_of new p ≡ suc (takes_of old p) = subst (λ q. takes_of new q ≡ suc (takes_of old q)) (sym mine.1) taken.now in omega arith)
        | inr other ↦ (let is = taken.others p other.1 in omega arith)
      ]);
  whole = λ p n at. (let before = were.before p n in
      let whole = same p n in
      elim (eqb_tells p e.processor) [
        | inl mine ↦ (let is : takes_of new p ≡ suc (takes_of old p) = subst (λ q. takes_of new q ≡ suc (takes_of old q)) (sym mine.1) taken.now in
            absurd (omega arith))
        | inr other ↦ no_gap_on s h e p n (λ mine. absurd (other.1 (sym mine)))
            (were.whole p n (sym whole ∙ at ∙ taken.others p other.1))
      ]);
}
  where
    same : (p n : ℕ) → whole_at new p n ≡ whole_at old p n
    same p n = ap (λ (v : Vec (Vec ℕ)). whole_copy_at v.items p n) taken.whole

-- a copy that lacks nothing is found whole
pub whole_copies_found : (s : Sizes) (h : List Event) (old new : WholeCopies) (p n : ℕ) → IsFoundWhole old new p n
    → BroughtCopyHasNoGap s h p n → AreWholeCopies s h old → AreWholeCopies s h new
whole_copies_found s h old new p n found none were = record {
  room = record { takes = ap (λ v. vec_len v) found.takes ∙ were.room.takes; whole = found.room ∙ were.room.whole };
  few = λ q. subst (λ t. t ≤ length h) (sym (takes q)) (were.few q);
  before = λ q m. elim (eqb_tells q p) [
    | inl mine ↦ elim (eqb_tells m n) [
      | inl page ↦ (let now = here q m mine.1 page.1 in let is = takes q in omega arith)
      | inr other ↦ (let now = page_other q m mine.1 other.1 in let is = takes q in let before = were.before q m in omega arith)
    ]
    | inr other ↦ (let now = found.others q m other.1 in let is = takes q in let before = were.before q m in omega arith)
  ];
  whole = λ q m at. elim (eqb_tells q p) [
    | inl mine ↦ elim (eqb_tells m n) [
      | inl page ↦ subst₂ (λ x y. BroughtCopyHasNoGap s h x y) (sym mine.1) (sym page.1) none
      | inr other ↦ were.whole q m (sym (page_other q m mine.1 other.1) ∙ at ∙ takes q)
    ]
    | inr other ↦ were.whole q m (sym (found.others q m other.1) ∙ at ∙ takes q)
  ];
}
  where
    takes : (q : ℕ) → takes_of new q ≡ takes_of old q
    takes q = ap (λ (v : Vec ℕ). slice_index v.items q) found.takes

    here : (q m : ℕ) → q ≡ p → m ≡ n → whole_at new q m ≡ takes_of old q
    here q m mine page = ap₂ (whole_at new) mine page ∙ found.now ∙ ap (takes_of old) (sym mine)

    page_other : (q m : ℕ) → q ≡ p → m ≢ n → whole_at new q m ≡ whole_at old q m
    page_other q m mine other = ap (λ x. whole_at new x m) mine ∙ found.pages m other ∙ ap (λ x. whole_at old x m) (sym mine)
