-- The event behind a faithful history that is a lie, and why; and the race that is told.
use Rattle.std.proofs.Common.{◌≡◌, ℕ, suc, Bool, false, List, [], ◌∷◌, ◌++◌, length, take, subst, sym, ap, ◌∙◌, arith, length-append}
use Rattle.std.proofs.Math.Seq.{take-append_seam}
use Rattle.journal.specs.declared.event.Event.{Event}
use Rattle.journal.specs.declared.event.Kind.TheVariants.{Load}
use Rattle.journal.specs.Sizes.{Sizes}
use Rattle.journal.specs.Events.{EventAt}
use Rattle.journal.specs.WellFormed.{Does}
use Rattle.journal.proofs.Order.EventPlacesAndCounts.{event_place_at_end}
use Rattle.judge.specs.declared.ill_formed.IllFormed.{IllFormed}
use Rattle.judge.specs.declared.miscounted.Miscounted.{Miscounted}
use Rattle.judge.specs.declared.models.MemoryModel.{MemoryModel}
use Rattle.judge.specs.declared.models.MemoryModel.TheVariants.{LazyRelease}
use Rattle.judge.specs.LaxWellFormed.{MayFollowOrLax, LaxMayFollow, WellFormedOrLax}
use Rattle.judge.specs.Miscounted.{IsEventInSizes, Miscounts}
use Rattle.judge.specs.Models.{IsModelAnswer}
use Rattle.judge.specs.Owed.{PermitsOwed}
use Rattle.judge.specs.Why.{IsFirstTrueWhy}
use Rattle.judge.proofs.WellFormedFronts.{well_formed_front_lax_event}
use Rattle.judge.proofs.Refusing.{refusing_why_law}
use Rattle.lrc_check.specs.declared.checked.Unexplained.{Unexplained}
use Rattle.lrc_check.specs.declared.checked.Lie.TheVariants as lie
use Rattle.lrc_check.specs.CheckVerdicts.{IsCheckVerdictLie, IsCheckVerdictUnexplainedNext}
use Rattle.lrc_check.specs.Faithful.{IsFaithfulAndCounted, IsFaithfulOnlyUpTo}
use Rattle.lrc_check.proofs.Accepting.{accepting_ill_formed_lie, accepting_miscounted_here, accepting_miscounted_lie, accepting_unexplained_lie}

-- what may follow is within the sizes
pub lying_may_within : (lax : Bool) (s : Sizes) (j : List Event) (e : Event) → MayFollowOrLax lax s j e → IsEventInSizes s e
lying_may_within lax s j e may =
    let m : LaxMayFollow s j e = well_formed_front_lax_event lax s j e may in record { processor = m.processor; kind = m.in_range }

-- one place on is all of it
lying_place_last : (j : List Event) (e : Event) (n : ℕ) → n ≡ length j → suc n ≡ length (j ++ e ∷ [])
lying_place_last j e n is = let long = length-append j (e ∷ []) in omega arith

lying_front_at : (j : List Event) (e : Event) (n : ℕ) → n ≡ length j → take n (j ++ e ∷ []) ≡ j
lying_front_at j e n is = ap (λ m. take m (j ++ e ∷ [])) is ∙ take-append_seam j (e ∷ [])

lying_at_place : (j : List Event) (e : Event) (n : ℕ) → n ≡ length j → EventAt (j ++ e ∷ []) n e
lying_at_place j e n is = subst (λ m. EventAt (j ++ e ∷ []) m e) (sym is) (event_place_at_end j e)

-- what is said of a load is said of its address and value
pub lying_same_load : (P : ℕ → ℕ → Type 0) (a v b w : ℕ) → Load a v ≡ Load b w → P a v → P b w
lying_same_load P a v b w is p =
    let address : a ≡ b = cc in
    let value : v ≡ w = cc in
    subst (λ x. P x w) address (subst (P a) value p)

-- a load that answers what it may not is a lie
pub lying_unexplained : (m : MemoryModel) (lax : Bool) (s : Sizes) (j : List Event) (e : Event) (x : Unexplained)
    → IsFaithfulAndCounted m lax s j → IsCheckVerdictUnexplainedNext m s j e x → IsCheckVerdictLie m lax s (j ++ e ∷ []) (lie.Unexplained x)
lying_unexplained m lax s j e x accepted u = record {
  last = lying_place_last j e x.place u.place;
  first =
      subst (IsFaithfulOnlyUpTo m lax s (j ++ e ∷ [])) (sym u.place)
      (accepting_unexplained_lie m lax s j e u.address u.value accepted u.loads u.wrong);
  reason = record {
    by = e.processor;
    address = u.address;
    value = u.value;
    does = subst (λ k. Does (j ++ e ∷ []) x.place e.processor k) u.loads (lying_at_place j e x.place u.place);
    wrong = subst (λ n. ¬ IsModelAnswer m s (j ++ e ∷ []) n u.address u.value) (sym u.place) u.wrong;
    permitted = subst (λ n. PermitsOwed m (j ++ e ∷ []) n u.address x.permitted) (sym u.place) u.permitted;
  };
}

-- and so is a fetch that miscounts
pub lying_miscounted : (m : MemoryModel) (lax : Bool) (s : Sizes) (j : List Event) (e : Event) (x : Miscounted)
    → IsFaithfulAndCounted m lax s j → m ≡ LazyRelease → lax ≡ false → x.place ≡ length j → Miscounts s j e x
    → IsCheckVerdictLie m lax s (j ++ e ∷ []) (lie.Miscounted x)
lying_miscounted m lax s j e x accepted lazy strict place wrong = record {
  last = lying_place_last j e x.place place;
  first =
      subst (IsFaithfulOnlyUpTo m lax s (j ++ e ∷ [])) (sym place)
      (accepting_miscounted_lie m lax s j e x accepted lazy strict wrong);
  reason = (lazy, strict, accepting_miscounted_here s j e x (accepted.counted lazy strict) place wrong);
}

-- and an event that may not follow
pub lying_ill_formed : (m : MemoryModel) (lax : Bool) (s : Sizes) (j : List Event) (e : Event) (x : IllFormed)
    → IsFaithfulAndCounted m lax s j → x.place ≡ length j → IsFirstTrueWhy lax s j e x.why
    → IsCheckVerdictLie m lax s (j ++ e ∷ []) (lie.IllFormed x)
lying_ill_formed m lax s j e x accepted place why =
    let front = lying_front_at j e x.place place in
    let refused = refusing_why_law lax s j e x.why why.is_true in
    record {
      last = lying_place_last j e x.place place;
      first =
          subst (IsFaithfulOnlyUpTo m lax s (j ++ e ∷ [])) (sym place)
          (accepting_ill_formed_lie m lax s j e accepted refused);
      reason = record {
        event = e;
        at = lying_at_place j e x.place place;
        before = subst (WellFormedOrLax lax s) (sym front) accepted.well_formed;
        refused = subst (λ xs. ¬ MayFollowOrLax lax s xs e) (sym front) refused;
        why = subst (λ xs. IsFirstTrueWhy lax s xs e x.why) (sym front) why;
      };
    }
