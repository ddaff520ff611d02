-- All chairs of a lock in one list, one of which enters and leaves.
use Rattle.std.proofs.Common.{◌≡◌, ◌≢◌, ℕ, ◌<◌, ◌≤◌, List, [], ◌∷◌, ◌++◌, length, Some, slice_get, set, get_or, refl, sym, ap, ◌∙◌, subst, ⊎_elim, arith}
use Rattle.std.proofs.Math.ListN.{length-set}
use Rattle.std.proofs.lemmas.Option.{slice_get_read}
use Rattle.turn.specs.declared.chair.ChairToken.{ChairToken}
use Rattle.turn.specs.Chairs.{ChairLockId, lock, chair_place, entries, IsChairOutside, IsSameChair, IsUnusedChair, AreUnusedChairs, AreChairsInOrder}
use Rattle.turn.proofs.ListItems.{list_item_of_set, list_item_of_longer, list_item_last}

-- a chair has entered at most as often as a chair of its lock may
pub chair_in_list_within_limit : {B V : Type 0} (c : ChairToken B V) → entries c ≤ (lock c).limit
chair_in_list_within_limit c = let counted = c.counted in omega arith

-- the last two chairs of a new lock, taken off one after the other
pub chair_list_popped_twice : {B V : Type 0} (l : ChairLockId) (v : V) (cs ds es : List (ChairToken B V)) (a b : ChairToken B V)
    → AreUnusedChairs l v cs → cs ≡ ds ++ b ∷ [] → ds ≡ es ++ a ∷ [] → IsUnusedChair l (length es) v a × IsUnusedChair l (length ds) v b
chair_list_popped_twice {B = B} {V = V} l v cs ds es a b fresh last next =
    let before : slice_get ds (length es) ≡ Some a =
    ap (λ (xs : List (ChairToken B V)). slice_get xs (length es)) next ∙ list_item_last es a (length es) refl in (
      fresh (length es) a (ap (λ (xs : List (ChairToken B V)). slice_get xs (length es)) last
          ∙ list_item_of_longer ds (b ∷ []) (length es) a before),
      fresh (length ds) b (ap (λ (xs : List (ChairToken B V)). slice_get xs (length ds)) last
          ∙ list_item_last ds b (length ds) refl),
    )

module _ {B V : Type 0} (l : ChairLockId) (n : ℕ) (cs : List (ChairToken B V)) (all : AreChairsInOrder l n cs) (k : ℕ)
    (c : ChairToken B V) (less : k < n) (read : c ≡ get_or cs k c) where
  -- the chair at a place
  pub chair_list_at : (lock c ≡ l) × (chair_place c ≡ k) × IsChairOutside c
  chair_list_at = all.1 k c (slice_get_read cs n k c (sym all.0) less read)

  -- the chairs are all there again once it has left
  pub chair_list_whole_again : (d : ChairToken B V) → IsSameChair c d → IsChairOutside d → AreChairsInOrder l n (set cs k d)
  chair_list_whole_again d same outside = (
    length-set cs k d ∙ all.0,
    λ j x e. ⊎_elim
        (λ (t : (j ≡ k) × (d ≡ x)). subst (λ (y : ChairToken B V). (lock y ≡ l) × (chair_place y ≡ j) × IsChairOutside y) t.1
        (same.0 ∙ chair_list_at.0, same.1 ∙ chair_list_at.1 ∙ sym t.0, outside))
        (λ (t : (j ≢ k) × (slice_get cs j ≡ Some x)). all.1 j x t.1)
        (list_item_of_set cs k j d x e),
  )
