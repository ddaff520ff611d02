-- The circles of waiting processors, put together by the least processor of each.
use Rattle.std.proofs.Common.{◌≡◌, ◌∙◌, ◌+◌, ◌<◌, inl, inr, ℕ, zero, suc, List, [], ◌∷◌, ◌++◌, Some, slice_get, sym, subst, refl, arith}
use Rattle.std.specs.Global.{Vec}
use Rattle.std.proofs.lemmas.Bool.{cases_lt}
use Rattle.std.proofs.lemmas.Option.{none-some, same_Some}
use Rattle.base.specs.InOrderOnce.{Has, InOrder}
use Rattle.base.proofs.JoinedLists.{joined_list_has-append, joined_list_in_order-append, joined_list_in_order_single}
use Rattle.base.proofs.SlicesAndCounts.{slice_push_cases}
use Rattle.causes.specs.declared.waits_at_end.Wait.{Wait}
use Rattle.causes.specs.WaitingCircles.{AreWaitCircles, BeginsBelow, IsWaitCircleAmong, IsWaitingCircle}

-- of two leasts the same circle has one
same_least : (waits : List Wait) (a b : ℕ) (circle : List ℕ) → slice_get circle 0 ≡ Some a → IsWaitingCircle waits b circle → a ≡ b
same_least waits a b circle at is = same_Some a b (sym at ∙ is.begins)

-- a processor that is the least of no circle
pub wait_circles_left : (waits : List Wait) (n : ℕ) (circles : List (Vec ℕ)) → AreWaitCircles waits n circles
    → ((circle : List ℕ) → ¬ IsWaitingCircle waits n circle) → AreWaitCircles waits (n + 1) circles
wait_circles_left waits n circles are none = record {
  each = λ c has. (let it = are.each c has in (it.0, (let lt = it.1 in omega arith), it.2));
  all = λ least circle lt is. elim (cases_lt least n) [
    | inl below ↦ are.all least circle below is
    | inr above ↦
        (let same : least ≡ n = omega arith in
        absurd (none circle (subst (λ m. IsWaitingCircle waits m circle) same is)))
  ];
  rising = are.rising;
}

-- one that is the least of this circle
pub wait_circles_push : (waits : List Wait) (n : ℕ) (circles : List (Vec ℕ)) (c : Vec ℕ) → AreWaitCircles waits n circles
    → IsWaitingCircle waits n c.items → ((circle : List ℕ) → IsWaitingCircle waits n circle → c.items ≡ circle)
    → AreWaitCircles waits (n + 1) (circles ++ c ∷ [])
wait_circles_push waits n circles c are is only = record { each = each; all = all; rising = rising }
  where
    each : (d : Vec ℕ) → Has (circles ++ c ∷ []) d → (least : ℕ) × (least < n + 1) × IsWaitingCircle waits least d.items
    each d has = elim (slice_push_cases circles c has.0 d has.1) [
      | inl old ↦ (let it = are.each d (has.0, old.1) in (it.0, (let lt = it.1 in omega arith), it.2))
      | inr new ↦ (n, omega arith, subst (λ (x : Vec ℕ). IsWaitingCircle waits n x.items) new.1 is)
    ]

    all : (least : ℕ) (circle : List ℕ) → least < n + 1 → IsWaitingCircle waits least circle → IsWaitCircleAmong (circles ++ c ∷ []) circle
    all least circle lt there = elim (cases_lt least n) [
      | inl below ↦
          (let it = are.all least circle below there in
          record { found = it.found; has = (joined_list_has-append circles (c ∷ []) it.found).1 (inl it.has); same = it.same })
      | inr above ↦
          (let same : least ≡ n = omega arith in
          record {
            found = c;
            has = (joined_list_has-append circles (c ∷ []) c).1 (inr (0, refl));
            same = only circle (subst (λ m. IsWaitingCircle waits m circle) same there);
          })
    ]

    single : (y : Vec ℕ) → Has (c ∷ []) y → y ≡ c
    single y (zero, at) = sym (same_Some c y at)
    single y (suc k, at) = absurd (none-some y at)

    below : (x y : Vec ℕ) → Has circles x → Has (c ∷ []) y → BeginsBelow x y
    below x y old new a b at to =
        let it = are.each x old in
        let first : a ≡ it.0 = same_least waits a it.0 x.items at it.2 in
        let last : b ≡ n = same_least waits b n c.items (subst (λ (z : Vec ℕ). slice_get z.items 0 ≡ Some b) (single y new) to) is in
        let lt = it.1 in
        omega arith

    rising : InOrder BeginsBelow (circles ++ c ∷ [])
    rising = joined_list_in_order-append BeginsBelow circles (c ∷ []) are.rising (joined_list_in_order_single BeginsBelow c) below
