-- Adding one keeps the count the sum of what the chairs have added.
use Rattle.std.proofs.Common.{◌≡◌, ℕ, ◌+◌, ◌*◌, ◌^◌, ◌<◌, ◌≤◌, List, [], ◌∷◌, ◌++◌, length, length-append, slice_get, Some, get_or, set, sum, replicate, ap, ◌∙◌, mul-le-mul_right, arith}
use Rattle.std.proofs.Math.ListN.{length-set}
use Rattle.std.proofs.lemmas.List.{length-replicate}
use Rattle.std.proofs.lemmas.List.Sums.{sum_by-le, sum_by-set}
use Rattle.std.proofs.lemmas.List.Folds.{sum_by-replicate}
use Rattle.std.proofs.lemmas.List.Elements.{All-set, All-replicate}
use Rattle.std.proofs.lemmas.Option.{slice_get_within, get_or_from_slice_get}
use Rattle.turn.proofs.ChairLists.{chair_list_popped_twice}
use Rattle.turn.specs.declared.chair.ChairToken.{ChairToken}
use Rattle.turn.specs.Chairs.{ChairLockId, chair_place, AreUnusedChairs}
use Rattle.test_crews.specs.Counters.Tallies.{IsTallied, IsNew}

-- a count is small
pub bounded : (count : ℕ) (views : List ℕ) → IsTallied count views → count ≤ 2 ^ 48
bounded count views t =
    let few = t.few in
    let each : sum views ≤ length views * 2 ^ 32 = sum_by-le (λ v. v) (2 ^ 32) views t.small in
    let all : length views * 2 ^ 32 ≤ 2 ^ 16 * 2 ^ 32 = mul-le-mul_right (2 ^ 32) few in
    let s = t.summed in
    omega arith

pub adds : (count : ℕ) (views : List ℕ) (p v : ℕ) → IsTallied count views → slice_get views p ≡ Some v → v < 2 ^ 32
    → IsTallied (count + 1) (set views p (v + 1))
adds count views p v t at room =
    let read : get_or views p 0 ≡ v = get_or_from_slice_get views p v 0 at in
    let sums = sum_by-set (λ (x : ℕ). x) views p (v + 1) 0 (slice_get_within views p v at) in
    let s = t.summed in
    let few = t.few in
    let long = length-set views p (v + 1) in
    record {
      summed = let e : sum (set views p (v + 1)) + get_or views p 0 ≡ sum views + (v + 1) = sums in omega arith;
      few = omega arith;
      small = All-set (λ (x : ℕ). x ≤ 2 ^ 32) views p (v + 1) (omega arith) t.small;
    }

-- nobody has added anything
pub starts : (n : ℕ) → n ≤ 2 ^ 16 → IsTallied 0 (replicate n 0)
starts n few = record {
  summed = let e : sum (replicate n 0) ≡ n * 0 = sum_by-replicate (λ (x : ℕ). x) n 0 in omega arith;
  few = let l : length (replicate {A = ℕ} n 0) ≡ n = length-replicate {A = ℕ} n 0 in omega arith;
  small = All-replicate (λ (x : ℕ). x ≤ 2 ^ 32) n 0 (omega arith);
}

-- the two chairs of a new lock
pub two_new : (l : ChairLockId) (cs ds es : List (ChairToken ℕ ℕ)) (a b : ChairToken ℕ ℕ) → length cs ≡ 2 → AreUnusedChairs l 0 cs
    → cs ≡ ds ++ b ∷ [] → ds ≡ es ++ a ∷ [] → (IsNew l a × (chair_place a ≡ 0)) × (IsNew l b × (chair_place b ≡ 1))
two_new l cs ds es a b two fresh last next =
    let long : length cs ≡ length ds + 1 = ap length last ∙ length-append ds (b ∷ []) in
    let long' : length ds ≡ length es + 1 = ap length next ∙ length-append es (a ∷ []) in
    let both = chair_list_popped_twice l 0 cs ds es a b fresh last next in
    let f = both.0 in
    let s = both.1 in
    (((f.0, f.4, f.2, f.3), f.1 ∙ omega arith), ((s.0, s.4, s.2, s.3), s.1 ∙ omega arith))
