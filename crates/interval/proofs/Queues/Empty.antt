-- Queues of which none holds an interval.
use Rattle.std.proofs.Common.{◌≡◌, ℕ, ◌+◌, List, [], ◌∷◌, ◌++◌, map, replicate, length, refl, ap, subst, arith, ◌∙◌}
use Rattle.std.specs.List.{flat_map}
use Rattle.std.proofs.lemmas.List.{map-append, replicate_more}
use Rattle.base.specs.InOrderOnce.{Has}
use Rattle.base.proofs.JoinedLists.{joined_list_has-nil}
use Rattle.interval.specs.declared.interval.KeptInterval.{KeptInterval}
use Rattle.interval.specs.IntervalQueues.{IntervalQueue, AreIntervalQueues}
use Rattle.interval.proofs.Queues.Merged.{LiesInMerged, lies_in_merged}

-- so many empty queues
pub record AreEmpty (n : ℕ) (queues : List IntervalQueue) : Type 0 where
  pub none : flat_map (λ (q : IntervalQueue). q.kept) queues ≡ []
  pub first : map (λ (q : IntervalQueue). q.first) queues ≡ replicate n 0
  pub next : map (λ (q : IntervalQueue). q.first + length q.kept) queues ≡ replicate n 0

flat_map-push_empty : (f : IntervalQueue → List KeptInterval) (xs : List IntervalQueue) (x : IntervalQueue) → f x ≡ []
    → flat_map f (xs ++ x ∷ []) ≡ flat_map f xs
flat_map-push_empty f [] x none = ap (λ ys. ys ++ []) none
flat_map-push_empty f (y ∷ ys) x none = ap (λ zs. f y ++ zs) (flat_map-push_empty f ys x none)

pub one_more_empty : (n : ℕ) (queues : List IntervalQueue) (queue : IntervalQueue) → queue.first ≡ 0 → queue.kept ≡ []
    → AreEmpty n queues → AreEmpty (n + 1) (queues ++ queue ∷ [])
one_more_empty n queues queue first kept are =
    let long : queue.first + length queue.kept ≡ 0 = let l = ap (λ (ks : List KeptInterval). length ks) kept in omega arith in
    record {
      none = flat_map-push_empty (λ (q : IntervalQueue). q.kept) queues queue kept ∙ are.none;
      first = rw (map-append, are.first, first, replicate_more) refl;
      next = rw (map-append, are.next, long, replicate_more) refl;
    }

pub nothing_lies_in_empty : (queues : List IntervalQueue) → flat_map (λ (q : IntervalQueue). q.kept) queues ≡ [] → (k : KeptInterval) → LiesInMerged queues k
    → ⊥
nothing_lies_in_empty queues none k l =
    let P : List KeptInterval → Type 0 = λ ks. Has ks k in joined_list_has-nil k (subst P none (lies_in_merged queues k l))

pub are_empty_queues : (queues : List IntervalQueue) → flat_map (λ (q : IntervalQueue). q.kept) queues ≡ [] → AreIntervalQueues queues 0
are_empty_queues queues none = record {
  few = omega arith;
  each = λ q queue at. record {
    each =
        λ i k at_i. absurd
        (nothing_lies_in_empty queues none k (record { owner = q; queue = queue; index = i; owned = at; at = at_i }));
    rising =
        λ x y a b lt at_x at_y. absurd
        (nothing_lies_in_empty queues none a (record { owner = q; queue = queue; index = x; owned = at; at = at_x }));
  };
  apart =
      λ q r a b j k at_q at_r has_j has_k same. absurd
      (nothing_lies_in_empty queues none j (record { owner = q; queue = a; index = has_j.0; owned = at_q; at = has_j.1 }));
}
