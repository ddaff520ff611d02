-- What comes back from many threads.
use Rattle.std.proofs.Common.{◌≡◌, ℕ, suc, ◌+◌, ◌*◌, ◌<◌, ◌≤◌, List, [], ◌∷◌, map, length, sum, slice_get, Some, get_or, Bool, true, false, ◌&&◌, MatchBool, refl, ap, ◌∙◌, subst, suc-mul, arith}
use Rattle.std.specs.List.{list_all}
use Rattle.std.proofs.lemmas.List.{length-map}
use Rattle.std.proofs.lemmas.List.Sums.{sum_by-cons}
use Rattle.std.proofs.lemmas.Option.{slice_get_within, get_or_from_slice_get, slice_get_read}
use Rattle.turn.proofs.ListItems.{list_item_of_unmap}
use Rattle.turn.specs.declared.chair.ChairToken.{ChairToken}
use Rattle.turn.specs.Chairs.{ChairLockId, lock, chair_place, chair_view, IsChairOutside, AreUnusedChairs, AreChairsInOrder}
use Rattle.test_crews.specs.Counters.Tallies.{IsTallied, IsNew, HasAdded}

both_true : (a b : Bool) → (a && b) ≡ true → (a ≡ true) × (b ≡ true)
both_true true b e = (refl, e)
both_true false b e = cc

-- the chair of each thread is new
pub each_new : (l : ChairLockId) (cs : List (ChairToken ℕ ℕ)) → AreUnusedChairs l 0 cs → (i : ℕ) (x : ChairToken ℕ ℕ)
    → i < length cs → x ≡ get_or cs i x → IsNew l x
each_new l cs fresh i x less read = let f = fresh i x (slice_get_read cs (length cs) i x refl less read) in
    (f.0, f.4, f.2, f.3)

-- each result comes of the job at its place
pub record HaveAdded (limit times : ℕ) (jobs : List (ChairToken ℕ ℕ))
    (results : List (ChairToken ℕ ℕ × Bool)) : Type 0 where
  pub long : length results ≡ length jobs
  pub each : (k : ℕ) (r : ChairToken ℕ ℕ × Bool) → slice_get results k ≡ Some r
      → (job : ChairToken ℕ ℕ) × (slice_get jobs k ≡ Some job) × HasAdded limit times job r.0 r.1

-- the same of results and jobs that are read by their places
pub have_added : (limit times : ℕ) (jobs : List (ChairToken ℕ ℕ)) (results : List (ChairToken ℕ ℕ × Bool))
    → length results ≡ length jobs
    → ((k : ℕ) (r : ChairToken ℕ ℕ × Bool) → k < length jobs
    → (job : ChairToken ℕ ℕ) × (job ≡ get_or jobs k job)
    × HasAdded limit times job (get_or results k r).0 (get_or results k r).1) → HaveAdded limit times jobs results
have_added limit times jobs results long gives = record {
  long = long;
  each = λ k r e.
      let at = slice_get_within results k r e in
      let less : k < length jobs = omega arith in
      let job = gives k r less in (
        job.0,
        slice_get_read jobs (length jobs) k job.0 refl less job.1,
        subst (λ (p : ChairToken ℕ ℕ × Bool). HasAdded limit times job.0 p.0 p.1)
            (get_or_from_slice_get results k r r e) job.2,
      );
}

Done : ℕ → ℕ → List (ChairToken ℕ ℕ × Bool) → Type 0
Done limit times rs = (k : ℕ) (r : ChairToken ℕ ℕ × Bool) → slice_get rs k ≡ Some r
    → MatchBool r.1 ((chair_view r.0 ≡ times) × (times ≤ limit)) (limit < times)

-- all chairs are back
pub all_back : (l : ChairLockId) (n limit times : ℕ) (jobs : List (ChairToken ℕ ℕ))
    (results : List (ChairToken ℕ ℕ × Bool)) → length jobs ≡ n → AreUnusedChairs l 0 jobs
    → HaveAdded limit times jobs results → AreChairsInOrder l n (map (λ p. p.0) results)
all_back l n limit times jobs results count fresh h = (
  length-map results (λ p. p.0) ∙ h.long ∙ count,
  λ k c e.
      let r = list_item_of_unmap (λ (p : ChairToken ℕ ℕ × Bool). p.0) results k c e in
      let job = h.each k r.0 r.1 in
      let new = fresh k job.0 job.1 in
      subst (λ (x : ChairToken ℕ ℕ). (lock x ≡ l) × (chair_place x ≡ k) × IsChairOutside x) r.2
      (job.2.0.0 ∙ new.0, job.2.0.1 ∙ new.1, job.2.1),
)

all_times : (limit times : ℕ) (rs : List (ChairToken ℕ ℕ × Bool)) → Done limit times rs
    → list_all (λ p. p.1) rs ≡ true → sum (map chair_view (map (λ p. p.0) rs)) ≡ length rs * times
unfolding Done
all_times limit times [] done all = omega arith
all_times limit times (r ∷ rs) done all =
    let both = both_true r.1 (list_all (λ p. p.1) rs) all in
    let here = subst (λ (b : Bool). MatchBool b ((chair_view r.0 ≡ times) × (times ≤ limit)) (limit < times)) both.0
    (done 0 r refl) in
    let rest = all_times limit times rs (λ k. done (suc k)) both.1 in
    let sums : sum (map chair_view (map (λ p. p.0) (r ∷ rs))) ≡ chair_view r.0 + sum (map chair_view (map (λ p. p.0) rs)) =
    sum_by-cons (λ (v : ℕ). v) (chair_view r.0) (map chair_view (map (λ p. p.0) rs)) in
    let same = here.0 in
    omega (arith, suc-mul (length rs) times)

one_fits : (limit times : ℕ) (rs : List (ChairToken ℕ ℕ × Bool)) → Done limit times rs → 1 ≤ length rs
    → list_all (λ p. p.1) rs ≡ true → times ≤ limit
unfolding Done
one_fits limit times [] done any all = absurd (omega arith)
one_fits limit times (r ∷ rs) done any all =
    let both = both_true r.1 (list_all (λ p. p.1) rs) all in
    (subst (λ (b : Bool). MatchBool b ((chair_view r.0 ≡ times) × (times ≤ limit)) (limit < times)) both.0 (done 0 r refl)).1

one_spent : (limit times : ℕ) (rs : List (ChairToken ℕ ℕ × Bool)) → Done limit times rs
    → list_all (λ p. p.1) rs ≡ false → limit < times
unfolding Done
one_spent limit times [] done none = cc
one_spent limit times ((c, true) ∷ rs) done none = one_spent limit times rs (λ k. done (suc k)) none
one_spent limit times ((c, false) ∷ rs) done none = done 0 (c, false) refl

each_done : (limit times : ℕ) (jobs : List (ChairToken ℕ ℕ)) (results : List (ChairToken ℕ ℕ × Bool))
    → HaveAdded limit times jobs results → Done limit times results
unfolding Done
each_done limit times jobs results h = λ k r e. (h.each k r e).2.2

-- the count where all could enter
pub summed_up : (limit times n count : ℕ) (jobs : List (ChairToken ℕ ℕ)) (results : List (ChairToken ℕ ℕ × Bool))
    → length jobs ≡ n → 1 ≤ n → HaveAdded limit times jobs results → list_all (λ p. p.1) results ≡ true
    → IsTallied count (map chair_view (map (λ p. p.0) results)) → (count ≡ n * times) × (times ≤ limit)
summed_up limit times n count jobs results long any h all t =
    let d = each_done limit times jobs results h in
    let many : length results ≡ n = h.long ∙ long in (
      t.summed ∙ all_times limit times results d all ∙ ap (λ (k : ℕ). k * times) many,
      one_fits limit times results d (omega arith) all,
    )

-- where one couldn't, none can enter as often
pub spent_up : (limit times : ℕ) (jobs : List (ChairToken ℕ ℕ)) (results : List (ChairToken ℕ ℕ × Bool))
    → HaveAdded limit times jobs results → list_all (λ p. p.1) results ≡ false → limit < times
spent_up limit times jobs results h none = one_spent limit times results (each_done limit times jobs results h) none
