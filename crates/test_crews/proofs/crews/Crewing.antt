-- Crews of which one processor did something, or all did.
use Rattle.std.proofs.Common.{ℕ, ◌≡◌, ◌≢◌, Some, None, Result, Ok, Err, OnErr, List, map, length, ◌<◌, refl, subst, sym, ap, ◌∙◌, inl, inr, slice_get, slice_set, get_or, arith}
use Rattle.std.proofs.lemmas.Bool.{cases_eq}
use Rattle.std.proofs.lemmas.List.{length-set, length-map}
use Rattle.std.proofs.lemmas.Option.{same_Some, slice_get_within, get_or_from_slice_get, slice_get_read}
use Rattle.std.specs.Result.{result_err}
use Rattle.base.proofs.SliceSets.{slice_get-set_found, slice_get-set_other}
use Rattle.turn.proofs.ListItems.{list_item_of_unmap}
use Rattle.book.specs.declared.refused.Refused.{Refused}
use Rattle.cluster.specs.Copies.Local.{Local, calls}
use Rattle.cluster.specs.NewClusters.{SharedCluster}
use Rattle.cluster.specs.Finishing.{AreAllToFinish}
use Rattle.test_crews.specs.Crews.Crews.{IsOf, IsMember, AreMembers, HaveSameCalls}

-- the processors, where one of them is another
pub members_set : (c : SharedCluster) (ms : List Local) (p : ℕ) (m : Local) → AreMembers c ms → IsMember c p m
    → AreMembers c (slice_set ms p m)
members_set c ms p m all own = record { all = length-set ms p m ∙ all.all; each = each }
  where
    each : (q : ℕ) (n : Local) → slice_get (slice_set ms p m) q ≡ Some n → IsMember c q n
    each q n at = elim (cases_eq q p) [
      | inl is ↦ (let P : ℕ → Type 0 = λ k. slice_get (slice_set ms p m) k ≡ Some n in
          let here = slice_get-set_found ms p m n (subst P is at) in
          let Q : ℕ → Type 0 = λ k. IsMember c k n in
          subst Q (sym is) (subst (λ x. IsMember c p x) here own))
      | inr isnt ↦ all.each q n (sym (slice_get-set_other ms p q m isnt) ∙ at)
    ]

-- where a call on p is refused, all calls are as they were
pub same_calls : {A : Type 0} (r : Result A Refused) (ms : List Local) (p : ℕ) (old new : Local)
    → slice_get ms p ≡ Some old → (result_err r ≢ None → calls new ≡ calls old) → OnErr r (HaveSameCalls ms (slice_set ms p new))
same_calls (Ok x) ms p old new found same = tt
same_calls (Err e) ms p old new found same = each
  where
    kept : calls new ≡ calls old
    kept = same (λ none. cc)

    each : HaveSameCalls ms (slice_set ms p new)
    each q m n before after = elim (cases_eq q p) [
      | inl is ↦ (let P : ℕ → Type 0 = λ k. slice_get (slice_set ms p new) k ≡ Some n in
          let here = slice_get-set_found ms p new n (subst P is after) in
          let Q : ℕ → Type 0 = λ k. slice_get ms k ≡ Some m in
          let there = same_Some old m (sym found ∙ subst Q is before) in
          ap calls (sym here) ∙ (kept ∙ ap calls there))
      | inr isnt ↦ ap calls (sym (same_Some m n (sym before ∙ (sym (slice_get-set_other ms p q new isnt) ∙ after))))
    ]

-- the same of results and jobs that are read by their places
pub all_back : {A : Type 0} (c : SharedCluster) (jobs : List Local) (results : List (Local × A))
    → AreMembers c jobs → length results ≡ length jobs
    → ((k : ℕ) (r : Local × A) → k < length jobs → (job : Local) × (job ≡ get_or jobs k job)
    × IsOf c (get_or results k r).0 × ((get_or results k r).0.number ≡ job.number))
    → AreMembers c (map (λ r. r.0) results)
all_back {A} c jobs results all long gives = record {
  all = length-map results (λ r. r.0) ∙ (long ∙ all.all);
  each = λ p m e.
      let r = list_item_of_unmap (λ (x : Local × A). x.0) results p m e in
      let within = slice_get_within results p r.0 r.1 in
      let less : p < length jobs = omega arith in
      let job = gives p r.0 less in
      let own = all.each p job.0 (slice_get_read jobs (length jobs) p job.0 refl less job.1) in
      let same = get_or_from_slice_get results p r.0 r.0 r.1 in
      let here : IsMember c p (get_or results p r.0).0 = record { of = job.2; number_is = job.3 ∙ own.number_is } in
      subst (λ (n : Local). IsMember c p n) r.2 (subst (λ (x : Local × A). IsMember c p x.0) same here);
}

-- what finishing asks of them
pub all_of : (c : SharedCluster) (ms : List Local) → AreMembers c ms → AreAllToFinish c ms
all_of c ms all = record {
  all = all.all;
  each = λ p m at.
      let own = all.each p m at in
      record { lock = own.of.lock_is; number = own.number_is; sizes = own.of.sizes_are };
}
