-- Threads that are started and joined one by one.
use Rattle.std.proofs.Common.{ℕ, IfSome, zero, suc, map, ◌≡◌, ◌≢◌, ◌⊎◌, get_or, inl, inr, Option, Some, None, List, [], ◌∷◌, ◌++◌, Result, Ok, Err, length, slice_get, refl, sym, ap, subst, subst₂, ◌∙◌, arith}
use Rattle.std.proofs.lemmas.List.{length_push}
use Rattle.std.proofs.lemmas.Option.{none-some, slice_get_cases, slice_get-get_or, slice_get_within, same_Some}
use Rattle.base.proofs.SlicesAndCounts.{slice_push_cases, slice_get-append_left, slice_get-last}
use Rattle.journal.specs.Sizes.{Sizes}
use Rattle.lrc_script.specs.declared.script.Instruction.{Instruction}
use Rattle.lrc_script.specs.Lawful.{IsLawful}
use Rattle.lrc_script.specs.Plan.{Plan}
use Rattle.cluster.specs.Copies.Local.{Local}
use Rattle.cluster.specs.NewClusters.{IsClusterLockOf, SharedCluster, IsNewCluster}
use Rattle.conformance.specs.Follows.{plan_sizes}
use Rattle.conformance.specs.declared.cause.RunFault.{RunFault}
use Rattle.conformance.specs.declared.cause.Cause.{Cause}
use Rattle.conformance.specs.declared.cause.Cause.TheVariants.{Stuck, Thread}
use Rattle.std.specs.Result.{IfErr, IfOk}
use Rattle.lrc_report.specs.declared.report.Report.{Report}
use Rattle.lrc_run.specs.ClusterRuns.{IsClusterReport, IsClusterRun, IsStuckInClusterRun}
use Rattle.lrc_run.specs.FailedOutcomes.{FailedOutcome, IsFaultOfFailedOutcome, NoOutcomeFailed}
use Rattle.lrc_run.specs.Threads.{ThreadErrand, AreThreadResults, AreThreadResultsOf, AreThreadsStarted, IsThreadResultOf, IsWalkResult}
use Rattle.lrc_run.specs.RunCalls.{HaveRunCallsOfWalks, new_at_run_call}

-- the item behind a front
pub joined_threads_behind : {A : Type 0} (front rest all : List A) (x : A) → front ++ x ∷ rest ≡ all
    → slice_get all (length front) ≡ Some x
joined_threads_behind {A} front rest all x is = subst (λ (ys : List A). slice_get ys (length front) ≡ Some x) is (there front)
  where
    there : (ys : List A) → slice_get (ys ++ x ∷ rest) (length ys) ≡ Some x
    there [] = refl
    there (y ∷ ys) = there ys

-- one thread more, and what it gave back
pub joined_threads_more : (threads : List (Option ThreadErrand)) (outcomes : List (Result Local Cause)) (thread : Option ThreadErrand)
    (outcome : Result Local Cause) → AreThreadResultsOf threads outcomes → IsThreadResultOf thread outcome
    → AreThreadResultsOf (threads ++ thread ∷ []) (outcomes ++ outcome ∷ [])
joined_threads_more threads outcomes thread outcome were is = record {
  all = let a = length_push outcomes outcome in let b = length_push threads thread in let c = were.all in omega arith;
  each = λ p t o at there. elim (slice_push_cases threads thread p t at) [
    | inl old ↦ elim (slice_push_cases outcomes outcome p o there) [
      | inl was ↦ were.each p t o old.1 was.1
      | inr new ↦ absurd (let a = were.all in omega (arith, old.0, new.0))
    ]
    | inr last ↦ elim (slice_push_cases outcomes outcome p o there) [
      | inl was ↦ absurd (let a = were.all in omega (arith, last.0, was.0))
      | inr new ↦ subst₂ IsThreadResultOf last.1 new.1 is
    ]
  ];
}

-- one processor more, and its thread, if it has one
pub joined_threads_started_more : (tries : ℕ) (ms : List Local) (sections : List (List Instruction)) (threads : List (Option ThreadErrand)) (m : Local)
    (section : List Instruction) (thread : Option ThreadErrand) → AreThreadsStarted tries ms sections threads
    → slice_get sections (length ms) ≡ Some section
    → IfSome thread (λ e. (e.processor ≡ m) × (e.section ≡ section) × (e.tries ≡ tries))
    → AreThreadsStarted tries (ms ++ m ∷ []) sections (threads ++ thread ∷ [])
joined_threads_started_more tries ms sections threads m section thread were at is = record {
  all = let a = length_push ms m in let b = length_push threads thread in let c = were.all in omega arith;
  processors = λ p e there. elim (slice_push_cases threads thread p (Some e) there) [
    | inl old ↦ slice_get-append_left ms (m ∷ []) p (slice_get_within ms p e.processor (were.processors p e old.1))
        ∙ were.processors p e old.1
    | inr new ↦ subst (λ k. slice_get (ms ++ m ∷ []) k ≡ Some e.processor) (sym were.all ∙ sym new.0)
        (slice_get-last ms m ∙ ap Some (sym (are e new.1).0))
  ];
  sections_are = λ p e there. elim (slice_push_cases threads thread p (Some e) there) [
    | inl old ↦ were.sections_are p e old.1
    | inr new ↦ subst (λ k. slice_get sections k ≡ Some e.section) (sym were.all ∙ sym new.0)
        (at ∙ ap Some (sym (are e new.1).1))
  ];
  tries_are = λ p e there. elim (slice_push_cases threads thread p (Some e) there) [
    | inl old ↦ were.tries_are p e old.1
    | inr new ↦ (are e new.1).2
  ];
}
  where
    are : (e : ThreadErrand) → thread ≡ Some e → (e.processor ≡ m) × (e.section ≡ section) × (e.tries ≡ tries)
    are e some = subst (λ t. IfSome t (λ x. (x.processor ≡ m) × (x.section ≡ section) × (x.tries ≡ tries))) some is

-- what came of the threads is what came of the processors of the cluster
pub joined_threads_outcomes : (tries : ℕ) (c : SharedCluster) (ms : List Local) (sections : List (List Instruction))
    (threads : List (Option ThreadErrand)) (outcomes : List (Result Local Cause)) → IsNewCluster c ms
    → AreThreadsStarted tries ms sections threads → AreThreadResultsOf threads outcomes → AreThreadResults tries c sections outcomes
joined_threads_outcomes tries c ms sections threads outcomes new started are = record {
  all = are.all ∙ started.all ∙ new.all;
  each = λ p section outcome at there. elim (slice_get_cases threads p).1 [
    | inl found ↦ walks p section outcome at there found.0 found.2
    | inr past ↦ absurd (let within = slice_get_within outcomes p outcome there in let a = are.all in
        omega (arith, past.0))
  ];
}
  where
    walks : (p : ℕ) (section : List Instruction) (outcome : Result Local Cause) → slice_get sections p ≡ Some section
        → slice_get outcomes p ≡ Some outcome → (thread : Option ThreadErrand) → slice_get threads p ≡ Some thread
        → IsWalkResult tries (new_at_run_call c p) section outcome
    walks p section (Ok m) at there None is = absurd (are.each p None (Ok m) is there)
    walks p section (Err cause) at there None is =
        let none : cause ≡ Thread = are.each p None (Err cause) is there in
        λ stuck. absurd (let other : Thread ≡ Stuck = sym none ∙ stuck in cc)
    walks p section outcome at there (Some e) is =
        let P : ℕ → Type 0 = λ k. IsWalkResult k (new_at_run_call c p) section outcome in
        subst P (started.tries_are p e is) (subst₂ (λ old s. IsWalkResult e.tries old s outcome)
        (new.each p e.processor (started.processors p e is))
        (same_Some e.section section (sym (started.sections_are p e is) ∙ at)) (are.each p (Some e) outcome is there))

abbrev joined_threads_all_ok : List Local → List (Result Local Cause)
joined_threads_all_ok ms = map Ok ms

-- where none failed, all have walked
pub joined_threads_all_walked : (c : SharedCluster) (sections : List (List Instruction)) (outcomes : List (Result Local Cause))
    (ms : List Local)
    → {tries : ℕ} → AreThreadResults tries c sections outcomes → map Ok ms ≡ outcomes → HaveRunCallsOfWalks c sections ms
joined_threads_all_walked c sections outcomes ms are is = record {
  all = sym (oks_length ms) ∙ ap (λ (os : List (Result Local Cause)). length os) is ∙ are.all;
  each = λ p section m at there. are.each p section (Ok m) at
      (subst (λ (os : List (Result Local Cause)). slice_get os p ≡ Some (Ok m)) is (mapped ms p m there));
}
  where
    oks_length : (xs : List Local) → length (joined_threads_all_ok xs) ≡ length xs
    oks_length [] = refl
    oks_length (x ∷ xs) = ap suc (oks_length xs)

    mapped : (xs : List Local) (p : ℕ) (m : Local) → slice_get xs p ≡ Some m → slice_get (joined_threads_all_ok xs) p ≡ Some (Ok m)
    mapped [] p m at = absurd (none-some m at)
    mapped (x ∷ xs) zero m at = ap (λ (y : Local). Some (Ok y)) (same_Some x m at)
    mapped (x ∷ xs) (suc p) m at = mapped xs p m at

-- a fault of a run that is stuck is that of a processor that has given up
pub joined_threads_stuck : {s : Plan} {c : SharedCluster} {tries : ℕ} {outcomes : List (Result Local Cause)} (width : ℕ → ℕ) (fault : RunFault)
    → IsClusterLockOf width c → IsLawful s → c.sizes ≡ plan_sizes s → AreThreadResults tries c s.sections outcomes
    → IsFaultOfFailedOutcome outcomes fault ⊎ (NoOutcomeFailed outcomes × (fault.cause ≢ Stuck)) → fault.cause ≡ Stuck
    → IsStuckInClusterRun width s tries fault.processor
joined_threads_stuck {s = s} {c = c} {tries = tries} {outcomes = outcomes} width fault lock lawful sizes are told stuck = elim told [
  | inl failed ↦ elim failed [ inl first ↦ of first.failed | inr second ↦ of second.1.failed ]
  | inr other ↦ absurd (other.1 stuck)
]
  where
    of : FailedOutcome outcomes fault.processor fault.cause → IsStuckInClusterRun width s tries fault.processor
    of failed =
        let p = fault.processor in
        let one_each = lawful.but_uneven.one_each in
        let many = are.all in
        let same = ap (λ (x : Sizes). x.processors) sizes in
        let within = slice_get_within outcomes p (Err fault.cause) failed in
        let section = get_or s.sections p [] in
        let at = slice_get-get_or s.sections p [] (omega (arith, one_each, many, same, within)) in
        let up = are.each p section (Err fault.cause) at failed stuck in
        record { cluster = c; lock_is = lock; sizes = sizes; section = section; section_is = at; last = up.0; gives_up = up.1 }

-- a report of processors that have all walked is one of the run, and no other fault is that of one that is stuck
pub cluster_run_reported : (width : ℕ → ℕ) (s : Plan) (tries : ℕ) (r : Result Report RunFault) → IfOk r (IsClusterReport width s)
    → IfErr r (λ fault. fault.cause ≢ Stuck) → IsClusterRun width s tries r
cluster_run_reported width s tries (Ok report) is other = is
cluster_run_reported width s tries (Err fault) is other = λ stuck. absurd (other stuck)
