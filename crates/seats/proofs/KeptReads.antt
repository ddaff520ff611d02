-- What each tenure of a lock loads from.
use Rattle.std.proofs.Common.{ℕ, zero, suc, ◌≡◌, ◌≤◌, inl, inr, Some, List, ◌++◌, ◌∷◌, [], get_or, length, take, slice_get, le_refl, sym, subst, arith}
use Rattle.std.proofs.lemmas.Bool.{cases_Bool, cases_eq}
use Rattle.std.proofs.lemmas.List.{take-append-le}
use Rattle.std.proofs.lemmas.Option.{none-some, slice_get-get_or}
use Rattle.std.proofs.Math.Seq.{take-append_seam, take-length}
use Rattle.base.proofs.SlicesAndCounts.{slice_push_cases, slice_take-suc_at}
use Rattle.journal.specs.declared.event.Event.{Event}
use Rattle.journal.specs.declared.event.Kind.{Kind}
use Rattle.journal.specs.declared.event.Kind.TheVariants.{Arrive, Release}
use Rattle.journal.specs.DidEvent.{event}
use Rattle.journal.specs.Events.{events_of}
use Rattle.journal.specs.Sizes.{Sizes}
use Rattle.seats.specs.Deeds.{deeds, is_deed}
use Rattle.seats.specs.PhaseGuards.{PhaseGuards}
use Rattle.seats.specs.Tenures.{HasTenureReadFact, KeptFact, TenuresReadLaw, ReadsKept, tenure_after}
use Rattle.seats.proofs.KeptFacts.{HasKeptFact, IsKeptFactSoFar, kept_fact_fetched_deeds, kept_fact_has_lock, kept_fact_through, kept_fact_open_tenure, kept_fact_others_deeds, kept_fact_own_deeds}

-- one deed more
kept_reads_push : {f : KeptFact} (ks : List Kind) (k : Kind) → ReadsKept f ks
    → (k ≡ Release f.lock → HasTenureReadFact f (tenure_after f.words f.lock ks)) → ReadsKept f (ks ++ k ∷ [])
kept_reads_push {f} ks k was new i at = elim (slice_push_cases ks k i (Release f.lock) at) [
  | inl old ↦ subst (λ es. HasTenureReadFact f (tenure_after f.words f.lock es))
      (sym (take-append-le i ks (k ∷ []) (let less = old.0 in omega arith))) (was i old.1)
  | inr last ↦ subst (λ n. HasTenureReadFact f (tenure_after f.words f.lock (take n (ks ++ k ∷ [])))) (sym last.0)
      (subst (λ es. HasTenureReadFact f (tenure_after f.words f.lock es)) (sym (take-append_seam ks (k ∷ []))) (new last.1))
]

-- what the open tenure loaded so far
kept_reads_open : {f : KeptFact} {memory : List ℕ} {j : List Event} (p : ℕ) → IsKeptFactSoFar f memory j
    → HasTenureReadFact f (kept_fact_open_tenure f.words f.lock j p)
kept_reads_open {f} {j = j} p was = elim (cases_Bool (kept_fact_has_lock f.lock j p)) [
  | inl has ↦ subst (HasTenureReadFact f) (sym (was.holder p has))
      (record { memory = was.released; before = was.before; held = was.kept; answers = was.answers })
  | inr none ↦ subst (HasTenureReadFact f) (sym (was.others p none))
      (record { memory = was.released; before = was.before; held = was.kept; answers = tt })
]

-- one event more
kept_reads_next : {f : KeptFact} {memory : List ℕ} (j : List Event) (p q : ℕ) (k : Kind) → IsKeptFactSoFar f memory j
    → ReadsKept f (deeds (events_of j q)) → ReadsKept f (deeds (events_of (j ++ event p k ∷ []) q))
kept_reads_next {f} j p q k kept was = elim (cases_eq q p) [
  | inl same ↦ elim (cases_Bool (is_deed k)) [
    | inl deed ↦ subst (λ r. ReadsKept f (deeds (events_of (j ++ event p k ∷ []) r))) (sym same)
        (subst (ReadsKept f) (sym (kept_fact_own_deeds j p k deed))
        (kept_reads_push (deeds (events_of j p)) k (subst (λ r. ReadsKept f (deeds (events_of j r))) same was) (λ is. kept_reads_open p kept)))
    | inr fetch ↦ subst (λ r. ReadsKept f (deeds (events_of (j ++ event p k ∷ []) r))) (sym same)
        (subst (ReadsKept f) (sym (kept_fact_fetched_deeds j p k fetch)) (subst (λ r. ReadsKept f (deeds (events_of j r))) same was))
  ]
  | inr apart ↦ subst (ReadsKept f) (sym (kept_fact_others_deeds j p q k apart)) was
]

kept_reads_through : {s : Sizes} {g : PhaseGuards} {memory : List ℕ} {h : List Event} {f : KeptFact} → HasKeptFact s g memory h f
    → (q n : ℕ) → n ≤ length h → ReadsKept f (deeds (events_of (take n h) q))
kept_reads_through x q zero le = λ i at. absurd (none-some _ at)
kept_reads_through {h = h} {f = f} x q (suc n) le =
    let e = get_or h n (event 0 Arrive) in
    let at : slice_get h n ≡ Some e = slice_get-get_or h n (event 0 Arrive) (omega arith) in
    subst (λ j. ReadsKept f (deeds (events_of j q))) (sym (slice_take-suc_at h n e at))
    (kept_reads_next (take n h) e.processor q e.kind (kept_fact_through x n (omega arith)) (kept_reads_through x q n (omega arith)))

pub kept_reads_law : (f : KeptFact) → TenuresReadLaw f
kept_reads_law f s g memory h well keeps replays under each p =
    subst (λ j. ReadsKept f (deeds (events_of j p))) (take-length h)
    (kept_reads_through (record { well = well; keeps = keeps; replays = replays; under = under; each = λ q less. (each q less).each }) p
    (length h) (le_refl (length h)))
