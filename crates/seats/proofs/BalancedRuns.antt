-- Runs by a layout that leaves no word open to all, whose locks keep facts: what a client says of one.
use Rattle.std.proofs.Common.{ℕ, ◌≡◌, ◌<◌, ◌≤◌, ◌%◌, ◌^◌, inl, inr, Bool, true, false, Some, List, [], ◌∷◌, get_or, replicate, slice_get, refl, sym, ap, subst, ◌∙◌, arith}
use Rattle.std.specs.Prelude.{◌==◌, ◌&&◌, ◌||◌, nat_le, nat_lt}
use Rattle.std.proofs.lemmas.Bool.Decides.{nat_tests}
use Rattle.std.proofs.lemmas.Bool.{cases_Bool, eq-eqb, eqb-true}
use Rattle.std.specs.Option.{unwrap_or}
use Rattle.std.proofs.lemmas.Option.{unwrap_or-slice_get}
use Rattle.std.proofs.lemmas.List.Sums.{sum_by-cons}
use Rattle.base.proofs.SliceSets.{index-zeros}
use Rattle.journal.specs.declared.event.Kind.{Kind}
use Rattle.journal.specs.Events.{events_of}
use Rattle.journal.specs.Log.{Log}
use Rattle.journal.specs.Sizes.{Sizes, addresses}
use Rattle.seats.specs.declared.guard.Guard.TheVariants.{Of, Under}
use Rattle.seats.specs.BalanceFacts.{balance_fact, is_balance_fact_word, sum_at}
use Rattle.seats.specs.Deeds.{deeds}
use Rattle.seats.specs.GuardedRuns.{IsGuardedRun}
use Rattle.seats.specs.PhaseGuards.{PhaseGuards}
use Rattle.seats.specs.Tables.{GuardTables, IsPutInTable, guards_of, table_range_has}
use Rattle.seats.specs.Tenures.{IsFactUnderTenures, KeptFact, PreservesByTenures, ReadsKept, tenure_accesses_among}
use Rattle.seats.specs.WordTallies.{AddsUpTo, word_tally_total}
use Rattle.seats.proofs.GuardedRuns.{added_in_all, guarded_run_answered, under_new}
use Rattle.seats.proofs.KeptByPrograms.{kept_by_program_both, kept_by_program_run}
use Rattle.seats.proofs.KeptReads.{kept_reads_law}

module _ {X : Type 0} {g : GuardTables} {did : ℕ → List Kind → X → Type 0} {s : Sizes} {answers : List X} {memory : List ℕ} {j : Log}
    (f : KeptFact) (run : IsGuardedRun g did s answers memory j) (under : IsFactUnderTenures (guards_of g) (replicate (addresses s) 0) f)
    (says : (p : ℕ) (ks : List Kind) (x : X) → did p ks x → PreservesByTenures f ks) where
  -- the fact holds of the memory at the end
  pub run_keeps : f.holds memory (tenure_accesses_among f.words (deeds run.ran.history))
  run_keeps = subst (λ m. f.holds m (tenure_accesses_among f.words (deeds run.ran.history))) (sym run.memory_is)
      (kept_by_program_run f run.ran run.closed under says)

  -- each tenure of each processor loaded from a memory of which it held
  pub run_reads_kept : (p : ℕ) → ReadsKept f (deeds (events_of run.ran.history p))
  run_reads_kept p =
      kept_reads_law f s (guards_of g) (replicate (addresses s) 0) run.ran.history run.ran.faithful.well_formed run.ran.kept run.flat under
      (λ q less. let answer = guarded_run_answered run.ran q less in says q (deeds (events_of run.ran.history q)) answer.0 answer.1.1) p

-- these words are under the lock in each phase
abbrev pub AreBalancedRunWordsUnder : PhaseGuards → ℕ → List ℕ → Type 0
AreBalancedRunWordsUnder g l [] = Unit {0}
AreBalancedRunWordsUnder g l (a ∷ others) = ((n : ℕ) → g n a ≡ Some (Under l)) × AreBalancedRunWordsUnder g l others

-- addresses from one up to before another
abbrev pub balanced_run_words_between : ℕ → ℕ → List ℕ → Bool
balanced_run_words_between from to [] = true
balanced_run_words_between from to (a ∷ others) = table_range_has from to a && balanced_run_words_between from to others

-- in a layout of one table, in which they were put under it
pub are_under_new : {old g : GuardTables} {count from to l : ℕ} → old ≡ record { tables = replicate 1 (replicate count (Of 0)); round = 0 }
    → IsPutInTable old 0 from to (Under l) g → to ≤ count → (words : List ℕ) → balanced_run_words_between from to words ≡ true → AreBalancedRunWordsUnder (guards_of g) l words
are_under_new is put within [] all = tt
are_under_new {from = from} {to = to} is put within (a ∷ others) all =
    let parts = kept_by_program_both (table_range_has from to a) (balanced_run_words_between from to others) all in
    let last = kept_by_program_both (nat_le from a) (nat_lt a to) parts.0 in
    let less : a < to = grind (arith, nat_tests) in
    (under_new is put a parts.0 (omega arith), are_under_new is put within others parts.1)

balanced_run_word_under : (g : PhaseGuards) (l : ℕ) (words : List ℕ) → AreBalancedRunWordsUnder g l words → (n a : ℕ) → is_balance_fact_word words a ≡ true → g n a ≡ Some (Under l)
balanced_run_word_under g l [] all n a mine = absurd (cc)
balanced_run_word_under g l (b ∷ others) all n a mine = elim (cases_Bool (b == a)) [
  | inl same ↦ subst (λ c. g n c ≡ Some (Under l)) (eqb-true b a same) (all.0 n)
  | inr apart ↦ balanced_run_word_under g l others all.1 n a (rw apart at mine)
]

balanced_run_either : (a b : Bool) → (a || b) ≡ true → (P : Type 0) → (a ≡ true → P) → (b ≡ true → P) → P
balanced_run_either true b e P one other = one refl
balanced_run_either false b e P one other = other e

-- the same words, added up
balanced_run_same_sum : (before after : List ℕ) (words : List ℕ) → ((a : ℕ) → is_balance_fact_word words a ≡ true → get_or before a 0 ≡ get_or after a 0)
    → sum_at before words ≡ sum_at after words
balanced_run_same_sum before after [] same = refl
balanced_run_same_sum before after (a ∷ others) same =
    let rest = balanced_run_same_sum before after others (λ b mine. same b (more b mine)) in
    let here = same a (rw (eq-eqb a a refl) refl) in
    let one = sum_by-cons (λ b. get_or before b 0) a others in
    let two = sum_by-cons (λ b. get_or after b 0) a others in
    omega arith
  where
    more : (b : ℕ) → is_balance_fact_word others b ≡ true → is_balance_fact_word (a ∷ others) b ≡ true
    more b mine = elim (cases_Bool (a == b)) [ inl same ↦ rw same refl | inr apart ↦ rw apart mine ]

balanced_run_sum_of_zeros : (n : ℕ) (words : List ℕ) → sum_at (replicate n 0) words ≡ 0
balanced_run_sum_of_zeros n [] = refl
balanced_run_sum_of_zeros n (a ∷ others) =
    let rest = balanced_run_sum_of_zeros n others in
    let here = index-zeros n a in
    let one = sum_by-cons (λ b. get_or (replicate n 0) b 0) a others in
    omega arith

balanced_run_same_read : (before after : List ℕ) (a : ℕ) → slice_get before a ≡ slice_get after a → get_or before a 0 ≡ get_or after a 0
balanced_run_same_read before after a is = sym (unwrap_or-slice_get before a 0) ∙ ap (λ o. unwrap_or o 0) is ∙ unwrap_or-slice_get after a 0

-- a balance is kept under its lock, if its words are under it
pub balance_under : (g : PhaseGuards) (n l : ℕ) (left right : List ℕ) → AreBalancedRunWordsUnder g l left → AreBalancedRunWordsUnder g l right
    → IsFactUnderTenures g (replicate n 0) (balance_fact l left right)
balance_under g n l left right lefts rights = record {
  under = λ m a mine. balanced_run_either (is_balance_fact_word left a) (is_balance_fact_word right a) mine (g m a ≡ Some (Under l))
      (balanced_run_word_under g l left lefts m a) (balanced_run_word_under g l right rights m a);
  own = λ before after ks same held.
      let one = balanced_run_same_sum before after left (λ a mine. balanced_run_same_read before after a (same a (rw mine refl))) in
      let two = balanced_run_same_sum before after right (λ a mine. balanced_run_same_read before after a (same a (on_right (is_balance_fact_word left a) (is_balance_fact_word right a) mine))) in
      omega arith;
  first = let one = balanced_run_sum_of_zeros n left in let two = balanced_run_sum_of_zeros n right in omega arith;
}
  where
    on_right : (a b : Bool) → b ≡ true → (a || b) ≡ true
    on_right true b e = refl
    on_right false b e = e

-- words that come to as much as another come to what all have added to that
pub balance_total : {X : Type 0} {g : GuardTables} {did : ℕ → List Kind → X → Type 0} {s : Sizes} {answers : List X} {memory : List ℕ}
    {j : Log} {l : ℕ} (left : List ℕ) (a : ℕ) (run : IsGuardedRun g did s answers memory j) → a < addresses s
    → AreBalancedRunWordsUnder (guards_of g) l left × AreBalancedRunWordsUnder (guards_of g) l (a ∷ []) → (amounts : ℕ → ℕ)
    → ((p : ℕ) (ks : List Kind) (x : X) → did p ks x → PreservesByTenures (balance_fact l left (a ∷ [])) ks × AddsUpTo l a (amounts p) ks)
    → sum_at memory left % 2 ^ 32 ≡ word_tally_total amounts s.processors % 2 ^ 32
balance_total {g = g} {s = s} {memory = memory} {l = l} left a run within under amounts says =
    let even = run_keeps (balance_fact l left (a ∷ [])) run (balance_under (guards_of g) (addresses s) l left (a ∷ []) under.0 under.1)
    (λ p ks x did. (says p ks x did).0) in
    let one = sum_by-cons (λ b. get_or memory b 0) a [] in
    let added = added_in_all l a run within under.1.0 amounts (λ p ks x at did. (says p ks x did).1) in
    omega arith

-- a run whose words are under a lock in a layout of one table, and whose lock keeps some of them as great as one of them: they
-- come to what all have added to that one, and each tenure of each processor loaded from a memory of which this held
pub balanced_run : {X : Type 0} {old g : GuardTables} {did : ℕ → List Kind → X → Type 0} {s : Sizes} {answers : List X} {memory : List ℕ}
    {j : Log} {count from to l : ℕ} (left : List ℕ) (a : ℕ) (run : IsGuardedRun g did s answers memory j)
    → old ≡ record { tables = replicate 1 (replicate count (Of 0)); round = 0 } → IsPutInTable old 0 from to (Under l) g → to ≤ count
    → (balanced_run_words_between from to left ≡ true) × (balanced_run_words_between from to (a ∷ []) ≡ true) → a < addresses s → (amounts : ℕ → ℕ)
    → ((p : ℕ) (ks : List Kind) (x : X) → did p ks x → PreservesByTenures (balance_fact l left (a ∷ [])) ks × AddsUpTo l a (amounts p) ks)
    → (sum_at memory left % 2 ^ 32 ≡ word_tally_total amounts s.processors % 2 ^ 32)
    × ((p : ℕ) → ReadsKept (balance_fact l left (a ∷ [])) (deeds (events_of run.ran.history p)))
balanced_run {g = g} {s = s} {l = l} left a run is put within between less amounts says =
    let lefts = are_under_new is put within left between.0 in
    let right = are_under_new is put within (a ∷ []) between.1 in
    let under = balance_under (guards_of g) (addresses s) l left (a ∷ []) lefts right in (
      balance_total left a run less (lefts, right) amounts says,
      run_reads_kept (balance_fact l left (a ∷ [])) run under (λ p ks x did. (says p ks x did).0),
    )
