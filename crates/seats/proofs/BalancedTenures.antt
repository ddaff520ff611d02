-- Tenures that leave the balance of words under a lock.
use Rattle.std.proofs.Common.{ℕ, ◌≡◌, ◌+◌, ◌%◌, ◌^◌, inl, inr, true, false, Some, List, [], ◌∷◌, ◌++◌, get_or, slice_get, slice_set, refl, sym, ap, subst, ◌∙◌, sum_by, arith}
use Rattle.std.specs.Prelude.{◌==◌, ◌||◌}
use Rattle.std.proofs.lemmas.Bool.{cases_Bool, cases_eq, eq-eqb, eqb-true, ne_eqb}
use Rattle.std.proofs.lemmas.List.{get_or-set_other}
use Rattle.std.proofs.lemmas.List.Sums.{sum_by-cons}
use Rattle.std.proofs.lemmas.Option.{get_or_from_slice_get, none-some, slice_get_within}
use Rattle.base.specs.LastWrite.{written, wrote}
use Rattle.base.proofs.SliceSets.{slice_get-set_other, slice_get-set_same}
use Rattle.journal.specs.declared.event.Kind.{Kind}
use Rattle.journal.specs.declared.event.Kind.TheVariants.{Load, Store, Release}
use Rattle.journal.specs.ReplayMemory.{AnswersReplayMemory, replay_memory_write}
use Rattle.cluster.specs.Copies.Local.{Local}
use Rattle.seats.specs.Acting.{HasActed}
use Rattle.seats.specs.BalanceFacts.{BalanceFactLaw, KeepsBalanceFact, balance_fact_adds_two, balance_fact, is_balance_fact_word, sum_at}
use Rattle.seats.specs.Sitting.{seat_deeds}
use Rattle.seats.specs.Tenures.{TenureAnswersFrom, IsBetweenTenures, are_tenure_accesses, tenure_of_lock}
use Rattle.seats.specs.WordTallies.{AddsUpTo, WordTally, word_tally_adding, new_word_tally, word_tally_on, word_tally_store, word_tally_then}
use Rattle.seats.proofs.SeatActing.{seat_acted_added}
use Rattle.seats.proofs.KeptByPrograms.{between_tenure}
use Rattle.seats.proofs.AddedTallies.{added_tally_both, added_tally_by, added_tally_tenure, added_tally_sighted_before, added_tally_store_known}
use Rattle.seats.proofs.TalliedHistories.{tallied_history_store_takes}

-- a word, and what is known of it
abbrev pub KnowsBalancedTenureWord : ℕ → List ℕ → WordTally → Type 0
KnowsBalancedTenureWord a memory t = (w : ℕ) → t.known ≡ Some w → slice_get memory a ≡ Some w

-- what a thing done makes of a word: it is known rightly still, and grew by what was put and not taken
record IsBalancedTenureStep (a : ℕ) (memory : List ℕ) (t : WordTally) (next : List ℕ) (u : WordTally) : Type 0 where
  pub knows : KnowsBalancedTenureWord a next u
  pub change : get_or next a 0 + (u.taken + t.put) ≡ get_or memory a 0 + (t.taken + u.put)

balanced_tenure_same_step : (a : ℕ) (memory : List ℕ) (t : WordTally) → KnowsBalancedTenureWord a memory t → IsBalancedTenureStep a memory t memory t
balanced_tenure_same_step a memory t knows = record { knows = knows; change = refl }

balanced_tenure_step : (l a : ℕ) (memory : List ℕ) (t : WordTally) (k : Kind) → KnowsBalancedTenureWord a memory t → AnswersReplayMemory memory k
    → (word_tally_then l a t k).blind ≡ false → IsBalancedTenureStep a memory t (wrote memory (replay_memory_write k)) (word_tally_then l a t k)
balanced_tenure_step l a memory t (Load b v) knows answer sighted = elim (cases_Bool (b == a)) [
  | inl same ↦ rw same (record {
    knows = λ w is. subst (λ c. slice_get memory c ≡ Some v) (eqb-true b a same) answer ∙ is;
    change = refl;
  })
  | inr other ↦ rw other (balanced_tenure_same_step a memory t knows)
]
balanced_tenure_step l a memory t (Store b v) knows answer sighted = elim (cases_eq b a) [
  | inl same ↦ subst (λ c. (word_tally_then l a t (Store c v)).blind ≡ false
      → IsBalancedTenureStep a memory t (wrote memory (replay_memory_write (Store c v))) (word_tally_then l a t (Store c v))) (sym same) here sighted
  | inr apart ↦ rw (ne_eqb b a apart) (record {
    knows = λ w is. slice_get-set_other memory b a v (λ e. apart (sym e)) ∙ knows w is;
    change = ap (λ n. n + (t.taken + t.put)) (get_or-set_other memory b a v 0 (λ e. apart (sym e)));
  })
]
  where
    here : (word_tally_then l a t (Store a v)).blind ≡ false
        → IsBalancedTenureStep a memory t (wrote memory (replay_memory_write (Store a v))) (word_tally_then l a t (Store a v))
    here known =
        let stored : word_tally_then l a t (Store a v) ≡ word_tally_store v t t.known = rw (eq-eqb a a refl) refl in
        let taken = tallied_history_store_takes v t t.known (ap (λ (u : WordTally). u.blind) (sym stored) ∙ known) in
        let there = knows taken.0 taken.1.0 in
        let after = slice_get-set_same memory a v (slice_get_within memory a taken.0 there) in
        let was = get_or_from_slice_get memory a taken.0 0 there in
        let is = get_or_from_slice_get (slice_set memory a v) a v 0 after in
        let put = taken.1.1 in
        let gone = taken.1.2 in
        subst (IsBalancedTenureStep a memory t (slice_set memory a v)) (sym stored) (record {
          knows = λ w e. after ∙ sym (added_tally_store_known v t t.known) ∙ e;
          change = omega arith;
        })
balanced_tenure_step l a memory t (Release m) knows answer sighted = elim (cases_Bool (m == l)) [
  | inl own ↦ rw own (record { knows = λ w is. absurd (none-some w is); change = refl })
  | inr apart ↦ rw apart (balanced_tenure_same_step a memory t knows)
]
balanced_tenure_step l a memory t k knows answer sighted = balanced_tenure_same_step a memory t knows

-- and all that is done
balanced_tenure_word_after : (l a : ℕ) (memory : List ℕ) (t : WordTally) (ks : List Kind) → KnowsBalancedTenureWord a memory t → TenureAnswersFrom memory ks
    → (word_tally_on l a t ks).blind ≡ false
    → get_or (written replay_memory_write memory ks) a 0 + ((word_tally_on l a t ks).taken + t.put)
    ≡ get_or memory a 0 + (t.taken + (word_tally_on l a t ks).put)
balanced_tenure_word_after l a memory t [] knows answers sighted = refl
balanced_tenure_word_after l a memory t (k ∷ ks) knows answers sighted =
    let u = word_tally_then l a t k in
    let step = balanced_tenure_step l a memory t k knows answers.0 (added_tally_sighted_before l a u ks sighted) in
    let rest = balanced_tenure_word_after l a (wrote memory (replay_memory_write k)) u ks step.knows answers.1 sighted in
    let change = step.change in
    omega arith

-- what a tenure adds to a word
balanced_tenure_word_added : (l a n : ℕ) (memory : List ℕ) (ks : List Kind) → TenureAnswersFrom memory ks → AddsUpTo l a n ks
    → get_or (written replay_memory_write memory ks) a 0 % 2 ^ 32 ≡ (get_or memory a 0 + n) % 2 ^ 32
balanced_tenure_word_added l a n memory ks answers added =
    let all = balanced_tenure_word_after l a memory new_word_tally ks (λ w is. absurd (none-some w is)) answers added.sighted in
    let sum = added.sum in
    omega arith

-- and to several
balanced_tenure_sum_added : (l : ℕ) (amounts : ℕ → ℕ) (memory : List ℕ) (ks : List Kind) → TenureAnswersFrom memory ks
    → ((a : ℕ) → AddsUpTo l a (amounts a) ks) → (addresses : List ℕ)
    → sum_at (written replay_memory_write memory ks) addresses % 2 ^ 32 ≡ (sum_at memory addresses + sum_by amounts addresses) % 2 ^ 32
balanced_tenure_sum_added l amounts memory ks answers added [] = refl
balanced_tenure_sum_added l amounts memory ks answers added (a ∷ rest) =
    let others = balanced_tenure_sum_added l amounts memory ks answers added rest in
    let here = balanced_tenure_word_added l a (amounts a) memory ks answers (added a) in
    let one = sum_by-cons (λ b. get_or (written replay_memory_write memory ks) b 0) a rest in
    let two = sum_by-cons (λ b. get_or memory b 0) a rest in
    let three = sum_by-cons amounts a rest in
    omega arith

-- what adds as much to the one side as to the other leaves the balance
pub balanced_tenure_law : BalanceFactLaw
balanced_tenure_law l left right amounts ks added even memory before held answers =
    let one = balanced_tenure_sum_added l amounts memory ks answers added left in
    let two = balanced_tenure_sum_added l amounts memory ks answers added right in
    omega arith

-- so does a whole tenure
pub balanced_tenure_whole : {m n : Local} {l : ℕ} (left right : List ℕ) (amounts : ℕ → ℕ) (ks : List Kind) → HasActed m n (tenure_of_lock l ks)
    → ((a : ℕ) → AddsUpTo l a (amounts a) ks) → sum_by amounts left % 2 ^ 32 ≡ sum_by amounts right % 2 ^ 32
    → are_tenure_accesses (λ a. is_balance_fact_word left a || is_balance_fact_word right a) ks ≡ true
    → IsBetweenTenures (balance_fact l left right) (seat_deeds m) → IsBetweenTenures (balance_fact l left right) (seat_deeds n)
balanced_tenure_whole {m} {n} {l} left right amounts ks acted added even among was =
    subst (IsBetweenTenures (balance_fact l left right)) (sym acted.deeds_are)
    (between_tenure (seat_deeds m) ks was among (balanced_tenure_law l left right amounts ks added even))

-- what is added to two words
balanced_tenure_adds_two : (l c a v x b w y : ℕ) → AddsUpTo l c (balance_fact_adds_two a x b y c) (word_tally_adding a v x ++ word_tally_adding b w y)
balanced_tenure_adds_two l c a v x b w y = added_tally_both (word_tally_adding a v x) (word_tally_adding b w y) (added_tally_by l c a v x) (added_tally_by l c b w y)

-- to one of them in a tenure, and to all in the end
pub balanced_tenure_adds_two_in_all : {m n : Local} {l k : ℕ} (a v x b w y c : ℕ) (lock : ℕ) → HasActed m n (tenure_of_lock lock (word_tally_adding a v x ++ word_tally_adding b w y))
    → AddsUpTo l c k (seat_deeds m) → AddsUpTo l c (k + balance_fact_adds_two a x b y c) (seat_deeds n)
balanced_tenure_adds_two_in_all {l = l} a v x b w y c lock acted was =
    seat_acted_added (tenure_of_lock lock (word_tally_adding a v x ++ word_tally_adding b w y)) acted
    (added_tally_tenure lock (word_tally_adding a v x ++ word_tally_adding b w y) (balanced_tenure_adds_two l c a v x b w y)) was

-- the balance is left by what keeps it
pub balanced_tenure_of_two : {m n : Local} {left right : List ℕ} (a v x b w y : ℕ) (lock : ℕ)
    → HasActed m n (tenure_of_lock lock (word_tally_adding a v x ++ word_tally_adding b w y)) → KeepsBalanceFact left right a x b y
    → IsBetweenTenures (balance_fact lock left right) (seat_deeds m) → IsBetweenTenures (balance_fact lock left right) (seat_deeds n)
balanced_tenure_of_two {left = left} {right = right} a v x b w y lock acted keeps was =
    balanced_tenure_whole left right (balance_fact_adds_two a x b y) (word_tally_adding a v x ++ word_tally_adding b w y) acted (λ c. balanced_tenure_adds_two lock c a v x b w y) keeps.even
    (rw (keeps.first, keeps.second) refl) was
