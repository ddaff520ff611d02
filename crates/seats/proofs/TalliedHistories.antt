-- What is added to a word under a lock, as a history goes on.
use Rattle.std.proofs.Common.{ℕ, zero, suc, ◌≡◌, ◌≢◌, ◌≤◌, ◌<◌, ◌+◌, ◌%◌, ◌^◌, inl, inr, true, false, Option, Some, None, List, [], ◌∷◌, ◌++◌, drop, get_or, length, take, slice_get, le_refl, refl, sym, ap, subst, ◌∙◌, arith}
use Rattle.std.specs.Prelude.{◌==◌}
use Rattle.std.proofs.lemmas.Bool.{cases_Bool, cases_eq, cases_lt, eq-eqb, eqb-true, ne_eqb}
use Rattle.std.proofs.lemmas.List.{take-append-drop}
use Rattle.std.proofs.lemmas.Option.{none-some, same_Some, slice_get-get_or, slice_get_within}
use Rattle.std.proofs.Math.Seq.{take-length}
use Rattle.base.specs.LastWrite.{wrote}
use Rattle.base.proofs.SliceSets.{slice_get-set_other, slice_get-set_same}
use Rattle.base.proofs.SlicesAndCounts.{slice_take-suc_at}
use Rattle.journal.specs.declared.event.Event.{Event}
use Rattle.journal.specs.declared.event.Kind.{Kind}
use Rattle.journal.specs.declared.event.Kind.TheVariants.{Load, Store, Fetch, Acquire, Release, Arrive}
use Rattle.journal.specs.DidEvent.{event}
use Rattle.journal.specs.Events.{event_address, event_count, events_of, event_departs, event_stores}
use Rattle.journal.specs.ReplayMemory.{Replays, replay_memory_write, memory_after}
use Rattle.journal.specs.Sizes.{Sizes}
use Rattle.journal.specs.WellFormed.{Does, WellFormed}
use Rattle.journal.proofs.Journals.HoldingReleases.{holding_release_alone}
use Rattle.journal.proofs.Journals.WellFormedStays.{well_formed_stays_take}
use Rattle.seats.specs.declared.guard.Guard.TheVariants.{Under}
use Rattle.seats.specs.Deeds.{deeds}
use Rattle.seats.specs.PhaseGuards.{PhaseGuards, phase_guard_holds_after, phase_guard_lets_access}
use Rattle.seats.specs.GuardLaws.{AllKeepToPhaseGuards}
use Rattle.seats.specs.WordTallies.{WordTallyLaw, WordTally, new_word_tally, word_tally_of, word_tally_store, word_tally_then, word_tally_total}
use Rattle.seats.proofs.Deeds.{deeds_of_processor-append}
use Rattle.seats.proofs.GuardedDeeds.{guarded_deed_allowed_at}
use Rattle.seats.proofs.DeedHistories.{deed_history_holds}
use Rattle.seats.proofs.ProgramThreads.{program_threads_nobody_past}
use Rattle.seats.proofs.KeptFacts.{KeptFactHasOneHolder, kept_fact_fetched_deeds, kept_fact_has_lock, kept_fact_memory_push, kept_fact_not_both, kept_fact_others_deeds, kept_fact_others_lock, kept_fact_own_deeds, kept_fact_own_lock, kept_fact_replayed}
use Rattle.seats.proofs.AddedTallies.{added_tally_sighted_before, word_tally_on-append, added_tally_store_known}

-- of the word at a, what q's tally is after this
abbrev pub tallied_history_of : ℕ → ℕ → List Event → ℕ → WordTally
tallied_history_of l a j q = word_tally_of l a (deeds (events_of j q))

tallied_history_own : (l a : ℕ) (j : List Event) (p : ℕ) (k : Kind)
    → tallied_history_of l a (j ++ event p k ∷ []) p ≡ word_tally_then l a (tallied_history_of l a j p) k
tallied_history_own l a j p (Fetch w n r d) = ap (word_tally_of l a) (kept_fact_fetched_deeds j p (Fetch w n r d) refl)
tallied_history_own l a j p k =
    ap (word_tally_of l a) (kept_fact_own_deeds j p k refl) ∙ word_tally_on-append l a new_word_tally (deeds (events_of j p)) (k ∷ [])

tallied_history_others : (l a : ℕ) (j : List Event) (p q : ℕ) (k : Kind) → q ≢ p
    → tallied_history_of l a (j ++ event p k ∷ []) q ≡ tallied_history_of l a j q
tallied_history_others l a j p q k apart = ap (word_tally_of l a) (kept_fact_others_deeds j p q k apart)

-- the same numbers, added up
tallied_history_same_total : (a b : ℕ → ℕ) (n : ℕ) → ((p : ℕ) → p < n → a p ≡ b p) → word_tally_total a n ≡ word_tally_total b n
tallied_history_same_total a b zero same = refl
tallied_history_same_total a b (suc n) same =
    let rest = tallied_history_same_total a b n (λ p less. same p (omega arith)) in let last = same n (omega arith) in cc

-- totals that differ in one number
tallied_history_total_but_one : (f g : ℕ → ℕ) (p n : ℕ) → p < n → ((q : ℕ) → q ≢ p → f q ≡ g q) → word_tally_total f n + g p ≡ word_tally_total g n + f p
tallied_history_total_but_one f g p zero less same = absurd (omega arith)
tallied_history_total_but_one f g p (suc n) less same = elim (cases_eq n p) [
  | inl is ↦ (let rest = tallied_history_same_total f g n (λ q lt. same q (λ e. omega arith)) in let one = ap f is in let two = ap g is in omega arith)
  | inr apart ↦ (let rest = tallied_history_total_but_one f g p n (omega arith) same in let here = same n apart in omega arith)
]

-- modulo 2^32
tallied_history_total_modulo : (t b u : ℕ → ℕ) (n : ℕ) → ((p : ℕ) → p < n → (t p + b p) % 2 ^ 32 ≡ u p % 2 ^ 32)
    → (word_tally_total t n + word_tally_total b n) % 2 ^ 32 ≡ word_tally_total u n % 2 ^ 32
tallied_history_total_modulo t b u zero each = refl
tallied_history_total_modulo t b u (suc n) each =
    let rest = tallied_history_total_modulo t b u n (λ p less. each p (omega arith)) in let here = each n (omega arith) in omega arith

-- after a history: the word; whoever knows it holds the lock, and knows it rightly; and what all put there and took away
record IsTalliedHistory (l a n start : ℕ) (memory : List ℕ) (j : List Event) : Type 0 where
  pub value : ℕ
  pub at : slice_get (memory_after memory j) a ≡ Some value
  pub known : (q w : ℕ) → (tallied_history_of l a j q).known ≡ Some w → (kept_fact_has_lock l j q ≡ true) × (w ≡ value)
  pub sum : value + word_tally_total (λ q. (tallied_history_of l a j q).taken) n ≡ start + word_tally_total (λ q. (tallied_history_of l a j q).put) n

-- what p does next, which leaves this word
record IsTalliedHistoryStep (l a value next : ℕ) (memory : List ℕ) (j : List Event) (p : ℕ) (k : Kind) : Type 0 where
  pub at : slice_get (memory_after memory (j ++ event p k ∷ [])) a ≡ Some next
  pub own : (w : ℕ) → (word_tally_then l a (tallied_history_of l a j p) k).known ≡ Some w
      → (kept_fact_has_lock l (j ++ event p k ∷ []) p ≡ true) × (w ≡ next)
  pub others : (q w : ℕ) → q ≢ p → (tallied_history_of l a j q).known ≡ Some w → w ≡ next
  pub change : next + ((word_tally_then l a (tallied_history_of l a j p) k).taken + (tallied_history_of l a j p).put)
      ≡ value + ((tallied_history_of l a j p).taken + (word_tally_then l a (tallied_history_of l a j p) k).put)

tallied_history_next : {l a n start next : ℕ} {memory : List ℕ} (j : List Event) (p : ℕ) (k : Kind) (was : IsTalliedHistory l a n start memory j)
    → p < n → IsTalliedHistoryStep l a was.value next memory j p k → IsTalliedHistory l a n start memory (j ++ event p k ∷ [])
tallied_history_next {l} {a} {n} {start} {next} j p k was less x = record {
  value = next;
  at = x.at;
  known = λ q w is. elim (cases_eq q p) [
    | inl same ↦ subst (λ r. (kept_fact_has_lock l (j ++ event p k ∷ []) r ≡ true) × (w ≡ next)) (sym same)
        (x.own w (ap (λ (t : WordTally). t.known) (sym (tallied_history_own l a j p k))
        ∙ subst (λ r. (tallied_history_of l a (j ++ event p k ∷ []) r).known ≡ Some w) same is))
    | inr apart ↦ (let before : (tallied_history_of l a j q).known ≡ Some w =
        ap (λ (t : WordTally). t.known) (sym (tallied_history_others l a j p q k apart)) ∙ is in
        (kept_fact_others_lock l j p q k apart ∙ (was.known q w before).0, x.others q w apart before))
  ];
  sum =
      let taken = tallied_history_total_but_one (λ q. (tallied_history_of l a (j ++ event p k ∷ []) q).taken) (λ q. (tallied_history_of l a j q).taken) p n less
      (λ q apart. ap (λ (t : WordTally). t.taken) (tallied_history_others l a j p q k apart)) in
      let put = tallied_history_total_but_one (λ q. (tallied_history_of l a (j ++ event p k ∷ []) q).put) (λ q. (tallied_history_of l a j q).put) p n less
      (λ q apart. ap (λ (t : WordTally). t.put) (tallied_history_others l a j p q k apart)) in
      let own_taken = ap (λ (t : WordTally). t.taken) (tallied_history_own l a j p k) in
      let own_put = ap (λ (t : WordTally). t.put) (tallied_history_own l a j p k) in
      let before = was.sum in
      let change = x.change in
      omega arith;
}

-- who holds the lock holds it still, unless it releases it
abbrev pub ReleasesInTalliedHistory : ℕ → Kind → Type 0
ReleasesInTalliedHistory l (Release m) = (m == l) ≡ true
ReleasesInTalliedHistory l k = ⊥

tallied_history_held_still : (l : ℕ) (j : List Event) (p : ℕ) (k : Kind) → ¬ ReleasesInTalliedHistory l k → kept_fact_has_lock l j p ≡ true
    → kept_fact_has_lock l (j ++ event p k ∷ []) p ≡ true
tallied_history_held_still l j p (Fetch w n r d) none has = ap (λ ks. phase_guard_holds_after ks l) (kept_fact_fetched_deeds j p (Fetch w n r d) refl) ∙ has
tallied_history_held_still l j p (Release m) none has = elim (cases_Bool (m == l)) [
  | inl same ↦ absurd (none same)
  | inr other ↦ kept_fact_own_lock l j p (Release m) refl ∙ rw other has
]
tallied_history_held_still l j p (Acquire m) none has = elim (cases_Bool (m == l)) [
  | inl same ↦ kept_fact_own_lock l j p (Acquire m) refl ∙ rw same refl
  | inr other ↦ kept_fact_own_lock l j p (Acquire m) refl ∙ rw other has
]
tallied_history_held_still l j p k none has = kept_fact_own_lock l j p k refl ∙ has

-- what leaves the word, the tally and the lock
tallied_history_kept : {l a n start : ℕ} {memory : List ℕ} (j : List Event) (p : ℕ) (k : Kind) (was : IsTalliedHistory l a n start memory j)
    → ¬ ReleasesInTalliedHistory l k → word_tally_then l a (tallied_history_of l a j p) k ≡ tallied_history_of l a j p
    → slice_get (wrote (memory_after memory j) (replay_memory_write k)) a ≡ slice_get (memory_after memory j) a
    → IsTalliedHistoryStep l a was.value was.value memory j p k
tallied_history_kept {l} {a} {memory = memory} j p k was none stays word = record {
  at = ap (λ m. slice_get m a) (kept_fact_memory_push memory j p k) ∙ word ∙ was.at;
  own = λ w is. (let before = was.known p w (ap (λ (t : WordTally). t.known) (sym stays) ∙ is) in
      (tallied_history_held_still l j p k none before.0, before.1));
  others = λ q w apart is. (was.known q w is).1;
  change = let taken = ap (λ (t : WordTally). t.taken) stays in let put = ap (λ (t : WordTally). t.put) stays in omega arith;
}

-- the lock is released
tallied_history_released : {l a n start : ℕ} {memory : List ℕ} (j : List Event) (p m : ℕ) (was : IsTalliedHistory l a n start memory j)
    → (m == l) ≡ true → IsTalliedHistoryStep l a was.value was.value memory j p (Release m)
tallied_history_released {l} {a} {memory = memory} j p m was same =
    let t = tallied_history_of l a j p in
    let released : word_tally_then l a t (Release m) ≡ record t { known = None } = rw same refl in
    record {
      at = ap (λ x. slice_get x a) (kept_fact_memory_push memory j p (Release m)) ∙ was.at;
      own = λ w is. absurd (none-some w (ap (λ (u : WordTally). u.known) (sym released) ∙ is));
      others = λ q w apart is. (was.known q w is).1;
      change = let taken = ap (λ (u : WordTally). u.taken) released in let put = ap (λ (u : WordTally). u.put) released in omega arith;
    }

-- the word is loaded by a holder
tallied_history_loaded : {l a n start : ℕ} {memory : List ℕ} (j : List Event) (p b v : ℕ) (was : IsTalliedHistory l a n start memory j)
    → (b == a) ≡ true → kept_fact_has_lock l j p ≡ true → slice_get (memory_after memory j) b ≡ Some v
    → IsTalliedHistoryStep l a was.value was.value memory j p (Load b v)
tallied_history_loaded {l} {a} {memory = memory} j p b v was same has answer =
    let t = tallied_history_of l a j p in
    let loaded : word_tally_then l a t (Load b v) ≡ record t { known = Some v } = rw same refl in
    let is : v ≡ was.value = same_Some v was.value (sym (subst (λ c. slice_get (memory_after memory j) c ≡ Some v) (eqb-true b a same) answer) ∙ was.at) in
    record {
      at = ap (λ x. slice_get x a) (kept_fact_memory_push memory j p (Load b v)) ∙ was.at;
      own = λ w e. (
        tallied_history_held_still l j p (Load b v) (λ none. none) has,
        sym (same_Some v w (ap (λ (u : WordTally). u.known) (sym loaded) ∙ e)) ∙ is,
      );
      others = λ q w apart e. (was.known q w e).1;
      change = let taken = ap (λ (u : WordTally). u.taken) loaded in let put = ap (λ (u : WordTally). u.put) loaded in omega arith;
    }

-- what a store takes the place of, if it is known
pub tallied_history_store_takes : (v : ℕ) (t : WordTally) (o : Option ℕ) → (word_tally_store v t o).blind ≡ false
    → (w : ℕ) × ((o ≡ Some w) × ((word_tally_store v t o).put ≡ t.put + v) × ((word_tally_store v t o).taken ≡ t.taken + w))
tallied_history_store_takes v t None sighted = absurd (let e : true ≡ false = sighted in cc)
tallied_history_store_takes v t (Some w) sighted = (w, (refl, refl, refl))

-- the word is stored to by the holder
tallied_history_stored : {l a n start : ℕ} {memory : List ℕ} (j : List Event) (p v : ℕ) (was : IsTalliedHistory l a n start memory j)
    → KeptFactHasOneHolder l j → kept_fact_has_lock l j p ≡ true → (word_tally_store v (tallied_history_of l a j p) (tallied_history_of l a j p).known).blind ≡ false
    → IsTalliedHistoryStep l a was.value v memory j p (Store a v)
tallied_history_stored {l} {a} {memory = memory} j p v was alone has sighted =
    let t = tallied_history_of l a j p in
    let stored : word_tally_then l a t (Store a v) ≡ word_tally_store v t t.known = rw (eq-eqb a a refl) refl in
    let taken = tallied_history_store_takes v t t.known sighted in
    record {
      at = ap (λ x. slice_get x a) (kept_fact_memory_push memory j p (Store a v))
          ∙ slice_get-set_same (memory_after memory j) a v (slice_get_within (memory_after memory j) a was.value was.at);
      own = λ w e. (
        tallied_history_held_still l j p (Store a v) (λ none. none) has,
        sym (same_Some v w (sym (ap (λ (u : WordTally). u.known) stored ∙ added_tally_store_known v t t.known) ∙ e)),
      );
      others = λ q w apart e. absurd (apart (alone q p (was.known q w e).0 has));
      change =
          let put = ap (λ (u : WordTally). u.put) stored in
          let gone = ap (λ (u : WordTally). u.taken) stored in
          let more = taken.1.1 in
          let less = taken.1.2 in
          let right = (was.known p taken.0 taken.1.0).1 in
          omega arith;
    }

-- the premises of the law, with what was known
record IsTalliedHistoryUnder (s : Sizes) (g : PhaseGuards) (memory : List ℕ) (h : List Event) (l a : ℕ) : Type 0 where
  pub well : WellFormed s h
  pub keeps : AllKeepToPhaseGuards g h
  pub replays : Replays memory h
  pub under : (n : ℕ) → g n a ≡ Some (Under l)
  pub sighted : (n q : ℕ) → (tallied_history_of l a (take n h) q).blind ≡ false

module _ {s : Sizes} {g : PhaseGuards} {memory : List ℕ} {h : List Event} {l a start : ℕ} (x : IsTalliedHistoryUnder s g memory h l a) (n p : ℕ)
    (was : IsTalliedHistory l a s.processors start memory (take n h)) where
  tallied_history_alone : KeptFactHasOneHolder l (take n h)
  tallied_history_alone q r one two = holding_release_alone s (take n h) (well_formed_stays_take s h n x.well) q r l (deed_history_holds l q (take n h) one)
      (deed_history_holds l r (take n h) two)

  -- who accesses the word holds the lock
  holder : (k : Kind) → Does h n p k → event_address k ≡ Some a → kept_fact_has_lock l (take n h) p ≡ true
  holder k does is =
      subst (λ o. phase_guard_lets_access o p (phase_guard_holds_after (deeds (events_of (take n h) p))) (event_stores k) ≡ true)
      (x.under (event_count event_departs (take n h) p))
      (guarded_deed_allowed_at g h n p a (x.keeps p) (record { kind = k; does = does; address = is }))

  tallied_history_sighted : (k : Kind) → Does h n p k → (word_tally_then l a (tallied_history_of l a (take n h) p) k).blind ≡ false
  tallied_history_sighted k does =
      ap (λ (t : WordTally). t.blind) (sym (tallied_history_own l a (take n h) p k))
      ∙ subst (λ j. (tallied_history_of l a j p).blind ≡ false) (slice_take-suc_at h n (event p k) does) (x.sighted (suc n) p)

  tallied_history_by : (k : Kind) → Does h n p k → IsTalliedHistory l a s.processors start memory (take n h ++ event p k ∷ [])
  tallied_history_by (Load b v) does = elim (cases_Bool (b == a)) [
    | inl same ↦ tallied_history_next (take n h) p (Load b v) was (x.well n (event p (Load b v)) does).processor
        (tallied_history_loaded (take n h) p b v was same (holder (Load b v) does (ap Some (eqb-true b a same))) (kept_fact_replayed n p (Load b v) x.replays does))
    | inr other ↦ tallied_history_next (take n h) p (Load b v) was (x.well n (event p (Load b v)) does).processor
        (tallied_history_kept (take n h) p (Load b v) was (λ none. none) (rw other refl) refl)
  ]
  tallied_history_by (Store b v) does = elim (cases_eq b a) [
    | inl same ↦ subst (λ c. Does h n p (Store c v) → IsTalliedHistory l a s.processors start memory (take n h ++ event p (Store c v) ∷ [])) (sym same)
        (λ there. tallied_history_next (take n h) p (Store a v) was (x.well n (event p (Store a v)) there).processor
        (tallied_history_stored (take n h) p v was tallied_history_alone (holder (Store a v) there refl)
        (let stored : word_tally_then l a (tallied_history_of l a (take n h) p) (Store a v) ≡ word_tally_store v (tallied_history_of l a (take n h) p) (tallied_history_of l a (take n h) p).known =
        rw (eq-eqb a a refl) refl in
        ap (λ (t : WordTally). t.blind) (sym stored) ∙ tallied_history_sighted (Store a v) there))) does
    | inr other ↦ tallied_history_next (take n h) p (Store b v) was (x.well n (event p (Store b v)) does).processor
        (tallied_history_kept (take n h) p (Store b v) was (λ none. none) (rw (ne_eqb b a other) refl)
        (slice_get-set_other (memory_after memory (take n h)) b a v (λ is. other (sym is))))
  ]
  tallied_history_by (Release m) does = elim (cases_Bool (m == l)) [
    | inl same ↦ tallied_history_next (take n h) p (Release m) was (x.well n (event p (Release m)) does).processor
        (tallied_history_released (take n h) p m was same)
    | inr other ↦ tallied_history_next (take n h) p (Release m) was (x.well n (event p (Release m)) does).processor
        (tallied_history_kept (take n h) p (Release m) was (λ is. kept_fact_not_both (m == l) is other) (rw other refl) refl)
  ]
  tallied_history_by k does = tallied_history_next (take n h) p k was (x.well n (event p k) does).processor
      (tallied_history_kept (take n h) p k was (λ none. none) refl refl)

tallied_history_through : {s : Sizes} {g : PhaseGuards} {memory : List ℕ} {h : List Event} {l a start : ℕ} → IsTalliedHistoryUnder s g memory h l a
    → slice_get memory a ≡ Some start → (n : ℕ) → n ≤ length h → IsTalliedHistory l a s.processors start memory (take n h)
tallied_history_through {start = start} x at zero le = record {
  value = start;
  at = at;
  known = λ q w is. absurd (none-some w is);
  sum = refl;
}
tallied_history_through {s} {memory = memory} {h = h} {l = l} {a = a} {start = start} x at (suc n) le =
    let e = get_or h n (event 0 Arrive) in
    let there : slice_get h n ≡ Some e = slice_get-get_or h n (event 0 Arrive) (omega arith) in
    subst (IsTalliedHistory l a s.processors start memory) (sym (slice_take-suc_at h n e there))
    (tallied_history_by x n e.processor (tallied_history_through x at n (omega arith)) e.kind there)

-- what is known at the end was known before
tallied_history_sighted_in : (l a : ℕ) (h : List Event) (q n : ℕ) → (tallied_history_of l a h q).blind ≡ false → (tallied_history_of l a (take n h) q).blind ≡ false
tallied_history_sighted_in l a h q n sighted =
    let parts = ap (λ es. deeds (events_of es q)) (sym (take-append-drop n h)) ∙ deeds_of_processor-append (take n h) (drop n h) q in
    added_tally_sighted_before l a (tallied_history_of l a (take n h) q) (deeds (events_of (drop n h) q))
    (ap (λ (t : WordTally). t.blind) (sym (ap (word_tally_of l a) parts
    ∙ word_tally_on-append l a new_word_tally (deeds (events_of (take n h) q)) (deeds (events_of (drop n h) q)))) ∙ sighted)

pub tallied_history_law : WordTallyLaw
tallied_history_law s g memory h well keeps replays l a first under at amounts each =
    let total = tallied_history_total_modulo (λ p. (tallied_history_of l a h p).taken) amounts (λ p. (tallied_history_of l a h p).put) s.processors (λ p less. (each p less).sum) in
    let sum = last.sum in
    (last.value, last.at, omega arith)
  where
    known : (q : ℕ) → (tallied_history_of l a h q).blind ≡ false
    known q = elim (cases_lt q s.processors) [
      | inl less ↦ (each q less).sighted
      | inr past ↦ ap (λ es. (word_tally_of l a (deeds es)).blind) (program_threads_nobody_past s h q well past)
    ]

    last : IsTalliedHistory l a s.processors first memory h
    last = subst (IsTalliedHistory l a s.processors first memory) (take-length h)
        (tallied_history_through (record { well = well; keeps = keeps; replays = replays; under = under; sighted = λ n q. tallied_history_sighted_in l a h q n (known q) })
        at (length h) (le_refl (length h)))
