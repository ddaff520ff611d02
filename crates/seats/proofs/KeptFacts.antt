-- A fact that a lock keeps, as a history goes on.
use Rattle.std.proofs.Common.{ℕ, ◌≡◌, ◌≢◌, ◌⊎◌, inl, inr, Bool, true, false, Some, List, [], ◌∷◌, ◌++◌, ◌<◌, ◌≤◌, get_or, le_refl, length, take, arith, slice_get, slice_set, zero, suc, refl, sym, ap, subst, ◌∙◌, append-nil, append_assoc}
use Rattle.std.proofs.lemmas.Bool.{cases_eq, cases_lt, eq-eqb, ne_eqb, cases_Bool}
use Rattle.std.proofs.lemmas.Option.{none-some, slice_get-get_or}
use Rattle.std.proofs.Math.Seq.{take-length}
use Rattle.std.proofs.lemmas.List.Elements.{filter-append}
use Rattle.base.specs.LastWrite.{written, wrote}
use Rattle.base.proofs.LastWritten.{written-append}
use Rattle.base.proofs.SliceSets.{slice_get-set_other}
use Rattle.base.proofs.SlicesAndCounts.{slice_take-suc_at}
use Rattle.journal.specs.declared.event.Event.{Event}
use Rattle.journal.specs.declared.event.Kind.{Kind}
use Rattle.journal.specs.declared.event.Kind.TheVariants.{Load, Store, Fetch, Acquire, Release, Arrive}
use Rattle.journal.specs.DidEvent.{event}
use Rattle.journal.specs.Events.{event_address, event_count, events_of, event_departs, event_stores}
use Rattle.journal.specs.ReplayMemory.{AnswersReplayMemory, Replays, replay_memory_write, memory_after}
use Rattle.journal.specs.Sizes.{Sizes}
use Rattle.journal.specs.WellFormed.{Does, WellFormed}
use Rattle.journal.proofs.Journals.HoldingReleases.{holding_release_alone}
use Rattle.journal.proofs.Journals.WellFormedStays.{well_formed_stays_take}
use Rattle.journal.proofs.Flat.FlatConflicts.{flat_conflict_store_is}
use Rattle.seats.specs.Deeds.{deeds, is_deed}
use Rattle.seats.specs.PhaseGuards.{PhaseGuards, phase_guard_held_then, phase_guard_holds_after, phase_guard_lets_access}
use Rattle.seats.specs.GuardLaws.{AllKeepToPhaseGuards}
use Rattle.seats.specs.Tenures.{TenureAnswersFrom, IsFactUnderTenures, KeptFact, TenuresKeepLaw, TenurePreserves, tenure_accesses_among, tenure_has_address, tenure_after, tenure_on, tenure_then}
use Rattle.seats.proofs.Deeds.{deeds-append, deeds_of_fetch, deed_of_others_event, deed_of_own_event, deeds_of_processor-append}
use Rattle.seats.proofs.GuardedDeeds.{guarded_deed_allowed_at, guarded_deed_at}
use Rattle.seats.proofs.DeedHistories.{phase_guard_held_on-append, deed_history_holds}
use Rattle.seats.proofs.ProgramThreads.{program_threads_nobody_past}

pub tenure_on-append : (words : ℕ → Bool) (l : ℕ) (ks ls so_far : List Kind)
    → tenure_on words l so_far (ks ++ ls) ≡ tenure_on words l (tenure_on words l so_far ks) ls
tenure_on-append words l [] ls so_far = refl
tenure_on-append words l (k ∷ ks) ls so_far = tenure_on-append words l ks ls (tenure_then words l so_far k)

pub tenure_accesses_among-append : (words : ℕ → Bool) (ks ls : List Kind)
    → tenure_accesses_among words (ks ++ ls) ≡ tenure_accesses_among words ks ++ tenure_accesses_among words ls
tenure_accesses_among-append words ks ls = filter-append (λ (k : Kind). tenure_has_address words (event_address k)) ks ls

-- one access more
pub kept_fact_answers_push : (memory : List ℕ) (ks : List Kind) (k : Kind) → TenureAnswersFrom memory ks
    → AnswersReplayMemory (written replay_memory_write memory ks) k → TenureAnswersFrom memory (ks ++ k ∷ [])
kept_fact_answers_push memory [] k before last = (last, tt)
kept_fact_answers_push memory (j ∷ ks) k before last = (before.0, kept_fact_answers_push (wrote memory (replay_memory_write j)) ks k before.1 last)

-- the same store to two memories that agree on its word and on another
pub kept_fact_same_store : (m n : List ℕ) (a b v : ℕ) → slice_get m b ≡ slice_get n b → slice_get m a ≡ slice_get n a
    → slice_get (slice_set m b v) a ≡ slice_get (slice_set n b v) a
kept_fact_same_store [] [] a b v at there = refl
kept_fact_same_store [] (y ∷ n) a zero v at there = absurd (cc)
kept_fact_same_store [] (y ∷ n) zero (suc b) v at there = there
kept_fact_same_store [] (y ∷ n) (suc a) (suc b) v at there = kept_fact_same_store [] n a b v at there
kept_fact_same_store (x ∷ m) [] a zero v at there = absurd (cc)
kept_fact_same_store (x ∷ m) [] zero (suc b) v at there = there
kept_fact_same_store (x ∷ m) [] (suc a) (suc b) v at there = kept_fact_same_store m [] a b v at there
kept_fact_same_store (x ∷ m) (y ∷ n) zero zero v at there = refl
kept_fact_same_store (x ∷ m) (y ∷ n) (suc a) zero v at there = there
kept_fact_same_store (x ∷ m) (y ∷ n) zero (suc b) v at there = there
kept_fact_same_store (x ∷ m) (y ∷ n) (suc a) (suc b) v at there = kept_fact_same_store m n a b v at there

-- whether p holds the lock after this
abbrev pub kept_fact_has_lock : ℕ → List Event → ℕ → Bool
kept_fact_has_lock l j p = phase_guard_holds_after (deeds (events_of j p)) l

-- what its open tenure has
abbrev pub kept_fact_open_tenure : (ℕ → Bool) → ℕ → List Event → ℕ → List Kind
kept_fact_open_tenure words l j p = tenure_after words l (deeds (events_of j p))

-- what others did is as it was
pub kept_fact_others_deeds : (j : List Event) (p q : ℕ) (k : Kind) → q ≢ p
    → deeds (events_of (j ++ event p k ∷ []) q) ≡ deeds (events_of j q)
kept_fact_others_deeds j p q k apart =
    deeds_of_processor-append j (event p k ∷ []) q
    ∙ ap (λ es. deeds (events_of j q) ++ es) (deed_of_others_event (event p k) q (ne_eqb p q (λ e. apart (sym e))))
    ∙ append-nil (deeds (events_of j q))

-- a deed more
pub kept_fact_own_deeds : (j : List Event) (p : ℕ) (k : Kind) → is_deed k ≡ true
    → deeds (events_of (j ++ event p k ∷ []) p) ≡ deeds (events_of j p) ++ k ∷ []
kept_fact_own_deeds j p k deed =
    deeds_of_processor-append j (event p k ∷ []) p
    ∙ ap (λ es. deeds (events_of j p) ++ es) (deed_of_own_event (event p k) p (eq-eqb p p refl) deed)

-- a fetch more
pub kept_fact_fetched_deeds : (j : List Event) (p : ℕ) (k : Kind) → is_deed k ≡ false
    → deeds (events_of (j ++ event p k ∷ []) p) ≡ deeds (events_of j p)
kept_fact_fetched_deeds j p k fetch =
    deeds_of_processor-append j (event p k ∷ []) p
    ∙ ap (λ es. deeds (events_of j p) ++ es) (deeds_of_fetch (event p k) p (eq-eqb p p refl) fetch)
    ∙ append-nil (deeds (events_of j p))

-- after a history: the memory of which the fact held at the lock's last release, the accesses up to there, and those since,
-- which are the holder's; nobody else has an open tenure
pub record IsKeptFactSoFar (f : KeptFact) (memory : List ℕ) (j : List Event) : Type 0 where
  pub released : List ℕ
  pub before : List Kind
  pub since : List Kind
  pub kept : f.holds released before
  pub all : tenure_accesses_among f.words (deeds j) ≡ before ++ since
  pub same : (a : ℕ) → f.words a ≡ true → slice_get (memory_after memory j) a ≡ slice_get (written replay_memory_write released since) a
  pub answers : TenureAnswersFrom released since
  pub holder : (q : ℕ) → kept_fact_has_lock f.lock j q ≡ true → kept_fact_open_tenure f.words f.lock j q ≡ since
  pub others : (q : ℕ) → kept_fact_has_lock f.lock j q ≡ false → kept_fact_open_tenure f.words f.lock j q ≡ []
  pub free : ((q : ℕ) → kept_fact_has_lock f.lock j q ≡ false) → since ≡ []

-- at most one processor holds the lock
abbrev pub KeptFactHasOneHolder : ℕ → List Event → Type 0
KeptFactHasOneHolder l j = (p q : ℕ) → kept_fact_has_lock l j p ≡ true → kept_fact_has_lock l j q ≡ true → p ≡ q

pub kept_fact_not_both : (b : Bool) → b ≡ true → b ≡ false → ⊥
kept_fact_not_both b on off = let e : true ≡ false = sym on ∙ off in absurd (cc)

-- what changes neither the lock, nor its words, nor tenures keeps all
kept_fact_same : {f : KeptFact} {memory : List ℕ} (j i : List Event) → IsKeptFactSoFar f memory j
    → ((q : ℕ) → kept_fact_has_lock f.lock i q ≡ kept_fact_has_lock f.lock j q)
    → ((q : ℕ) → kept_fact_open_tenure f.words f.lock i q ≡ kept_fact_open_tenure f.words f.lock j q)
    → tenure_accesses_among f.words (deeds i) ≡ tenure_accesses_among f.words (deeds j)
    → ((a : ℕ) → f.words a ≡ true → slice_get (memory_after memory i) a ≡ slice_get (memory_after memory j) a)
    → IsKeptFactSoFar f memory i
kept_fact_same j i k locks tenures all words = record {
  released = k.released;
  before = k.before;
  since = k.since;
  kept = k.kept;
  all = all ∙ k.all;
  same = λ a mine. words a mine ∙ k.same a mine;
  answers = k.answers;
  holder = λ q has. tenures q ∙ k.holder q (sym (locks q) ∙ has);
  others = λ q none. tenures q ∙ k.others q (sym (locks q) ∙ none);
  free = λ none. k.free (λ q. sym (locks q) ∙ none q);
}

-- what p's deed does to its own lock and tenure
pub kept_fact_own_lock : (l : ℕ) (j : List Event) (p : ℕ) (k : Kind) → is_deed k ≡ true
    → kept_fact_has_lock l (j ++ event p k ∷ []) p ≡ phase_guard_held_then k l (kept_fact_has_lock l j p)
kept_fact_own_lock l j p k deed =
    ap (λ ks. phase_guard_holds_after ks l) (kept_fact_own_deeds j p k deed) ∙ phase_guard_held_on-append (deeds (events_of j p)) (k ∷ []) l false

kept_fact_own_tenure : (words : ℕ → Bool) (l : ℕ) (j : List Event) (p : ℕ) (k : Kind) → is_deed k ≡ true
    → kept_fact_open_tenure words l (j ++ event p k ∷ []) p ≡ tenure_then words l (kept_fact_open_tenure words l j p) k
kept_fact_own_tenure words l j p k deed =
    ap (λ ks. tenure_after words l ks) (kept_fact_own_deeds j p k deed) ∙ tenure_on-append words l (deeds (events_of j p)) (k ∷ []) []

-- to those of others nothing
pub kept_fact_others_lock : (l : ℕ) (j : List Event) (p q : ℕ) (k : Kind) → q ≢ p
    → kept_fact_has_lock l (j ++ event p k ∷ []) q ≡ kept_fact_has_lock l j q
kept_fact_others_lock l j p q k apart = ap (λ ks. phase_guard_holds_after ks l) (kept_fact_others_deeds j p q k apart)

kept_fact_others_tenure : (words : ℕ → Bool) (l : ℕ) (j : List Event) (p q : ℕ) (k : Kind) → q ≢ p
    → kept_fact_open_tenure words l (j ++ event p k ∷ []) q ≡ kept_fact_open_tenure words l j q
kept_fact_others_tenure words l j p q k apart = ap (λ ks. tenure_after words l ks) (kept_fact_others_deeds j p q k apart)

-- the memory after one event more
pub kept_fact_memory_push : (memory : List ℕ) (j : List Event) (p : ℕ) (k : Kind)
    → memory_after memory (j ++ event p k ∷ []) ≡ wrote (memory_after memory j) (replay_memory_write k)
kept_fact_memory_push memory j p k = written-append (λ (e : Event). replay_memory_write e.kind) memory j (event p k ∷ [])

-- the accesses of these words with one event more
kept_fact_accesses_push : (words : ℕ → Bool) (j : List Event) (p : ℕ) (k : Kind)
    → tenure_accesses_among words (deeds (j ++ event p k ∷ [])) ≡ tenure_accesses_among words (deeds j) ++ tenure_accesses_among words (deeds (event p k ∷ []))
kept_fact_accesses_push words j p k =
    ap (tenure_accesses_among words) (deeds-append j (event p k ∷ [])) ∙ tenure_accesses_among-append words (deeds j) (deeds (event p k ∷ []))

-- p loads or stores a word of these
pub record IsKeptFactAccess (words : ℕ → Bool) (k : Kind) : Type 0 where
  pub address : ℕ
  pub at : event_address k ≡ Some address
  pub mine : words address ≡ true

kept_fact_access_deed : (words : ℕ → Bool) (k : Kind) → IsKeptFactAccess words k → is_deed k ≡ true
kept_fact_access_deed words (Fetch w n r d) x = absurd (let e = x.at in cc)
kept_fact_access_deed words _ x = refl

pub kept_fact_access_held : (words : ℕ → Bool) (k : Kind) → IsKeptFactAccess words k → (l : ℕ) (b : Bool) → phase_guard_held_then k l b ≡ b
kept_fact_access_held words (Acquire m) x l b = absurd (let e = x.at in cc)
kept_fact_access_held words (Release m) x l b = absurd (let e = x.at in cc)
kept_fact_access_held words _ x l b = refl

kept_fact_access_is : (words : ℕ → Bool) (k : Kind) → IsKeptFactAccess words k → tenure_accesses_among words (k ∷ []) ≡ k ∷ []
kept_fact_access_is words k x = rw x.at (rw x.mine refl)

pub kept_fact_access_tenure : (words : ℕ → Bool) (k : Kind) → IsKeptFactAccess words k → (l : ℕ) (so_far : List Kind)
    → tenure_then words l so_far k ≡ so_far ++ k ∷ []
kept_fact_access_tenure words (Release m) x l so_far = absurd (let e = x.at in cc)
kept_fact_access_tenure words (Load a v) x l so_far = ap (λ es. so_far ++ es) (kept_fact_access_is words (Load a v) x)
kept_fact_access_tenure words (Store a v) x l so_far = ap (λ es. so_far ++ es) (kept_fact_access_is words (Store a v) x)
kept_fact_access_tenure words _ x l so_far = absurd (let e = x.at in cc)

kept_fact_access_here : (words : ℕ → Bool) (k : Kind) → IsKeptFactAccess words k → (p : ℕ)
    → tenure_accesses_among words (deeds (event p k ∷ [])) ≡ k ∷ []
kept_fact_access_here words k x p =
    let deed : deeds (event p k ∷ []) ≡ k ∷ [] = rw (kept_fact_access_deed words k x) refl in
    ap (tenure_accesses_among words) deed ∙ kept_fact_access_is words k x

-- of these words, those that it accesses
kept_fact_access_store : (words : ℕ → Bool) (k : Kind) (x : IsKeptFactAccess words k) (b v : ℕ) → replay_memory_write k ≡ Some (b, v) → words b ≡ true
kept_fact_access_store words k x b v e =
    let same : Some x.address ≡ Some b = sym x.at ∙ ap event_address (flat_conflict_store_is k b v e) in
    let is : x.address ≡ b = cc in
    subst (λ a. words a ≡ true) is x.mine

-- a store to memories that agree on these words, by whoever stores there
kept_fact_same_write : (m n : List ℕ) (k : Kind) (a : ℕ) → ((b v : ℕ) → replay_memory_write k ≡ Some (b, v) → slice_get m b ≡ slice_get n b)
    → slice_get m a ≡ slice_get n a → slice_get (wrote m (replay_memory_write k)) a ≡ slice_get (wrote n (replay_memory_write k)) a
kept_fact_same_write m n (Store b v) a given there = kept_fact_same_store m n a b v (given b v refl) there
kept_fact_same_write m n _ a given there = there

-- a load's answer from memories that agree on its word
kept_fact_same_answers : (m n : List ℕ) (words : ℕ → Bool) (k : Kind) → IsKeptFactAccess words k
    → ((a : ℕ) → words a ≡ true → slice_get m a ≡ slice_get n a) → AnswersReplayMemory m k → AnswersReplayMemory n k
kept_fact_same_answers m n words (Load a v) x given answer =
    let e : Some a ≡ Some x.address = x.at in
    let is : x.address ≡ a = cc in
    sym (given a (subst (λ b. words b ≡ true) is x.mine)) ∙ answer
kept_fact_same_answers m n words _ x given answer = tt

-- the holder accesses a word of the lock
kept_fact_access : {f : KeptFact} {memory : List ℕ} (j : List Event) (p : ℕ) (k : Kind) → IsKeptFactSoFar f memory j
    → KeptFactHasOneHolder f.lock j → kept_fact_has_lock f.lock j p ≡ true → IsKeptFactAccess f.words k → AnswersReplayMemory (memory_after memory j) k
    → IsKeptFactSoFar f memory (j ++ event p k ∷ [])
kept_fact_access {f} {memory} j p k was alone has x answer = record {
  released = was.released;
  before = was.before;
  since = was.since ++ k ∷ [];
  kept = was.kept;
  all = kept_fact_accesses_push f.words j p k ∙ ap (λ es. tenure_accesses_among f.words (deeds j) ++ es) (kept_fact_access_here f.words k x p)
      ∙ ap (λ es. es ++ k ∷ []) was.all ∙ append_assoc was.before was.since (k ∷ []);
  same = λ a mine.
      ap (λ m. slice_get m a) (kept_fact_memory_push memory j p k)
      ∙ kept_fact_same_write (memory_after memory j) (written replay_memory_write was.released was.since) k a
      (λ b v e. was.same b (kept_fact_access_store f.words k x b v e)) (was.same a mine)
      ∙ ap (λ m. slice_get m a) (sym (written-append replay_memory_write was.released was.since (k ∷ [])));
  answers = kept_fact_answers_push was.released was.since k was.answers
      (kept_fact_same_answers (memory_after memory j) (written replay_memory_write was.released was.since) f.words k x was.same answer);
  holder = λ q holds. elim (cases_eq q p) [
    | inl is ↦ subst (λ r. kept_fact_open_tenure f.words f.lock (j ++ event p k ∷ []) r ≡ was.since ++ k ∷ []) (sym is)
        (kept_fact_own_tenure f.words f.lock j p k deed ∙ kept_fact_access_tenure f.words k x f.lock _ ∙ ap (λ es. es ++ k ∷ []) (was.holder p has))
    | inr apart ↦ absurd (apart (alone q p (sym (kept_fact_others_lock f.lock j p q k apart) ∙ holds) has))
  ];
  others = λ q none. elim (cases_eq q p) [
    | inl is ↦ absurd (kept_fact_not_both (kept_fact_has_lock f.lock (j ++ event p k ∷ []) p) holding
        (subst (λ r. kept_fact_has_lock f.lock (j ++ event p k ∷ []) r ≡ false) is none))
    | inr apart ↦ kept_fact_others_tenure f.words f.lock j p q k apart
        ∙ was.others q (sym (kept_fact_others_lock f.lock j p q k apart) ∙ none)
  ];
  free = λ none. absurd (kept_fact_not_both (kept_fact_has_lock f.lock (j ++ event p k ∷ []) p) holding (none p));
}
  where
    deed : is_deed k ≡ true
    deed = kept_fact_access_deed f.words k x

    holding : kept_fact_has_lock f.lock (j ++ event p k ∷ []) p ≡ true
    holding = kept_fact_own_lock f.lock j p k deed ∙ kept_fact_access_held f.words k x f.lock (kept_fact_has_lock f.lock j p) ∙ has

-- what isn't an access of the words leaves all accesses
kept_fact_accesses_apart : (words : ℕ → Bool) (j : List Event) (p : ℕ) (k : Kind) → tenure_accesses_among words (deeds (event p k ∷ [])) ≡ []
    → tenure_accesses_among words (deeds (j ++ event p k ∷ [])) ≡ tenure_accesses_among words (deeds j)
kept_fact_accesses_apart words j p k none =
    kept_fact_accesses_push words j p k ∙ ap (λ es. tenure_accesses_among words (deeds j) ++ es) none ∙ append-nil (tenure_accesses_among words (deeds j))

-- who may acquire it does
kept_fact_acquire : {f : KeptFact} {memory : List ℕ} (j : List Event) (p : ℕ) → IsKeptFactSoFar f memory j
    → ((q : ℕ) → kept_fact_has_lock f.lock j q ≡ false) → IsKeptFactSoFar f memory (j ++ event p (Acquire f.lock) ∷ [])
kept_fact_acquire {f} {memory} j p was free = record {
  released = was.released;
  before = was.before;
  since = was.since;
  kept = was.kept;
  all = kept_fact_accesses_apart f.words j p k refl ∙ was.all;
  same = λ a mine. ap (λ m. slice_get m a) (kept_fact_memory_push memory j p k) ∙ was.same a mine;
  answers = was.answers;
  holder = λ q holds. none q ∙ sym (was.free free);
  others = λ q holds. none q;
  free = λ gone. was.free free;
}
  where
    k : Kind
    k = Acquire f.lock

    none : (q : ℕ) → kept_fact_open_tenure f.words f.lock (j ++ event p (Acquire f.lock) ∷ []) q ≡ []
    none q = elim (cases_eq q p) [
      | inl is ↦ subst (λ r. kept_fact_open_tenure f.words f.lock (j ++ event p (Acquire f.lock) ∷ []) r ≡ []) (sym is)
          (kept_fact_own_tenure f.words f.lock j p (Acquire f.lock) refl ∙ append-nil (kept_fact_open_tenure f.words f.lock j p) ∙ was.others p (free p))
      | inr apart ↦ kept_fact_others_tenure f.words f.lock j p q (Acquire f.lock) apart ∙ was.others q (free q)
    ]

-- the holder releases it
kept_fact_release : {f : KeptFact} {memory : List ℕ} (j : List Event) (p : ℕ) → IsKeptFactSoFar f memory j
    → KeptFactHasOneHolder f.lock j → kept_fact_has_lock f.lock j p ≡ true → TenurePreserves f (kept_fact_open_tenure f.words f.lock j p)
    → IsKeptFactSoFar f memory (j ++ event p (Release f.lock) ∷ [])
kept_fact_release {f} {memory} j p was alone has preserves = record {
  released = written replay_memory_write was.released was.since;
  before = was.before ++ was.since;
  since = [];
  kept = subst (TenurePreserves f) (was.holder p has) preserves was.released was.before was.kept was.answers;
  all = kept_fact_accesses_apart f.words j p k refl ∙ was.all ∙ sym (append-nil (was.before ++ was.since));
  same = λ a mine. ap (λ m. slice_get m a) (kept_fact_memory_push memory j p k) ∙ was.same a mine;
  answers = tt;
  holder = λ q holds. elim (cases_eq q p) [
    | inl is ↦ absurd (kept_fact_not_both (kept_fact_has_lock f.lock (j ++ event p k ∷ []) p)
        (subst (λ r. kept_fact_has_lock f.lock (j ++ event p k ∷ []) r ≡ true) is holds) gone)
    | inr apart ↦ absurd (apart (alone q p (sym (kept_fact_others_lock f.lock j p q k apart) ∙ holds) has))
  ];
  others = λ q none. elim (cases_eq q p) [
    | inl is ↦ subst (λ r. kept_fact_open_tenure f.words f.lock (j ++ event p k ∷ []) r ≡ []) (sym is) ended
    | inr apart ↦ kept_fact_others_tenure f.words f.lock j p q k apart
        ∙ was.others q (sym (kept_fact_others_lock f.lock j p q k apart) ∙ none)
  ];
  free = λ none. refl;
}
  where
    k : Kind
    k = Release f.lock

    gone : kept_fact_has_lock f.lock (j ++ event p (Release f.lock) ∷ []) p ≡ false
    gone = kept_fact_own_lock f.lock j p (Release f.lock) refl ∙ rw (eq-eqb f.lock f.lock refl) refl

    ended : kept_fact_open_tenure f.words f.lock (j ++ event p (Release f.lock) ∷ []) p ≡ []
    ended = kept_fact_own_tenure f.words f.lock j p (Release f.lock) refl ∙ rw (eq-eqb f.lock f.lock refl) refl

-- whoever doesn't hold it releases nothing
kept_fact_unheld : {f : KeptFact} {memory : List ℕ} (j : List Event) (p : ℕ) → IsKeptFactSoFar f memory j
    → kept_fact_has_lock f.lock j p ≡ false → IsKeptFactSoFar f memory (j ++ event p (Release f.lock) ∷ [])
kept_fact_unheld {f} {memory} j p was none = kept_fact_same j (j ++ event p (Release f.lock) ∷ []) was
    (λ q. elim (cases_eq q p) [
      | inl is ↦ subst (λ r. kept_fact_has_lock f.lock (j ++ event p (Release f.lock) ∷ []) r ≡ kept_fact_has_lock f.lock j r) (sym is)
          (kept_fact_own_lock f.lock j p (Release f.lock) refl ∙ rw (eq-eqb f.lock f.lock refl) refl ∙ sym none)
      | inr apart ↦ kept_fact_others_lock f.lock j p q (Release f.lock) apart
    ])
    (λ q. elim (cases_eq q p) [
      | inl is ↦ subst (λ r. kept_fact_open_tenure f.words f.lock (j ++ event p (Release f.lock) ∷ []) r ≡ kept_fact_open_tenure f.words f.lock j r)
          (sym is) (kept_fact_own_tenure f.words f.lock j p (Release f.lock) refl ∙ rw (eq-eqb f.lock f.lock refl) refl
          ∙ sym (was.others p none))
      | inr apart ↦ kept_fact_others_tenure f.words f.lock j p q (Release f.lock) apart
    ])
    (kept_fact_accesses_apart f.words j p (Release f.lock) refl)
    (λ a mine. ap (λ m. slice_get m a) (kept_fact_memory_push memory j p (Release f.lock)))

-- neither the lock's nor an access of its words
record IsApartFromKeptFact (words : ℕ → Bool) (l : ℕ) (k : Kind) : Type 0 where
  pub locks : (b : Bool) → phase_guard_held_then k l b ≡ b
  pub tenures : (so_far : List Kind) → tenure_then words l so_far k ≡ so_far
  pub none : tenure_accesses_among words (k ∷ []) ≡ []
  pub stores : (b v : ℕ) → replay_memory_write k ≡ Some (b, v) → words b ≡ false

-- what an event is to a lock and its words
abbrev KeptFactPart : (ℕ → Bool) → ℕ → Kind → Type 0
KeptFactPart words l k = ((k ≡ Release l) ⊎ (k ≡ Acquire l)) ⊎ (IsKeptFactAccess words k ⊎ IsApartFromKeptFact words l k)

kept_fact_part : (words : ℕ → Bool) (l : ℕ) (k : Kind) → KeptFactPart words l k
kept_fact_part words l (Release m) = elim (cases_eq m l) [
  | inl is ↦ inl (inl (ap Release is))
  | inr isnt ↦ inr (inr (record {
    locks = λ b. rw (ne_eqb m l isnt) refl;
    tenures = λ so_far. rw (ne_eqb m l isnt) refl;
    none = refl;
    stores = λ b v e. absurd (none-some (b, v) e);
  }))
]
kept_fact_part words l (Acquire m) = elim (cases_eq m l) [
  | inl is ↦ inl (inr (ap Acquire is))
  | inr isnt ↦ inr (inr (record {
    locks = λ b. rw (ne_eqb m l isnt) refl;
    tenures = λ so_far. append-nil so_far;
    none = refl;
    stores = λ b v e. absurd (none-some (b, v) e);
  }))
]
kept_fact_part words l (Load a v) = elim (cases_Bool (words a)) [
  | inl mine ↦ inr (inl (record { address = a; at = refl; mine = mine }))
  | inr other ↦ (let none : tenure_accesses_among words (Load a v ∷ []) ≡ [] = rw other refl in inr (inr (record {
    locks = λ b. refl;
    tenures = λ so_far. ap (λ es. so_far ++ es) none ∙ append-nil so_far;
    none = none;
    stores = λ b w e. absurd (none-some (b, w) e);
  })))
]
kept_fact_part words l (Store a v) = elim (cases_Bool (words a)) [
  | inl mine ↦ inr (inl (record { address = a; at = refl; mine = mine }))
  | inr other ↦ (let none : tenure_accesses_among words (Store a v ∷ []) ≡ [] = rw other refl in inr (inr (record {
    locks = λ b. refl;
    tenures = λ so_far. ap (λ es. so_far ++ es) none ∙ append-nil so_far;
    none = none;
    stores = λ b w e. let same = flat_conflict_store_is (Store a v) b w e in let is : a ≡ b = cc in subst (λ c. words c ≡ false) is other;
  })))
]
kept_fact_part words l _ = inr (inr (record {
  locks = λ b. refl;
  tenures = λ so_far. append-nil so_far;
  none = refl;
  stores = λ b v e. absurd (none-some (b, v) e);
}))

-- a store elsewhere leaves these words
kept_fact_other_write : (words : ℕ → Bool) (m : List ℕ) (k : Kind) (a : ℕ) → ((b v : ℕ) → replay_memory_write k ≡ Some (b, v) → words b ≡ false)
    → words a ≡ true → slice_get (wrote m (replay_memory_write k)) a ≡ slice_get m a
kept_fact_other_write words m (Store b v) a elsewhere mine =
    slice_get-set_other m b a v (λ is. kept_fact_not_both (words a) mine (subst (λ c. words c ≡ false) (sym is) (elsewhere b v refl)))
kept_fact_other_write words m _ a elsewhere mine = refl

-- what is apart from the lock
kept_fact_apart : {f : KeptFact} {memory : List ℕ} (j : List Event) (p : ℕ) (k : Kind) → IsKeptFactSoFar f memory j
    → IsApartFromKeptFact f.words f.lock k → IsKeptFactSoFar f memory (j ++ event p k ∷ [])
kept_fact_apart {f} {memory} j p k was x = kept_fact_same j (j ++ event p k ∷ []) was locks tenures
    (kept_fact_accesses_apart f.words j p k here)
    (λ a mine. ap (λ m. slice_get m a) (kept_fact_memory_push memory j p k) ∙ kept_fact_other_write f.words (memory_after memory j) k a x.stores mine)
  where
    locks : (q : ℕ) → kept_fact_has_lock f.lock (j ++ event p k ∷ []) q ≡ kept_fact_has_lock f.lock j q
    locks q = elim (cases_eq q p) [
      | inl is ↦ subst (λ r. kept_fact_has_lock f.lock (j ++ event p k ∷ []) r ≡ kept_fact_has_lock f.lock j r) (sym is)
          (elim (cases_Bool (is_deed k)) [
            | inl deed ↦ kept_fact_own_lock f.lock j p k deed ∙ x.locks (kept_fact_has_lock f.lock j p)
            | inr fetch ↦ ap (λ ks. phase_guard_holds_after ks f.lock) (kept_fact_fetched_deeds j p k fetch)
          ])
      | inr apart ↦ kept_fact_others_lock f.lock j p q k apart
    ]

    tenures : (q : ℕ) → kept_fact_open_tenure f.words f.lock (j ++ event p k ∷ []) q ≡ kept_fact_open_tenure f.words f.lock j q
    tenures q = elim (cases_eq q p) [
      | inl is ↦ subst (λ r. kept_fact_open_tenure f.words f.lock (j ++ event p k ∷ []) r ≡ kept_fact_open_tenure f.words f.lock j r) (sym is)
          (elim (cases_Bool (is_deed k)) [
            | inl deed ↦ kept_fact_own_tenure f.words f.lock j p k deed ∙ x.tenures (kept_fact_open_tenure f.words f.lock j p)
            | inr fetch ↦ ap (λ ks. tenure_after f.words f.lock ks) (kept_fact_fetched_deeds j p k fetch)
          ])
      | inr apart ↦ kept_fact_others_tenure f.words f.lock j p q k apart
    ]

    here : tenure_accesses_among f.words (deeds (event p k ∷ [])) ≡ []
    here = elim (cases_Bool (is_deed k)) [
      | inl deed ↦ (let one : deeds (event p k ∷ []) ≡ k ∷ [] = rw deed refl in ap (tenure_accesses_among f.words) one ∙ x.none)
      | inr fetch ↦ (let none : deeds (event p k ∷ []) ≡ [] = rw fetch refl in ap (tenure_accesses_among f.words) none)
    ]

-- before the first event
kept_fact_start : {f : KeptFact} {g : PhaseGuards} {memory : List ℕ} → IsFactUnderTenures g memory f → IsKeptFactSoFar f memory []
kept_fact_start {memory = memory} under = record {
  released = memory;
  before = [];
  since = [];
  kept = under.first;
  all = refl;
  same = λ a mine. refl;
  answers = tt;
  holder = λ q has. refl;
  others = λ q none. refl;
  free = λ none. refl;
}

-- what a load answers in a history that replays
pub kept_fact_replayed : {memory : List ℕ} {h : List Event} (n p : ℕ) (k : Kind) → Replays memory h → Does h n p k
    → AnswersReplayMemory (memory_after memory (take n h)) k
kept_fact_replayed n p (Load a v) replays does = replays n p a v does
kept_fact_replayed n p _ replays does = tt

-- each tenure that has ended preserves the fact
abbrev pub PreservesKeptFactEachTenure : KeptFact → List Kind → Type 0
PreservesKeptFactEachTenure f ks = (i : ℕ) → slice_get ks i ≡ Some (Release f.lock) → TenurePreserves f (tenure_after f.words f.lock (take i ks))

-- the premises of the law
pub record HasKeptFact (s : Sizes) (g : PhaseGuards) (memory : List ℕ) (h : List Event) (f : KeptFact) : Type 0 where
  pub well : WellFormed s h
  pub keeps : AllKeepToPhaseGuards g h
  pub replays : Replays memory h
  pub under : IsFactUnderTenures g memory f
  pub each : (p : ℕ) → p < s.processors → PreservesKeptFactEachTenure f (deeds (events_of h p))

-- one event more of it
kept_fact_next : {s : Sizes} {g : PhaseGuards} {memory : List ℕ} {h : List Event} {f : KeptFact} → HasKeptFact s g memory h f
    → (n p : ℕ) (k : Kind) → Does h n p k → IsKeptFactSoFar f memory (take n h) → IsKeptFactSoFar f memory (take n h ++ event p k ∷ [])
kept_fact_next {s} {g} {memory} {h} {f} x n p k does was = elim (kept_fact_part f.words f.lock k) [
  | inl lock ↦ elim lock [
    | inl is ↦ subst (λ i. IsKeptFactSoFar f memory (take n h ++ event p i ∷ [])) (sym is) (elim (cases_Bool (kept_fact_has_lock f.lock (take n h) p)) [
      | inl has ↦ kept_fact_release (take n h) p was alone has (preserves is)
      | inr none ↦ kept_fact_unheld (take n h) p was none
    ])
    | inr is ↦ subst (λ i. IsKeptFactSoFar f memory (take n h ++ event p i ∷ [])) (sym is)
        (kept_fact_acquire (take n h) p was (free is))
  ]
  | inr rest ↦ elim rest [
    | inl among ↦ kept_fact_access (take n h) p k was alone (held among) among (kept_fact_replayed n p k x.replays does)
    | inr apart ↦ kept_fact_apart (take n h) p k was apart
  ]
]
  where
    alone : KeptFactHasOneHolder f.lock (take n h)
    alone q r a b = holding_release_alone s (take n h) (well_formed_stays_take s h n x.well) q r f.lock (deed_history_holds f.lock q (take n h) a)
        (deed_history_holds f.lock r (take n h) b)

    preserves : k ≡ Release f.lock → TenurePreserves f (kept_fact_open_tenure f.words f.lock (take n h) p)
    preserves is =
        let found = guarded_deed_at h n p (Release f.lock) (subst (λ i. Does h n p i) is does) refl in
        subst (λ ks. TenurePreserves f (tenure_after f.words f.lock ks)) found.front
        (x.each p (x.well n (event p k) does).processor (length (deeds (events_of (take n h) p))) found.there)

    free : k ≡ Acquire f.lock → (q : ℕ) → kept_fact_has_lock f.lock (take n h) q ≡ false
    free is q = elim (cases_Bool (kept_fact_has_lock f.lock (take n h) q)) [
      | inl has ↦ absurd ((x.well n (event p (Acquire f.lock)) (subst (λ i. Does h n p i) is does)).allowed.2.free q
          (deed_history_holds f.lock q (take n h) has))
      | inr none ↦ none
    ]

    held : (among : IsKeptFactAccess f.words k) → kept_fact_has_lock f.lock (take n h) p ≡ true
    held among =
        subst (λ o. phase_guard_lets_access o p (phase_guard_holds_after (deeds (events_of (take n h) p))) (event_stores k) ≡ true)
        (x.under.under (event_count event_departs (take n h) p) among.address among.mine)
        (guarded_deed_allowed_at g h n p among.address (x.keeps p) (record { kind = k; does = does; address = among.at }))

-- and all of them
pub kept_fact_through : {s : Sizes} {g : PhaseGuards} {memory : List ℕ} {h : List Event} {f : KeptFact} → HasKeptFact s g memory h f
    → (n : ℕ) → n ≤ length h → IsKeptFactSoFar f memory (take n h)
kept_fact_through {g = g} x zero le = kept_fact_start {g = g} x.under
kept_fact_through {memory = memory} {h = h} {f = f} x (suc n) le =
    let e = get_or h n (event 0 Arrive) in
    let at : slice_get h n ≡ Some e = slice_get-get_or h n (event 0 Arrive) (omega arith) in
    subst (IsKeptFactSoFar f memory) (sym (slice_take-suc_at h n e at))
    (kept_fact_next x n e.processor e.kind at (kept_fact_through x n (omega arith)))

pub kept_law : (f : KeptFact) → TenuresKeepLaw f
kept_law f s g memory h well keeps replays under each =
    subst (f.holds (memory_after memory h)) (sym all)
    (under.own last.released (memory_after memory h) last.before
    (λ a mine. sym (last.same a mine ∙ ap (λ es. slice_get (written replay_memory_write last.released es) a) none)) last.kept)
  where
    last : IsKeptFactSoFar f memory h
    last = subst (IsKeptFactSoFar f memory) (take-length h)
        (kept_fact_through (record { well = well; keeps = keeps; replays = replays; under = under; each = λ p less. (each p less).each }) (length h)
        (le_refl (length h)))

    none : last.since ≡ []
    none = last.free (λ q. elim (cases_lt q s.processors) [
      | inl less ↦ (each q less).ended
      | inr past ↦ ap (λ es. phase_guard_holds_after (deeds es) f.lock) (program_threads_nobody_past s h q well past)
    ])

    all : tenure_accesses_among f.words (deeds h) ≡ last.before
    all = last.all ∙ ap (λ es. last.before ++ es) none ∙ append-nil last.before
