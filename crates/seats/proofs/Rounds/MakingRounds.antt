-- What a program shows of its own calls: that it has made its words, round by round.
use Rattle.std.proofs.Common.{ℕ, ◌≡◌, ◌≢◌, ◌+◌, ◌<◌, ◌≤◌, ◌⊎◌, inl, inr, Bool, true, false, Some, List, [], ◌∷◌, ◌++◌, length, slice_get, slice_set, suc, refl, sym, ap, subst, ◌∙◌, append-nil, append_assoc, arith}
use Rattle.std.specs.Prelude.{◌==◌, if◌then◌else◌, count_by, nat_le, nat_lt}
use Rattle.std.proofs.lemmas.Bool.{cases_eq, cases_lt, eq-eqb, ne_eqb}
use Rattle.std.proofs.lemmas.Bool.Decides.{nat_tests}
use Rattle.base.specs.LastWrite.{written, wrote}
use Rattle.base.proofs.LastWritten.{length-written, written-append}
use Rattle.base.proofs.SliceSets.{slice_get-set_other, slice_get-set_same}
use Rattle.base.proofs.SlicesAndCounts.{slice_count_by-append}
use Rattle.journal.specs.declared.event.Kind.{Kind}
use Rattle.journal.specs.declared.event.Kind.TheVariants.{Load, Store, Arrive, Depart}
use Rattle.journal.specs.Events.{event_departs}
use Rattle.journal.specs.ReplayMemory.{replay_memory_write}
use Rattle.cluster.specs.Copies.Local.{Local}
use Rattle.seats.specs.PhaseGuards.{guard_phase_after}
use Rattle.seats.specs.Rounds.{HasMade, HasMadeRounds, IsMaking, Rounds, round_part_in, round_part_on, all_access, is_access, is_round_acquire, round_then}
use Rattle.seats.specs.Loads.{LoadsValue, LoadsWithin}
use Rattle.seats.specs.SeatCalls.{AccessesPage, HasDone}
use Rattle.seats.specs.Sitting.{seat_deeds}
use Rattle.seats.specs.Tables.{table_range_has}
use Rattle.seats.specs.Tenures.{TenureAnswersFrom}
use Rattle.seats.proofs.KeptByPrograms.{kept_by_program_both}
use Rattle.seats.proofs.Rounds.PhaseAccesses.{round_part_on-append, phase_accesses_later, and_false}

-- accesses are all of their phase
making_round_accesses_all : (n : ℕ) (ks : List Kind) → all_access ks ≡ true → round_part_on n n ks ≡ ks
making_round_accesses_all n [] all = refl
making_round_accesses_all n (k ∷ ks) all =
    let parts = kept_by_program_both (is_access k) (all_access ks) all in
    let here = eq-eqb n n refl in
    let stays : round_then n k ≡ n = access_stays n k parts.0 in
    rw (here, parts.0) (ap (λ m. k ∷ round_part_on n m ks) stays ∙ ap (λ es. k ∷ es) (making_round_accesses_all n ks parts.1))
  where
    access_stays : (n : ℕ) (k : Kind) → is_access k ≡ true → round_then n k ≡ n
    access_stays n (Load a v) e = refl
    access_stays n (Store a v) e = refl
    access_stays n _ e = absurd (cc)

-- none of these are of an earlier phase
making_round_accesses_before : (n m : ℕ) (ks : List Kind) → n < m → round_part_on n m ks ≡ []
making_round_accesses_before n m [] less = refl
making_round_accesses_before n m (k ∷ ks) less =
    let no : (m == n) ≡ false = ne_eqb m n (λ e. omega (arith, less, e)) in
    rw no (making_round_accesses_before n (round_then m k) ks (later (event_departs k) refl))
  where
    later : (b : Bool) → event_departs k ≡ b → n < round_then m k
    later true e = let is : round_then m k ≡ suc m = rw e refl in omega (arith, is, less)
    later false e = let is : round_then m k ≡ m = rw e refl in omega (arith, is, less)

-- no departure and no lock is an access
making_round_accesses_without : (is : Kind → Bool) → ((k : Kind) → is_access k ≡ true → is k ≡ false) → (ks : List Kind)
    → all_access ks ≡ true → count_by is ks ≡ 0
making_round_accesses_without is none [] all = refl
making_round_accesses_without is none (k ∷ ks) all =
    let parts = kept_by_program_both (is_access k) (all_access ks) all in
    let both : count_by is (k ∷ ks) ≡ count_by is (k ∷ []) + count_by is ks = slice_count_by-append is (k ∷ []) ks in
    let first : count_by is (k ∷ []) ≡ 0 = rw (none k parts.0) refl in
    let rest = making_round_accesses_without is none ks parts.1 in
    omega (arith, both, first, rest)

making_round_no_departure : (k : Kind) → is_access k ≡ true → event_departs k ≡ false
making_round_no_departure (Load a v) e = refl
making_round_no_departure (Store a v) e = refl
making_round_no_departure _ e = absurd (cc)

making_round_no_acquire : (k : Kind) → is_access k ≡ true → is_round_acquire k ≡ false
making_round_no_acquire (Load a v) e = refl
making_round_no_acquire (Store a v) e = refl
making_round_no_acquire _ e = absurd (cc)

-- no round yet
pub making_rounds_none : (r : Rounds) (p : ℕ) → HasMadeRounds r p 0 []
making_rounds_none r p = record { ended = refl; each = λ m less. absurd (omega (arith, less)); since = refl; unlocked = refl }

making_round_no_ends : (i m : ℕ) → round_part_on i m (Arrive ∷ Depart ∷ []) ≡ []
making_round_no_ends i m = let none = and_false (m == i) false refl in rw none refl

-- one round more
making_rounds_push : {r : Rounds} {p n : ℕ} (ks mine : List Kind) → HasMadeRounds r p n ks → HasMade r n (r.makes n p) mine
    → HasMadeRounds r p (suc n) ((ks ++ mine) ++ Arrive ∷ Depart ∷ [])
making_rounds_push {r} {p} {n} ks mine was made = record {
  ended = slice_count_by-append event_departs (ks ++ mine) (Arrive ∷ Depart ∷ [])
      ∙ (let both = slice_count_by-append event_departs ks mine in let old = was.ended in omega (arith, both, old, goes));
  each = λ m less. elim (cases_eq m n) [
    | inl is ↦ subst (λ i. HasMade r i (r.makes i p) (round_part_in i all)) (sym is) (subst (HasMade r n (r.makes n p)) (sym now) made)
    | inr apart ↦ subst (HasMade r m (r.makes m p)) (sym (before m (omega (arith, less, apart)))) (was.each m (omega (arith, less, apart)))
  ];
  since = parts (suc n)
      ∙ ap (λ es. es ++ round_part_on (suc n) n mine) (phase_accesses_later (suc n) 0 ks (let old = was.ended in omega (arith, old)))
      ∙ phase_accesses_later (suc n) n mine (omega (arith, goes));
  unlocked = slice_count_by-append is_round_acquire (ks ++ mine) (Arrive ∷ Depart ∷ [])
      ∙ (let both = slice_count_by-append is_round_acquire ks mine in let old = was.unlocked in
      let none = making_round_accesses_without is_round_acquire making_round_no_acquire mine made.accesses in omega (arith, both, old, none));
}
  where
    all : List Kind
    all = (ks ++ mine) ++ Arrive ∷ Depart ∷ []

    goes : count_by event_departs mine ≡ 0
    goes = making_round_accesses_without event_departs making_round_no_departure mine made.accesses

    parts : (i : ℕ) → round_part_in i ((ks ++ mine) ++ Arrive ∷ Depart ∷ []) ≡ round_part_in i ks ++ round_part_on i n mine
    parts i =
        let begun : 0 + guard_phase_after ks ≡ n = let old = was.ended in omega (arith, old) in
        round_part_on-append i 0 (ks ++ mine) (Arrive ∷ Depart ∷ [])
        ∙ ap (λ es. round_part_on i 0 (ks ++ mine) ++ es) (making_round_no_ends i (0 + guard_phase_after (ks ++ mine)))
        ∙ append-nil (round_part_on i 0 (ks ++ mine))
        ∙ round_part_on-append i 0 ks mine
        ∙ ap (λ m. round_part_in i ks ++ round_part_on i m mine) begun

    now : round_part_in n ((ks ++ mine) ++ Arrive ∷ Depart ∷ []) ≡ mine
    now = parts n ∙ ap (λ es. es ++ round_part_on n n mine) was.since ∙ making_round_accesses_all n mine made.accesses

    before : (m : ℕ) → m < n → round_part_in m ((ks ++ mine) ++ Arrive ∷ Depart ∷ []) ≡ round_part_in m ks
    before m less =
        parts m ∙ ap (λ es. round_part_in m ks ++ es) (making_round_accesses_before m n mine less) ∙ append-nil (round_part_in m ks)

-- a round is made, and all meet at the barrier
pub making_round_done : {r : Rounds} {n lo hi : ℕ} {a m b : Local} (p : ℕ) → HasMadeRounds r p n (seat_deeds a) → IsMaking r n lo hi a m
    → ((i : ℕ) → table_range_has lo hi i ≡ r.makes n p i) → HasDone m b (Arrive ∷ Depart ∷ [])
    → HasMadeRounds r p (suc n) (seat_deeds b)
making_round_done {r} {n} {lo} {hi} {a} {m} {b} p was making same met =
    subst (HasMadeRounds r p (suc n))
    (sym (met.besides.deeds_are ∙ ap (λ es. es ++ Arrive ∷ Depart ∷ []) making.deeds_are))
    (making_rounds_push (seat_deeds a) making.accesses was (record {
      accesses = making.made.accesses;
      each = λ memory i long answers. making.made.each memory i long answers
          ∙ ap (λ (c : Bool). slice_get (if c then r.after n memory else memory) i) (same i);
    }))

pub making_round_between_in : (from to a : ℕ) → from ≤ a → a < to → table_range_has from to a ≡ true
making_round_between_in from to a le less =
    let low : nat_le from a ≡ true = grind (arith, nat_tests) in
    let high : nat_lt a to ≡ true = grind (arith, nat_tests) in
    rw (low, high) refl

pub making_round_between_out : (from to a : ℕ) → (a < from) ⊎ (to ≤ a) → table_range_has from to a ≡ false
making_round_between_out from to a (inl less) = let low : nat_le from a ≡ false = grind (arith, nat_tests) in rw low refl
making_round_between_out from to a (inr past) =
    let high : nat_lt a to ≡ false = grind (arith, nat_tests) in and_false (nat_le from a) (nat_lt a to) high

-- nothing is made yet
pub making_round_nothing : (r : Rounds) (n lo : ℕ) (m : Local) → IsMaking r n lo lo m m
making_round_nothing r n lo m = record {
  accesses = [];
  deeds_are = sym (append-nil (seat_deeds m));
  made = record {
    accesses = refl;
    each = λ memory a long answers. let none = making_round_between_out lo lo a (elim (cases_lt a lo) [ inl less ↦ inl less | inr past ↦ inr past ]) in
        rw none refl;
  };
}

all_access-append : (ks ls : List Kind) → all_access ks ≡ true → all_access ls ≡ true → all_access (ks ++ ls) ≡ true
all_access-append [] ls first second = second
all_access-append (k ∷ ks) ls first second =
    let parts = kept_by_program_both (is_access k) (all_access ks) first in rw (parts.0) (all_access-append ks ls parts.1 second)

-- loads are accesses, which write nothing
making_round_loads_access : (from to : ℕ) (ls : List Kind) → LoadsWithin from to ls → all_access ls ≡ true
making_round_loads_access from to [] within = refl
making_round_loads_access from to (Load a v ∷ ls) within = making_round_loads_access from to ls within.1
making_round_loads_access from to (_ ∷ ls) within = absurd within

making_round_loads_written : (from to : ℕ) (memory : List ℕ) (ls : List Kind) → LoadsWithin from to ls → written replay_memory_write memory ls ≡ memory
making_round_loads_written from to memory [] within = refl
making_round_loads_written from to memory (Load a v ∷ ls) within = making_round_loads_written from to memory ls within.1
making_round_loads_written from to memory (_ ∷ ls) within = absurd within

-- they are answered the same by memories that agree there
making_round_loads_same : (from to : ℕ) (m n : List ℕ) (ls : List Kind) → LoadsWithin from to ls
    → ((a : ℕ) → from ≤ a → a < to → slice_get m a ≡ slice_get n a) → TenureAnswersFrom m ls → TenureAnswersFrom n ls
making_round_loads_same from to m n [] within agree answers = tt
making_round_loads_same from to m n (Load a v ∷ ls) within agree answers =
    (sym (agree a within.0.0 within.0.1) ∙ answers.0, making_round_loads_same from to m n ls within.1 agree answers.1)
making_round_loads_same from to m n (_ ∷ ls) within agree answers = absurd within

-- answers of these and then of those
making_round_answers_parts : (memory : List ℕ) (ks ls : List Kind) → TenureAnswersFrom memory (ks ++ ls)
    → TenureAnswersFrom memory ks × TenureAnswersFrom (written replay_memory_write memory ks) ls
making_round_answers_parts memory [] ls answers = (tt, answers)
making_round_answers_parts memory (k ∷ ks) ls answers =
    let rest = making_round_answers_parts (wrote memory (replay_memory_write k)) ks ls answers.1 in ((answers.0, rest.0), rest.1)

-- one word more, worked out from words that aren't made in this round
making_round_word_push : {r : Rounds} {n lo hi v : ℕ} {ks : List Kind} (from to : ℕ) (ls : List Kind) → HasMade r n (table_range_has lo hi) ks
    → (lo ≤ hi) × (hi < r.words) × ((to ≤ lo) ⊎ (hi ≤ from)) → LoadsWithin from to ls
    → ((memory : List ℕ) → length memory ≡ r.words → TenureAnswersFrom memory ls → slice_get (r.after n memory) hi ≡ Some v)
    → HasMade r n (table_range_has lo (suc hi)) ((ks ++ ls) ++ Store hi v ∷ [])
making_round_word_push {r} {n} {lo} {hi} {v} {ks} from to ls was place within value = record {
  accesses = all_access-append (ks ++ ls) (Store hi v ∷ []) (all_access-append ks ls was.accesses (making_round_loads_access from to ls within)) refl;
  each = λ memory a long answers. each memory a long
      (making_round_answers_parts memory ks ls (making_round_answers_parts memory (ks ++ ls) (Store hi v ∷ []) answers).0);
}
  where
    each : (memory : List ℕ) (a : ℕ) → length memory ≡ r.words
        → TenureAnswersFrom memory ks × TenureAnswersFrom (written replay_memory_write memory ks) ls
        → slice_get (written replay_memory_write memory ((ks ++ ls) ++ Store hi v ∷ [])) a
        ≡ slice_get (if table_range_has lo (suc hi) a then r.after n memory else memory) a
    each memory a long answers =
        ap (λ m. slice_get m a) (written-append replay_memory_write memory (ks ++ ls) (Store hi v ∷ [])
        ∙ ap (λ m. slice_set m hi v) (written-append replay_memory_write memory ks ls ∙ making_round_loads_written from to made ls within))
        ∙ at
      where
        made : List ℕ
        made = written replay_memory_write memory ks

        unmade : (b : ℕ) → from ≤ b → b < to → slice_get made b ≡ slice_get memory b
        unmade b le less =
            let out : table_range_has lo hi b ≡ false = making_round_between_out lo hi b (elim place.2 [
              | inl before ↦ inl (omega (arith, before, less))
              | inr behind ↦ inr (omega (arith, behind, le))
            ]) in
            was.each memory b long answers.0 ∙ rw out refl

        at : slice_get (slice_set made hi v) a ≡ slice_get (if table_range_has lo (suc hi) a then r.after n memory else memory) a
        at = elim (cases_eq a hi) [
          | inl is ↦ subst (λ i. slice_get (slice_set made hi v) i ≡ slice_get (if table_range_has lo (suc hi) i then r.after n memory else memory) i)
              (sym is) (let here = making_round_between_in lo (suc hi) hi place.0 (omega arith) in
              rw here (slice_get-set_same made hi v (let all = length-written replay_memory_write memory ks in let in_words = place.1 in omega (arith, all, long, in_words))
              ∙ sym (value memory long (making_round_loads_same from to made memory ls within unmade answers.1))))
          | inr apart ↦ slice_get-set_other made hi a v apart ∙ was.each memory a long answers.0
              ∙ ap (λ (c : Bool). slice_get (if c then r.after n memory else memory) a) (same apart)
        ]
          where
            same : a ≢ hi → table_range_has lo hi a ≡ table_range_has lo (suc hi) a
            same apart = elim (cases_lt a lo) [
              | inl before ↦ making_round_between_out lo hi a (inl before) ∙ sym (making_round_between_out lo (suc hi) a (inl before))
              | inr le ↦ elim (cases_lt a hi) [
                | inl less ↦ making_round_between_in lo hi a le less ∙ sym (making_round_between_in lo (suc hi) a le (omega (arith, less)))
                | inr past ↦ making_round_between_out lo hi a (inr past) ∙ sym (making_round_between_out lo (suc hi) a (inr (omega (arith, past, apart))))
              ]
            ]

-- the same of the processor's calls
pub making_round_next : {r : Rounds} {n lo hi v page from to : ℕ} {value : List ℕ → ℕ} {old m c d : Local} → IsMaking r n lo hi old m
    → (lo ≤ hi) × (hi < r.words) × ((to ≤ lo) ⊎ (hi ≤ from)) → LoadsValue from to value m c v
    → AccessesPage c d page (Store hi v ∷ [])
    → ((memory : List ℕ) → length memory ≡ r.words → slice_get (r.after n memory) hi ≡ Some (value memory))
    → IsMaking r n lo (suc hi) old d
making_round_next {hi = hi} {v = v} {from = from} {to = to} {old = old} was place loaded stored value = record {
  accesses = (was.accesses ++ loaded.loads) ++ Store hi v ∷ [];
  deeds_are = stored.deeds_are
      ∙ ap (λ es. es ++ Store hi v ∷ []) (loaded.deeds_are ∙ ap (λ es. es ++ loaded.loads) was.deeds_are
      ∙ append_assoc (seat_deeds old) was.accesses loaded.loads)
      ∙ append_assoc (seat_deeds old) (was.accesses ++ loaded.loads) (Store hi v ∷ []);
  made = making_round_word_push from to loaded.loads was.made place loaded.within
      (λ memory long answers. value memory long ∙ ap Some (loaded.value_is memory answers));
}

-- a value known beforehand
pub making_round_loads_none : {X : Type 0} (from to : ℕ) (f : List ℕ → X) (m : Local) (x : X) → ((memory : List ℕ) → f memory ≡ x)
    → LoadsValue from to f m m x
making_round_loads_none from to f m x is = record {
  loads = [];
  within = tt;
  deeds_are = sym (append-nil (seat_deeds m));
  value_is = λ memory answers. is memory;
}

-- another way to say it
pub loads_as : {X : Type 0} {from to : ℕ} {f : List ℕ → X} {a b : Local} {x : X} (g : List ℕ → X) (y : X)
    → LoadsValue from to f a b x → ((memory : List ℕ) → g memory ≡ f memory) → y ≡ x → LoadsValue from to g a b y
loads_as g y loaded same is = record {
  loads = loaded.loads;
  within = loaded.within;
  deeds_are = loaded.deeds_are;
  value_is = λ memory answers. same memory ∙ loaded.value_is memory answers ∙ sym is;
}

-- two values
pub loads_both : {X Y Z : Type 0} {from to : ℕ} {f : List ℕ → X} {g : List ℕ → Y} {a b c : Local} {x : X} {y : Y} (k : X → Y → Z)
    → LoadsValue from to f a b x → LoadsValue from to g b c y → LoadsValue from to (λ memory. k (f memory) (g memory)) a c (k x y)
loads_both {from = from} {to = to} {a = a} {x = x} {y = y} k first second = record {
  loads = first.loads ++ second.loads;
  within = within_both first.loads second.loads first.within second.within;
  deeds_are = second.deeds_are ∙ ap (λ es. es ++ second.loads) first.deeds_are ∙ append_assoc (seat_deeds a) first.loads second.loads;
  value_is = λ memory answers.
      (let parts = making_round_answers_parts memory first.loads second.loads answers in
      let now = subst (λ m. TenureAnswersFrom m second.loads) (making_round_loads_written from to memory first.loads first.within) parts.1 in
      let one = first.value_is memory parts.0 in let two = second.value_is memory now in cc);
}
  where
    within_both : (ks ls : List Kind) → LoadsWithin from to ks → LoadsWithin from to ls → LoadsWithin from to (ks ++ ls)
    within_both [] ls one two = two
    within_both (Load a v ∷ ks) ls one two = (one.0, within_both ks ls one.1 two)
    within_both (_ ∷ ks) ls one two = absurd one
