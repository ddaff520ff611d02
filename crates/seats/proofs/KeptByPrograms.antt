-- What a program that keeps a lock's fact has to show.
use Rattle.std.proofs.Common.{ℕ, ◌≡◌, ◌+◌, ◌<◌, inl, inr, Bool, true, false, Option, Some, None, List, [], ◌∷◌, ◌++◌, length, take, replicate, slice_get, zero, suc, refl, sym, ap, subst, ◌∙◌, append-nil, append_assoc, arith}
use Rattle.std.specs.Prelude.{◌&&◌}
use Rattle.std.proofs.lemmas.Bool.{eq-eqb}
use Rattle.std.proofs.lemmas.List.{take-append-le}
use Rattle.std.proofs.lemmas.Option.{none-some, slice_get_cases}
use Rattle.std.proofs.Math.Seq.{take-length}
use Rattle.base.proofs.SlicesAndCounts.{slice_append_cases, slice_get-append_right, slice_get-last}
use Rattle.journal.specs.declared.event.Event.{Event}
use Rattle.journal.specs.declared.event.Kind.{Kind}
use Rattle.journal.specs.declared.event.Kind.TheVariants.{Release}
use Rattle.journal.specs.Events.{event_address, events_of}
use Rattle.journal.specs.ReplayMemory.{Replays, memory_after}
use Rattle.journal.specs.Log.{Log}
use Rattle.journal.specs.Sizes.{Sizes, addresses}
use Rattle.cluster.specs.Copies.Local.{Local}
use Rattle.cluster.specs.FaithfulJournals.{IsJournalOf}
use Rattle.seats.specs.Deeds.{deeds}
use Rattle.seats.specs.Sitting.{seat_deeds}
use Rattle.seats.specs.PhaseGuards.{phase_guard_held_on}
use Rattle.seats.specs.ProgramRuns.{IsProgramRun}
use Rattle.seats.specs.declared.guard.Guard.{Guard}
use Rattle.seats.specs.declared.guard.Guard.TheVariants.{Under}
use Rattle.seats.specs.Tables.{GuardTables, IsPutInTable, TablesOpenNothing, table_guard, guards_of, table_range_has, table_at}
use Rattle.seats.specs.Tenures.{HasTenureReadFact, IsBetweenTenures, IsFactUnderTenures, KeptFact, TenurePreserves, PreservesByTenures, ReadsKept, tenure_accesses_among, are_tenure_accesses, tenure_has_address, tenure_after, tenure_on, tenure_of_lock}
use Rattle.seats.proofs.DeedHistories.{phase_guard_held_on-append}
use Rattle.seats.proofs.KeptFacts.{IsKeptFactAccess, kept_fact_access_held, kept_fact_access_tenure, kept_law, tenure_on-append}

pub kept_by_program_both : (a b : Bool) → (a && b) ≡ true → (a ≡ true) × (b ≡ true)
kept_by_program_both true b e = (refl, e)
kept_by_program_both false b e = absurd (cc)

-- what accesses one of these words
kept_by_program_access : (words : ℕ → Bool) (k : Kind) (o : Option ℕ) → event_address k ≡ o → tenure_has_address words o ≡ true → IsKeptFactAccess words k
kept_by_program_access words k None is mine = absurd (cc)
kept_by_program_access words k (Some a) is mine = record { address = a; at = is; mine = mine }

-- accesses leave the lock
kept_by_program_lock_among : (words : ℕ → Bool) (l : ℕ) (ks ls : List Kind) (b : Bool) → are_tenure_accesses words ks ≡ true
    → phase_guard_held_on (ks ++ ls) l b ≡ phase_guard_held_on ls l b
kept_by_program_lock_among words l [] ls b all = refl
kept_by_program_lock_among words l (k ∷ ks) ls b all =
    let parts = kept_by_program_both (tenure_has_address words (event_address k)) (are_tenure_accesses words ks) all in
    ap (phase_guard_held_on (ks ++ ls) l) (kept_fact_access_held words k (kept_by_program_access words k (event_address k) refl parts.0) l b)
    ∙ kept_by_program_lock_among words l ks ls b parts.1

-- and are the tenure's
kept_by_program_tenure_among : (words : ℕ → Bool) (l : ℕ) (ks ls so_far : List Kind) → are_tenure_accesses words ks ≡ true
    → tenure_on words l so_far (ks ++ ls) ≡ tenure_on words l (so_far ++ ks) ls
kept_by_program_tenure_among words l [] ls so_far all = ap (λ es. tenure_on words l es ls) (sym (append-nil so_far))
kept_by_program_tenure_among words l (k ∷ ks) ls so_far all =
    let parts = kept_by_program_both (tenure_has_address words (event_address k)) (are_tenure_accesses words ks) all in
    ap (λ es. tenure_on words l es (ks ++ ls)) (kept_fact_access_tenure words k (kept_by_program_access words k (event_address k) refl parts.0) l so_far)
    ∙ kept_by_program_tenure_among words l ks ls (so_far ++ k ∷ []) parts.1
    ∙ ap (λ es. tenure_on words l es ls) (append_assoc so_far (k ∷ []) ks)

-- up to the release that ends it
kept_by_program_tenure_up_to : (words : ℕ → Bool) (l : ℕ) (ks so_far : List Kind) → are_tenure_accesses words ks ≡ true → (m : ℕ)
    → slice_get (ks ++ Release l ∷ []) m ≡ Some (Release l)
    → tenure_on words l so_far (take m (ks ++ Release l ∷ [])) ≡ so_far ++ ks
kept_by_program_tenure_up_to words l [] so_far all zero at = sym (append-nil so_far)
kept_by_program_tenure_up_to words l [] so_far all (suc m) at = absurd (none-some (Release l) at)
kept_by_program_tenure_up_to words l (k ∷ ks) so_far all zero at =
    let parts = kept_by_program_both (tenure_has_address words (event_address k)) (are_tenure_accesses words ks) all in
    let is : k ≡ Release l = cc in
    let none : false ≡ true = subst (λ i. tenure_has_address words (event_address i) ≡ true) is parts.0 in
    absurd (cc)
kept_by_program_tenure_up_to words l (k ∷ ks) so_far all (suc m) at =
    let parts = kept_by_program_both (tenure_has_address words (event_address k)) (are_tenure_accesses words ks) all in
    ap (λ es. tenure_on words l es (take m (ks ++ Release l ∷ [])))
    (kept_fact_access_tenure words k (kept_by_program_access words k (event_address k) refl parts.0) l so_far)
    ∙ kept_by_program_tenure_up_to words l ks (so_far ++ k ∷ []) parts.1 m at ∙ append_assoc so_far (k ∷ []) ks

-- the front of a whole tenure before its release
kept_by_program_tenure_of_whole : (words : ℕ → Bool) (l : ℕ) (ks : List Kind) → are_tenure_accesses words ks ≡ true → (m : ℕ)
    → slice_get (tenure_of_lock l ks) m ≡ Some (Release l) → tenure_on words l [] (take m (tenure_of_lock l ks)) ≡ ks
kept_by_program_tenure_of_whole words l ks all zero at = absurd (cc)
kept_by_program_tenure_of_whole words l ks all (suc zero) at = absurd (cc)
kept_by_program_tenure_of_whole words l ks all (suc (suc m)) at = kept_by_program_tenure_up_to words l ks [] all m at

take-past : (xs ys : List Kind) (m : ℕ) → take (length xs + m) (xs ++ ys) ≡ xs ++ take m ys
take-past [] ys m = ap (λ n. take n ys) (let e : 0 + m ≡ m = omega arith in e)
take-past (x ∷ xs) ys m =
    ap (λ n. take n (x ∷ xs ++ ys)) (let e : suc (length xs) + m ≡ suc (length xs + m) = omega arith in e)
    ∙ ap (λ zs. x ∷ zs) (take-past xs ys m)

-- a whole tenure behind what has none open, up to its release
kept_by_program_tenure_behind : (f : KeptFact) (ks mid : List Kind) → tenure_after f.words f.lock ks ≡ [] → are_tenure_accesses f.words mid ≡ true → (m : ℕ)
    → slice_get (tenure_of_lock f.lock mid) m ≡ Some (Release f.lock)
    → tenure_after f.words f.lock (take (length ks + m) (ks ++ tenure_of_lock f.lock mid)) ≡ mid
kept_by_program_tenure_behind f ks mid closed all m at =
    ap (tenure_after f.words f.lock) (take-past ks (tenure_of_lock f.lock mid) m)
    ∙ tenure_on-append f.words f.lock ks (take m (tenure_of_lock f.lock mid)) []
    ∙ ap (λ es. tenure_on f.words f.lock es (take m (tenure_of_lock f.lock mid))) closed
    ∙ kept_by_program_tenure_of_whole f.words f.lock mid all m at

-- one more whole tenure, which preserves the fact
pub between_tenure : {f : KeptFact} (ks mid : List Kind) → IsBetweenTenures f ks → are_tenure_accesses f.words mid ≡ true
    → TenurePreserves f mid → IsBetweenTenures f (ks ++ tenure_of_lock f.lock mid)
between_tenure {f} ks mid was all preserves = record {
  preserves = record {
    each = λ i at. elim (slice_append_cases ks (tenure_of_lock f.lock mid) i (Release f.lock) at) [
      | inl old ↦ subst (λ es. TenurePreserves f (tenure_after f.words f.lock es))
          (sym (take-append-le i ks (tenure_of_lock f.lock mid) (let less = old.0 in omega arith)))
          (was.preserves.each i old.1)
      | inr new ↦ subst (λ n. TenurePreserves f (tenure_after f.words f.lock (take n (ks ++ tenure_of_lock f.lock mid)))) (sym new.1)
          (subst (TenurePreserves f) (sym (kept_by_program_tenure_behind f ks mid was.closed all new.0 new.2)) preserves)
    ];
    ended = phase_guard_held_on-append ks (tenure_of_lock f.lock mid) f.lock false
        ∙ kept_by_program_lock_among f.words f.lock mid (Release f.lock ∷ []) _ all ∙ rw (eq-eqb f.lock f.lock refl) refl;
  };
  closed = tenure_on-append f.words f.lock ks (tenure_of_lock f.lock mid) []
      ∙ ap (λ es. tenure_on f.words f.lock es (tenure_of_lock f.lock mid)) was.closed
      ∙ kept_by_program_tenure_among f.words f.lock mid (Release f.lock ∷ []) [] all ∙ rw (eq-eqb f.lock f.lock refl) refl;
}

-- what it loaded is of a memory of which the fact held, if that is so of each tenure
pub kept_by_program_read_behind : {f : KeptFact} (ks mid : List Kind) → IsBetweenTenures f ks → are_tenure_accesses f.words mid ≡ true
    → ReadsKept f (ks ++ tenure_of_lock f.lock mid) → HasTenureReadFact f mid
kept_by_program_read_behind {f} ks mid was all reads =
    let place = suc (suc (length mid)) in
    let here : slice_get (tenure_of_lock f.lock mid) place ≡ Some (Release f.lock) = slice_get-last mid (Release f.lock) in
    subst (HasTenureReadFact f) (kept_by_program_tenure_behind f ks mid was.closed all place here)
    (reads (length ks + place) (slice_get-append_right ks (tenure_of_lock f.lock mid) place ∙ here))

-- a tenure that leaves what the lock keeps as it was: it has read a memory of which the fact held, if that is so of each tenure
pub read_tenure : {f : KeptFact} (a n : Local) (mid : List Kind) → IsBetweenTenures f (seat_deeds a)
    → seat_deeds n ≡ seat_deeds a ++ tenure_of_lock f.lock mid → are_tenure_accesses f.words mid ≡ true → TenurePreserves f mid
    → IsBetweenTenures f (seat_deeds n) × (ReadsKept f (seat_deeds n) → HasTenureReadFact f mid)
read_tenure {f} a n mid was done all preserves = (
  subst (IsBetweenTenures f) (sym done) (between_tenure (seat_deeds a) mid was all preserves),
  λ reads. kept_by_program_read_behind (seat_deeds a) mid was all (subst (ReadsKept f) done reads),
)

-- its replies are those of one flat memory
pub kept_by_program_flat_run : {X : Type 0} {g : GuardTables} {did : ℕ → List Kind → X → Type 0} {s : Sizes} {answers : List X} {j : Log}
    (ran : IsProgramRun g did s answers j) → TablesOpenNothing g → Replays (replicate (addresses s) 0) ran.history
kept_by_program_flat_run {s = s} ran closed = subst (Replays (replicate (addresses s) 0)) (take-length ran.history)
    (ran.faithful.flat (length ran.history) (λ i k less race. ran.race_free closed i k race))

-- each of its processors answered, and did what the program says
pub kept_by_program_answered : {X : Type 0} {g : GuardTables} {did : ℕ → List Kind → X → Type 0} {s : Sizes} {answers : List X} {j : Log}
    (ran : IsProgramRun g did s answers j) (p : ℕ) → p < s.processors → (x : X) × did p (deeds (events_of ran.history p)) x
kept_by_program_answered {answers = answers} ran p less = elim (slice_get_cases answers p).1 [
  | inl found ↦ (found.0, ran.done p found.0 found.2)
  | inr past ↦ absurd (let all = ran.all in omega (arith, less, past.0))
]

-- what a run has kept of a program whose processors say that their tenures preserve the fact
pub kept_by_program_run : {X : Type 0} {g : GuardTables} {did : ℕ → List Kind → X → Type 0} {s : Sizes} {answers : List X} {j : Log}
    (f : KeptFact) (ran : IsProgramRun g did s answers j) → TablesOpenNothing g
    → IsFactUnderTenures (guards_of g) (replicate (addresses s) 0) f
    → ((p : ℕ) (ks : List Kind) (x : X) → did p ks x → PreservesByTenures f ks)
    → f.holds (memory_after (replicate (addresses s) 0) ran.history) (tenure_accesses_among f.words (deeds ran.history))
kept_by_program_run {g = g} {s = s} f ran closed under says =
    kept_law f s (guards_of g) (replicate (addresses s) 0) ran.history ran.faithful.well_formed ran.kept (kept_by_program_flat_run ran closed) under
    (λ p less. let answer = kept_by_program_answered ran p less in says p (deeds (events_of ran.history p)) answer.0 answer.1)

-- a journal's replay, if nothing was cut off, is that of the history
pub kept_by_program_replayed_whole : {s : Sizes} {h : List Event} {j : Log} → IsJournalOf s [] h j
    → memory_after j.base.memory j.events ≡ memory_after (replicate (addresses s) 0) h
kept_by_program_replayed_whole {s} {h} {j} x =
    ap (λ m. memory_after m j.events) (x.holds.base.after.memory ∙ ap (λ n. replicate n 0) x.addresses_are)
    ∙ ap (memory_after (replicate (addresses s) 0)) (sym x.holds.history)

-- a layout of one table has that in each phase
kept_by_program_table_zero : (g : GuardTables) → length g.tables ≡ 1 → g.round ≡ 0 → (n : ℕ) → table_at g n ≡ 0
kept_by_program_table_zero g one again zero = refl
kept_by_program_table_zero g one again (suc n) = rw (kept_by_program_table_zero g one again n) (rw one again)

-- words that are put under a lock in a layout of one table
pub kept_by_program_under_put : {old g : GuardTables} {from to l : ℕ} {o : Guard} → length old.tables ≡ 1 → old.round ≡ 0
    → IsPutInTable old 0 from to (Under l) g → (n a : ℕ) → table_range_has from to a ≡ true → table_guard old 0 a ≡ Some o
    → guards_of g n a ≡ Some (Under l)
kept_by_program_under_put {old} {g} {from} {to} {l} {o} one again put n a between there =
    ap (λ t. table_guard g t a) (kept_by_program_table_zero g (put.tables ∙ one) (put.round ∙ again) n)
    ∙ put.each 0 a ∙ rw (between, there) refl
