-- What a processor accessed in a phase, as a history goes on.
use Rattle.std.proofs.Common.{ℕ, ◌≡◌, ◌≢◌, ◌+◌, ◌<◌, inl, inr, Bool, true, false, List, [], ◌∷◌, ◌++◌, suc, refl, sym, ap, subst, ◌∙◌, append-nil, append_assoc, arith}
use Rattle.std.specs.Prelude.{◌==◌, ◌&&◌, if◌then◌else◌}
use Rattle.std.proofs.lemmas.Bool.{cases_Bool, cases_eq, eq-eqb, ne_eqb}
use Rattle.base.proofs.SlicesAndCounts.{slice_count_by-append}
use Rattle.journal.specs.declared.event.Event.{Event}
use Rattle.journal.specs.declared.event.Kind.{Kind}
use Rattle.journal.specs.declared.event.Kind.TheVariants.{Fetch}
use Rattle.journal.specs.DidEvent.{event}
use Rattle.journal.specs.Events.{event_count, events_of, event_departs}
use Rattle.seats.specs.Deeds.{deeds, is_deed}
use Rattle.seats.specs.PhaseGuards.{guard_phase_after}
use Rattle.seats.specs.Rounds.{round_part_in, round_part_on, is_access, round_then}
use Rattle.seats.proofs.DeedHistories.{deed_history_phase}
use Rattle.seats.proofs.KeptFacts.{kept_fact_fetched_deeds, kept_fact_others_deeds, kept_fact_own_deeds}

-- one event more at the front
phase_accesses-cons : (m : ℕ) (k : Kind) (ks : List Kind) → m + guard_phase_after (k ∷ ks) ≡ round_then m k + guard_phase_after ks
phase_accesses-cons m k ks = by (event_departs k) refl
  where
    both : guard_phase_after (k ∷ ks) ≡ guard_phase_after (k ∷ []) + guard_phase_after ks
    both = slice_count_by-append event_departs (k ∷ []) ks

    by : (b : Bool) → event_departs k ≡ b → m + guard_phase_after (k ∷ ks) ≡ round_then m k + guard_phase_after ks
    by true e =
        let next : round_then m k ≡ suc m = rw e refl in
        let one : guard_phase_after (k ∷ []) ≡ 1 = rw e refl in
        omega (arith, both, next, one)
    by false e =
        let next : round_then m k ≡ m = rw e refl in
        let none : guard_phase_after (k ∷ []) ≡ 0 = rw e refl in
        omega (arith, both, next, none)

-- the accesses of these and then of those
pub round_part_on-append : (n m : ℕ) (ks ls : List Kind)
    → round_part_on n m (ks ++ ls) ≡ round_part_on n m ks ++ round_part_on n (m + guard_phase_after ks) ls
round_part_on-append n m [] ls = ap (λ i. round_part_on n i ls) (omega arith)
round_part_on-append n m (k ∷ ks) ls =
    let first : List Kind = if (m == n) && is_access k then k ∷ [] else [] in
    ap (λ es. first ++ es) (round_part_on-append n (round_then m k) ks ls)
    ∙ sym (append_assoc first (round_part_on n (round_then m k) ks) (round_part_on n (round_then m k + guard_phase_after ks) ls))
    ∙ ap (λ i. round_part_on n m (k ∷ ks) ++ round_part_on n i ls) (sym (phase_accesses-cons m k ks))

-- there are none in a phase that hasn't come
pub phase_accesses_later : (n m : ℕ) (ks : List Kind) → m + guard_phase_after ks < n → round_part_on n m ks ≡ []
phase_accesses_later n m [] less = refl
phase_accesses_later n m (k ∷ ks) less =
    let next = phase_accesses-cons m k ks in
    let no : (m == n) ≡ false = ne_eqb m n (λ e. omega (arith, less, e)) in
    rw no (phase_accesses_later n (round_then m k) ks (omega (arith, less, next)))

-- what p accessed in phase n of this history
abbrev pub phase_accesses_in : ℕ → List Event → ℕ → List Kind
phase_accesses_in n j p = round_part_in n (deeds (events_of j p))

-- none in a phase that p hasn't come to
pub phase_accesses_in_later : (n : ℕ) (j : List Event) (p : ℕ) → event_count event_departs j p < n → phase_accesses_in n j p ≡ []
phase_accesses_in_later n j p less =
    phase_accesses_later n 0 (deeds (events_of j p)) (let is = deed_history_phase j p in omega (arith, is, less))

-- one deed more of another
pub phase_accesses_others : (n : ℕ) (j : List Event) (p q : ℕ) (k : Kind) → q ≢ p → phase_accesses_in n (j ++ event p k ∷ []) q ≡ phase_accesses_in n j q
phase_accesses_others n j p q k apart = ap (round_part_in n) (kept_fact_others_deeds j p q k apart)

-- of its own
phase_accesses_own : (n : ℕ) (j : List Event) (p : ℕ) (k : Kind) → is_deed k ≡ true
    → phase_accesses_in n (j ++ event p k ∷ []) p ≡ phase_accesses_in n j p ++ round_part_on n (event_count event_departs j p) (k ∷ [])
phase_accesses_own n j p k deed =
    let begun : 0 + guard_phase_after (deeds (events_of j p)) ≡ event_count event_departs j p = let is = deed_history_phase j p in omega (arith, is) in
    ap (round_part_in n) (kept_fact_own_deeds j p k deed)
    ∙ round_part_on-append n 0 (deeds (events_of j p)) (k ∷ [])
    ∙ ap (λ i. phase_accesses_in n j p ++ round_part_on n i (k ∷ [])) begun

phase_accesses_are_deeds : (k : Kind) → is_access k ≡ true → is_deed k ≡ true
phase_accesses_are_deeds (Fetch w n r d) e = absurd (cc)
phase_accesses_are_deeds _ e = refl

pub and_false : (b c : Bool) → c ≡ false → (b && c) ≡ false
and_false true c e = e
and_false false c e = refl

-- an access of p's in this phase
pub phase_accesses_push : (n : ℕ) (j : List Event) (p : ℕ) (k : Kind) → is_access k ≡ true → event_count event_departs j p ≡ n
    → phase_accesses_in n (j ++ event p k ∷ []) p ≡ phase_accesses_in n j p ++ k ∷ []
phase_accesses_push n j p k access here =
    phase_accesses_own n j p k (phase_accesses_are_deeds k access)
    ∙ (let same = eq-eqb (event_count event_departs j p) n here in rw (same, access) refl)

-- in another phase
pub phase_accesses_elsewhere : (n : ℕ) (j : List Event) (p : ℕ) (k : Kind) → is_access k ≡ true → event_count event_departs j p ≢ n
    → phase_accesses_in n (j ++ event p k ∷ []) p ≡ phase_accesses_in n j p
phase_accesses_elsewhere n j p k access apart =
    phase_accesses_own n j p k (phase_accesses_are_deeds k access)
    ∙ (let other = ne_eqb (event_count event_departs j p) n apart in rw other (append-nil (phase_accesses_in n j p)))

-- no access
pub phase_accesses_quiet : (n : ℕ) (j : List Event) (p q : ℕ) (k : Kind) → is_access k ≡ false
    → phase_accesses_in n (j ++ event p k ∷ []) q ≡ phase_accesses_in n j q
phase_accesses_quiet n j p q k quiet = elim (cases_eq q p) [
  | inr apart ↦ phase_accesses_others n j p q k apart
  | inl is ↦ subst (λ r. phase_accesses_in n (j ++ event p k ∷ []) r ≡ phase_accesses_in n j r) (sym is) (elim (cases_Bool (is_deed k)) [
    | inl deed ↦ phase_accesses_own n j p k deed
        ∙ (let none = and_false (event_count event_departs j p == n) (is_access k) quiet in rw none (append-nil (phase_accesses_in n j p)))
    | inr fetch ↦ ap (round_part_in n) (kept_fact_fetched_deeds j p k fetch)
  ])
]
