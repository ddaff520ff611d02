-- Seats that keep to a layout.
use Rattle.std.proofs.Common.{ℕ, suc, ◌≡◌, ◌+◌, ◌<◌, ◌⊎◌, inl, inr, Bool, true, false, cond, List, [], ◌∷◌, ◌++◌, Some, Result, Ok, Err, OnOk, OnErr, length, take, slice_get, slice_set, replicate, filter, refl, sym, ap, subst, ◌∙◌, append_assoc, append-nil, arith}
use Rattle.std.specs.Prelude.{◌==◌, ◌||◌, ◌&&◌, not, slice_index_or}
use Rattle.std.proofs.lemmas.Bool.{cases_eq, cases_lt, eq-eqb, le-leb, ne_eqb}
use Rattle.std.proofs.lemmas.List.{length-set, take-append-le, get_or-set_same, get_or-set_other, get_or_past, get_or-replicate, length-replicate, set_past}
use Rattle.std.proofs.lemmas.Option.{none-some}
use Rattle.std.proofs.Math.Seq.{take-append_seam}
use Rattle.base.proofs.SlicesAndCounts.{slice_count_by-append, slice_push_cases}
use Rattle.journal.specs.declared.event.Kind.{Kind}
use Rattle.journal.specs.declared.event.Kind.TheVariants.{Load, Store, Ask, Acquire, Release, Arrive, Depart, Set, Watch, Await}
use Rattle.journal.specs.Events.{event_departs}
use Rattle.journal.specs.Sizes.{Sizes}
use Rattle.book.specs.declared.refused.Refused.{Refused}
use Rattle.book.specs.declared.refused.Refused.TheVariants.{BadLock}
use Rattle.cluster.specs.Copies.AfterNews.{locks_held_after_news}
use Rattle.cluster.specs.Copies.Local.{Local}
use Rattle.cluster.specs.Covers.{HasCoverage}
use Rattle.cluster.specs.ProcessorRefusals.{processor_refusal_of_ask}
use Rattle.seats.specs.Deeds.{is_deed}
use Rattle.seats.specs.SeatCalls.{SeatCallAccessesBy, AccessesPage, SeatCallsInside, HasDone, IsLeftUndone, IsSeatedAfterCall}
use Rattle.seats.specs.Sitting.{SittingSeat, new_sitting_processor, seat_deeds}
use Rattle.cluster.specs.declared.cluster.accessing.WordAccess.{WordAccess}
use Rattle.cluster.specs.declared.cluster.accessing.WordAccess.TheVariants as access
use Rattle.seats.specs.declared.fault.SeatFault.{SeatFault}
use Rattle.seats.specs.declared.fault.SeatFault.TheVariants as fault
use Rattle.seats.specs.PhaseGuards.{PhaseGuards, KeepsToPhaseGuards, phase_guard_held_then, phase_guard_holds_after, phase_guards_allow, guard_phase_after}
use Rattle.seats.specs.KeptLayout.{HasKeptSeatLayout, HasKeptLayout, kept_layout_lets_access}
use Rattle.seats.specs.Tables.{GuardTables, guards_of, table_at, table_next}
use Rattle.seats.proofs.DeedHistories.{phase_guard_held_on-append}
use Rattle.seats.proofs.SeatAccess.{seat_access_inside_same}

-- the table after this event
abbrev pub kept_seat_table_then : GuardTables → Kind → ℕ → ℕ
kept_seat_table_then g k table = cond (event_departs k) (table_next g table) table

-- whether it is a store
abbrev pub kept_seat_access_stores : WordAccess → Bool
kept_seat_access_stores access.Load = false
kept_seat_access_stores (access.Store word) = true

-- one deed more that the guards allow
kept_seat_guards_push : {g : PhaseGuards} {p : ℕ} (ks : List Kind) (k : Kind) → KeepsToPhaseGuards g p ks → phase_guards_allow g p ks k ≡ true
    → KeepsToPhaseGuards g p (ks ++ k ∷ [])
kept_seat_guards_push {g} {p} ks k keeps may = record { each = each }
  where
    each : (i : ℕ) (x : Kind) → slice_get (ks ++ k ∷ []) i ≡ Some x → phase_guards_allow g p (take i (ks ++ k ∷ [])) x ≡ true
    each i x at = elim (slice_push_cases ks k i x at) [
      | inl old ↦ (let less = old.0 in
          subst (λ ys. phase_guards_allow g p ys x ≡ true) (sym (take-append-le i ks (k ∷ []) (omega arith))) (keeps.each i x old.1))
      | inr new ↦ subst (λ y. phase_guards_allow g p (take i (ks ++ k ∷ [])) y ≡ true) new.1
          (subst (λ n. phase_guards_allow g p (take n (ks ++ k ∷ [])) k ≡ true) (sym new.0)
          (subst (λ ys. phase_guards_allow g p ys k ≡ true) (sym (take-append_seam ks (k ∷ []))) may))
    ]

-- the table is that of the phase still
kept_seat_table_push : (g : GuardTables) (t : ℕ) (ks : List Kind) (k : Kind) → t ≡ table_at g (guard_phase_after ks)
    → kept_seat_table_then g k t ≡ table_at g (guard_phase_after (ks ++ k ∷ []))
kept_seat_table_push g t ks k is = by (event_departs k) refl
  where
    counted : (b : Bool) → event_departs k ≡ b → guard_phase_after (ks ++ k ∷ []) ≡ guard_phase_after ks + cond b 1 0
    counted true e = slice_count_by-append event_departs ks (k ∷ []) ∙ rw e refl
    counted false e = slice_count_by-append event_departs ks (k ∷ []) ∙ rw e refl

    by : (b : Bool) → event_departs k ≡ b → kept_seat_table_then g k t ≡ table_at g (guard_phase_after (ks ++ k ∷ []))
    by true e =
        let next : guard_phase_after ks + 1 ≡ suc (guard_phase_after ks) = omega arith in
        rw e (ap (table_next g) is ∙ sym (ap (table_at g) (counted true e ∙ next)))
    by false e =
        let same : guard_phase_after ks + 0 ≡ guard_phase_after ks = omega arith in
        rw e (is ∙ sym (ap (table_at g) (counted false e ∙ same)))

-- the locks held are those that it says still
kept_seat_locks_long : (k : Kind) (held : List Bool) → length (locks_held_after_news k held) ≡ length held
kept_seat_locks_long (Acquire l) held = length-set held l true
kept_seat_locks_long (Release l) held = length-set held l false
kept_seat_locks_long _ held = refl

-- a lock that it acquires is one of them
abbrev pub AcquiresKeptSeatLock : ℕ → Kind → Type 0
AcquiresKeptSeatLock locks (Acquire l) = l < locks
AcquiresKeptSeatLock locks _ = Unit {0}

kept_seat_locks_set : (held : List Bool) (m l : ℕ) (b : Bool) → m < length held ⊎ (b ≡ false)
    → slice_index_or (slice_set held m b) l false ≡ cond (m == l) b (slice_index_or held l false)
kept_seat_locks_set held m l b inside = elim (cases_eq m l) [
  | inl same ↦ (let here = eq-eqb m l same in
      rw here (subst (λ n. slice_index_or (slice_set held m b) n false ≡ b) same (there inside)))
  | inr apart ↦ (let other = ne_eqb m l apart in
      rw other (get_or-set_other held m l b false (λ same. apart (sym same))))
]
  where
    there : m < length held ⊎ (b ≡ false) → slice_index_or (slice_set held m b) m false ≡ b
    there (inl less) = get_or-set_same held m b false less
    there (inr none) = elim (cases_lt m (length held)) [
      | inl less ↦ get_or-set_same held m b false less
      | inr past ↦ ap (λ (xs : List Bool). slice_index_or xs m false) (set_past held m b past) ∙ get_or_past held m false past
          ∙ sym none
    ]

kept_seat_acquired : (b held : Bool) → cond b true held ≡ (b || held)
kept_seat_acquired true held = refl
kept_seat_acquired false held = refl

kept_seat_released : (b held : Bool) → cond b false held ≡ (not b && held)
kept_seat_released true held = refl
kept_seat_released false held = refl

kept_seat_locks_push : (ks : List Kind) (k : Kind) (held : List Bool) (l : ℕ) → AcquiresKeptSeatLock (length held) k
    → slice_index_or held l false ≡ phase_guard_holds_after ks l
    → slice_index_or (locks_held_after_news k held) l false ≡ phase_guard_holds_after (ks ++ k ∷ []) l
kept_seat_locks_push ks k held l inside is = by k inside ∙ sym (phase_guard_held_on-append ks (k ∷ []) l false)
  where
    by : (k : Kind) → AcquiresKeptSeatLock (length held) k
        → slice_index_or (locks_held_after_news k held) l false ≡ phase_guard_held_then k l (phase_guard_holds_after ks l)
    by (Acquire m) inside =
        kept_seat_locks_set held m l true (inl inside) ∙ kept_seat_acquired (m == l) (slice_index_or held l false)
        ∙ ap (λ (b : Bool). (m == l) || b) is
    by (Release m) inside =
        kept_seat_locks_set held m l false (inr refl) ∙ kept_seat_released (m == l) (slice_index_or held l false)
        ∙ ap (λ (b : Bool). not (m == l) && b) is
    by _ inside = is

-- one deed more that the layout allows
pub kept_seat_push : {g : GuardTables} {p t locks : ℕ} {ks : List Kind} {held : List Bool} (k : Kind)
    → HasKeptLayout g p t locks ks held → phase_guards_allow (guards_of g) p ks k ≡ true → AcquiresKeptSeatLock locks k
    → HasKeptLayout g p (kept_seat_table_then g k t) locks (ks ++ k ∷ []) (locks_held_after_news k held)
kept_seat_push {g} {p} {t} {locks} {ks} {held} k kept may inside = record {
  keeps = kept_seat_guards_push ks k kept.keeps may;
  table_is = kept_seat_table_push g t ks k kept.table_is;
  long = kept_seat_locks_long k held ∙ kept.long;
  holds = λ l. kept_seat_locks_push ks k held l (subst (λ n. AcquiresKeptSeatLock n k) (sym kept.long) inside) (kept.holds l);
}

-- the same seat, by what it did and the locks that it holds
kept_seat_at : {g : GuardTables} {p t locks more : ℕ} {ks ls : List Kind} {held then : List Bool} → HasKeptLayout g p t locks ks held
    → more ≡ locks → ls ≡ ks → then ≡ held → HasKeptLayout g p t more ls then
kept_seat_at kept locks deeds held = rw (locks, deeds, held) kept

-- it did nothing
kept_seat_same : (id : SittingSeat) {t : ℕ} {m n : Local} → HasKeptSeatLayout id t m → SeatCallsInside m n [] → HasKeptSeatLayout id t n
kept_seat_same id {m = m} kept inside =
    kept_seat_at kept (ap (λ (s : Sizes). s.locks) inside.besides.stays.same.sizes)
    (inside.besides.deeds_are ∙ append-nil (seat_deeds m)) inside.held_is

-- one deed more
kept_seat_next : (id : SittingSeat) {t : ℕ} {m n : Local} (k : Kind) → HasKeptSeatLayout id t m
    → phase_guards_allow (guards_of id.layout) id.number (seat_deeds m) k ≡ true → AcquiresKeptSeatLock m.sizes.locks k → IsSeatedAfterCall m n
    → seat_deeds n ≡ seat_deeds m ++ k ∷ [] → n.held ≡ locks_held_after_news k m.held → HasKeptSeatLayout id (kept_seat_table_then id.layout k t) n
kept_seat_next id k kept may inside stays deeds held =
    kept_seat_at (kept_seat_push k kept may inside) (ap (λ (s : Sizes). s.locks) stays.same.sizes) deeds held

-- two deeds more
kept_seat_next_two : (id : SittingSeat) {t : ℕ} {m n : Local} (j k : Kind) → HasKeptSeatLayout id t m
    → phase_guards_allow (guards_of id.layout) id.number (seat_deeds m) j ≡ true
    → phase_guards_allow (guards_of id.layout) id.number (seat_deeds m ++ j ∷ []) k ≡ true → AcquiresKeptSeatLock m.sizes.locks j
    → AcquiresKeptSeatLock m.sizes.locks k → HasDone m n (j ∷ k ∷ []) → filter is_deed (j ∷ k ∷ []) ≡ j ∷ k ∷ []
    → HasKeptSeatLayout id (kept_seat_table_then id.layout k (kept_seat_table_then id.layout j t)) n
kept_seat_next_two id {m = m} j k kept first second inside further done deeds =
    kept_seat_at (kept_seat_push k (kept_seat_push j kept first inside) second further)
    (ap (λ (s : Sizes). s.locks) done.besides.stays.same.sizes)
    (done.besides.deeds_are ∙ ap (λ (ks : List Kind). seat_deeds m ++ ks) deeds ∙ sym (append_assoc (seat_deeds m) (j ∷ []) (k ∷ [])))
    done.held_is

-- after an access that the layout allows
pub kept_seat_access : {E : Type 0} (id : SittingSeat) {t : ℕ} (m n : Local) (page a : ℕ) (x : WordAccess) (r : Result ℕ E)
    → HasKeptSeatLayout id t m → kept_layout_lets_access id m a (kept_seat_access_stores x) ≡ true → SeatCallAccessesBy m n page x a r → HasKeptSeatLayout id t n
kept_seat_access id m n page a access.Load (Ok v) kept may done =
    kept_seat_next id (Load a v) kept may tt done.inside.besides.stays done.deeds_are done.inside.held_is
kept_seat_access id m n page a (access.Store w) (Ok v) kept may done =
    kept_seat_next id (Store a w) kept may tt done.inside.besides.stays done.deeds_are done.inside.held_is
kept_seat_access id m n page a x (Err e) kept may done =
    kept_seat_at kept (ap (λ (s : Sizes). s.locks) done.inside.besides.stays.same.sizes)
    (done.deeds_are ∙ append-nil (seat_deeds m)) done.inside.held_is

-- a call that waits was made, or not
kept_seat_left : (id : SittingSeat) {t : ℕ} {m n : Local} (k : Kind) → HasKeptSeatLayout id t m
    → phase_guards_allow (guards_of id.layout) id.number (seat_deeds m) k ≡ true → AcquiresKeptSeatLock m.sizes.locks k
    → kept_seat_table_then id.layout k t ≡ t → locks_held_after_news k m.held ≡ m.held → filter is_deed (k ∷ []) ≡ k ∷ []
    → IsLeftUndone m n k → HasKeptSeatLayout id t n
kept_seat_left id k kept may inside table held deeds (inl undone) = kept_seat_same id kept undone.inside
kept_seat_left id {t} {m} {n} k kept may inside table held deeds (inr begun) =
    subst (λ u. HasKeptSeatLayout id u n) table
    (kept_seat_next id k kept may inside begun.besides.stays
    (begun.besides.deeds_are ∙ ap (λ (ks : List Kind). seat_deeds m ++ ks) deeds) (begun.held_is ∙ sym held))

-- a lock that is asked for is one of them, if the call isn't refused
kept_seat_lock_inside : {A : Type 0} (m : Local) (l : ℕ) (r : Result A SeatFault) {x : A} → r ≡ Ok x
    → ((e : Refused) → processor_refusal_of_ask m l ≡ Some e → r ≡ Err (fault.Refused e)) → l < m.sizes.locks
kept_seat_lock_inside m l r ok refused = elim (cases_lt l m.sizes.locks) [
  | inl less ↦ less
  | inr past ↦ absurd (let far = le-leb m.sizes.locks l past in
      let no = refused BadLock (rw far refl) in let both = sym ok ∙ no in cc)
]

-- after a lock
pub kept_seat_lock : (id : SittingSeat) {t : ℕ} (m n : Local) (l : ℕ) (r : Result (Unit {0}) SeatFault) → HasKeptSeatLayout id t m
    → ((e : Refused) → processor_refusal_of_ask m l ≡ Some e → r ≡ Err (fault.Refused e)) → OnOk r (HasDone m n (Ask l ∷ Acquire l ∷ []))
    → OnErr r (IsLeftUndone m n (Ask l)) → HasKeptSeatLayout id t n
kept_seat_lock id m n l (Ok x) kept refused done left =
    kept_seat_next_two id (Ask l) (Acquire l) kept refl refl tt (kept_seat_lock_inside m l (Ok x) refl refused) done refl
kept_seat_lock id m n l (Err e) kept refused done left = kept_seat_left id (Ask l) kept refl tt refl refl refl left

-- after an unlock
pub kept_seat_unlock : {E : Type 0} (id : SittingSeat) {t : ℕ} (m n : Local) (l : ℕ) (r : Result (Unit {0}) E) → HasKeptSeatLayout id t m
    → OnOk r (HasDone m n (Release l ∷ [])) → OnErr r (IsLeftUndone m n (Release l)) → HasKeptSeatLayout id t n
kept_seat_unlock id m n l (Ok x) kept done left =
    kept_seat_next id (Release l) kept refl tt done.besides.stays done.besides.deeds_are done.held_is
kept_seat_unlock id m n l (Err e) kept done (inl undone) = kept_seat_same id kept undone.inside
kept_seat_unlock id m n l (Err e) kept done (inr begun) = absurd (let ends = begun.ends in cc)

-- after a set
pub kept_seat_set : {E : Type 0} (id : SittingSeat) {t : ℕ} (m n : Local) (f : ℕ) (r : Result (Unit {0}) E) → HasKeptSeatLayout id t m
    → OnOk r (HasDone m n (Set f ∷ [])) → OnErr r (IsLeftUndone m n (Set f)) → HasKeptSeatLayout id t n
kept_seat_set id m n f (Ok x) kept done left =
    kept_seat_next id (Set f) kept refl tt done.besides.stays done.besides.deeds_are done.held_is
kept_seat_set id m n f (Err e) kept done (inl undone) = kept_seat_same id kept undone.inside
kept_seat_set id m n f (Err e) kept done (inr begun) = absurd (let ends = begun.ends in cc)

-- after a wait for a flag
pub kept_seat_watch : {E : Type 0} (id : SittingSeat) {t : ℕ} (m n : Local) (f : ℕ) (r : Result (Unit {0}) E) → HasKeptSeatLayout id t m
    → OnOk r (HasDone m n (Watch f ∷ Await f ∷ [])) → OnErr r (IsLeftUndone m n (Watch f)) → HasKeptSeatLayout id t n
kept_seat_watch id m n f (Ok x) kept done left = kept_seat_next_two id (Watch f) (Await f) kept refl refl tt tt done refl
kept_seat_watch id m n f (Err e) kept done left = kept_seat_left id (Watch f) kept refl tt refl refl refl left

-- after the barrier: the next table
pub kept_seat_meeting : (id : SittingSeat) {t : ℕ} (m n : Local) → HasKeptSeatLayout id t m → HasDone m n (Arrive ∷ Depart ∷ [])
    → HasKeptSeatLayout id (table_next id.layout t) n
kept_seat_meeting id m n kept done = kept_seat_next_two id Arrive Depart kept refl refl tt tt done refl

-- or it waits still
pub kept_seat_undeparted : (id : SittingSeat) {t : ℕ} (m n : Local) → HasKeptSeatLayout id t m → IsLeftUndone m n Arrive → HasKeptSeatLayout id t n
kept_seat_undeparted id m n kept left = kept_seat_left id Arrive kept refl tt refl refl refl left

-- at the start
pub kept_seat_new : (id : SittingSeat) → HasKeptSeatLayout id 0 (new_sitting_processor id)
kept_seat_new id = record {
  keeps = record { each = λ i k at. absurd (none-some k at) };
  table_is = refl;
  long = length-replicate id.cluster.sizes.locks false;
  holds = λ l. get_or-replicate_any id.cluster.sizes.locks l;
}
  where
    get_or-replicate_any : (n l : ℕ) → slice_index_or (replicate n false) l false ≡ false
    get_or-replicate_any n l = elim (cases_lt l n) [
      | inl less ↦ get_or-replicate n l false false less
      | inr past ↦ get_or_past (replicate n false) l false (omega (arith, length-replicate n false, past))
    ]

-- an access that was barred
pub kept_seat_barred : (m : Local) (page : ℕ) → HasCoverage m → AccessesPage m m page []
kept_seat_barred m page covers = record {
  fetches = [];
  fetched = inl refl;
  inside = seat_access_inside_same m m refl covers;
  deeds_are = sym (append-nil (seat_deeds m));
}
