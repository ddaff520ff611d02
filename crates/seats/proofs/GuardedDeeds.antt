-- Words whose accesses keep to guards have no race.
use Rattle.std.proofs.Common.{ℕ, ◌≡◌, ◌≢◌, ◌<◌, ◌⊎◌, inl, inr, true, not, Option, Some, None, List, [], ◌∷◌, ◌++◌, length, take, drop, slice_get, suc, refl, sym, ap, subst, ◌∙◌, arith, take-append-drop, append_assoc}
use Rattle.std.specs.Prelude.{IsTrue}
use Rattle.std.proofs.lemmas.Bool.{cases_order, eqb-true, eq-eqb}
use Rattle.std.proofs.Math.Seq.{take-append_seam}
use Rattle.base.proofs.SlicesAndCounts.{slice_take-suc_at}
use Rattle.journal.specs.declared.event.Event.{Event}
use Rattle.journal.specs.declared.event.Kind.{Kind}
use Rattle.journal.specs.declared.event.Kind.TheVariants.{Fetch}
use Rattle.journal.specs.DidEvent.{event}
use Rattle.journal.specs.Events.{event_address, event_count, event_departs, event_stores, events_of}
use Rattle.journal.specs.HappensBeforeEdges.{HappensBefore}
use Rattle.journal.specs.Sizes.{Sizes}
use Rattle.journal.specs.WellFormed.{Does, WellFormed}
use Rattle.journal.proofs.Order.HappensBefore.{happens_before_goes_forward}
use Rattle.journal.proofs.Order.EventPlacesAndCounts.{event_place_does}
use Rattle.seats.specs.declared.guard.Guard.{Guard}
use Rattle.seats.specs.declared.guard.Guard.TheVariants.{Under, Of, Shared, Open}
use Rattle.seats.specs.Deeds.{deeds, is_deed}
use Rattle.seats.specs.PhaseGuards.{PhaseGuards, KeepsToPhaseGuards, phase_guard_holds_after, phase_guard_lets_access, phase_guards_allow, guard_phase_after}
use Rattle.seats.specs.Tables.{guards_of, table_at}
use Rattle.seats.specs.GuardLaws.{SeatGuardLaw, SeatTableGuardLaw}
use Rattle.seats.proofs.Deeds.{deed_of_own_event, deeds_of_processor-append}
use Rattle.seats.proofs.DeedHistories.{deed_history_holds, deed_history_phase}
use Rattle.seats.proofs.PhaseOrders.{PhaseOrderAccess, phase_order_earlier, phase_order_under_lock}

-- the item behind a front
guarded_deed_item_behind : {A : Type 0} (front rest : List A) (x : A) → slice_get (front ++ x ∷ rest) (length front) ≡ Some x
guarded_deed_item_behind [] rest x = refl
guarded_deed_item_behind (y ∷ front) rest x = guarded_deed_item_behind front rest x

-- an access is no fetch
guarded_deed_of_access : (k : Kind) (a : ℕ) → event_address k ≡ Some a → is_deed k ≡ true
guarded_deed_of_access (Fetch w n r d) a e = absurd (cc)
guarded_deed_of_access _ a e = refl

-- where a deed stands among its processor's, behind those before it
pub record GuardedDeedAt (h : List Event) (i p : ℕ) (k : Kind) : Type 0 where
  pub there : slice_get (deeds (events_of h p)) (length (deeds (events_of (take i h) p))) ≡ Some k
  pub front : take (length (deeds (events_of (take i h) p))) (deeds (events_of h p)) ≡ deeds (events_of (take i h) p)

pub guarded_deed_at : (h : List Event) (i p : ℕ) (k : Kind) → Does h i p k → is_deed k ≡ true → GuardedDeedAt h i p k
guarded_deed_at h i p k does deed =
    let ks = deeds (events_of (take i h) p) in
    let rest = deeds (events_of (drop (suc i) h) p) in
    let own : deeds (events_of (event p k ∷ []) p) ≡ k ∷ [] = deed_of_own_event (event p k) p (eq-eqb p p refl) deed in
    let split : deeds (events_of h p) ≡ (ks ++ k ∷ []) ++ rest =
    (ap (λ es. deeds (events_of es p)) (sym (take-append-drop (suc i) h))
    ∙ deeds_of_processor-append (take (suc i) h) (drop (suc i) h) p
    ∙ ap (λ es. deeds (events_of es p) ++ rest) (slice_take-suc_at h i (event p k) does)
    ∙ ap (λ es. es ++ rest) (deeds_of_processor-append (take i h) (event p k ∷ []) p
    ∙ ap (λ es. ks ++ es) own)) in
    let whole : deeds (events_of h p) ≡ ks ++ k ∷ rest = split ∙ append_assoc ks (k ∷ []) rest in
    record {
      there = ap (λ es. slice_get es (length ks)) whole ∙ guarded_deed_item_behind ks rest k;
      front = ap (take (length ks)) whole ∙ take-append_seam ks (k ∷ rest);
    }

-- who keeps to the guards was let do what it accessed
pub guarded_deed_allowed_at : (g : PhaseGuards) (h : List Event) (i p a : ℕ) → KeepsToPhaseGuards g p (deeds (events_of h p)) → (x : PhaseOrderAccess h i p a)
    → phase_guard_lets_access (g (event_count event_departs (take i h) p) a) p (phase_guard_holds_after (deeds (events_of (take i h) p))) (event_stores x.kind)
    ≡ true
guarded_deed_allowed_at g h i p a keeps x =
    let ks = deeds (events_of (take i h) p) in
    let found = guarded_deed_at h i p x.kind x.does (guarded_deed_of_access x.kind a x.address) in
    let may : phase_guards_allow g p ks x.kind ≡ true = subst (λ es. phase_guards_allow g p es x.kind ≡ true) found.front
    (keeps.each (length ks) x.kind found.there) in
    let at : phase_guard_lets_access (g (guard_phase_after ks) a) p (phase_guard_holds_after ks) (event_stores x.kind) ≡ true =
    rw x.address at may in
    subst (λ n. phase_guard_lets_access (g n a) p (phase_guard_holds_after ks) (event_stores x.kind) ≡ true) (deed_history_phase (take i h) p) at

-- two accesses in one phase, one of them a store, that the guard lets two processors do
guarded_deeds_in_phase : {s : Sizes} {h : List Event} {i k p q a : ℕ} → WellFormed s h → (x : PhaseOrderAccess h i p a)
    → (y : PhaseOrderAccess h k q a) → i < k → p ≢ q → IsTrue (event_stores x.kind) ⊎ IsTrue (event_stores y.kind) → (o : Option Guard)
    → phase_guard_lets_access o p (phase_guard_holds_after (deeds (events_of (take i h) p))) (event_stores x.kind) ≡ true
    → phase_guard_lets_access o q (phase_guard_holds_after (deeds (events_of (take k h) q))) (event_stores y.kind) ≡ true
    → HappensBefore h i k ⊎ (o ≡ Some Open)
guarded_deeds_in_phase well x y lt apart stores None mine theirs = absurd (cc)
guarded_deeds_in_phase {s = s} {h = h} {i = i} {k = k} {p = p} {q = q} {a = a} well x y lt apart stores (Some (Under l)) mine theirs =
    inl (phase_order_under_lock well x y lt apart (deed_history_holds l p (take i h) mine) (deed_history_holds l q (take k h) theirs))
guarded_deeds_in_phase {p = p} {q = q} well x y lt apart stores (Some (Of r)) mine theirs =
    absurd (apart (sym (eqb-true r p mine) ∙ eqb-true r q theirs))
guarded_deeds_in_phase well x y lt apart stores (Some Shared) mine theirs = elim stores [
  | inl first ↦ absurd (let no : not true ≡ true = subst (λ b. not b ≡ true) first mine in cc)
  | inr second ↦ absurd (let no : not true ≡ true = subst (λ b. not b ≡ true) second theirs in cc)
]
guarded_deeds_in_phase well x y lt apart stores (Some Open) mine theirs = inr refl

pub guarded_deeds_law : SeatGuardLaw
guarded_deeds_law s g h well keeps i k race = elim (cases_order (phase p i) (phase q k)) [
  | inl is ↦ same is
  | inr order ↦ elim order [
    | inl lt ↦ absurd (race.unordered (phase_order_earlier well x y lt))
    | inr gt ↦ absurd (let back = happens_before_goes_forward h (phase_order_earlier well y x gt) in
        let on = race.before in omega arith)
  ]
]
  where
    p : ℕ
    p = race.first.processor

    q : ℕ
    q = race.second.processor

    a : ℕ
    a = race.conflict.address

    x : PhaseOrderAccess h i p a
    x = record {
      kind = race.first.kind;
      does = event_place_does h i p race.first race.first_at refl;
      address = race.conflict.first;
    }

    y : PhaseOrderAccess h k q a
    y = record {
      kind = race.second.kind;
      does = event_place_does h k q race.second race.second_at refl;
      address = race.conflict.second;
    }

    phase : ℕ → ℕ → ℕ
    phase r n = event_count event_departs (take n h) r

    same : phase p i ≡ phase q k → (n : ℕ) × (g n a ≡ Some Open)
    same is =
        let theirs = subst (λ n. phase_guard_lets_access (g n a) q (phase_guard_holds_after (deeds (events_of (take k h) q))) (event_stores y.kind) ≡ true)
        (sym is) (guarded_deed_allowed_at g h k q a (keeps q) y) in
        elim (guarded_deeds_in_phase well x y race.before race.apart race.conflict.stores (g (phase p i) a)
        (guarded_deed_allowed_at g h i p a (keeps p) x) theirs) [
          | inl before ↦ absurd (race.unordered before)
          | inr free ↦ (phase p i, free)
        ]

-- nothing races if each keeps to tables in which no word is open to all
pub guarded_deeds_table_law : SeatTableGuardLaw
guarded_deeds_table_law s g h formed keep closed i k race =
    let opened = guarded_deeds_law s (guards_of g) h formed keep i k race in
    closed (table_at g opened.0) race.conflict.address opened.1
