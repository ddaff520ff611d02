-- Accesses that need a lock, by what is kept.
use Rattle.std.proofs.Common.{◌≡◌, ◌≢◌, ℕ, ◌+◌, ◌<◌, ◌≤◌, ◌⊎◌, inl, inr, IsTrue, List, Some, Option, take, subst, sym, ap, ◌∙◌, arith}
use Rattle.std.specs.Prelude.{None, MatchOption, is_some, true, false}
use Rattle.std.proofs.lemmas.Bool.{cases_lt}
use Rattle.std.proofs.lemmas.List.{take-map}
use Rattle.std.proofs.lemmas.Option.{same_Some}
use Rattle.base.specs.InOrderOnce.{Has}
use Rattle.journal.specs.declared.event.Event.{Event}
use Rattle.journal.specs.declared.event.Kind.{Kind}
use Rattle.journal.specs.DidEvent.{event}
use Rattle.journal.specs.Events.{EventAt, event_address, event_stores}
use Rattle.journal.specs.Races.{Conflict, Race}
use Rattle.journal.specs.WellFormed.{Does, Holds}
use Rattle.journal.proofs.Order.EventPlacesAndCounts.{event_place_same}
use Rattle.journal.proofs.Passes.NextRaces.{next_race_events}
use Rattle.judge.specs.declared.locksets.held_locks.HeldLocks.{HeldLocks}
use Rattle.judge.specs.declared.locksets.watched_word.Guarded.{Guarded}
use Rattle.judge.specs.declared.locksets.watched_word.LockedAccess.{LockedAccess}
use Rattle.judge.specs.declared.locksets.watched_word.PairedAccess.{PairedAccess}
use Rattle.judge.specs.Cuts.{IsCutOf}
use Rattle.judge.specs.Locksets.Unlocked.{unlocked_event, unlocked_history}
use Rattle.judge.specs.Locksets.Held.{AreHeldLocks, HasHeldLock, HeldLocksShare}
use Rattle.judge.specs.Locksets.Pairs.{IsGuardedPair, IsPairLockHeld, IsPairedAccess, IsUnguardedPair, IsPairToLock, TellsGuardedPair, TellsUnguardedPair}
use Rattle.judge.specs.Locksets.Watched.{AreWatchedRacing, AreWatchedAccesses, IsWatchedNext, HasWatchedStandIn}
use Rattle.judge.specs.Locksets.Watched.{IsWatchedGuarded, IsWatchedGuardedWith, IsWatchCandidate, IsWatchedUnguarded, IsWatchedUnguardedWith, IsWatchedAccess, paired_access}
use Rattle.judge.proofs.TellingCuts.{cut_tells_race_at}
use Rattle.judge.proofs.locksets.WithoutLocks.{without_locks_address, without_locks_at, without_locks_store, without_locks_stood, WithoutLocksStoodAt}

-- the address of a race is that of its first event
needing_race_address : {u : List Event} {i k a : ℕ} {f : Event} (r : Race u i k) → EventAt u i f → event_address f.kind ≡ Some a
    → r.conflict.address ≡ a
needing_race_address {u = u} {i = i} {f = f} r at is =
    let same = event_place_same u i r.first f r.first_at at in
    same_Some _ _ (sym r.conflict.first ∙ (ap (λ (e : Event). event_address e.kind) same ∙ is))

-- the cut of what comes next
needing_cut : {j : List Event} {a n : ℕ} {y : LockedAccess} {t : ℕ → ℕ} → IsWatchedNext j a n y t
    → IsCutOf (take n (unlocked_history j)) y.processor t
needing_cut {j = j} {n = n} {y = y} {t = t} comes =
    subst (λ xs. IsCutOf xs y.processor t) (sym (take-map unlocked_event n j)) comes.cut

-- what is kept and conflicts, and isn't known, needs a lock with what comes next
pub needing_kept : {j : List Event} {a n : ℕ} {x y : LockedAccess} {t : ℕ → ℕ} → IsWatchedNext j a n y t
    → IsWatchedAccess j a n x → AreWatchedRacing x y t → IsPairToLock j a x.place n
needing_kept {j = j} {a = a} {n = n} {x = x} {y = y} {t = t} comes kept needs = record {
  race = race;
  address = needing_race_address race first_at (without_locks_address kept.access.kind ∙ kept.access.address);
  watched = kept.watched;
}
  where
    first : Event
    first = event x.processor kept.access.kind

    second : Event
    second = event y.processor comes.access.kind

    first_at : EventAt (unlocked_history j) x.place (unlocked_event first)
    first_at = without_locks_at j x.place first kept.access.does

    second_at : EventAt (unlocked_history j) n (unlocked_event second)
    second_at = without_locks_at j n second comes.access.does

    conflict : Conflict (unlocked_event first) (unlocked_event second)
    conflict = record {
      address = a;
      first = without_locks_address kept.access.kind ∙ kept.access.address;
      second = without_locks_address comes.access.kind ∙ comes.access.address;
      stores = elim needs.stores [
        | inl one ↦ inl (without_locks_store kept.access.kind ∙ (sym kept.access.stores ∙ one))
        | inr other ↦ inr (without_locks_store comes.access.kind ∙ (sym comes.access.stores ∙ other))
      ];
    }

    race : Race (unlocked_history j) x.place n
    race = (cut_tells_race_at second_at first_at kept.below needs.apart conflict (needing_cut comes)).1 needs.later

-- what needs a lock with what comes next, and what is kept for it
pub record NeedsKept (j : List Event) (xs : List LockedAccess) (y : LockedAccess) (t : ℕ → ℕ) (i : ℕ) : Type 0 where
  pub by : ℕ
  pub kind : Kind
  pub does : Does j i by kind
  pub kept : HasWatchedStandIn j xs i by kind
  pub needs : AreWatchedRacing kept.access y t

pub needing_stands : {j : List Event} {a n i : ℕ} {xs : List LockedAccess} {y : LockedAccess} {t : ℕ → ℕ}
    → IsWatchedNext j a n y t → AreWatchedAccesses j a n xs → IsPairToLock j a i n → NeedsKept j xs y t i
needing_stands {j = j} {a = a} {n = n} {i = i} {xs = xs} {y = y} {t = t} comes are needs = record {
  by = first.event.processor;
  kind = first.event.kind;
  does = first.at;
  kept = kept;
  needs = record { apart = apart; stores = stores; later = later };
}
  where
    r : Race (unlocked_history j) i n
    r = needs.race

    first : WithoutLocksStoodAt j i r.first
    first = without_locks_stood j i r.first r.first_at

    second_at : EventAt (unlocked_history j) n (unlocked_event (event y.processor comes.access.kind))
    second_at = without_locks_at j n (event y.processor comes.access.kind) comes.access.does

    both : (r.first.processor ≢ y.processor) × Conflict r.first (unlocked_event (event y.processor comes.access.kind))
    both = next_race_events (unlocked_history j) n i (unlocked_event (event y.processor comes.access.kind)) r.first second_at r.first_at r

    same : r.first.processor ≡ first.event.processor
    same = ap (λ (e : Event). e.processor) first.is

    address : event_address first.event.kind ≡ Some a
    address =
        sym (without_locks_address first.event.kind) ∙ (sym (ap (λ (e : Event). event_address e.kind) first.is)
        ∙ (r.conflict.first ∙ ap (λ b. Some b) needs.address))

    kept : HasWatchedStandIn j xs i first.event.processor first.event.kind
    kept = are.all i first.event.processor first.event.kind r.before first.at address needs.watched

    apart : kept.access.processor ≢ y.processor
    apart is = both.0 (same ∙ (sym kept.stands.processor ∙ is))

    stores : IsTrue kept.access.stores ⊎ IsTrue y.stores
    stores = elim both.1.stores [
      | inl one ↦ inl (kept.stands.stores ∙ (sym (without_locks_store first.event.kind)
          ∙ (sym (ap (λ (e : Event). event_stores e.kind) first.is) ∙ one)))
      | inr other ↦ inr (comes.access.stores ∙ (sym (without_locks_store comes.access.kind) ∙ other))
    ]

    low : t r.first.processor ≤ i
    low = (cut_tells_race_at second_at r.first_at r.before both.0 both.1 (needing_cut comes)).0 r

    later : t kept.access.processor ≤ kept.access.place
    later =
        let up = kept.stands.later in
        let one : t kept.access.processor ≤ i = subst (λ q. t q ≤ i) (same ∙ sym kept.stands.processor) low in
        omega arith

-- ---- the locks that are held

-- the processor of the event at place i holds this set there
pub record HoldsNeededLocksAt (j : List Event) (i : ℕ) (h : HeldLocks) : Type 0 where
  pub by : ℕ
  pub kind : Kind
  pub does : Does j i by kind
  pub held : AreHeldLocks (take i j) by h

needing_set_of : {j : List Event} {a i : ℕ} {x : LockedAccess} → IsWatchCandidate j a i x → HoldsNeededLocksAt j i x.held
needing_set_of {x = x} is = record { by = x.processor; kind = is.kind; does = is.does; held = is.held }

needing_set_kept : {j : List Event} {xs : List LockedAccess} {y : LockedAccess} {t : ℕ → ℕ} {i : ℕ} (x : NeedsKept j xs y t i)
    → HoldsNeededLocksAt j i x.kept.access.held
needing_set_kept x = record { by = x.by; kind = x.kind; does = x.does; held = x.kept.stands.held }

-- a lock that is held there is in the set, and the other way round
needing_in_set : {j : List Event} {i l : ℕ} {h : HeldLocks} → HoldsNeededLocksAt j i h → IsPairLockHeld j i l → HasHeldLock h l
needing_in_set {j = j} {i = i} {l = l} set at =
    let same = ap (λ (e : Event). e.processor) (event_place_same j i at.by (event set.by set.kind) at.at set.does) in
    (set.held l).1 (subst (λ p. Holds (take i j) p l) same at.holds)

needing_from_set : {j : List Event} {i : ℕ} {h : HeldLocks} (l : ℕ) → HoldsNeededLocksAt j i h → HasHeldLock h l → IsPairLockHeld j i l
needing_from_set l set has = record { by = event set.by set.kind; at = set.does; holds = (set.held l).0 has }

-- ---- pairs up to what comes next

-- who made it
needing_made : {j : List Event} {a i : ℕ} {x : LockedAccess} → IsWatchCandidate j a i x → IsPairedAccess j (paired_access x)
needing_made {j = j} {x = x} is = (is.kind, subst (λ m. Does j m x.processor is.kind) (sym is.place) is.does)

-- a pair that is found with it
pub needing_guarded_new : {j : List Event} {a n : ℕ} {xs : List LockedAccess} {y : LockedAccess} {t : ℕ → ℕ} {g : Guarded}
    → IsWatchedNext j a n y t → AreWatchedAccesses j a n xs → IsWatchedGuardedWith xs y t g → TellsGuardedPair j a g
needing_guarded_new {j = j} {a = a} {n = n} {y = y} {g = g} comes are found =
    let x = are.each found.access found.has in
    let pair : IsGuardedPair j a found.access.place n g.lock = record {
      needs = needing_kept comes x found.needs;
      first = needing_from_set g.lock (needing_set_of x.access) found.shares.first;
      second = needing_from_set g.lock (needing_set_of comes.access) found.shares.second;
    } in
    record {
      pair = subst (λ (b : PairedAccess). IsGuardedPair j a b.place g.accesses.1.place g.lock) (sym found.first)
          (subst (λ (b : PairedAccess). IsGuardedPair j a found.access.place b.place g.lock) (sym found.second)
          (subst (λ k. IsGuardedPair j a found.access.place k g.lock) (sym comes.access.place) pair));
      first = subst (IsPairedAccess j) (sym found.first) (needing_made x.access);
      second = subst (IsPairedAccess j) (sym found.second) (needing_made comes.access);
    }

pub needing_unguarded_new : {j : List Event} {a n : ℕ} {xs : List LockedAccess} {y : LockedAccess} {t : ℕ → ℕ}
    {u : PairedAccess × PairedAccess}
    → IsWatchedNext j a n y t → AreWatchedAccesses j a n xs → IsWatchedUnguardedWith xs y t u → TellsUnguardedPair j a u
needing_unguarded_new {j = j} {a = a} {n = n} {y = y} {u = u} comes are found =
    let x = are.each found.access found.has in
    let pair : IsUnguardedPair j a found.access.place n = record {
      needs = needing_kept comes x found.needs;
      none = λ l first second.
          (let one = needing_in_set (needing_set_of x.access) first in
          let other = needing_in_set (needing_set_of comes.access) second in
          found.none l (record { first = one; second = other }));
    } in
    record {
      pair = subst (λ (b : PairedAccess). IsUnguardedPair j a b.place u.1.place) (sym found.first)
          (subst (λ (b : PairedAccess). IsUnguardedPair j a found.access.place b.place) (sym found.second)
          (subst (λ k. IsUnguardedPair j a found.access.place k) (sym comes.access.place) pair));
      first = subst (IsPairedAccess j) (sym found.first) (needing_made x.access);
      second = subst (IsPairedAccess j) (sym found.second) (needing_made comes.access);
    }

-- what is found, if there was none before
pub needing_guarded_next : {j : List Event} {a n : ℕ} {xs : List LockedAccess} {y : LockedAccess} {t : ℕ → ℕ} (o : Option Guarded)
    → IsWatchedNext j a n y t → AreWatchedAccesses j a n xs
    → ((i k l : ℕ) → k < n → ¬ IsGuardedPair j a i k l)
    → MatchOption o ((x : LockedAccess) (l : ℕ) → Has xs x → AreWatchedRacing x y t → ¬ HeldLocksShare x.held y.held l)
    (IsWatchedGuardedWith xs y t)
    → IsWatchedGuarded j a (n + 1) o
needing_guarded_next (Some g) comes are none found = needing_guarded_new comes are found
needing_guarded_next {j = j} {a = a} {n = n} None comes are none without = λ i k l lt pair. elim (cases_lt k n) [
  | inl old ↦ none i k l old pair
  | inr le ↦
      (let same : k ≡ n = omega arith in
      let p : IsGuardedPair j a i n l = subst (λ m. IsGuardedPair j a i m l) same pair in
      let x = needing_stands comes are p.needs in
      let one = needing_in_set (needing_set_kept x) p.first in
      let other = needing_in_set (needing_set_of comes.access) p.second in
      without x.kept.access l x.kept.has x.needs (record { first = one; second = other }))
]

pub needing_unguarded_next : {j : List Event} {a n : ℕ} {xs : List LockedAccess} {y : LockedAccess} {t : ℕ → ℕ} (o : Option (PairedAccess × PairedAccess))
    → IsWatchedNext j a n y t → AreWatchedAccesses j a n xs
    → ((i k : ℕ) → k < n → ¬ IsUnguardedPair j a i k)
    → MatchOption o ((x : LockedAccess) → Has xs x → AreWatchedRacing x y t → (l : ℕ) × HeldLocksShare x.held y.held l)
    (IsWatchedUnguardedWith xs y t)
    → IsWatchedUnguarded j a (n + 1) o
needing_unguarded_next (Some u) comes are none found = needing_unguarded_new comes are found
needing_unguarded_next {j = j} {a = a} {n = n} None comes are none without = λ i k lt pair. elim (cases_lt k n) [
  | inl old ↦ none i k old pair
  | inr le ↦
      (let same : k ≡ n = omega arith in
      let p : IsUnguardedPair j a i n = subst (IsUnguardedPair j a i) same pair in
      let x = needing_stands comes are p.needs in
      let shared = without x.kept.access x.kept.has x.needs in
      p.none shared.0 (needing_from_set shared.0 (needing_set_kept x) shared.1.first)
      (needing_from_set shared.0 (needing_set_of comes.access) shared.1.second))
]

-- what was found before stays
pub needing_guarded_old : (j : List Event) (a n : ℕ) (o : Option Guarded) → is_some o ≡ true → IsWatchedGuarded j a n o → IsWatchedGuarded j a (n + 1) o
needing_guarded_old j a n None is of = absurd (cc is)
needing_guarded_old j a n (Some g) is of = of

pub needing_unguarded_old : (j : List Event) (a n : ℕ) (o : Option (PairedAccess × PairedAccess)) → is_some o ≡ true → IsWatchedUnguarded j a n o → IsWatchedUnguarded j a (n + 1) o
needing_unguarded_old j a n None is of = absurd (cc is)
needing_unguarded_old j a n (Some u) is of = of

-- nothing was found before
pub needing_guarded_none : (j : List Event) (a n : ℕ) (o : Option Guarded) → is_some o ≡ false → IsWatchedGuarded j a n o
    → (i k l : ℕ) → k < n → ¬ IsGuardedPair j a i k l
needing_guarded_none j a n None is of = of
needing_guarded_none j a n (Some g) is of = absurd (cc is)

pub needing_unguarded_none : (j : List Event) (a n : ℕ) (o : Option (PairedAccess × PairedAccess)) → is_some o ≡ false → IsWatchedUnguarded j a n o
    → (i k : ℕ) → k < n → ¬ IsUnguardedPair j a i k
needing_unguarded_none j a n None is of = of
needing_unguarded_none j a n (Some u) is of = absurd (cc is)
