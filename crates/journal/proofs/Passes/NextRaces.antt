-- The race checker's steps.
use Rattle.std.proofs.Common.{◌≡◌, ◌≢◌, ℕ, ◌+◌, ◌<◌, ◌≤◌, ◌⊎◌, inl, inr, ◌↔◌, List, [], ◌∷◌, ◌++◌, length, take, drop, take-take, take-append-drop, suc, Bool, true, false, cond, ◌==◌, ◌&&◌, Some, vec_len, subst, sym, refl, ap, ◌∙◌, add-one, arith}
use Rattle.std.proofs.lemmas.Bool.{cases_eq, cases_lt}
use Rattle.std.proofs.lemmas.List.{length-take-le}
use Rattle.std.specs.Prelude.{None, is_some}
use Rattle.std.proofs.lemmas.Option.{same_Some}
use Rattle.std.proofs.Math.Seq.{take-append_seam}
use Rattle.journal.specs.declared.event.Event.{Event}
use Rattle.journal.specs.declared.event.Kind.{Kind}
use Rattle.journal.specs.declared.event.Kind.TheVariants.{Load, Store, Acquire, Depart, Await}
use Rattle.journal.specs.declared.race_epochs.RaceEpochs.{RaceEpochs}
use Rattle.journal.specs.DidEvent.{event}
use Rattle.journal.specs.Events.{EventAt, event_count, event_interval_at, event_address, event_stores, event_closes, event_takes}
use Rattle.journal.specs.HappensBeforeEdges.{HappensBefore}
use Rattle.journal.specs.HappensBeforeEdges.Link.{same}
use Rattle.journal.specs.HappensBeforeEdges.HappensBefore.{edge}
use Rattle.journal.specs.Pasts.{UpTo}
use Rattle.journal.specs.WellFormed.{Does}
use Rattle.journal.specs.Times.{IsTimeOf}
use Rattle.journal.specs.Races.{Conflict, Race}
use Rattle.journal.specs.AccessEpochs.{store_access_epoch_at, load_access_epoch_at, IsReachedByAccessEpochs, AreAccessEpochs, AreAccessEpochsWithin, AreConflictAccessEpochsCounted, AreAccessEpochsAfterLoad, StoreAccessEpochNoted, LoadAccessEpochNoted, AccessEpochNoted}
use Rattle.base.proofs.SlicesAndCounts.{slice_get-take, slice_get-take_within, slice_push_cases, slice_take-suc_at}
use Rattle.journal.proofs.Order.EventPlacesAndCounts.{event_place_inside, event_place_same, event_place_longer, event_place_at_end, event_count-append, event_count-front}
use Rattle.journal.proofs.Order.HappensBefore.{happens_before_transitive, happens_before_longer}
use Rattle.journal.proofs.Order.IntoPast.{into_past_up_to_longer}
use Rattle.journal.proofs.Times.PushedTimes.{pushed_time_own_entry}
use Rattle.journal.proofs.Times.OrderByTime.{order_by_time_counts}

next_race_access_quiet : (k : Kind) (a : ℕ) → event_address k ≡ Some a → event_takes k ≡ false
next_race_access_quiet (Acquire l) a h = absurd cc
next_race_access_quiet Depart a h = absurd cc
next_race_access_quiet (Await f) a h = absurd cc
next_race_access_quiet _ a h = refl

-- an access neither takes nor closes
pub next_race_access_plain : (k : Kind) → is_some (event_address k) ≡ true → (event_takes k ≡ false) × (event_closes k ≡ false)
next_race_access_plain (Load a v) h = (refl, refl)
next_race_access_plain (Store a v) h = (refl, refl)
next_race_access_plain _ h = absurd cc

pub next_race_no_access : (k : Kind) → is_some (event_address k) ≡ false → event_address k ≡ None
next_race_no_access (Load a v) h = absurd cc
next_race_no_access (Store a v) h = absurd cc
next_race_no_access _ h = refl

-- of two accesses that conflict, by two processors, the first races with the second exactly where the second's
-- timestamp doesn't count its interval
pub next_race_by_time : {events : List Event} {place i : ℕ} {e f : Event} {t : ℕ → ℕ} → EventAt events place e → EventAt events i f
    → i < place → f.processor ≢ e.processor → Conflict f e → IsTimeOf (take place events) e.processor t
    → Race events i place ↔ (t f.processor ≤ event_interval_at events f.processor i)
next_race_by_time {events = events} {place = place} {i = i} {e = e} {f = f} {t = t} at to lt apart conflict time = (there, here)
  where
    tells : HappensBefore events i place ↔ (event_interval_at events f.processor i < t f.processor)
    tells =
        order_by_time_counts time to at
        (next_race_access_quiet e.kind conflict.address conflict.second) apart lt

    there : Race events i place → t f.processor ≤ event_interval_at events f.processor i
    there r =
        elim (cases_lt (event_interval_at events f.processor i) (t f.processor))
        [ inl below ↦ absurd (r.unordered (tells.1 below)) | inr le ↦ le ]

    here : t f.processor ≤ event_interval_at events f.processor i → Race events i place
    here le =
        record {
          before = lt;
          first = f;
          second = e;
          first_at = to;
          second_at = at;
          apart = apart;
          conflict = conflict;
          unordered = λ h. (let below = tells.0 h in omega arith);
        }

-- the events of a race
pub next_race_events : (events : List Event) (place i : ℕ) (e f : Event) → EventAt events place e → EventAt events i f
    → Race events i place → (f.processor ≢ e.processor) × Conflict f e
next_race_events events place i e f at to r =
    let first = event_place_same events i r.first f r.first_at to in
    let second = event_place_same events place r.second e r.second_at at in
    subst (λ x. (x.processor ≢ e.processor) × Conflict x e) first
    (subst (λ y. (r.first.processor ≢ y.processor) × Conflict r.first y) second (r.apart, r.conflict))

-- what is no access ends no race
pub next_race_none_other : (events : List Event) (place : ℕ) (e : Event) → EventAt events place e → event_address e.kind ≡ None
    → (i : ℕ) → ¬ Race events i place
next_race_none_other events place e at none i r =
    let both = next_race_events events place i e r.first at r.first_at r in
    let some = both.1.second in
    absurd (cc (none, some))

-- a count one place on
pub next_race_count : (is : Kind → Bool) (events : List Event) (i q : ℕ) (f : Event) → EventAt events i f
    → event_count is (take (i + 1) events) q ≡ event_count is (take i events) q + cond ((f.processor == q) && is f.kind) 1 0
next_race_count is events i q f at =
    let next : take (i + 1) events ≡ take i events ++ f ∷ [] =
    ap (λ n. take n events) (add-one i) ∙ slice_take-suc_at events i f at in
    let sum = event_count-append is (take i events) (f ∷ []) q in
    rw next (omega arith)

pub next_race_cond_and_true : (b c : Bool) → c ≡ true → cond {A = ℕ} (b && c) 1 0 ≡ cond b 1 0
next_race_cond_and_true true c h = rw h
next_race_cond_and_true false c h = refl

pub next_race_cond_and_false : (b c : Bool) → c ≡ false → cond {A = ℕ} (b && c) 1 0 ≡ 0
next_race_cond_and_false true c h = rw h
next_race_cond_and_false false c h = refl

next_race_access_cases : (k : Kind) (a : ℕ) → event_address k ≡ Some a → ((v : ℕ) × (k ≡ Load a v)) ⊎ ((v : ℕ) × (k ≡ Store a v))
next_race_access_cases (Load b v) a h = inl (v, ap (λ x. Load x v) (same_Some b a h))
next_race_access_cases (Store b v) a h = inr (v, ap (λ x. Store x v) (same_Some b a h))
next_race_access_cases _ a h = absurd cc

-- a front tells an earlier event's interval
next_race_interval_front : (events : List Event) (place q i : ℕ) → i < place
    → event_interval_at (take place events) q i ≡ event_interval_at events q i
next_race_interval_front events place q i lt =
    let le : i ≤ place = omega arith in
    ap (λ (xs : List Event). event_count event_closes xs q) (take-take i place events le)

-- what is up to a place is before what that is before
next_race_up_to_before : (j : List Event) (e : Event) (i m k : ℕ) → UpTo j m i → HappensBefore (j ++ e ∷ []) m k
    → HappensBefore (j ++ e ∷ []) i k
next_race_up_to_before j e i m k (inl is) h = subst (λ x. HappensBefore (j ++ e ∷ []) x k) (sym is) h
next_race_up_to_before j e i m k (inr before) h = happens_before_transitive (j ++ e ∷ []) (happens_before_longer j (e ∷ []) before) h

-- e comes after j and takes nothing, and t is its processor's timestamp
record NextRaceComesAt (j : List Event) (e : Event) (t : ℕ → ℕ) : Type 0 where
  pub time : IsTimeOf j e.processor t
  pub quiet : event_takes e.kind ≡ false

-- what is done before the last event is before it: by its own processor, or where its timestamp counts the interval
next_race_does_before_last : {j : List Event} {e : Event} {t : ℕ → ℕ} → NextRaceComesAt j e t → (q i : ℕ) (k : Kind) → Does j i q k
    → (q ≢ e.processor → event_interval_at j q i < t q) → HappensBefore (j ++ e ∷ []) i (length j)
next_race_does_before_last {j} {e} {t} comes q i k does counted =
    elim (cases_eq q e.processor) [ inl is ↦ mine is | inr isnt ↦ others isnt ]
  where
    lt : i < length j
    lt = event_place_inside j i (event q k) does

    does_now : Does (j ++ e ∷ []) i q k
    does_now = event_place_longer j (e ∷ []) i (event q k) does

    mine : q ≡ e.processor → HappensBefore (j ++ e ∷ []) i (length j)
    mine is =
        edge (record {
          before = lt;
          from = event q k;
          to = e;
          from_at = does_now;
          to_at = event_place_at_end j e;
          link = same is;
        })

    others : q ≢ e.processor → HappensBefore (j ++ e ∷ []) i (length j)
    others isnt =
        let front = take-append_seam j (e ∷ []) in
        let time_now = subst (λ xs. IsTimeOf xs e.processor t) (sym front) comes.time in
        let number = event_count-front event_closes j (e ∷ []) i q (omega (arith, lt)) in
        let below = counted isnt in
        (order_by_time_counts time_now does_now (event_place_at_end j e) comes.quiet
        isnt lt).1
        (omega arith)

-- what numbers within its timestamp reach is before the last event
next_race_reached_last : {j : List Event} {e : Event} {t n : ℕ → ℕ} {i : ℕ} → NextRaceComesAt j e t → AreAccessEpochsWithin n t e.processor
    → IsReachedByAccessEpochs j n i → HappensBefore (j ++ e ∷ []) i (length j)
next_race_reached_last {j} {e} {t} {n} {i} comes within r =
    next_race_up_to_before j e i r.last (length j) r.reaches (next_race_does_before_last comes r.by r.last r.kind r.does
    (λ apart. (let le = within r.by apart in let below = r.number in omega arith)))

-- the last event is reached by a number above its interval, and so is what is up to it
next_race_reached_by_last : (j : List Event) (e : Event) (t n : ℕ → ℕ) (i : ℕ) → IsTimeOf j e.processor t
    → t e.processor < n e.processor → UpTo (j ++ e ∷ []) (length j) i → IsReachedByAccessEpochs (j ++ e ∷ []) n i
next_race_reached_by_last j e t n i time above up_to = record {
  by = e.processor;
  last = length j;
  kind = e.kind;
  does = event_place_at_end j e;
  number = number;
  reaches = up_to;
}
  where
    number : event_interval_at (j ++ e ∷ []) e.processor (length j) < n e.processor
    number =
        let own = pushed_time_own_entry j e.processor t time in
        let all = ap (λ (xs : List Event). event_count event_closes xs e.processor) (take-append_seam j (e ∷ [])) in
        omega arith

-- what is reached stays so, by a number as great
next_race_reached_longer : (j : List Event) (e : Event) (m n : ℕ → ℕ) (i : ℕ) (r : IsReachedByAccessEpochs j m i) → m r.by ≤ n r.by
    → IsReachedByAccessEpochs (j ++ e ∷ []) n i
next_race_reached_longer j e m n i r le = record {
  by = r.by;
  last = r.last;
  kind = r.kind;
  does = event_place_longer j (e ∷ []) r.last (event r.by r.kind) r.does;
  number = number;
  reaches = into_past_up_to_longer j (e ∷ []) r.last i r.reaches;
}
  where
    number : event_interval_at (j ++ e ∷ []) r.by r.last < n r.by
    number =
        let lt = event_place_inside j r.last (event r.by r.kind) r.does in
        let front = event_count-front event_closes j (e ∷ []) r.last r.by (omega arith) in
        let below = r.number in
        omega arith

next_race_reached_same : (j : List Event) (e : Event) (m n : ℕ → ℕ) (i : ℕ) → ((q : ℕ) → n q ≡ m q) → IsReachedByAccessEpochs j m i
    → IsReachedByAccessEpochs (j ++ e ∷ []) n i
next_race_reached_same j e m n i is r = next_race_reached_longer j e m n i r (let eq = is r.by in omega arith)

-- what the loads' numbers reach is reached by those after a load
next_race_reached : {j : List Event} {e : Event} {t m n : ℕ → ℕ} {i : ℕ} → NextRaceComesAt j e t → AreAccessEpochsAfterLoad m n t e.processor
    → IsReachedByAccessEpochs j m i → IsReachedByAccessEpochs (j ++ e ∷ []) n i
next_race_reached {j} {e} {t} {m} {n} {i} comes after r = elim (cases_eq r.by e.processor) [
  | inl is ↦ through (λ apart. absurd (apart is))
  | inr isnt ↦ elim (after.others r.by isnt) [
    | inl counted ↦ through (λ apart. (let below = r.number in omega arith))
    | inr le ↦ next_race_reached_longer j e m n i r le
  ]
]
  where
    through : (r.by ≢ e.processor → event_interval_at j r.by r.last < t r.by) → IsReachedByAccessEpochs (j ++ e ∷ []) n i
    through counted =
        next_race_reached_by_last j e t n i comes.time after.own
        (inr (next_race_up_to_before j e i r.last (length j) r.reaches
        (next_race_does_before_last comes r.by r.last r.kind r.does counted)))

-- e's processor has the timestamp t after j, and x is what is kept of the addresses
pub record NextRaceMeetsAccesses (j : List Event) (e : Event) (t : ℕ → ℕ) (addresses : ℕ) (x : RaceEpochs) : Type 0 where
  pub time : IsTimeOf j e.processor t
  pub kept : AreAccessEpochs j addresses x

-- each event that conflicts with e happens before it, when it comes last
abbrev NextRaceConflictsAreBefore : List Event → Event → Type 0
NextRaceConflictsAreBefore j e =
    (i q : ℕ) (f : Kind) → Does j i q f → Conflict (event q f) e → HappensBefore (j ++ e ∷ []) i (length j)

-- an event doesn't end a race where its timestamp counts the last accesses by others that conflict with it
next_race_none_last : {j : List Event} {e : Event} {t : ℕ → ℕ} {addresses : ℕ} {x : RaceEpochs} → NextRaceMeetsAccesses j e t addresses x
    → (k : Kind) → e.kind ≡ k → AreConflictAccessEpochsCounted x e.processor t k → NextRaceConflictsAreBefore j e
next_race_none_last {j} {e} {t} {addresses} {x} m (Load a v) is counted i q f does c =
    elim (next_race_access_cases f c.address c.first) [
      | inl load ↦ elim c.stores [
        | inl first ↦ absurd (cc (first, ap (λ k. event_stores k) load.1))
        | inr second ↦ absurd (cc (second, ap (λ k. event_stores k) is))
      ]
      | inr store ↦ (let at = same_Some a c.address (sym (ap (λ k. event_address k) is) ∙ c.second) in
          let does_store = subst (λ k. Does j i q k) store.1 does in
          let comes : NextRaceComesAt j e t = record { time = m.time; quiet = next_race_access_quiet e.kind c.address c.second } in
          next_race_reached_last {n = store_access_epoch_at x a} comes counted
          (subst (λ b. IsReachedByAccessEpochs j (store_access_epoch_at x b) i) (sym at) (m.kept.stores c.address q i store.0 does_store)))
    ]
next_race_none_last {j} {e} {t} {addresses} {x} m (Store a v) is counted i q f does c =
    elim (next_race_access_cases f c.address c.first) [
      | inl load ↦ (let does_load = subst (λ k. Does j i q k) load.1 does in
          elim (m.kept.loads c.address q i load.0 does_load)
          [ inl r ↦ by_store r | inr r ↦ by_loads r ])
      | inr store ↦ by_store (m.kept.stores c.address q i store.0 (subst (λ k. Does j i q k) store.1 does))
    ]
  where
    comes : NextRaceComesAt j e t
    comes = record { time = m.time; quiet = next_race_access_quiet e.kind c.address c.second }

    at : a ≡ c.address
    at = same_Some a c.address (sym (ap (λ k. event_address k) is) ∙ c.second)

    by_store : IsReachedByAccessEpochs j (store_access_epoch_at x c.address) i → HappensBefore (j ++ e ∷ []) i (length j)
    by_store r =
        next_race_reached_last {n = store_access_epoch_at x a} comes counted.0 (subst (λ b. IsReachedByAccessEpochs j (store_access_epoch_at x b) i) (sym at) r)

    by_loads : IsReachedByAccessEpochs j (load_access_epoch_at x c.address) i → HappensBefore (j ++ e ∷ []) i (length j)
    by_loads r =
        next_race_reached_last {n = load_access_epoch_at x a} comes counted.1 (subst (λ b. IsReachedByAccessEpochs j (load_access_epoch_at x b) i) (sym at) r)
next_race_none_last m _ is counted i q f does c = absurd (cc (ap (λ k. event_address k) is, c.second))

pub next_race_none : {t : ℕ → ℕ} {addresses : ℕ} {x : RaceEpochs} → (events : List Event) (place : ℕ) (e : Event)
    → EventAt events place e → NextRaceMeetsAccesses (take place events) e t addresses x → AreConflictAccessEpochsCounted x e.processor t e.kind → (i : ℕ)
    → ¬ Race events i place
next_race_none events place e at m counted i r = r.unordered before
  where
    both : (r.first.processor ≢ e.processor) × Conflict r.first e
    both = next_race_events events place i e r.first at r.first_at r

    does : Does (take place events) i r.first.processor r.first.kind
    does = slice_get-take events place i r.before ∙ r.first_at

    long : length (take place events) ≡ place
    long = length-take-le place events (let lt = event_place_inside events place e at in omega arith)

    split : (take place events ++ e ∷ []) ++ drop (suc place) events ≡ events
    split =
        ap (λ xs. xs ++ drop (suc place) events) (sym (slice_take-suc_at events place e at))
        ∙ take-append-drop (suc place) events

    before : HappensBefore events i place
    before =
        let h = next_race_none_last m e.kind refl counted i r.first.processor r.first.kind does both.1 in
        subst (λ xs. HappensBefore xs i place) split
        (happens_before_longer (take place events ++ e ∷ []) (drop (suc place) events)
        (subst (λ m. HappensBefore (take place events ++ e ∷ []) i m) long h))

-- the timestamp t counts each access by another processor that conflicts with e
abbrev pub NextRaceConflictsAreOrdered : List Event → Event → (ℕ → ℕ) → Type 0
NextRaceConflictsAreOrdered j e t =
    (i q : ℕ) (k : Kind) → Does j i q k → Conflict (event q k) e → q ≢ e.processor → event_interval_at j q i < t q

-- so does that of an event that ends no race
pub next_race_ordered_here : (events : List Event) (place : ℕ) (e : Event) (t : ℕ → ℕ) → EventAt events place e
    → IsTimeOf (take place events) e.processor t → ((i : ℕ) → ¬ Race events i place)
    → NextRaceConflictsAreOrdered (take place events) e t
next_race_ordered_here events place e t at time none i q k does conflict apart =
    let lt = slice_get-take_within events place i (event q k) does in
    let does_here : Does events i q k = sym (slice_get-take events place i lt) ∙ does in
    let front = next_race_interval_front events place q i lt in
    elim (cases_lt (event_interval_at events q i) (t q)) [
      | inl below ↦ omega arith
      | inr le ↦ absurd
          (none i ((next_race_by_time at does_here lt apart conflict time).1 le))
    ]

-- e ends no race with what came before, and y, which is as long as x, is to be what is kept with it
pub record NextRaceNotesAccess (j : List Event) (e : Event) (t : ℕ → ℕ) (addresses : ℕ) (x y : RaceEpochs) : Type 0 where
  pub time : IsTimeOf j e.processor t
  pub kept : AreAccessEpochs j addresses x
  pub ordered : NextRaceConflictsAreOrdered j e t
  pub last_long : vec_len y.last ≡ vec_len x.last
  pub loads_long : vec_len y.loads ≡ vec_len x.loads

-- what is kept of the addresses, after a load
next_race_after_load : {j : List Event} {e : Event} {t : ℕ → ℕ} {addresses : ℕ} {x y : RaceEpochs} → NextRaceNotesAccess j e t addresses x y
    → (a v : ℕ) → e.kind ≡ Load a v → LoadAccessEpochNoted x y a e.processor t → AreAccessEpochs (j ++ e ∷ []) addresses y
next_race_after_load {j} {e} {t} {addresses} {x} {y} n a v is noted = record {
  last_long = n.last_long ∙ n.kept.last_long;
  loads_long = n.loads_long ∙ n.kept.loads_long;
  stores = stores;
  loads = loads;
}
  where
    comes : NextRaceComesAt j e t
    comes = record { time = n.time; quiet = ap (λ k. event_takes k) is }

    old_store : (b i : ℕ) → IsReachedByAccessEpochs j (store_access_epoch_at x b) i → IsReachedByAccessEpochs (j ++ e ∷ []) (store_access_epoch_at y b) i
    old_store b i r = next_race_reached_same j e (store_access_epoch_at x b) (store_access_epoch_at y b) i (λ q. noted.same_stores b q) r

    old_load : (b i : ℕ) → IsReachedByAccessEpochs j (load_access_epoch_at x b) i → IsReachedByAccessEpochs (j ++ e ∷ []) (load_access_epoch_at y b) i
    old_load b i r = elim (cases_eq b a) [
      | inl eq ↦ subst (λ c. IsReachedByAccessEpochs j (load_access_epoch_at x c) i → IsReachedByAccessEpochs (j ++ e ∷ []) (load_access_epoch_at y c) i) (sym eq)
          (λ s. next_race_reached {m = load_access_epoch_at x a} {n = load_access_epoch_at y a} comes noted.loads s) r
      | inr isnt ↦
          next_race_reached_same j e (load_access_epoch_at x b) (load_access_epoch_at y b) i (λ q. noted.same_loads b q isnt) r
    ]

    stores : (b q i w : ℕ) → Does (j ++ e ∷ []) i q (Store b w) → IsReachedByAccessEpochs (j ++ e ∷ []) (store_access_epoch_at y b) i
    stores b q i w does = elim (slice_push_cases j e i (event q (Store b w)) does) [
      | inl before ↦ old_store b i (n.kept.stores b q i w before.1)
      | inr last ↦ absurd (cc (is, ap (λ f. f.kind) last.1))
    ]

    newest : (b i : ℕ) → i ≡ length j → a ≡ b → IsReachedByAccessEpochs (j ++ e ∷ []) (load_access_epoch_at y b) i
    newest b i at eq =
        next_race_reached_by_last j e t (load_access_epoch_at y b) i n.time
        (subst (λ c. t e.processor < load_access_epoch_at y c e.processor) eq noted.loads.own) (inl at)

    loads : (b q i w : ℕ) → Does (j ++ e ∷ []) i q (Load b w)
        → IsReachedByAccessEpochs (j ++ e ∷ []) (store_access_epoch_at y b) i ⊎ IsReachedByAccessEpochs (j ++ e ∷ []) (load_access_epoch_at y b) i
    loads b q i w does = elim (slice_push_cases j e i (event q (Load b w)) does) [
      | inl before ↦ elim (n.kept.loads b q i w before.1)
          [ inl r ↦ inl (old_store b i r) | inr r ↦ inr (old_load b i r) ]
      | inr last ↦
          inr (newest b i last.0
          (same_Some a b (sym (ap (λ k. event_address k) is) ∙ ap (λ f. event_address f.kind) last.1)))
    ]

-- after a store
next_race_after_store : {j : List Event} {e : Event} {t : ℕ → ℕ} {addresses : ℕ} {x y : RaceEpochs} → NextRaceNotesAccess j e t addresses x y
    → (a v : ℕ) → e.kind ≡ Store a v → StoreAccessEpochNoted x y a e.processor t → AreAccessEpochs (j ++ e ∷ []) addresses y
next_race_after_store {j} {e} {t} {addresses} {x} {y} n a v is noted = record {
  last_long = n.last_long ∙ n.kept.last_long;
  loads_long = n.loads_long ∙ n.kept.loads_long;
  stores = stores;
  loads = loads;
}
  where
    comes : NextRaceComesAt j e t
    comes = record { time = n.time; quiet = ap (λ k. event_takes k) is }

    conflict : (q : ℕ) (k : Kind) → event_address k ≡ Some a → Conflict (event q k) e
    conflict q k at = record {
      address = a;
      first = at;
      second = ap (λ k. event_address k) is;
      stores = inr (ap (λ k. event_stores k) is);
    }

    -- an access of the stored address is before the store
    through : (b i q : ℕ) (k : Kind) → Does j i q k → event_address k ≡ Some b → b ≡ a
        → IsReachedByAccessEpochs (j ++ e ∷ []) (store_access_epoch_at y b) i
    through b i q k does at eq =
        next_race_reached_by_last j e t (store_access_epoch_at y b) i n.time
        (subst (λ c. t e.processor < store_access_epoch_at y c e.processor) (sym eq) noted.own)
        (inr (next_race_does_before_last comes q i k does
        (n.ordered i q k does (conflict q k (at ∙ ap (λ c. Some c) eq)))))

    newest : (b i : ℕ) → i ≡ length j → a ≡ b → IsReachedByAccessEpochs (j ++ e ∷ []) (store_access_epoch_at y b) i
    newest b i at eq =
        next_race_reached_by_last j e t (store_access_epoch_at y b) i n.time
        (subst (λ c. t e.processor < store_access_epoch_at y c e.processor) eq noted.own) (inl at)

    stores : (b q i w : ℕ) → Does (j ++ e ∷ []) i q (Store b w) → IsReachedByAccessEpochs (j ++ e ∷ []) (store_access_epoch_at y b) i
    stores b q i w does = elim (slice_push_cases j e i (event q (Store b w)) does) [
      | inl before ↦ elim (cases_eq b a) [
        | inl eq ↦ through b i q (Store b w) before.1 refl eq
        | inr isnt ↦
            next_race_reached_same j e (store_access_epoch_at x b) (store_access_epoch_at y b) i (λ p. noted.same_stores b p isnt)
            (n.kept.stores b q i w before.1)
      ]
      | inr last ↦ newest b i last.0
          (same_Some a b (sym (ap (λ k. event_address k) is) ∙ ap (λ f. event_address f.kind) last.1))
    ]

    loads : (b q i w : ℕ) → Does (j ++ e ∷ []) i q (Load b w)
        → IsReachedByAccessEpochs (j ++ e ∷ []) (store_access_epoch_at y b) i ⊎ IsReachedByAccessEpochs (j ++ e ∷ []) (load_access_epoch_at y b) i
    loads b q i w does = elim (slice_push_cases j e i (event q (Load b w)) does) [
      | inl before ↦ elim (cases_eq b a) [
        | inl eq ↦ inl (through b i q (Load b w) before.1 refl eq)
        | inr isnt ↦ elim (n.kept.loads b q i w before.1) [
          | inl r ↦ inl
              (next_race_reached_same j e (store_access_epoch_at x b) (store_access_epoch_at y b) i (λ p. noted.same_stores b p isnt) r)
          | inr r ↦ inr
              (next_race_reached_same j e (load_access_epoch_at x b) (load_access_epoch_at y b) i (λ p. noted.same_loads b p isnt) r)
        ]
      ]
      | inr last ↦ absurd (cc (is, ap (λ f. f.kind) last.1))
    ]

-- after an event that is no access
pub next_race_after_other : (j : List Event) (e : Event) (addresses : ℕ) (x : RaceEpochs) → event_address e.kind ≡ None
    → AreAccessEpochs j addresses x → AreAccessEpochs (j ++ e ∷ []) addresses x
next_race_after_other j e addresses x is kept = record {
  last_long = kept.last_long;
  loads_long = kept.loads_long;
  stores =
      λ b q i w does. elim (slice_push_cases j e i (event q (Store b w)) does) [
        | inl before ↦
            next_race_reached_same j e (store_access_epoch_at x b) (store_access_epoch_at x b) i (λ p. refl) (kept.stores b q i w before.1)
        | inr last ↦ absurd (cc (is, ap (λ f. event_address f.kind) last.1))
      ];
  loads =
      λ b q i w does. elim (slice_push_cases j e i (event q (Load b w)) does) [
        | inl before ↦ elim (kept.loads b q i w before.1) [
          | inl r ↦ inl (next_race_reached_same j e (store_access_epoch_at x b) (store_access_epoch_at x b) i (λ p. refl) r)
          | inr r ↦ inr (next_race_reached_same j e (load_access_epoch_at x b) (load_access_epoch_at x b) i (λ p. refl) r)
        ]
        | inr last ↦ absurd (cc (is, ap (λ f. event_address f.kind) last.1))
      ];
}

-- what is kept of the addresses, one event on that ends no race
pub next_race_accesses : {j : List Event} {e : Event} {t : ℕ → ℕ} {addresses : ℕ} {x y : RaceEpochs}
    → NextRaceNotesAccess j e t addresses x y → (k : Kind) → e.kind ≡ k → AccessEpochNoted x y e.processor t k
    → AreAccessEpochs (j ++ e ∷ []) addresses y
next_race_accesses n (Load a v) is noted = next_race_after_load n a v is noted
next_race_accesses n (Store a v) is noted = next_race_after_store n a v is noted
next_race_accesses {j} {e} {t} {addresses} {x} {y} n _ is noted =
    subst (λ z. AreAccessEpochs (j ++ e ∷ []) addresses z) (sym noted)
    (next_race_after_other j e addresses x (ap (λ k. event_address k) is) n.kept)
