-- Who has stored to a word, and what is kept of it, as the history goes on.
use Rattle.std.proofs.Common.{◌≡◌, ◌≢◌, ◌↔◌, ℕ, ◌+◌, ◌<◌, ◌≤◌, inl, inr, List, [], Some, true, false, take, subst, sym, refl, ap, ◌∙◌, arith}
use Rattle.std.specs.Prelude.{Option, None}
use Rattle.std.proofs.lemmas.Bool.{cases_lt}
use Rattle.std.proofs.lemmas.Option.{none-some, same_Some}
use Rattle.base.specs.InOrderOnce.{Has}
use Rattle.journal.specs.declared.event.Event.{Event}
use Rattle.journal.specs.declared.event.Kind.{Kind}
use Rattle.journal.specs.declared.event.Kind.TheVariants.{Store}
use Rattle.journal.specs.DidEvent.{event}
use Rattle.journal.specs.Events.{EventAt, event_address, event_stores}
use Rattle.journal.specs.WellFormed.{Does, Holds}
use Rattle.journal.proofs.Order.EventPlacesAndCounts.{event_place_same, event_place_does_same}
use Rattle.judge.specs.declared.locksets.watched_word.Guarded.{Guarded}
use Rattle.judge.specs.declared.locksets.watched_word.LockedAccess.{LockedAccess}
use Rattle.judge.specs.declared.locksets.watched_word.PairedAccess.{PairedAccess}
use Rattle.judge.specs.declared.locksets.watched_word.WatchedStorers.{WatchedStorers}
use Rattle.judge.specs.declared.locksets.watched_word.WatchedStorers.TheVariants.{Nobody, One, Several}
use Rattle.judge.specs.declared.locksets.watched_word.WatchedWord.{WatchedWord}
use Rattle.judge.specs.Locksets.Held.{AreHeldLocks}
use Rattle.judge.specs.Locksets.Unlocked.{unlocked_event, unlocked_history}
use Rattle.judge.specs.Locksets.Pairs.{IsStoredByPair, MayBeginPair, IsPairToLock}
use Rattle.judge.specs.Locksets.Watched.{AreWatchedStorers, AreWatchedAccesses, HasWatchedStandIn, IsUnwatched, IsWatchedKept, IsWatchedGuarded, IsWatchCandidate, IsWatchedUnguarded, IsWatchedAccess, WatchedTells}
use Rattle.judge.proofs.locksets.WithoutLocks.{without_locks_address, without_locks_at, without_locks_stood}

-- ---- who has stored

-- two stay two
pub watched_word_storers_longer : {j : List Event} {a m : ℕ} (n : ℕ) → m ≤ n → IsStoredByPair j a m → IsStoredByPair j a n
watched_word_storers_longer n le two = record {
  one = two.one;
  other = two.other;
  apart = two.apart;
  first = two.first;
  second = two.second;
  first_value = two.first_value;
  second_value = two.second_value;
  first_below = (let lt = two.first_below in omega arith);
  second_below = (let lt = two.second_below in omega arith);
  first_stores = two.first_stores;
  second_stores = two.second_stores;
}

-- an event that is no store to a leaves them
pub watched_word_storers_left : (j : List Event) (a n : ℕ) (s : WatchedStorers) → ((q v : ℕ) → ¬ Does j n q (Store a v)) → AreWatchedStorers j a n s
    → AreWatchedStorers j a (n + 1) s
watched_word_storers_left j a n Nobody away none = λ i q v lt does. elim (cases_lt i n) [
  | inl old ↦ none i q v old does
  | inr le ↦ (let same : i ≡ n = omega arith in away q v (subst (λ m. Does j m q (Store a v)) same does))
]
watched_word_storers_left j a n (One p) away one = (
  (one.0.0, one.0.1, (let lt = one.0.2 in omega arith), one.0.3),
  λ i q v lt does. elim (cases_lt i n) [
    | inl old ↦ one.1 i q v old does
    | inr le ↦ (let same : i ≡ n = omega arith in absurd (away q v (subst (λ m. Does j m q (Store a v)) same does)))
  ],
)
watched_word_storers_left j a n Several away two = watched_word_storers_longer (n + 1) (omega arith) two

-- the store that an access is
watched_word_storers_of_store : (j : List Event) (a n p : ℕ) (k : Kind) → Does j n p k → event_address k ≡ Some a → event_stores k ≡ true
    → (v : ℕ) × Does j n p (Store a v)
watched_word_storers_of_store j a n p (Store b v) does is yes_is =
    (v, subst (λ c. Does j n p (Store c v)) (same_Some b a is) does)
watched_word_storers_of_store j a n p _ does is yes_is = absurd (cc yes_is)

-- an access that is none
pub watched_word_storers_of_load : (j : List Event) (a n : ℕ) (x : LockedAccess) → IsWatchCandidate j a n x → x.stores ≡ false
    → (q v : ℕ) → ¬ Does j n q (Store a v)
watched_word_storers_of_load j a n x is isnt q v does =
    let same = event_place_does_same j n x.processor q is.kind (Store a v) is.does does in
    absurd (cc (isnt, is.stores, ap event_stores same.1))

pub watched_word_storers_of_access : (j : List Event) (a n : ℕ) (x : LockedAccess) → IsWatchCandidate j a n x → x.stores ≡ true
    → (v : ℕ) × Does j n x.processor (Store a v)
watched_word_storers_of_access j a n x is yes_is = watched_word_storers_of_store j a n x.processor is.kind is.does is.address (sym is.stores ∙ yes_is)

-- the first store
pub watched_word_storers_first : (j : List Event) (a n p v : ℕ) → Does j n p (Store a v) → AreWatchedStorers j a n Nobody → AreWatchedStorers j a (n + 1) (One p)
watched_word_storers_first j a n p v does none = (
  (n, v, (let lt : n < n + 1 = omega arith in lt), does),
  λ i q w lt other. elim (cases_lt i n) [
    | inl old ↦ absurd (none i q w old other)
    | inr le ↦
        (let same : i ≡ n = omega arith in
        sym (event_place_does_same j n p q (Store a v) (Store a w) does (subst (λ m. Does j m q (Store a w)) same other)).0)
  ],
)

-- one more by the same processor
pub watched_word_storers_same : (j : List Event) (a n p v : ℕ) → Does j n p (Store a v) → AreWatchedStorers j a n (One p) → AreWatchedStorers j a (n + 1) (One p)
watched_word_storers_same j a n p v does one = (
  (n, v, (let lt : n < n + 1 = omega arith in lt), does),
  λ i q w lt other. elim (cases_lt i n) [
    | inl old ↦ one.1 i q w old other
    | inr le ↦
        (let same : i ≡ n = omega arith in
        sym (event_place_does_same j n p q (Store a v) (Store a w) does (subst (λ m. Does j m q (Store a w)) same other)).0)
  ],
)

-- one by a second processor
pub watched_word_storers_second : (j : List Event) (a n p q v : ℕ) → q ≢ p → Does j n p (Store a v) → AreWatchedStorers j a n (One q) → IsStoredByPair j a (n + 1)
watched_word_storers_second j a n p q v apart does one = record {
  one = q;
  other = p;
  apart = apart;
  first = one.0.0;
  second = n;
  first_value = one.0.1;
  second_value = v;
  first_below = (let lt = one.0.2 in omega arith);
  second_below = omega arith;
  first_stores = one.0.3;
  second_stores = does;
}

-- where they aren't several, no two have stored
pub watched_word_storers_few : (j : List Event) (a n : ℕ) (s : WatchedStorers) → s ≢ Several → AreWatchedStorers j a n s → ¬ IsStoredByPair j a n
watched_word_storers_few j a n Nobody isnt none = λ two. none two.first two.one two.first_value two.first_below two.first_stores
watched_word_storers_few j a n (One p) isnt one = λ two.
    two.apart (one.1 two.first two.one two.first_value two.first_below two.first_stores
    ∙ sym (one.1 two.second two.other two.second_value two.second_below two.second_stores))
watched_word_storers_few j a n Several isnt both = absurd (isnt refl)

-- ---- what is kept of accesses

watched_word_access_longer : {j : List Event} {a n : ℕ} {x : LockedAccess} → IsWatchedAccess j a n x → IsWatchedAccess j a (n + 1) x
watched_word_access_longer x = record { access = x.access; below = (let lt = x.below in omega arith); watched = x.watched }

-- an event of which no access has to be kept
pub watched_word_accesses_left : (j : List Event) (a n : ℕ) (xs : List LockedAccess)
    → ((q : ℕ) (k : Kind) → Does j n q k → event_address k ≡ Some a → ¬ MayBeginPair j a n)
    → AreWatchedAccesses j a n xs → AreWatchedAccesses j a (n + 1) xs
watched_word_accesses_left j a n xs away are = record {
  each = λ x has. watched_word_access_longer (are.each x has);
  all = λ i q k lt does is watched. elim (cases_lt i n) [
    | inl old ↦ are.all i q k old does is watched
    | inr le ↦
        (let same : i ≡ n = omega arith in
        absurd (away q k (subst (λ m. Does j m q k) same does) is (subst (MayBeginPair j a) same watched)))
  ];
}

-- the access itself
watched_word_own_access : {j : List Event} {a n : ℕ} {y : LockedAccess} → IsWatchCandidate j a n y → MayBeginPair j a n → IsWatchedAccess j a (n + 1) y
watched_word_own_access {j = j} {a = a} {n = n} {y = y} is watched = record {
  access = subst (λ m. IsWatchCandidate j a m y) (sym is.place) is;
  below = (let same = is.place in omega arith);
  watched = subst (MayBeginPair j a) (sym is.place) watched;
}

-- a watched access is kept
pub watched_word_accesses_kept : (j : List Event) (a n : ℕ) (xs ys : List LockedAccess) (y : LockedAccess) → IsWatchCandidate j a n y → MayBeginPair j a n
    → IsWatchedKept xs y ys → AreWatchedAccesses j a n xs → AreWatchedAccesses j a (n + 1) ys
watched_word_accesses_kept j a n xs ys y is watched kept are = record { each = each; all = all }
  where
    each : (x : LockedAccess) → Has ys x → IsWatchedAccess j a (n + 1) x
    each x has = elim (kept.only x has) [
      | inl same ↦ subst (IsWatchedAccess j a (n + 1)) (sym same) (watched_word_own_access is watched)
      | inr old ↦ watched_word_access_longer (are.each x old)
    ]

    stood : (i q : ℕ) (k : Kind) → i < n → HasWatchedStandIn j xs i q k → HasWatchedStandIn j ys i q k
    stood i q k lt x = elim (kept.rest x.access x.has) [
      | inl there ↦ record { access = x.access; has = there; stands = x.stands }
      | inr like ↦ record {
        access = y;
        has = kept.has;
        stands = record {
          processor = sym like.processor ∙ x.stands.processor;
          stores = sym like.stores ∙ x.stands.stores;
          held = λ l. subst (λ (locks : List ℕ). Has locks l ↔ Holds (take i j) q l) like.held (x.stands.held l);
          later = (let same = is.place in omega arith);
        };
      }
    ]

    own : (q : ℕ) (k : Kind) → Does j n q k → HasWatchedStandIn j ys n q k
    own q k does =
        let same = event_place_does_same j n y.processor q is.kind k is.does does in
        record {
          access = y;
          has = kept.has;
          stands = record {
            processor = same.0;
            stores = is.stores ∙ ap event_stores same.1;
            held = subst (λ p. AreHeldLocks (take n j) p y.held) same.0 is.held;
            later = (let place = is.place in omega arith);
          };
        }

    all : (i q : ℕ) (k : Kind) → i < n + 1 → Does j i q k → event_address k ≡ Some a → MayBeginPair j a i → HasWatchedStandIn j ys i q k
    all i q k lt does at seen = elim (cases_lt i n) [
      | inl old ↦ stood i q k old (are.all i q k old does at seen)
      | inr le ↦
          (let same : n ≡ i = omega arith in
          subst (λ m. HasWatchedStandIn j ys m q k) same (own q k (subst (λ m. Does j m q k) (sym same) does)))
    ]

-- ---- words that the event doesn't access

-- such an event ends no pair of the word
watched_word_no_pair : {j : List Event} {a n i : ℕ} {e : Event} → EventAt j n e → event_address e.kind ≢ Some a → ¬ IsPairToLock j a i n
watched_word_no_pair {j = j} {a = a} {n = n} {e = e} at away needs =
    let same = event_place_same (unlocked_history j) n needs.race.second (unlocked_event e) needs.race.second_at
    (without_locks_at j n e at) in
    away (sym (without_locks_address e.kind) ∙ (sym (ap (λ (f : Event). event_address f.kind) same)
    ∙ (needs.race.conflict.second ∙ ap (λ b. Some b) needs.address)))

watched_word_unguarded_left : (j : List Event) (a n : ℕ) (e : Event) (o : Option (PairedAccess × PairedAccess)) → EventAt j n e → event_address e.kind ≢ Some a
    → IsWatchedUnguarded j a n o → IsWatchedUnguarded j a (n + 1) o
watched_word_unguarded_left j a n e None at away none = λ i k lt pair. elim (cases_lt k n) [
  | inl old ↦ none i k old pair
  | inr le ↦
      (let same : k ≡ n = omega arith in
      watched_word_no_pair at away (subst (IsPairToLock j a i) same pair.needs))
]
watched_word_unguarded_left j a n e (Some u) at away some = some

watched_word_guarded_left : (j : List Event) (a n : ℕ) (e : Event) (o : Option Guarded) → EventAt j n e → event_address e.kind ≢ Some a
    → IsWatchedGuarded j a n o → IsWatchedGuarded j a (n + 1) o
watched_word_guarded_left j a n e None at away none = λ i k l lt pair. elim (cases_lt k n) [
  | inl old ↦ none i k l old pair
  | inr le ↦
      (let same : k ≡ n = omega arith in
      watched_word_no_pair at away (subst (IsPairToLock j a i) same pair.needs))
]
watched_word_guarded_left j a n e (Some g) at away some = some

-- what is kept of a word stays as it is
pub watched_word_left : (j : List Event) (a n : ℕ) (e : Event) (w : WatchedWord) → EventAt j n e → event_address e.kind ≢ Some a
    → WatchedTells j a n w → WatchedTells j a (n + 1) w
watched_word_left j a n e w at away tells = record {
  storers = watched_word_storers_left j a n w.storers (λ q v does. no_access q (Store a v) does refl) tells.storers;
  accesses = watched_word_accesses_left j a n w.accesses.items (λ q k does is seen. no_access q k does is) tells.accesses;
  unguarded = watched_word_unguarded_left j a n e w.unguarded at away tells.unguarded;
  guarded = watched_word_guarded_left j a n e w.guarded at away tells.guarded;
}
  where
    no_access : (q : ℕ) (k : Kind) → Does j n q k → ¬ (event_address k ≡ Some a)
    no_access q k does is = away (ap (λ (f : Event). event_address f.kind) (event_place_same j n e (event q k) at does) ∙ is)

-- ---- words that nothing accesses

-- such a word has no pair
watched_word_start_no_pair : {j : List Event} {a n i k : ℕ} → IsUnwatched j a n → k < n → ¬ IsPairToLock j a i k
watched_word_start_no_pair {j = j} {k = k} none lt needs =
    let r = needs.race in
    let stood = without_locks_stood j k r.second r.second_at in
    none k stood.event lt stood.at
    (sym (without_locks_address stood.event.kind) ∙ (sym (ap (λ (f : Event). event_address f.kind) stood.is)
    ∙ (r.conflict.second ∙ ap (λ b. Some b) needs.address)))

-- what is kept of it before its first access
pub watched_word_start : (j : List Event) (a n : ℕ) (w : WatchedWord) → w.storers ≡ Nobody → w.accesses.items ≡ [] → w.unguarded ≡ None
    → w.guarded ≡ None → IsUnwatched j a n → WatchedTells j a n w
watched_word_start j a n w storers accesses unguarded guarded none = record {
  storers = subst (AreWatchedStorers j a n) (sym storers) (λ i q v lt does. none i (event q (Store a v)) lt does refl);
  accesses = subst (AreWatchedAccesses j a n) (sym accesses) (record {
    each = λ x has. absurd (none-some x has.1);
    all = λ i q k lt does is seen. absurd (none i (event q k) lt does is);
  });
  unguarded = subst (IsWatchedUnguarded j a n) (sym unguarded) (λ i k lt pair. watched_word_start_no_pair none lt pair.needs);
  guarded = subst (IsWatchedGuarded j a n) (sym guarded) (λ i k l lt pair. watched_word_start_no_pair none lt pair.needs);
}
