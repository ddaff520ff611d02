-- What is kept of all words, and what it tells at the end.
use Rattle.std.proofs.Common.{◌≡◌, ◌≢◌, ℕ, zero, suc, refl, IsTrue, ◌+◌, ◌<◌, inl, inr, List, [], ◌∷◌, ◌++◌, Some, Option, length, length-append, take, take-take, slice_get, slice_set, subst, sym, ap, ◌∙◌, arith}
use Rattle.std.specs.Prelude.{None, MatchOption, is_some}
use Rattle.std.proofs.lemmas.Bool.{cases_eq, cases_lt}
use Rattle.std.proofs.lemmas.List.{length-map}
use Rattle.std.proofs.Math.Seq.{take-append_seam}
use Rattle.std.proofs.lemmas.Option.{none-some, same_Some, slice_get_within}
use Rattle.base.proofs.SliceSets.{slice_get-set_found, slice_get-set_other}
use Rattle.base.specs.InOrderOnce.{Has}
use Rattle.base.proofs.JoinedLists.{joined_list_in_order-append, joined_list_in_order_single}
use Rattle.base.proofs.SlicesAndCounts.{slice_get-append_left, slice_get-last, slice_get-take, slice_push_cases}
use Rattle.journal.specs.declared.event.Event.{Event}
use Rattle.journal.specs.declared.event.Kind.{Kind}
use Rattle.journal.specs.declared.event.Kind.TheVariants.{Load, Store, Acquire}
use Rattle.journal.specs.DidEvent.{event}
use Rattle.journal.specs.Events.{EventAt, event_address}
use Rattle.journal.specs.EventsInRange.{EventAddressInRange}
use Rattle.journal.proofs.Order.EventPlacesAndCounts.{event_place_inside, event_place_same}
use Rattle.journal.proofs.Journals.WellFormedStays.{well_formed_stays_holds_cases, well_formed_stays_holds_longer}
use Rattle.judge.specs.declared.locksets.held_locks.HeldLocks.{HeldLocks}
use Rattle.judge.specs.declared.locksets.lockset_finder.LocksetWords.{LocksetWords}
use Rattle.judge.specs.declared.locksets.lockset_finder.LocksetWords.TheVariants.{All, Forgotten}
use Rattle.judge.specs.declared.locksets.lockset_finder.Unprotected.{Unprotected}
use Rattle.judge.specs.declared.locksets.watched_word.Guarded.{Guarded}
use Rattle.judge.specs.declared.locksets.watched_word.PairedAccess.{PairedAccess}
use Rattle.judge.specs.declared.locksets.watched_word.WatchedWord.{WatchedWord}
use Rattle.judge.specs.Locksets.Unlocked.{unlocked_event, unlocked_history}
use Rattle.judge.specs.Locksets.Held.{AreHeldLocks, HasHeldLock}
use Rattle.judge.specs.Locksets.Pairs.{IsGuardedPair, IsPairToLock, IsUnguardedPair, IsUnprotectedAsked, PairsLeaveUnprotected, PairsTellUnprotected, TellsGuardedPair, TellsUnguardedPair}
use Rattle.judge.specs.Locksets.Watched.{IsUnwatched, IsWatchedGuarded, WatchedTells}
use Rattle.judge.specs.Locksets.KeptLocksets.{AreKeptLocksetsOfAll, AreKeptLocksetWords, ComesNextToWatch}
use Rattle.judge.proofs.locksets.WatchedWords.{watched_word_left}
use Rattle.judge.proofs.locksets.WithoutLocks.{without_locks_address, without_locks_stood}

-- ---- numbers in range

pub telling_locksets_address_within : (n : ℕ) (k : Kind) (a : ℕ) → EventAddressInRange n k → event_address k ≡ Some a → a < n
telling_locksets_address_within n (Load b v) a lt is = subst (λ c. c < n) (same_Some b a is) lt
telling_locksets_address_within n (Store b v) a lt is = subst (λ c. c < n) (same_Some b a is) lt
telling_locksets_address_within n _ a lt is = absurd (cc is)

-- ---- the locks that all hold

-- a set more, of which nobody holds a lock before the first event
pub telling_locksets_held_push : (sets : List HeldLocks) (h : HeldLocks) → ((l : ℕ) → ¬ HasHeldLock h l) → AreKeptLocksetsOfAll [] sets
    → AreKeptLocksetsOfAll [] (sets ++ h ∷ [])
telling_locksets_held_push sets h none old p g there = elim (slice_push_cases sets h p g there) [
  | inl was ↦ old p g was.1
  | inr new ↦ λ l. (
    λ has. absurd (none l (subst (λ (x : HeldLocks). HasHeldLock x l) (sym new.1) has)),
    λ holds. absurd (none-some (event p (Acquire l)) holds.acquires),
  )
]

-- one event on
pub telling_locksets_held_next : (j : List Event) (e : Event) (sets : List HeldLocks) (h : HeldLocks)
    → AreHeldLocks (j ++ e ∷ []) e.processor h → AreKeptLocksetsOfAll j sets → AreKeptLocksetsOfAll (j ++ e ∷ []) (slice_set sets e.processor h)
telling_locksets_held_next j e sets h now old p g there = elim (cases_eq p e.processor) [
  | inl is ↦
      (let found : h ≡ g = slice_get-set_found sets e.processor h g (ap (slice_get (slice_set sets e.processor h)) (sym is) ∙ there) in
      subst (λ q. AreHeldLocks (j ++ e ∷ []) q g) (sym is) (subst (AreHeldLocks (j ++ e ∷ []) e.processor) found now))
  | inr isnt ↦ λ l.
      (let was = old p g (sym (slice_get-set_other sets e.processor p h isnt) ∙ there) l in (
        λ has. well_formed_stays_holds_longer j e p l (λ same. isnt (sym (ap (λ (f : Event). f.processor) same))) (was.0 has),
        λ holds. elim (well_formed_stays_holds_cases j e p l holds) [
          | inl held ↦ was.1 held.0
          | inr same ↦ absurd (isnt (sym (ap (λ (f : Event). f.processor) same)))
        ],
      ))
]

-- ---- all words, one event on

-- what is told of a word that the event doesn't access
telling_locksets_word_left : (j : List Event) (a n : ℕ) (e : Event) (o : Option WatchedWord) → EventAt j n e → event_address e.kind ≢ Some a
    → MatchOption o (IsUnwatched j a n) (WatchedTells j a n) → MatchOption o (IsUnwatched j a (n + 1)) (WatchedTells j a (n + 1))
telling_locksets_word_left j a n e None at away none = λ i f lt there is. elim (cases_lt i n) [
  | inl old ↦ none i f old there is
  | inr le ↦
      (let same : i ≡ n = omega arith in
      away (ap (λ (g : Event). event_address g.kind) (event_place_same j n e f at (subst (λ m. EventAt j m f) same there)) ∙ is))
]
telling_locksets_word_left j a n e (Some w) at away tells = watched_word_left j a n e w at away tells

-- an event that accesses no word
pub telling_locksets_words_left : (j : List Event) (n : ℕ) (e : Event) (words : ℕ → Option WatchedWord) → EventAt j n e
    → event_address e.kind ≡ None → AreKeptLocksetWords j n words → AreKeptLocksetWords j (n + 1) words
telling_locksets_words_left j n e words at none tells a =
    telling_locksets_word_left j a n e (words a) at (λ is. absurd (none-some a (sym none ∙ is))) (tells a)

-- one that accesses a word
pub telling_locksets_words_noted : (j : List Event) (n a : ℕ) {e : Event} {w : WatchedWord} (old new : ℕ → Option WatchedWord)
    → EventAt j n e → event_address e.kind ≡ Some a → WatchedTells j a (n + 1) w → new a ≡ Some w
    → ((b : ℕ) → b ≢ a → new b ≡ old b) → AreKeptLocksetWords j n old → AreKeptLocksetWords j (n + 1) new
telling_locksets_words_noted j n a {e = e} {w = w} old new at is now written others tells b = elim (cases_eq b a) [
  | inl same ↦
      (let P : ℕ → Type 0 = λ c. MatchOption (new c) (IsUnwatched j c (n + 1)) (WatchedTells j c (n + 1)) in
      subst P (sym same) (subst (λ o. MatchOption o (IsUnwatched j a (n + 1)) (WatchedTells j a (n + 1))) (sym written) now))
  | inr other ↦
      subst (λ o. MatchOption o (IsUnwatched j b (n + 1)) (WatchedTells j b (n + 1))) (sym (others b other))
      (telling_locksets_word_left j b n e (old b) at (λ eq. other (same_Some b a (sym eq ∙ is))) (tells b))
]

-- what is kept of a word that is kept, and of one that isn't
pub telling_locksets_word_kept : {j : List Event} {n a : ℕ} {w : WatchedWord} (words : ℕ → Option WatchedWord) → words a ≡ Some w
    → AreKeptLocksetWords j n words → WatchedTells j a n w
telling_locksets_word_kept {j = j} {n = n} {a = a} words is tells =
    subst (λ o. MatchOption o (IsUnwatched j a n) (WatchedTells j a n)) is (tells a)

pub telling_locksets_word_unkept : (j : List Event) (n : ℕ) {a : ℕ} (words : ℕ → Option WatchedWord) → words a ≡ None
    → AreKeptLocksetWords j n words → IsUnwatched j a n
telling_locksets_word_unkept j n {a = a} words is tells =
    subst (λ o. MatchOption o (IsUnwatched j a n) (WatchedTells j a n)) is (tells a)

-- the history that begins with one event more
pub telling_locksets_begins : (h j : List Event) (e : Event) → take (length (j ++ e ∷ [])) h ≡ j ++ e ∷ [] → ComesNextToWatch h j e
telling_locksets_begins h j e is = record {
  begins = sym (take-take (length j) (length (j ++ e ∷ [])) h (let same = long in omega arith)) ∙ (ap (take (length j)) is ∙ take-append_seam j (e ∷ []));
  at = sym (slice_get-take h (length (j ++ e ∷ [])) (length j) (let same = long in omega arith)) ∙ (ap (λ xs. slice_get xs (length j)) is ∙ slice_get-last j e);
}
  where
    long : length (j ++ e ∷ []) ≡ length j + 1
    long = (let sum = length-append j (e ∷ []) in omega arith)

-- ---- what it tells

telling_locksets_within : {j : List Event} {a i k : ℕ} → IsPairToLock j a i k → k < length j
telling_locksets_within {j = j} {k = k} needs =
    let lt = event_place_inside (unlocked_history j) k needs.race.second needs.race.second_at in
    let long = length-map j unlocked_event in
    omega arith

-- no pair without a lock
pub telling_locksets_none_unguarded : (j : List Event) (a : ℕ) (w : WatchedWord) → w.unguarded ≡ None → WatchedTells j a (length j) w
    → (i k : ℕ) → ¬ IsUnguardedPair j a i k
telling_locksets_none_unguarded j a w none tells i k is =
    let never = subst (λ o. MatchOption o ((i k : ℕ) → k < length j → ¬ IsUnguardedPair j a i k) (TellsUnguardedPair j a))
    none tells.unguarded in
    never i k (telling_locksets_within is.needs) is

-- no pair of a word that isn't accessed
pub telling_locksets_unwatched : (j : List Event) (a : ℕ) → IsUnwatched j a (length j) → (i k : ℕ) → ¬ IsPairToLock j a i k
telling_locksets_unwatched j a none i k needs =
    let r = needs.race in
    let stood = without_locks_stood j i r.first r.first_at in
    none i stood.event (event_place_inside j i stood.event stood.at) stood.at
    (sym (without_locks_address stood.event.kind) ∙ (sym (ap (λ (f : Event). event_address f.kind) stood.is)
    ∙ (r.conflict.first ∙ ap (λ b. Some b) needs.address)))

-- one with a lock, or none at all
pub telling_locksets_guarded : (j : List Event) (a : ℕ) (o : Option Guarded) → IsWatchedGuarded j a (length j) o
    → MatchOption o ((i k l : ℕ) → ¬ IsGuardedPair j a i k l) (TellsGuardedPair j a)
telling_locksets_guarded j a None never = λ i k l is. never i k l (telling_locksets_within is.needs) is
telling_locksets_guarded j a (Some g) some = some

-- one without
pub telling_locksets_left : (j : List Event) (a : ℕ) (w : WatchedWord) (u : PairedAccess × PairedAccess) → w.unguarded ≡ Some u
    → WatchedTells j a (length j) w → PairsLeaveUnprotected j (record { address = a; unguarded = u; guarded = w.guarded })
telling_locksets_left j a w u some tells = record {
  unguarded = subst (λ o. MatchOption o ((i k : ℕ) → k < length j → ¬ IsUnguardedPair j a i k) (TellsUnguardedPair j a)) some tells.unguarded;
  guarded = telling_locksets_guarded j a w.guarded tells.guarded;
}

-- ---- which words are told

-- if one answer of a word is asked for, each is
telling_locksets_asked_same : (j : List Event) (asked : LocksetWords) (x y : Unprotected) → PairsLeaveUnprotected j x
    → PairsLeaveUnprotected j y → x.address ≡ y.address → IsUnprotectedAsked asked x → IsUnprotectedAsked asked y
telling_locksets_asked_same j All x y one other same is = tt
telling_locksets_asked_same j Forgotten x y one other same is = go x.guarded y.guarded one.guarded other.guarded is
  where
    go : (o p : Option Guarded) → MatchOption o ((i k l : ℕ) → ¬ IsGuardedPair j x.address i k l) (TellsGuardedPair j x.address)
        → MatchOption p ((i k l : ℕ) → ¬ IsGuardedPair j y.address i k l) (TellsGuardedPair j y.address)
        → IsTrue (is_some o) → IsTrue (is_some p)
    go None p never which some = absurd (cc some)
    go (Some g) None tells never some =
        absurd (never g.accesses.0.place g.accesses.1.place g.lock (subst (λ a. IsGuardedPair j a g.accesses.0.place g.accesses.1.place g.lock) same tells.pair))
    go (Some g) (Some h) tells which some = refl

-- the word at the next address isn't told
pub telling_locksets_next_left : {asked : LocksetWords} {j : List Event} {n : ℕ} {found : List Unprotected}
    → ((x : Unprotected) → PairsLeaveUnprotected j x → IsUnprotectedAsked asked x → x.address ≢ n)
    → PairsTellUnprotected asked j n found → PairsTellUnprotected asked j (n + 1) found
telling_locksets_next_left {n = n} away tells = record {
  each = λ x has. (let is = tells.each x has in (is.0, is.1, (let lt = is.2 in omega arith)));
  all = λ x leaves is lt. elim (cases_lt x.address n) [
    | inl old ↦ tells.all x leaves is old
    | inr le ↦ (let same : x.address ≡ n = omega arith in absurd (away x leaves is same))
  ];
  rising = tells.rising;
}

-- or is told
pub telling_locksets_next_told : {asked : LocksetWords} {j : List Event} {n : ℕ} {found : List Unprotected} (y : Unprotected)
    → PairsLeaveUnprotected j y → IsUnprotectedAsked asked y → y.address ≡ n
    → PairsTellUnprotected asked j n found → PairsTellUnprotected asked j (n + 1) (found ++ y ∷ [])
telling_locksets_next_told {asked = asked} {j = j} {n = n} {found = found} y leaves is at tells = record {
  each = λ x has. elim (slice_push_cases found y has.0 x has.1) [
    | inl old ↦ (let was = tells.each x (has.0, old.1) in (was.0, was.1, (let lt = was.2 in omega arith)))
    | inr new ↦ subst (λ (z : Unprotected). PairsLeaveUnprotected j z × IsUnprotectedAsked asked z × (z.address < n + 1)) new.1
        (leaves, is, omega arith)
  ];
  all = λ x of which lt. elim (cases_lt x.address n) [
    | inl old ↦
        (let was = tells.all x of which old in
        record {
          word = was.word;
          has = (was.has.0, slice_get-append_left found (y ∷ []) was.has.0 (slice_get_within found was.has.0 was.word was.has.1) ∙ was.has.1);
          address = was.address;
        })
    | inr le ↦ record { word = y; has = (length found, slice_get-last found y); address = omega arith }
  ];
  rising = joined_list_in_order-append (λ (a b : Unprotected). a.address < b.address) found (y ∷ []) tells.rising
      (joined_list_in_order_single (λ (a b : Unprotected). a.address < b.address) y)
      (λ a b has last. (let lt = (tells.each a has).2 in
      let same : y ≡ b = telling_locksets_single y b last in
      subst (λ (z : Unprotected). a.address < z.address) same (omega arith)));
}
  where
    telling_locksets_single : (x z : Unprotected) → Has (x ∷ []) z → x ≡ z
    telling_locksets_single x z (zero, is) = same_Some x z is
    telling_locksets_single x z (suc k, is) = absurd (none-some z is)

-- of an answer that isn't asked for, nothing is
pub telling_locksets_next_unasked : {asked : LocksetWords} {j : List Event} {n : ℕ} {found : List Unprotected} (y : Unprotected)
    → PairsLeaveUnprotected j y → ¬ IsUnprotectedAsked asked y → y.address ≡ n
    → PairsTellUnprotected asked j n found → PairsTellUnprotected asked j (n + 1) found
telling_locksets_next_unasked {asked = asked} {j = j} y leaves isnt at tells = telling_locksets_next_left
    (λ x of is same. isnt (telling_locksets_asked_same j asked x y of leaves (same ∙ sym at) is)) tells

-- a word without such a pair
pub telling_locksets_next_none : {asked : LocksetWords} {j : List Event} {n : ℕ} {found : List Unprotected}
    → ((i k : ℕ) → ¬ IsUnguardedPair j n i k)
    → PairsTellUnprotected asked j n found → PairsTellUnprotected asked j (n + 1) found
telling_locksets_next_none {j = j} none tells = telling_locksets_next_left
    (λ x of is same. none x.unguarded.0.place x.unguarded.1.place
    (subst (λ a. IsUnguardedPair j a x.unguarded.0.place x.unguarded.1.place) same of.unguarded.pair)) tells
