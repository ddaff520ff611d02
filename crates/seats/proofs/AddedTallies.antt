-- What is added to a word, of lists of what was done.
use Rattle.std.proofs.Common.{ℕ, ◌≡◌, ◌+◌, ◌%◌, ◌^◌, inl, inr, true, false, if◌then◌else◌, Option, Some, None, List, [], ◌∷◌, ◌++◌, refl, sym, ap, subst, ◌∙◌, arith}
use Rattle.std.specs.Prelude.{◌==◌}
use Rattle.std.proofs.lemmas.Bool.{cases_Bool}
use Rattle.std.proofs.lemmas.Option.{none-some}
use Rattle.journal.specs.declared.event.Kind.{Kind}
use Rattle.journal.specs.declared.event.Kind.TheVariants.{Load, Store, Ask, Acquire, Release}
use Rattle.seats.specs.Tenures.{tenure_of_lock}
use Rattle.seats.specs.WordTallies.{AddsUpTo, WordTally, word_tally_adding, new_word_tally, word_tally_of, word_tally_on, word_tally_store, word_tally_then}

pub word_tally_on-append : (l a : ℕ) (t : WordTally) (ks ls : List Kind)
    → word_tally_on l a t (ks ++ ls) ≡ word_tally_on l a (word_tally_on l a t ks) ls
word_tally_on-append l a t [] ls = refl
word_tally_on-append l a t (k ∷ ks) ls = word_tally_on-append l a (word_tally_then l a t k) ks ls

pub added_tally_store_known : (v : ℕ) (t : WordTally) (o : Option ℕ) → (word_tally_store v t o).known ≡ Some v
added_tally_store_known v t None = refl
added_tally_store_known v t (Some w) = refl

-- a store to an unknown word isn't forgotten
added_tally_blind_store : (v : ℕ) (t : WordTally) (o : Option ℕ) → t.blind ≡ true → (word_tally_store v t o).blind ≡ true
added_tally_blind_store v t None blind = refl
added_tally_blind_store v t (Some w) blind = blind

added_tally_blind_then : (l a : ℕ) (t : WordTally) (k : Kind) → t.blind ≡ true → (word_tally_then l a t k).blind ≡ true
added_tally_blind_then l a t (Load b v) blind = elim (cases_Bool (b == a)) [
  | inl same ↦ rw same blind
  | inr other ↦ rw other blind
]
added_tally_blind_then l a t (Store b v) blind = elim (cases_Bool (b == a)) [
  | inl same ↦ rw same (added_tally_blind_store v t t.known blind)
  | inr other ↦ rw other blind
]
added_tally_blind_then l a t (Release m) blind = elim (cases_Bool (m == l)) [
  | inl same ↦ rw same blind
  | inr other ↦ rw other blind
]
added_tally_blind_then l a t _ blind = blind

added_tally_blind_on : (l a : ℕ) (t : WordTally) (ks : List Kind) → t.blind ≡ true → (word_tally_on l a t ks).blind ≡ true
added_tally_blind_on l a t [] blind = blind
added_tally_blind_on l a t (k ∷ ks) blind = added_tally_blind_on l a (word_tally_then l a t k) ks (added_tally_blind_then l a t k blind)

-- who knew each word at the end knew it before
pub added_tally_sighted_before : (l a : ℕ) (t : WordTally) (ks : List Kind) → (word_tally_on l a t ks).blind ≡ false → t.blind ≡ false
added_tally_sighted_before l a t ks sighted = elim (cases_Bool t.blind) [
  | inl blind ↦ absurd (let is = added_tally_blind_on l a t ks blind in let e : true ≡ false = sym is ∙ sighted in cc)
  | inr is ↦ is
]

-- of a tally that began at b, and one that began anew there
record IsAddedTallyBeside (b t u : WordTally) : Type 0 where
  pub known : (w : ℕ) → u.known ≡ Some w → t.known ≡ Some w
  pub put : u.blind ≡ false → t.put ≡ b.put + u.put
  pub taken : u.blind ≡ false → t.taken ≡ b.taken + u.taken
  pub blind : u.blind ≡ false → t.blind ≡ b.blind

added_tally_beside_store : {b t u : WordTally} (v : ℕ) (o : Option ℕ) → IsAddedTallyBeside b t u → u.known ≡ o
    → IsAddedTallyBeside b (word_tally_store v t t.known) (word_tally_store v u o)
added_tally_beside_store {b} {t} {u} v None x is = record {
  known = λ w e. added_tally_store_known v t t.known ∙ e;
  put = λ sighted. absurd (let e : true ≡ false = sighted in cc);
  taken = λ sighted. absurd (let e : true ≡ false = sighted in cc);
  blind = λ sighted. absurd (let e : true ≡ false = sighted in cc);
}
added_tally_beside_store {b} {t} {u} v (Some w) x is =
    subst (λ o. IsAddedTallyBeside b (word_tally_store v t o) (word_tally_store v u (Some w))) (sym (x.known w is)) (record {
      known = λ y e. e;
      put = λ sighted. (let was = x.put sighted in omega arith);
      taken = λ sighted. (let was = x.taken sighted in omega arith);
      blind = x.blind;
    })

added_tally_beside_then : {b t u : WordTally} (l a : ℕ) (k : Kind) → IsAddedTallyBeside b t u → IsAddedTallyBeside b (word_tally_then l a t k) (word_tally_then l a u k)
added_tally_beside_then l a (Load c v) x = elim (cases_Bool (c == a)) [
  | inl same ↦ rw same (record { known = λ w e. e; put = x.put; taken = x.taken; blind = x.blind })
  | inr other ↦ rw other x
]
added_tally_beside_then {b} {t} {u} l a (Store c v) x = elim (cases_Bool (c == a)) [
  | inl same ↦ rw same (added_tally_beside_store v u.known x refl)
  | inr other ↦ rw other x
]
added_tally_beside_then l a (Release m) x = elim (cases_Bool (m == l)) [
  | inl same ↦ rw same (record { known = λ w e. absurd (none-some w e); put = x.put; taken = x.taken; blind = x.blind })
  | inr other ↦ rw other x
]
added_tally_beside_then l a _ x = x

added_tally_beside_on : {b t u : WordTally} (l a : ℕ) (ks : List Kind) → IsAddedTallyBeside b t u → IsAddedTallyBeside b (word_tally_on l a t ks) (word_tally_on l a u ks)
added_tally_beside_on {b} {t} {u} l a [] x = x
added_tally_beside_on {b} {t} {u} l a (k ∷ ks) x =
    added_tally_beside_on {b = b} {t = word_tally_then l a t k} {u = word_tally_then l a u k} l a ks (added_tally_beside_then l a k x)

added_tally_beside_new : (b : WordTally) → IsAddedTallyBeside b b new_word_tally
added_tally_beside_new b = record {
  known = λ w e. absurd (none-some w e);
  put = λ sighted. omega arith;
  taken = λ sighted. omega arith;
  blind = λ sighted. refl;
}

-- what was added adds up
pub added_tally_both : {l a m n : ℕ} (ks ls : List Kind) → AddsUpTo l a m ks → AddsUpTo l a n ls → AddsUpTo l a (m + n) (ks ++ ls)
added_tally_both {l} {a} {m} {n} ks ls first next =
    let all = added_tally_beside_on l a ls (added_tally_beside_new (word_tally_of l a ks)) in
    let put = all.put next.sighted in
    let taken = all.taken next.sighted in
    let one = first.sum in
    let two = next.sum in
    let sum : ((word_tally_on l a (word_tally_of l a ks) ls).taken + (m + n)) % 2 ^ 32 ≡ (word_tally_on l a (word_tally_of l a ks) ls).put % 2 ^ 32 = omega arith in
    let there = word_tally_on-append l a new_word_tally ks ls in
    record {
      sighted = ap (λ (t : WordTally). t.blind) there ∙ all.blind next.sighted ∙ first.sighted;
      sum = subst (λ (t : WordTally). (t.taken + (m + n)) % 2 ^ 32 ≡ t.put % 2 ^ 32) (sym there) sum;
    }

-- a load and the store of the word with a number added, to this word or another
pub added_tally_by : (l a b v n : ℕ) → AddsUpTo l a (if b == a then n else 0) (word_tally_adding b v n)
added_tally_by l a b v n = elim (cases_Bool (b == a)) [
  | inl same ↦ rw same (record { sighted = rw same refl; sum = rw same (omega arith) })
  | inr other ↦ rw other (record { sighted = rw other refl; sum = rw other refl })
]

-- what locks and releases adds nothing
added_tally_asked : (l a m : ℕ) → AddsUpTo l a 0 (Ask m ∷ Acquire m ∷ [])
added_tally_asked l a m = record { sighted = refl; sum = refl }

added_tally_released : (l a m : ℕ) → AddsUpTo l a 0 (Release m ∷ [])
added_tally_released l a m = elim (cases_Bool (m == l)) [
  | inl own ↦ record { sighted = rw own refl; sum = rw own refl }
  | inr apart ↦ record { sighted = rw apart refl; sum = rw apart refl }
]

-- what is added in a tenure of any lock
pub added_tally_tenure : {l a n : ℕ} (m : ℕ) (ks : List Kind) → AddsUpTo l a n ks → AddsUpTo l a n (tenure_of_lock m ks)
added_tally_tenure {l} {a} {n} m ks x =
    let same : 0 + n + 0 ≡ n = omega arith in
    subst (λ k. AddsUpTo l a k (tenure_of_lock m ks)) same
    (added_tally_both (Ask m ∷ Acquire m ∷ ks) (Release m ∷ []) (added_tally_both (Ask m ∷ Acquire m ∷ []) ks (added_tally_asked l a m) x)
    (added_tally_released l a m))

pub added_tally_by_tenure : (l a m b v n : ℕ) → AddsUpTo l a (if b == a then n else 0) (tenure_of_lock m (word_tally_adding b v n))
added_tally_by_tenure l a m b v n = added_tally_tenure m (word_tally_adding b v n) (added_tally_by l a b v n)

-- numbers that are equal modulo 2^32 are one sum
pub added_modulo : {l a m n : ℕ} {ks : List Kind} → m % 2 ^ 32 ≡ n % 2 ^ 32 → AddsUpTo l a m ks → AddsUpTo l a n ks
added_modulo same x = record { sighted = x.sighted; sum = let sum = x.sum in omega arith }
