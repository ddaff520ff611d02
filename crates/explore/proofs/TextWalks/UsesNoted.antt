-- What a walk notes of the accesses of a word.
use Rattle.std.proofs.Common.{ℕ, ◌≡◌, ◌≢◌, ◌+◌, ◌<◌, ◌≤◌, ◌⊎◌, inl, inr, Bool, true, false, cond, max, IsTrue, Some, List, length, slice_get, slice_index, slice_index_or, slice_set, arith, refl, sym, ap, subst, ◌∙◌}
use Rattle.std.specs.Prelude.{if◌then◌else◌}
use Rattle.std.specs.BTreeMap.{Updates, get}
use Rattle.std.specs.Ordering.{nat_cmp}
use Rattle.std.proofs.lemmas.Bool.{cases_eq}
use Rattle.std.proofs.lemmas.List.{get_or-set_other, get_or-set_same, length-set}
use Rattle.std.proofs.lemmas.Option.{same_Some, slice_get_within}
use Rattle.base.proofs.SliceSets.{slice_get-set_same, slice_get-set_other}
use Rattle.explore.specs.declared.text.walked_rows.WalkedRow.{WalkedRow}
use Rattle.explore.specs.declared.text.walked_words.WalkedUser.{WalkedUser}
use Rattle.explore.specs.declared.text.walked_words.WalkedUses.{WalkedUses}
use Rattle.explore.specs.declared.text.walked_words.WalkedWord.{WalkedWord}
use Rattle.explore.specs.WalkedWords.IsWalkedApart.{loaded, locked, made}
use Rattle.explore.specs.WalkedWords.{HasWalkedPhaseUser, HasWalkedUser, IsWalkedAccessNoted, IsWalkedApart, IsWalkedPhaseNoted, IsWalkedUser, walked_row_holds}
use Rattle.explore.proofs.Locksets.Noted.{lockset_noted_apart_key}

-- what conflicts with an access was made before it
pub uses_noted_made : (row : WalkedRow) (stores : Bool) (q : ℕ) (user : WalkedUser) (i : ℕ) (store : Bool) (held : ℕ → Bool) (until : ℕ)
    → IsWalkedUser user i store held → until ≡ (if stores then user.until else user.stored_until) → until ≤ slice_index row.made q
    → IsWalkedApart row stores q i store held
uses_noted_made row true q user i store held until covered is le = let below = covered.until in made (omega arith)
uses_noted_made row false q user i true held until covered is le = let below = covered.stored refl in made (omega arith)
uses_noted_made row false q user i false held until covered is le = loaded refl refl

-- a lock is held at it, and at all that weren't made before it
pub uses_noted_locked : (row : WalkedRow) (stores : Bool) (q : ℕ) (user : WalkedUser) (i : ℕ) (store : Bool) (held : ℕ → Bool) (l : ℕ)
    → IsWalkedUser user i store held → l < 32 → IsTrue (slice_index_or row.held l false) → slice_index user.unlocked_until l ≤ slice_index row.made q
    → IsWalkedApart row stores q i store held
uses_noted_locked row stores q user i store held l covered lt mine le = elim (covered.unlocked l lt) [
  | inl has ↦ locked l mine has
  | inr below ↦ made (omega arith)
]

-- an access is made under the lock, or ends where the last access without it does
pub uses_noted_unlocked : (held : Bool) (place old new : ℕ) → new ≡ max old (cond held 0 (place + 1)) → IsTrue held ⊎ (place < new)
uses_noted_unlocked true place old new is = inl refl
uses_noted_unlocked false place old new is = inr (omega arith)

-- a list in which the first n values were raised, and one more is
pub uses_noted_raised : (a b : List ℕ) (f : ℕ → ℕ) (n v : ℕ) → n < length b → ((m : ℕ) → m < n → slice_index b m ≡ max (slice_index a m) (f m))
    → ((m : ℕ) → n ≤ m → slice_index b m ≡ slice_index a m) → v ≡ max (slice_index b n) (f n)
    → (m : ℕ) → m < n + 1 → slice_index (slice_set b n v) m ≡ max (slice_index a m) (f m)
uses_noted_raised a b f n v within told rest is m lt = elim (cases_eq m n) [
  | inl same ↦
      subst (λ k. slice_index (slice_set b n v) k ≡ max (slice_index a k) (f k)) (sym same)
      (get_or-set_same b n v 0 within ∙ is ∙ ap (λ x. max x (f n)) (rest n (omega arith)))
  | inr isnt ↦ get_or-set_other b n m v 0 isnt ∙ told m (omega arith)
]

-- a user that has the older accesses and the row's is put under its phase
pub uses_noted_phase : (old new : WalkedUses) (row : WalkedRow) (stores : Bool) (user : WalkedUser)
    → Updates nat_cmp old.phases new.phases row.phase (Some user)
    → ((u : WalkedUser) → get nat_cmp old.phases row.phase ≡ Some u → (i : ℕ) (store : Bool) (held : ℕ → Bool)
    → IsWalkedUser u i store held → IsWalkedUser user i store held)
    → IsWalkedUser user row.place stores (walked_row_holds row) → IsWalkedPhaseNoted old new row stores
uses_noted_phase old new row stores user updates was now = record {
  keeps = λ phase i store held used. elim (cases_eq row.phase phase) [
    | inl is ↦
        (let there = subst (λ n. get nat_cmp old.phases n ≡ Some used.user) (sym is) used.at in
        record {
          user = user;
          at = subst (λ n. get nat_cmp new.phases n ≡ Some user) is updates.1;
          covered = was used.user there i store held used.covered;
        })
    | inr isnt ↦ record {
      user = used.user;
      at = updates.2 phase (lockset_noted_apart_key row.phase phase isnt) ∙ used.at;
      covered = used.covered;
    }
  ];
  notes = record { user = user; at = updates.1; covered = now };
}

-- what others' accesses are apart from
abbrev pub AreUsesNotedApart : WalkedWord → ℕ → WalkedRow → Bool → Type 0
AreUsesNotedApart word p row stores = (q i : ℕ) (store : Bool) (held : ℕ → Bool) → q ≢ p → HasWalkedUser word q row.phase i store held
    → IsWalkedApart row stores q i store held

-- one processor's uses of the word are noted
module _ (old new : WalkedWord) (p : ℕ) (row : WalkedRow) (stores : Bool) (was is : WalkedUses) (at : slice_get old.uses.items p ≡ Some was)
    (set : new.uses.items ≡ slice_set old.uses.items p is) (noted : IsWalkedPhaseNoted was is row stores) where
  uses_noted_at : slice_get new.uses.items p ≡ Some is
  uses_noted_at = ap (λ (xs : List WalkedUses). slice_get xs p) set ∙ slice_get-set_same old.uses.items p is (slice_get_within old.uses.items p was at)

  uses_noted_keeps : (q phase i : ℕ) (store : Bool) (held : ℕ → Bool) → HasWalkedUser old q phase i store held → HasWalkedUser new q phase i store held
  uses_noted_keeps q phase i store held used = elim (cases_eq q p) [
    | inl same ↦
        (let those = same_Some used.uses was (sym used.at ∙ ap (slice_get old.uses.items) same ∙ at) in
        record {
          uses = is;
          at = ap (slice_get new.uses.items) same ∙ uses_noted_at;
          used = noted.keeps phase i store held (subst (λ x. HasWalkedPhaseUser x phase i store held) those used.used);
        })
    | inr isnt ↦ record {
      uses = used.uses;
      at = ap (λ (xs : List WalkedUses). slice_get xs q) set ∙ slice_get-set_other old.uses.items p q is isnt ∙ used.at;
      used = used.used;
    }
  ]

  pub uses_noted_word : (IsTrue new.is_guarded → IsTrue old.is_guarded × AreUsesNotedApart old p row stores) → IsWalkedAccessNoted old new p row stores
  uses_noted_word both = record {
    long = ap (λ (xs : List WalkedUses). length xs) set ∙ length-set old.uses.items p is;
    keeps = uses_noted_keeps;
    notes = record { uses = is; at = uses_noted_at; used = noted.notes };
    guarded = λ yes. (both yes).0;
    apart = λ yes. (both yes).1;
  }
