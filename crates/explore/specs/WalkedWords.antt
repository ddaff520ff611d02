-- How processors use a word, as far as a walk through a script's text has come, and when their accesses are apart.
use Rattle.std.specs.Prelude.{ℕ, ◌≡◌, ◌≢◌, ◌<◌, ◌⊎◌, Bool, false, IsTrue, Some, length, slice_get, slice_index, slice_index_or}
use Rattle.std.specs.BTreeMap.{get}
use Rattle.std.specs.Ordering.{nat_cmp}
use Rattle.explore.specs.declared.text.walked_rows.WalkedRow.{WalkedRow}
use Rattle.explore.specs.declared.text.walked_words.WalkedUser.{WalkedUser}
use Rattle.explore.specs.declared.text.walked_words.WalkedUses.{WalkedUses}
use Rattle.explore.specs.declared.text.walked_words.WalkedWord.{WalkedWord}

-- the user's accesses have one at place i, which stores or not, with these locks held
pub record IsWalkedUser (u : WalkedUser) (i : ℕ) (store : Bool) (held : ℕ → Bool) : Type 0 where
  pub until : i < u.until
  pub stored : IsTrue store → i < u.stored_until
  pub unlocked : (l : ℕ) → l < 32 → IsTrue (held l) ⊎ (i < slice_index u.unlocked_until l)

-- in this phase there is such an access
pub record HasWalkedPhaseUser (uses : WalkedUses) (phase i : ℕ) (store : Bool) (held : ℕ → Bool) : Type 0 where
  pub user : WalkedUser
  pub at : get nat_cmp uses.phases phase ≡ Some user
  pub covered : IsWalkedUser user i store held

-- in this phase processor q has such an access of the word
pub record HasWalkedUser (word : WalkedWord) (q phase i : ℕ) (store : Bool) (held : ℕ → Bool) : Type 0 where
  pub uses : WalkedUses
  pub at : slice_get word.uses.items q ≡ Some uses
  pub used : HasWalkedPhaseUser uses phase i store held

-- why an access that stands at the row's place is apart from q's at place i: neither stores, both hold a lock, or q's was made
pub data IsWalkedApart (row : WalkedRow) (stores : Bool) (q i : ℕ) (store : Bool) (held : ℕ → Bool) : Type 0 where
  loaded : stores ≡ false → store ≡ false → IsWalkedApart row stores q i store held
  locked : (l : ℕ) → IsTrue (slice_index_or row.held l false) → IsTrue (held l) → IsWalkedApart row stores q i store held
  made : i < slice_index row.made q → IsWalkedApart row stores q i store held

-- the locks that are held at the row's place
abbrev pub walked_row_holds : WalkedRow → ℕ → Bool
walked_row_holds row l = slice_index_or row.held l false

-- the access at the row's place is noted, and the others still are
pub record IsWalkedPhaseNoted (old new : WalkedUses) (row : WalkedRow) (stores : Bool) : Type 0 where
  pub keeps : (phase i : ℕ) (store : Bool) (held : ℕ → Bool) → HasWalkedPhaseUser old phase i store held → HasWalkedPhaseUser new phase i store held
  pub notes : HasWalkedPhaseUser new row.phase row.place stores (walked_row_holds row)

-- p's access at the row's place is noted; if the word is called guarded, it was so before, and those of others are apart from it
pub record IsWalkedAccessNoted (old new : WalkedWord) (p : ℕ) (row : WalkedRow) (stores : Bool) : Type 0 where
  pub long : length new.uses.items ≡ length old.uses.items
  pub keeps : (q phase i : ℕ) (store : Bool) (held : ℕ → Bool) → HasWalkedUser old q phase i store held → HasWalkedUser new q phase i store held
  pub notes : HasWalkedUser new p row.phase row.place stores (walked_row_holds row)
  pub guarded : IsTrue new.is_guarded → IsTrue old.is_guarded
  pub apart : IsTrue new.is_guarded → (q i : ℕ) (store : Bool) (held : ℕ → Bool) → q ≢ p → HasWalkedUser old q row.phase i store held
      → IsWalkedApart row stores q i store held
