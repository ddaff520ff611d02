-- Accesses of a word that neither a barrier nor a lock keeps apart in the script's text.
use Rattle.std.specs.Prelude.{ℕ, ◌≡◌, ◌≢◌, ◌<◌, ◌⊎◌, Bool, false, IsTrue, List, [], Option, None, Some, length, slice_get, slice_index_or}
use Rattle.std.specs.Global.{Vec}
use Rattle.base.specs.InOrderOnce.{Has, InOrder}
use Rattle.explore.specs.declared.prefixes.script_call.ScriptCall.{ScriptCall}
use Rattle.explore.specs.declared.text.text_accesses.TextAccess.{TextAccess}
use Rattle.explore.specs.declared.text.unguarded_words.UnguardedWord.{UnguardedWord}
use Rattle.explore.specs.TextGuards.{IsGuardedByText, IsTextGuardedAccessAt, text_guard_departures_at, text_guard_held_at, text_guarded_step_stores}

-- lock l is held at the access
abbrev pub IsHeldAtTextAccess : TextAccess → ℕ → Type 0
IsHeldAtTextAccess x l = IsTrue (slice_index_or x.held l false)

-- it is p's, in this phase, and stores or not, with these locks held
pub record IsTextAccessLike (x : TextAccess) (p phase : ℕ) (store : Bool) (held : ℕ → Bool) : Type 0 where
  pub processor : x.processor ≡ p
  pub phase_is : x.phase ≡ phase
  pub stores : x.stores ≡ store
  pub held_are : (l : ℕ) → slice_index_or x.held l false ≡ held l

-- the text has this access of word w
pub record IsTextAccess (rows : List (Vec ScriptCall)) (w : ℕ) (x : TextAccess) : Type 0 where
  pub step : ScriptCall
  pub at : IsTextGuardedAccessAt rows x.processor x.place w step
  pub like : IsTextAccessLike x x.processor (text_guard_departures_at at.row.items x.place) (text_guarded_step_stores step)
      (text_guard_held_at at.row.items x.place)

-- two processors access it in one phase, one of them stores, and they hold no lock in common
pub record AreTextAccessesOpen (x y : TextAccess) : Type 0 where
  pub others : x.processor ≢ y.processor
  pub stores : IsTrue x.stores ⊎ IsTrue y.stores
  pub phase : x.phase ≡ y.phase
  pub unlocked : (l : ℕ) → IsHeldAtTextAccess x l → ¬ IsHeldAtTextAccess y l

-- why it isn't so
pub data AreTextAccessesApart (x y : TextAccess) : Type 0 where
  own : x.processor ≡ y.processor → AreTextAccessesApart x y
  loaded : x.stores ≡ false → y.stores ≡ false → AreTextAccessesApart x y
  phased : x.phase ≢ y.phase → AreTextAccessesApart x y
  locked : (l : ℕ) → IsHeldAtTextAccess x l → IsHeldAtTextAccess y l → AreTextAccessesApart x y

-- one of these is so
pub record HasTextAccessLike (accesses : List TextAccess) (p phase : ℕ) (store : Bool) (held : ℕ → Bool) : Type 0 where
  pub access : TextAccess
  pub has : Has accesses access
  pub like : IsTextAccessLike access p phase store held

-- the accesses in a row, none if there is no row
abbrev pub text_accesses_in : Option (Vec TextAccess) → List TextAccess
text_accesses_in None = []
text_accesses_in (Some row) = row.items

-- the accesses that are kept of word w
abbrev pub text_accesses_kept : List (Vec TextAccess) → ℕ → List TextAccess
text_accesses_kept kept w = text_accesses_in (slice_get kept w)

-- each is the text's
abbrev pub AreTextAccesses : List (Vec ScriptCall) → ℕ → List TextAccess → Type 0
AreTextAccesses rows w accesses = (x : TextAccess) → Has accesses x → IsTextAccess rows w x

-- of p's accesses before place n, there is one like each
abbrev pub AreTextAccessesOfRow : List (Vec ScriptCall) → ℕ → List TextAccess → ℕ → ℕ → Type 0
AreTextAccessesOfRow rows w accesses p n = (i : ℕ) (a : ScriptCall) (x : IsTextGuardedAccessAt rows p i w a) → i < n
    → HasTextAccessLike accesses p (text_guard_departures_at x.row.items i) (text_guarded_step_stores a) (text_guard_held_at x.row.items i)

-- of all accesses by the first n processors
abbrev pub AreTextAccessesOfRows : List (Vec ScriptCall) → ℕ → List TextAccess → ℕ → Type 0
AreTextAccessesOfRows rows w accesses n = (p i : ℕ) (a : ScriptCall) (x : IsTextGuardedAccessAt rows p i w a) → p < n
    → HasTextAccessLike accesses p (text_guard_departures_at x.row.items i) (text_guarded_step_stores a) (text_guard_held_at x.row.items i)

-- of each word that isn't said to be guarded these are the text's accesses, with one like each
pub record AreKeptTextAccesses (rows : List (Vec ScriptCall)) (guarded : List Bool) (kept : List (Vec TextAccess)) : Type 0 where
  pub are : (w : ℕ) → AreTextAccesses rows w (text_accesses_kept kept w)
  pub noted : (w : ℕ) → w < length guarded → slice_index_or guarded w false ≡ false
      → AreTextAccessesOfRows rows w (text_accesses_kept kept w) (length rows)

-- a word that isn't said to be guarded, and two accesses of it that neither a barrier nor a lock keeps apart
pub record IsUnguardedWord (rows : List (Vec ScriptCall)) (guarded : List Bool) (x : UnguardedWord) : Type 0 where
  pub within : x.word < length guarded
  pub unsaid : slice_index_or guarded x.word false ≡ false
  pub first : IsTextAccess rows x.word x.first
  pub second : IsTextAccess rows x.word x.second
  pub unapart : AreTextAccessesOpen x.first x.second

-- one of these is word w
pub record HasUnguardedWord (words : List UnguardedWord) (w : ℕ) : Type 0 where
  pub told : UnguardedWord
  pub has : Has words told
  pub word : told.word ≡ w

-- such words, the least first; each other word is guarded
pub record AreUnguardedWords (rows : List (Vec ScriptCall)) (guarded : List Bool) (words : List UnguardedWord) : Type 0 where
  pub each : (x : UnguardedWord) → Has words x → IsUnguardedWord rows guarded x
  pub others : (w : ℕ) → w < length guarded → IsGuardedByText rows w ⊎ HasUnguardedWord words w
  pub rising : InOrder (λ (x y : UnguardedWord). x.word < y.word) words
