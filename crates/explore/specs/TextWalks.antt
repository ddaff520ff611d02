-- A walk through the steps of all processors: what is known of what was made, and of the words.
use Rattle.std.specs.Prelude.{ℕ, ◌≡◌, ◌≢◌, ◌<◌, ◌≤◌, ◌+◌, ◌⊎◌, Bool, false, IsTrue, List, Some, length, slice_get, slice_index, slice_index_or, slice_set}
use Rattle.std.specs.Global.{Vec}
use Rattle.journal.specs.declared.event.Kind.TheVariants.{Set, Await}
use Rattle.explore.specs.declared.prefixes.script_call.ScriptCall.{ScriptCall}
use Rattle.explore.specs.declared.prefixes.script_call.ScriptCall.TheVariants.{Call}
use Rattle.explore.specs.declared.text.walked_rows.WalkedRow.{WalkedRow}
use Rattle.explore.specs.declared.text.walked_flags.WalkedFlag.{WalkedFlag}
use Rattle.explore.specs.declared.text.walked_words.WalkedWord.{WalkedWord}
use Rattle.explore.specs.declared.text.walk.TextWalk.{TextWalk}
use Rattle.explore.specs.TextGuards.{AreApartByText, ComesBeforeByText, IsTextCallAt, IsTextGuardedAccessAt, text_guard_departures_at, text_guard_held_at, text_guarded_step_address, text_guarded_step_stores}
use Rattle.explore.specs.Users.{AreUserRowsFew, AreUserRowsWithin}
use Rattle.explore.specs.WalkedWords.{HasWalkedUser, IsWalkedApart, walked_row_holds}

-- there are few processors with few steps each, and their words, locks and flags are in range
pub record IsTextWalkable (size : ℕ) (steps : List (Vec ScriptCall)) : Type 0 where
  pub few : length steps ≤ 16
  pub short : AreUserRowsFew steps
  pub within : AreUserRowsWithin size steps

-- q's first set of flag f is still to come
pub record IsFlagSetDue (flags : List WalkedFlag) (f q : ℕ) : Type 0 where
  pub flag : WalkedFlag
  pub at : slice_get flags f ≡ Some flag
  pub due : IsTrue (slice_index_or flag.due q false)

-- no set of flag f by q is due, and p's step at place i is said to be made at each one
pub record IsFlagSetPassed (flags : List WalkedFlag) (f q p i : ℕ) : Type 0 where
  pub flag : WalkedFlag
  pub at : slice_get flags f ≡ Some flag
  pub passed : slice_index_or flag.due q false ≡ false
  pub made : i < slice_index flag.made p

-- what was due still is
abbrev pub AreFlagSettersKept : List WalkedFlag → List WalkedFlag → Type 0
AreFlagSettersKept old new = (f q : ℕ) → IsFlagSetDue old f q → IsFlagSetDue new f q

-- if p's step sets a flag, that is due
abbrev pub AreStepSettersNoted : List WalkedFlag → ℕ → ScriptCall → Type 0
AreStepSettersNoted flags p step = (f : ℕ) → step ≡ Call (Set f) → IsFlagSetDue flags f p

-- the same of the first n steps of p's row
abbrev pub AreRowSettersNoted : List WalkedFlag → ℕ → List ScriptCall → ℕ → Type 0
AreRowSettersNoted flags p row n = (i : ℕ) (step : ScriptCall) → i < n → slice_get row i ≡ Some step → AreStepSettersNoted flags p step

-- the same of the first n rows
abbrev pub AreFlagSettersNoted : List WalkedFlag → List (Vec ScriptCall) → ℕ → Type 0
AreFlagSettersNoted flags steps n = (p : ℕ) (row : Vec ScriptCall) → p < n → slice_get steps p ≡ Some row
    → AreRowSettersNoted flags p row.items (length row.items)

-- p's step sets a flag or awaits one: what was made after it, and what is due
pub record IsTextWalkFlagMet (flags flags' : List WalkedFlag) (made made' : List ℕ) (p : ℕ) (step : ScriptCall) : Type 0 where
  pub learns : (r i : ℕ) → i < slice_index made' r
      → (i < slice_index made r) ⊎ ((f : ℕ) × (step ≡ Call (Await f)) × ((q : ℕ) → IsFlagSetPassed flags f q r i))
  pub due : (f q : ℕ) → IsFlagSetDue flags' f q → IsFlagSetDue flags f q × (step ≡ Call (Set f) → q ≢ p)
  pub passed : (f q r i : ℕ) → IsFlagSetPassed flags' f q r i
      → IsFlagSetPassed flags f q r i ⊎ ((q ≡ p) × IsFlagSetDue flags f p × (i < slice_index made r))

-- the row stands at one of these steps, or behind the last, and has what is so there
pub record IsTextWalkRow (calls : List ScriptCall) (row : WalkedRow) : Type 0 where
  pub within : row.place ≤ length calls
  pub phase : row.phase ≡ text_guard_departures_at calls row.place
  pub held : (l : ℕ) → walked_row_holds row l ≡ text_guard_held_at calls row.place l

-- the walk came through p's step at place i
pub record IsTextWalkPast (rows : List WalkedRow) (p i : ℕ) : Type 0 where
  pub row : WalkedRow
  pub at : slice_get rows p ≡ Some row
  pub past : i < row.place

-- p's next step is this one
pub record HasTextWalkStep (steps : List (Vec ScriptCall)) (rows : List WalkedRow) (p : ℕ) (step : ScriptCall) : Type 0 where
  pub row : WalkedRow
  pub row_at : slice_get rows p ≡ Some row
  pub calls : Vec ScriptCall
  pub calls_at : slice_get steps p ≡ Some calls
  pub at : slice_get calls.items row.place ≡ Some step

-- p has no step left
abbrev pub IsTextWalkRowThrough : List (Vec ScriptCall) → List WalkedRow → ℕ → Type 0
IsTextWalkRowThrough steps rows p = (row : WalkedRow) (calls : Vec ScriptCall) → slice_get rows p ≡ Some row → slice_get steps p ≡ Some calls
    → length calls.items ≤ row.place

-- nobody has
abbrev pub AreTextWalkRowsThrough : List (Vec ScriptCall) → List WalkedRow → Type 0
AreTextWalkRowsThrough steps rows = (p : ℕ) → IsTextWalkRowThrough steps rows p

-- the rows, and what is known of the order of steps
pub record IsTextWalkOrder (steps : List (Vec ScriptCall)) (rows : List WalkedRow) (flags : List WalkedFlag) : Type 0 where
  pub long : length rows ≡ length steps
  pub each : (p : ℕ) (row : WalkedRow) (calls : Vec ScriptCall) → slice_get rows p ≡ Some row → slice_get steps p ≡ Some calls
      → IsTextWalkRow calls.items row
  pub made : (q r i k : ℕ) (row : WalkedRow) → slice_get rows q ≡ Some row → i < slice_index row.made r → row.place ≤ k
      → ComesBeforeByText steps r i q k
  pub due : (f q m : ℕ) (row : WalkedRow) → IsFlagSetDue flags f q → slice_get rows q ≡ Some row → IsTextCallAt steps q m (Set f) → row.place ≤ m
  pub passed : (f q r i m : ℕ) → IsFlagSetPassed flags f q r i → IsTextCallAt steps q m (Set f) → ComesBeforeByText steps r i q m

-- of word w, processor q has such an access
pub record HasTextWalkUser (words : List WalkedWord) (w q phase i : ℕ) (store : Bool) (held : ℕ → Bool) : Type 0 where
  pub word : WalkedWord
  pub at : slice_get words w ≡ Some word
  pub used : HasWalkedUser word q phase i store held

-- word w is called guarded
pub record IsTextWalkWordGuarded (words : List WalkedWord) (w : ℕ) : Type 0 where
  pub word : WalkedWord
  pub at : slice_get words w ≡ Some word
  pub guarded : IsTrue word.is_guarded

-- each word has so many processors
abbrev pub AreTextWalkWordsSized : ℕ → List WalkedWord → Type 0
AreTextWalkWordsSized n words = (w : ℕ) (word : WalkedWord) → slice_get words w ≡ Some word → length word.uses.items ≡ n

-- the accesses that the walk came through are noted, and those of a word that is called guarded are apart
pub record AreTextWalkWords (steps : List (Vec ScriptCall)) (rows : List WalkedRow) (words : List WalkedWord) : Type 0 where
  pub sized : AreTextWalkWordsSized (length steps) words
  pub noted : (p i w : ℕ) (a : ScriptCall) (x : IsTextGuardedAccessAt steps p i w a) → IsTextWalkPast rows p i
      → HasTextWalkUser words w p (text_guard_departures_at x.row.items i) i (text_guarded_step_stores a) (text_guard_held_at x.row.items i)
  pub apart : (w p q i k : ℕ) (a b : ScriptCall) (x : IsTextGuardedAccessAt steps p i w a) (y : IsTextGuardedAccessAt steps q k w b)
      → IsTextWalkWordGuarded words w → IsTextWalkPast rows p i → IsTextWalkPast rows q k → p ≢ q
      → IsTrue (text_guarded_step_stores a) ⊎ IsTrue (text_guarded_step_stores b)
      → text_guard_departures_at x.row.items i ≡ text_guard_departures_at y.row.items k
      → AreApartByText steps p i x.row.items q k y.row.items

-- a walk through these steps
pub record IsTextWalk (steps : List (Vec ScriptCall)) (walk : TextWalk) : Type 0 where
  pub walkable : IsTextWalkable (length walk.words.items) steps
  pub order : IsTextWalkOrder steps walk.rows.items walk.flags
  pub words : AreTextWalkWords steps walk.rows.items walk.words.items

-- p's step is noted: its access stands at the row's place
pub record IsTextWalkStepNoted (old new : List WalkedWord) (p : ℕ) (row : WalkedRow) (step : ScriptCall) : Type 0 where
  pub long : length new ≡ length old
  pub sized : (n : ℕ) → AreTextWalkWordsSized n old → AreTextWalkWordsSized n new
  pub keeps : (w q phase i : ℕ) (store : Bool) (held : ℕ → Bool) → HasTextWalkUser old w q phase i store held → HasTextWalkUser new w q phase i store held
  pub guarded : (w : ℕ) → IsTextWalkWordGuarded new w → IsTextWalkWordGuarded old w
  pub notes : (w : ℕ) → text_guarded_step_address step ≡ Some w
      → HasTextWalkUser new w p row.phase row.place (text_guarded_step_stores step) (walked_row_holds row)
  pub apart : (w : ℕ) → text_guarded_step_address step ≡ Some w → IsTextWalkWordGuarded new w → (q i : ℕ) (store : Bool) (held : ℕ → Bool)
      → q ≢ p → HasTextWalkUser old w q row.phase i store held → IsWalkedApart row (text_guarded_step_stores step) q i store held

-- p's row stands at its next step
pub record IsTextWalkFurther (old new : List WalkedRow) (p : ℕ) : Type 0 where
  pub before : WalkedRow
  pub after : WalkedRow
  pub at : slice_get old p ≡ Some before
  pub set : new ≡ slice_set old p after
  pub next : after.place ≡ before.place + 1

-- a row at its beginning
pub record IsTextWalkRowNew (row : WalkedRow) : Type 0 where
  pub place : row.place ≡ 0
  pub phase : row.phase ≡ 0
  pub held : (l : ℕ) → walked_row_holds row l ≡ false
  pub made : (r : ℕ) → slice_index row.made r ≡ 0

-- so many of them
pub record AreTextWalkRowsNew (n : ℕ) (rows : List WalkedRow) : Type 0 where
  pub long : length rows ≡ n
  pub each : (p : ℕ) (row : WalkedRow) → slice_get rows p ≡ Some row → IsTextWalkRowNew row
