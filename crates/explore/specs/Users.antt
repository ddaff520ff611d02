-- Who accesses a word in a phase, as a walk through the steps notes it.
use Rattle.std.specs.Prelude.{ℕ, ◌≡◌, ◌<◌, ◌^◌, ◌⊎◌, Bool, false, IsTrue, Some, List, length, slice_get, slice_index_or}
use Rattle.std.specs.Global.{Vec}
use Rattle.std.specs.BTreeMap.{get}
use Rattle.std.specs.Ordering.{nat_cmp}
use Rattle.journal.specs.declared.event.Kind.{Kind}
use Rattle.journal.specs.declared.event.Kind.TheVariants.{Acquire, Release, Set, Await}
use Rattle.explore.specs.declared.prefixes.script_call.ScriptCall.{ScriptCall}
use Rattle.explore.specs.declared.prefixes.script_call.ScriptCall.TheVariants.{Call, Adds}
use Rattle.explore.specs.declared.text.guards.GuardedUsers.{GuardedUsers}
use Rattle.explore.specs.declared.text.guards.GuardedWordUse.{GuardedWordUse}
use Rattle.explore.specs.TextGuards.{text_guard_held_at, text_guard_departures_at, text_guarded_step_address, text_guarded_step_stores}

-- p is among the users, who stores or not, and holds these locks
pub record IsUser (u : GuardedUsers) (p : ℕ) (store : Bool) (held : ℕ → Bool) : Type 0 where
  pub alone : u.are_several ≡ false → u.processor ≡ p
  pub stores : IsTrue store → IsTrue u.stores
  pub locks : (l : ℕ) → IsTrue (slice_index_or u.locks l false) → IsTrue (held l)

-- there is one user alone, or nobody stores, or a lock is common to all
abbrev pub UsersAreClean : GuardedUsers → Type 0
UsersAreClean u = (u.are_several ≡ false) ⊎ ((u.stores ≡ false) ⊎ ((l : ℕ) × IsTrue (slice_index_or u.locks l false)))

-- in this phase p is among the word's users
pub record HasUser (word : GuardedWordUse) (phase p : ℕ) (store : Bool) (held : ℕ → Bool) : Type 0 where
  pub users : GuardedUsers
  pub at : get nat_cmp word.phases phase ≡ Some users
  pub covered : IsUser users p store held

-- if the word is called guarded, its users are so in each phase
abbrev pub UsersAreSound : GuardedWordUse → Type 0
UsersAreSound word = IsTrue word.is_guarded → (phase : ℕ) (u : GuardedUsers) → get nat_cmp word.phases phase ≡ Some u → UsersAreClean u

-- these users are noted in this phase, and the others still are
pub record HasUsersNoted (old new : GuardedWordUse) (phase : ℕ) (user : GuardedUsers) : Type 0 where
  pub keeps : (ph p : ℕ) (store : Bool) (held : ℕ → Bool) → HasUser old ph p store held → HasUser new ph p store held
  pub notes : (p : ℕ) (store : Bool) (held : ℕ → Bool) → IsUser user p store held → HasUser new phase p store held
  pub sound : UsersAreSound old → UsersAreSound new

-- of word w, p is among the users in this phase
pub record HasUserAt (words : List GuardedWordUse) (w phase p : ℕ) (store : Bool) (held : ℕ → Bool) : Type 0 where
  pub word : GuardedWordUse
  pub at : slice_get words w ≡ Some word
  pub used : HasUser word phase p store held

-- the row's first n steps are noted
abbrev pub AreStepUsersNoted : List GuardedWordUse → ℕ → List ScriptCall → ℕ → Type 0
AreStepUsersNoted words p row n = (i w : ℕ) (step : ScriptCall) → i < n → slice_get row i ≡ Some step → text_guarded_step_address step ≡ Some w
    → HasUserAt words w (text_guard_departures_at row i) p (text_guarded_step_stores step) (text_guard_held_at row i)

-- what was noted still is, and what is called guarded is so
pub record UsersAreKept (old new : List GuardedWordUse) : Type 0 where
  pub long : length new ≡ length old
  pub keeps : (w ph p : ℕ) (store : Bool) (held : ℕ → Bool) → HasUserAt old w ph p store held → HasUserAt new w ph p store held
  pub sound : ((w : ℕ) (word : GuardedWordUse) → slice_get old w ≡ Some word → UsersAreSound word)
      → (w : ℕ) (word : GuardedWordUse) → slice_get new w ≡ Some word → UsersAreSound word

abbrev pub UsersAreAllSound : List GuardedWordUse → Type 0
UsersAreAllSound words = (w : ℕ) (word : GuardedWordUse) → slice_get words w ≡ Some word → UsersAreSound word

-- the lock that a call takes or gives up is one of 32, and so is the flag that it sets or awaits
abbrev pub IsUserLockSmall : Kind → Type 0
IsUserLockSmall (Acquire l) = l < 32
IsUserLockSmall (Release l) = l < 32
IsUserLockSmall (Set f) = f < 32
IsUserLockSmall (Await f) = f < 32
IsUserLockSmall _ = Unit {0}

-- the step's word is one of so many, and its lock or flag one of 32
abbrev pub IsUserStepWithin : ℕ → ScriptCall → Type 0
IsUserStepWithin size (Call k) = ((w : ℕ) → text_guarded_step_address (Call k) ≡ Some w → w < size) × IsUserLockSmall k
IsUserStepWithin size (Adds a v) = a < size

abbrev pub AreUserStepsWithin : ℕ → List ScriptCall → Type 0
AreUserStepsWithin size row = (i : ℕ) (step : ScriptCall) → slice_get row i ≡ Some step → IsUserStepWithin size step

abbrev pub AreUserRowsWithin : ℕ → List (Vec ScriptCall) → Type 0
AreUserRowsWithin size rows = (p : ℕ) (row : Vec ScriptCall) → slice_get rows p ≡ Some row → AreUserStepsWithin size row.items

-- each row has few steps
abbrev pub AreUserRowsFew : List (Vec ScriptCall) → Type 0
AreUserRowsFew rows = (p : ℕ) (row : Vec ScriptCall) → slice_get rows p ≡ Some row → length row.items < 2 ^ 15

-- the first n rows are noted
abbrev pub AreUserRowsNoted : List GuardedWordUse → List (Vec ScriptCall) → ℕ → Type 0
AreUserRowsNoted words rows n = (p : ℕ) (row : Vec ScriptCall) → p < n → slice_get rows p ≡ Some row
    → AreStepUsersNoted words p row.items (length row.items)
