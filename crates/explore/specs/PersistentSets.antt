-- Sets of processors of which none goes on by what others do, until one of them asks for a free lock.
use Rattle.std.specs.Prelude.{ℕ, ◌≡◌, ◌<◌, ◌≤◌, ◌⊎◌, false, IsTrue, Bool, Option, Some, None, List, length, slice_get, slice_index_or}
use Rattle.std.specs.Global.{Vec}
use Rattle.journal.specs.declared.event.Event.{Event}
use Rattle.journal.specs.declared.event.Kind.{Kind}
use Rattle.journal.specs.declared.event.Kind.TheVariants.{Ask, Acquire, Depart, Set, Await}
use Rattle.journal.specs.Events.{event_count, event_arrives, event_departs}
use Rattle.journal.specs.WellFormed.{Does, Holds}
use Rattle.judge.specs.Why.{WhyWaitsFor}
use Rattle.conformance.specs.Follows.{calls_of}
use Rattle.explore.specs.declared.prefixes.script_call.ScriptCall.{ScriptCall}
use Rattle.explore.specs.declared.prefixes.script_call.ScriptCall.TheVariants.{Call}

-- one of p's steps that are left after g is this call
pub record IsYetToCall (rows : List (Vec ScriptCall)) (g : List Event) (p : ℕ) (k : Kind) : Type 0 where
  pub row : Vec ScriptCall
  pub at : slice_get rows p ≡ Some row
  pub place : ℕ
  pub behind : length (calls_of g p) ≤ place
  pub calls : slice_get row.items place ≡ Some (Call k)

-- the set has p
abbrev pub IsPersistentMember : List Bool → ℕ → Type 0
IsPersistentMember members p = IsTrue (slice_index_or members p false)

-- the set has all that are yet to make the call
abbrev pub HasAllYetToCall : List (Vec ScriptCall) → List Event → List Bool → Kind → Type 0
HasAllYetToCall rows g members k = (p : ℕ) → IsYetToCall rows g p k → IsPersistentMember members p

-- nobody holds the lock
abbrev pub IsLockFree : List Event → ℕ → Type 0
IsLockFree g lock = (q : ℕ) → ¬ Holds g q lock

-- a member of the set holds the lock
pub record HasLockHolder (g : List Event) (members : List Bool) (lock : ℕ) : Type 0 where
  pub holder : ℕ
  pub holds : Holds g holder lock
  pub member : IsPersistentMember members holder

-- a member of the set hasn't arrived at the barrier where p waits
pub record HasLateMember (rows : List (Vec ScriptCall)) (g : List Event) (members : List Bool) (p : ℕ) : Type 0 where
  pub late : ℕ
  pub present : late < length rows
  pub behind : event_count event_arrives g late ≤ event_count event_departs g p
  pub member : IsPersistentMember members late

-- why p goes on after g by no event of a processor outside the set: there is no p, it has ended, may ask for a lock that no other asks for, or
-- waits for what members do
pub data PersistentMember (rows : List (Vec ScriptCall)) (g : List Event) (nexts : List (Option Kind)) (members : List Bool) (p : ℕ) : Type 0 where
  absent : length rows ≤ p → PersistentMember rows g nexts members p
  ended : (row : Vec ScriptCall) → slice_get rows p ≡ Some row → length row.items ≤ length (calls_of g p)
      → PersistentMember rows g nexts members p
  asks : (lock : ℕ) → slice_index_or nexts p None ≡ Some (Ask lock) → IsLockFree g lock → HasAllYetToCall rows g members (Ask lock)
      → PersistentMember rows g nexts members p
  asks_in_vain : (lock : ℕ) → slice_index_or nexts p None ≡ Some (Ask lock) → HasLockHolder g members lock
      → PersistentMember rows g nexts members p
  waits_for_lock : (lock : ℕ) → WhyWaitsFor g p (Acquire lock) → HasLockHolder g members lock → PersistentMember rows g nexts members p
  waits_for_others : WhyWaitsFor g p Depart → HasLateMember rows g members p → PersistentMember rows g nexts members p
  waits_for_flag : (flag : ℕ) → WhyWaitsFor g p (Await flag) → ((k q : ℕ) → ¬ Does g k q (Set flag)) → HasAllYetToCall rows g members (Set flag)
      → PersistentMember rows g nexts members p

-- each member has such a reason
abbrev pub IsPersistentSet : List (Vec ScriptCall) → List Event → List (Option Kind) → List Bool → Type 0
IsPersistentSet rows g nexts members = (p : ℕ) → IsPersistentMember members p → PersistentMember rows g nexts members p

-- a member of the set may ask for the lock next, which is free
pub record AsksInPersistentSet (g : List Event) (nexts : List (Option Kind)) (members : List Bool) (p lock : ℕ) : Type 0 where
  pub member : IsPersistentMember members p
  pub next : slice_index_or nexts p None ≡ Some (Ask lock)
  pub free : IsLockFree g lock

-- members stay members
abbrev pub KeepsPersistentMembers : List Bool → List Bool → Type 0
KeepsPersistentMembers old new = (p : ℕ) → IsPersistentMember old p → IsPersistentMember new p

-- the set has the lock's holder; or it is free, and the set has all that have yet to ask for it
abbrev pub IsAskSettled : List (Vec ScriptCall) → List Event → List Bool → ℕ → Type 0
IsAskSettled rows g members lock = HasLockHolder g members lock ⊎ (IsLockFree g lock × HasAllYetToCall rows g members (Ask lock))
