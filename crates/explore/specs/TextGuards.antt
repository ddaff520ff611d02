-- Which words the script's text shows to be guarded: accesses of them that conflict are apart by a barrier or by flags, or made
-- under one lock.
use Rattle.std.specs.Prelude.{ℕ, ◌≡◌, ◌≢◌, ◌<◌, ◌==◌, ◌⊎◌, Bool, true, false, if◌then◌else◌, IsTrue, Option, Some, List, count_by, fold, slice_get, slice_index_or, take}
use Rattle.std.specs.Global.{Vec}
use Rattle.journal.specs.declared.event.Kind.{Kind}
use Rattle.journal.specs.declared.event.Kind.TheVariants.{Acquire, Release, Set, Await}
use Rattle.journal.specs.Events.{event_address, event_departs, event_stores}
use Rattle.lrc_script.specs.Plan.{Plan}
use Rattle.explore.specs.declared.prefixes.script_call.ScriptCall.{ScriptCall}
use Rattle.explore.specs.declared.prefixes.script_call.ScriptCall.TheVariants.{Call, Adds}
use Rattle.explore.specs.Machines.{AreLawfulMachineSteps}
use Rattle.explore.specs.Prefixes.FlatBeginnings.{AreFlatBeginningsRaceFree}

-- whether a step departs from the barrier
abbrev pub text_guard_step_departs : ScriptCall → Bool
text_guard_step_departs (Call k) = event_departs k
text_guard_step_departs (Adds a v) = false

-- how many times a row of steps has departed before its step at place i
abbrev pub text_guard_departures_at : List ScriptCall → ℕ → ℕ
text_guard_departures_at row i = count_by text_guard_step_departs (take i row)

-- whether lock l is held after a call, if it was held before it or not
abbrev pub text_guard_held_after : ℕ → Bool → Kind → Bool
text_guard_held_after l held (Acquire m) = if m == l then true else held
text_guard_held_after l held (Release m) = if m == l then false else held
text_guard_held_after l held _ = held

-- the same of a step
abbrev pub text_guard_held_after_step : ℕ → Bool → ScriptCall → Bool
text_guard_held_after_step l held (Call k) = text_guard_held_after l held k
text_guard_held_after_step l held (Adds a v) = held

-- whether a row of steps holds lock l before its step at place i
abbrev pub text_guard_held_at : List ScriptCall → ℕ → ℕ → Bool
text_guard_held_at row i l = fold (text_guard_held_after_step l) false (take i row)

-- the address that a step accesses
abbrev pub text_guarded_step_address : ScriptCall → Option ℕ
text_guarded_step_address (Call k) = event_address k
text_guarded_step_address (Adds a v) = Some a

-- whether it stores
abbrev pub text_guarded_step_stores : ScriptCall → Bool
text_guarded_step_stores (Call k) = event_stores k
text_guarded_step_stores (Adds a v) = true

-- the step at place i of the processor's row accesses word w
pub record IsTextGuardedAccessAt (rows : List (Vec ScriptCall)) (p i w : ℕ) (step : ScriptCall) : Type 0 where
  pub row : Vec ScriptCall
  pub row_at : slice_get rows p ≡ Some row
  pub at : slice_get row.items i ≡ Some step
  pub address : text_guarded_step_address step ≡ Some w

-- both rows hold a lock there
pub record HaveCommonTextGuard (x y : List ScriptCall) (i k : ℕ) : Type 0 where
  pub lock : ℕ
  pub first : IsTrue (text_guard_held_at x i lock)
  pub second : IsTrue (text_guard_held_at y k lock)

-- the step at place i of the processor's row is this call
pub record IsTextCallAt (rows : List (Vec ScriptCall)) (p i : ℕ) (k : Kind) : Type 0 where
  pub row : Vec ScriptCall
  pub row_at : slice_get rows p ≡ Some row
  pub at : slice_get row.items i ≡ Some (Call k)

-- whenever q makes its step at place k, p has made its step at place i: an await comes after some set of its flag
pub data ComesBeforeByText (rows : List (Vec ScriptCall)) (p i : ℕ) : ℕ → ℕ → Type 0 where
  own : {k : ℕ} → i < k → ComesBeforeByText rows p i p k
  awaited : {q k : ℕ} (j f : ℕ) → j < k → IsTextCallAt rows q j (Await f)
      → ((r m : ℕ) → IsTextCallAt rows r m (Set f) → ComesBeforeByText rows p i r m) → ComesBeforeByText rows p i q k

-- why two accesses never come at once: p's at place i, and q's at place k
pub data AreApartByText (rows : List (Vec ScriptCall)) (p i : ℕ) (x : List ScriptCall) (q k : ℕ) (y : List ScriptCall) : Type 0 where
  locked : HaveCommonTextGuard x y i k → AreApartByText rows p i x q k y
  before : ComesBeforeByText rows p i q k → AreApartByText rows p i x q k y
  after : ComesBeforeByText rows q k p i → AreApartByText rows p i x q k y

-- the word is guarded
abbrev pub IsGuardedByText : List (Vec ScriptCall) → ℕ → Type 0
IsGuardedByText rows w = (p q i k : ℕ) (a b : ScriptCall) (x : IsTextGuardedAccessAt rows p i w a) (y : IsTextGuardedAccessAt rows q k w b) → p ≢ q
    → IsTrue (text_guarded_step_stores a) ⊎ IsTrue (text_guarded_step_stores b) → text_guard_departures_at x.row.items i ≡ text_guard_departures_at y.row.items k
    → AreApartByText rows p i x.row.items q k y.row.items

-- the words of which this is said are guarded
abbrev pub AreGuardedByText : List (Vec ScriptCall) → List Bool → Type 0
AreGuardedByText rows words = (w : ℕ) → IsTrue (slice_index_or words w false) → IsGuardedByText rows w

-- a script of which all words are guarded doesn't race
abbrev pub GuardedTextLaw : Type 0
GuardedTextLaw = (s : Plan) (rows : List (Vec ScriptCall)) → AreLawfulMachineSteps s rows → ((w : ℕ) → IsGuardedByText rows w)
    → AreFlatBeginningsRaceFree s
