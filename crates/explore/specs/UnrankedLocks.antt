-- What in the script's text keeps its locks from being ranked: a circle of asks, or a lock that is held while its holder waits.
use Rattle.std.specs.Prelude.{ℕ, ◌≡◌, ◌≤◌, ◌-◌, suc, IfSome, IsTrue, List, Some, length, slice_get}
use Rattle.std.specs.Global.{Vec}
use Rattle.journal.specs.declared.event.Kind.TheVariants.{Acquire}
use Rattle.base.specs.InOrderOnce.{Has}
use Rattle.explore.specs.declared.prefixes.script_call.ScriptCall.{ScriptCall}
use Rattle.explore.specs.declared.text.unranked_locks.TextAsk.{TextAsk}
use Rattle.explore.specs.declared.text.unranked_locks.TextWait.{TextWait}
use Rattle.explore.specs.declared.text.unranked_locks.UnrankedLocks.{UnrankedLocks}
use Rattle.explore.specs.LockRanks.{ends_unlocked_wait}
use Rattle.explore.specs.TextGuards.{IsTextCallAt, text_guard_held_at}

-- the text has this ask: a lock is acquired while another one is held
pub record IsTextAsk (rows : List (Vec ScriptCall)) (x : TextAsk) : Type 0 where
  pub at : IsTextCallAt rows x.processor x.place (Acquire x.asked)
  pub held : IsTrue (text_guard_held_at at.row.items x.place x.held)

-- each is the text's
abbrev pub AreTextAsks : List (Vec ScriptCall) → List TextAsk → Type 0
AreTextAsks rows asks = (x : TextAsk) → Has asks x → IsTextAsk rows x

-- each of these holds what the one before asks for
abbrev pub AreTextAsksChained : List TextAsk → Type 0
AreTextAsksChained asks = (n : ℕ) (a b : TextAsk) → slice_get asks n ≡ Some a → slice_get asks (suc n) ≡ Some b → b.held ≡ a.asked

-- asks of the text, each of which holds what the one before asks for, and the first what the last asks for
pub record IsTextAskCircle (rows : List (Vec ScriptCall)) (asks : List TextAsk) : Type 0 where
  pub some : 1 ≤ length asks
  pub each : AreTextAsks rows asks
  pub chained : AreTextAsksChained asks
  pub closed : (a b : TextAsk) → slice_get asks 0 ≡ Some a → slice_get asks (length asks - 1) ≡ Some b → a.held ≡ b.asked

-- the text has this wait, at the barrier or for a flag, while a lock is held
pub record IsTextWait (rows : List (Vec ScriptCall)) (x : TextWait) : Type 0 where
  pub row : Vec ScriptCall
  pub row_at : slice_get rows x.processor ≡ Some row
  pub step : ScriptCall
  pub at : slice_get row.items x.place ≡ Some step
  pub waits : IsTrue (ends_unlocked_wait step)
  pub held : IsTrue (text_guard_held_at row.items x.place x.held)

-- the first circle and the first wait that are told are the text's
pub record AreUnrankedLocks (rows : List (Vec ScriptCall)) (locks : UnrankedLocks) : Type 0 where
  pub circle : IfSome locks.circle (λ asks. IsTextAskCircle rows asks.items)
  pub wait : IfSome locks.wait (IsTextWait rows)
