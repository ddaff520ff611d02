-- A processor that gives up: it has looked in vain for what it awaits as often as it may, or that can't come any more.
use Rattle.std.specs.Prelude.{ℕ, zero, suc, ◌≡◌, ◌⊎◌, ◌+◌, ◌-◌, ◌<◌, ◌≤◌, false, List, Ok, length}
use Rattle.lrc_script.specs.declared.script.Instruction.{Instruction}
use Rattle.cluster.specs.Copies.Local.{Local}
use Rattle.cluster.specs.WaitingCalls.{IsWaitingCall}
use Rattle.cluster.specs.declared.waited.Waited.TheVariants.{Deserted, MayHaveCome, Stuck}
use Rattle.lrc_run.specs.RunCalls.{IsRunCallBegun, IsRunCallOfTake}
use Rattle.lrc_run.specs.RunSteps.{IsRunStepBegun}

-- a look: the processor has entered the book once, and what it awaits hadn't come
pub record IsLookInVain (old new : Local) : Type 0 where
  pub takes : IsRunCallOfTake old new false
  pub entered : new.entries ≡ old.entries + 1

-- a look after a wait that said that it may have come
pub record HasLookedAgain (old new : Local) : Type 0 where
  pub before : Local
  pub waits : IsWaitingCall old before (Ok MayHaveCome)
  pub looks : IsLookInVain before new

-- one look, and so many more
abbrev pub AreLooksInVain : ℕ → Local → Local → Type 0
AreLooksInVain zero old new = IsLookInVain old new
AreLooksInVain (suc more) old new = (last : Local) × AreLooksInVain more old last × HasLookedAgain last new

-- a wait said that it can't come any more
abbrev pub IsToldNoneComes : Local → Local → Type 0
IsToldNoneComes old new = IsWaitingCall old new (Ok Stuck) ⊎ IsWaitingCall old new (Ok Deserted)

-- some looks, fewer than it may make, and then a wait that said that it can't come any more
pub record AreLooksCutShort (tries : ℕ) (old new : Local) : Type 0 where
  pub more : ℕ
  pub fewer : more < tries - 1
  pub last : Local
  pub looks : AreLooksInVain more old last
  pub none : IsToldNoneComes last new

-- the processor has looked `tries` times, or until that can't come any more
abbrev pub HasLookedInVain : ℕ → Local → Local → Type 0
HasLookedInVain tries old new = AreLooksInVain (tries - 1) old new ⊎ AreLooksCutShort tries old new

-- it has begun this instruction, and looked so for what ends it
pub record HasGivenUpInstruction (tries : ℕ) (old new : Local) (i : Instruction) : Type 0 where
  pub begun : Local
  pub begins : IsRunCallBegun old begun i
  pub looked : HasLookedInVain tries begun new

-- it has done the first instructions of its section, and given up in the next one, or at the closing barrier
pub record HasGivenUpWalk (tries : ℕ) (old new : Local) (section : List Instruction) : Type 0 where
  pub n : ℕ
  pub within : n ≤ length section
  pub begun : Local
  pub begins : IsRunStepBegun old begun section n
  pub looked : HasLookedInVain tries begun new
