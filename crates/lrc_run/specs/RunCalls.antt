-- What a processor does of a script.
use Rattle.std.specs.Prelude.{ℕ, ◌≡◌, Bool, true, false, Some, List, [], ◌∷◌, ◌++◌, map, length, slice_get, Result, Ok, Err}
use Rattle.book.specs.declared.refused.Refused.{Refused}
use Rattle.journal.specs.declared.event.Kind.{Kind}
use Rattle.journal.specs.declared.event.Kind.TheVariants.{Arrive, Depart}
use Rattle.journal.specs.Events.{EventAt}
use Rattle.journal.specs.AwaitedNext.{awaited_next}
use Rattle.journal.specs.declared.event.Event.{Event}
use Rattle.lrc_script.specs.declared.script.Instruction.{Instruction}
use Rattle.lrc_script.specs.declared.script.Instruction.TheVariants.{Cut}
use Rattle.conformance.specs.InstructionEvents.{AreEventsOfInstruction, AreEventsOfInstructions}
use Rattle.conformance.specs.Follows.{call_kinds, load_of}
use Rattle.cluster.specs.Copies.Local.{Local, calls, new_local}
use Rattle.cluster.specs.ProcessorCalls.{IsSameProcessorOfCall}
use Rattle.cluster.specs.NewClusters.{SharedCluster}
use Rattle.cluster.specs.TakingCalls.{IsTakingCallLate, taking_call_added}
use Rattle.conformance.specs.CutInstructions.{HasCutInstruction}
use Rattle.lrc_run.specs.RunCuts.{HasMadeRunCuts, IsRunCut}
use Rattle.conformance.specs.OpenBlocks.{OpenBlockNotesAll, OpenBlock, open_block}
use Rattle.conformance.specs.WantedAccess.{FetchesAreWanted}

-- a processor's accepted calls, its fetches aside
abbrev pub run_calls : Local → List Kind
run_calls m = call_kinds (calls m)

-- each fetch among its calls comes right before an access to its page
abbrev pub AreRunCallsWanted : Local → Type 0
AreRunCallsWanted m = FetchesAreWanted m.sizes.words (calls m)

-- it has seen no less of the history
abbrev pub SeesNoFewerRunCalls : Local → Local → Type 0
SeesNoFewerRunCalls old new = (rest : List Event) × (new.seen ≡ old.seen ++ rest)

-- what it has seen, and behind that its open block
abbrev pub run_calls_open : Local → OpenBlock
run_calls_open m = open_block m.seen (map (λ (e : Event). e.kind) m.block)

-- these events are of this processor alone
abbrev pub AreRunCallsItsOwn : ℕ → List Event → Type 0
AreRunCallsItsOwn p es = (k : ℕ) (e : Event) → EventAt es k e → e.processor ≡ p

-- what it has seen more is its own
abbrev pub SeesOwnRunCalls : Local → Local → Type 0
SeesOwnRunCalls old new = (part : List Event) × AreRunCallsItsOwn old.number part × (new.seen ≡ old.seen ++ part)

-- if it has seen nothing of others since, these calls were noted in its block, one after another
abbrev pub AreRunCallsNoted : Local → Local → List Kind → Type 0
AreRunCallsNoted old new kinds =
    SeesOwnRunCalls old new → OpenBlockNotesAll old.sizes old.number kinds (run_calls_open old) (run_calls_open new)

-- it is the same processor, has made these calls besides, and fetches that they want, and has cut nothing off
pub record HasRunCallsAndFetches (old new : Local) (kinds : List Kind) : Type 0 where
  pub same : IsSameProcessorOfCall old new
  pub sees : SeesNoFewerRunCalls old new
  pub more : run_calls new ≡ run_calls old ++ kinds
  pub noted : AreRunCallsNoted old new kinds
  pub wanted : AreRunCallsWanted old → AreRunCallsWanted new
  pub uncut : new.own_cut ≡ old.own_cut

-- the same, except that it may have cut something off if this is so
pub record HasRunCallsUnless (cuts : Type 0) (old new : Local) (kinds : List Kind) : Type 0 where
  pub same : IsSameProcessorOfCall old new
  pub sees : SeesNoFewerRunCalls old new
  pub more : run_calls new ≡ run_calls old ++ kinds
  pub noted : AreRunCallsNoted old new kinds
  pub wanted : AreRunCallsWanted old → AreRunCallsWanted new
  pub uncut : ¬ cuts → new.own_cut ≡ old.own_cut

-- it is the same processor, has made no calls besides but maybe fetches, and has cut nothing off
pub record MakesNoRunCalls (old new : Local) : Type 0 where
  pub same : IsSameProcessorOfCall old new
  pub none : run_calls new ≡ run_calls old
  pub uncut : new.own_cut ≡ old.own_cut

-- it has made these calls, by the answer, or none if it was refused
abbrev pub AreRunCallsTried : {A : Type 0} → Local → Local → Result A Refused → (A → List Kind) → Type 0
AreRunCallsTried old new (Ok x) kinds = HasRunCallsAndFetches old new (kinds x)
AreRunCallsTried old new (Err e) kinds = MakesNoRunCalls old new

-- it has done this instruction, which is a call of its own if it is a cut, and cut nothing off but by a cut
pub record HasRunCallsOfInstruction (old new : Local) (i : Instruction) : Type 0 where
  pub kinds : List Kind
  pub are : AreEventsOfInstruction i kinds
  pub makes : HasRunCallsUnless (i ≡ Cut) old new kinds
  pub cut : i ≡ Cut → IsRunCut old new

-- it has begun this instruction by a call that waits, handed its block in, and awaits the event that ends it
pub record IsRunCallBegun (old new : Local) (i : Instruction) : Type 0 where
  pub first : Kind
  pub last : Kind
  pub are : AreEventsOfInstruction i (first ∷ last ∷ [])
  pub waits : awaited_next first ≡ Some last
  pub makes : HasRunCallsAndFetches old new (first ∷ [])
  pub handed : new.block ≡ []
  pub awaits : new.awaits ≡ Some last

-- it has done this instruction, or begun it
abbrev pub IsRunCallUnderway : Local → Local → Instruction → Bool → Type 0
IsRunCallUnderway old new i true = HasRunCallsOfInstruction old new i
IsRunCallUnderway old new i false = IsRunCallBegun old new i

-- it is as it was, and what it awaits hasn't come by what it has seen
pub record RunCallFindsNothing (old new : Local) : Type 0 where
  pub calls_are : calls new ≡ calls old
  pub block_is : new.block ≡ old.block
  pub awaits_is : new.awaits ≡ old.awaits
  pub late : IsTakingCallLate new

-- it has taken what it awaited, or that hadn't come
pub record IsRunCallOfTake (old new : Local) (taken : Bool) : Type 0 where
  pub same : IsSameProcessorOfCall old new
  pub sees : SeesNoFewerRunCalls old new
  pub block_is : new.block ≡ old.block
  pub yes : taken ≡ true → calls new ≡ calls old ++ taking_call_added old.number old.awaits
  pub noted : taken ≡ true → SeesOwnRunCalls old new → new.seen ≡ old.seen ++ taking_call_added old.number old.awaits
  pub no : taken ≡ false → RunCallFindsNothing old new
  pub uncut : new.own_cut ≡ old.own_cut

-- it has done these instructions
pub record HasRunCallsOfAll (old new : Local) (is : List Instruction) : Type 0 where
  pub kinds : List Kind
  pub are : AreEventsOfInstructions is kinds
  pub makes : HasRunCallsUnless (HasCutInstruction is) old new kinds
  pub cuts : HasMadeRunCuts old new is

-- it has done its section, and passed the closing barrier
pub record HasRunCallsOfWalk (old new : Local) (section : List Instruction) : Type 0 where
  pub kinds : List Kind
  pub are : AreEventsOfInstructions section kinds
  pub makes : HasRunCallsUnless (HasCutInstruction section) old new (kinds ++ Arrive ∷ Depart ∷ [])
  pub cuts : HasMadeRunCuts old new section

-- it has loaded these words
abbrev pub HasRunCallsOfLoads : Local → Local → List (ℕ × ℕ) → Type 0
HasRunCallsOfLoads old new words = HasRunCallsAndFetches old new (map load_of words)

-- processor p of the cluster, before its first call
abbrev pub new_at_run_call : SharedCluster → ℕ → Local
new_at_run_call c p = new_local c.lock p c.sizes

-- each of the cluster's processors has walked its section
pub record HaveRunCallsOfWalks (c : SharedCluster) (sections : List (List Instruction)) (ms : List Local) : Type 0 where
  pub all : length ms ≡ c.sizes.processors
  pub each : (p : ℕ) (section : List Instruction) (m : Local) → slice_get sections p ≡ Some section
      → slice_get ms p ≡ Some m → HasRunCallsOfWalk (new_at_run_call c p) m section
