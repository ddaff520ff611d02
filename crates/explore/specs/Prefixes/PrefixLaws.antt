-- What is promised of prefixes.
use Rattle.std.specs.Prelude.{ℕ, ◌≡◌, ◌≢◌, ◌+◌, ◌↔◌, Some, List, [], ◌++◌, length, replicate, slice_get}
use Rattle.journal.specs.declared.event.Event.{Event}
use Rattle.journal.specs.declared.event.Kind.{Kind}
use Rattle.journal.specs.DidEvent.{did, event}
use Rattle.journal.specs.WellFormed.{WellFormedNext}
use Rattle.journal.specs.ReplayMemory.{AnswersReplayMemory, memory_after}
use Rattle.journal.specs.Races.{Conflict, Race}
use Rattle.lrc_script.specs.declared.script.Instruction.{Instruction}
use Rattle.lrc_script.specs.Plan.{Plan}
use Rattle.lrc_script.specs.Lawful.{plan_addresses}
use Rattle.conformance.specs.Follows.{plan_sizes, calls_of, Follows}
use Rattle.conformance.specs.FlatRuns.{NeverRacesFlat}
use Rattle.explore.specs.Prefixes.FlatBeginnings.{IsFlatBeginning, AreFlatBeginningsRaceFree}
use Rattle.explore.specs.Prefixes.ScriptCalls.{ScriptCallsNext, replyless_script_call, script_calls_of_section, script_calls_shown_by}

-- a script of which no prefix races never races
abbrev pub PrefixNeverRacesLaw : Type 0
PrefixNeverRacesLaw = (s : Plan) → AreFlatBeginningsRaceFree s → NeverRacesFlat s

-- nothing begins each script
abbrev pub PrefixEmptyLaw : Type 0
PrefixEmptyLaw = (s : Plan) → IsFlatBeginning s []

-- what begins a prefix is one
abbrev pub PrefixFrontLaw : Type 0
PrefixFrontLaw = (s : Plan) (g more : List Event) → IsFlatBeginning s (g ++ more) → IsFlatBeginning s g

-- p may do this next: its section says so, what it waits for has come, and a load answers its word
pub record PrefixCanGoOn (s : Plan) (g : List Event) (p : ℕ) (k : Kind) : Type 0 where
  pub may_follow : WellFormedNext (plan_sizes s) g (event p k)
  pub calls : ScriptCallsNext s g p k
  pub answers : AnswersReplayMemory (memory_after (replicate (plan_addresses s) 0) g) k

-- exactly then it makes a prefix longer
abbrev pub PrefixNextLaw : Type 0
PrefixNextLaw = (s : Plan) (g : List Event) (p : ℕ) (k : Kind)
    → IsFlatBeginning s (did g p k) ↔ (IsFlatBeginning s g × PrefixCanGoOn s g p k)

-- each processor has made as many calls as its section says
abbrev pub IsPrefixDone : Plan → List Event → Type 0
IsPrefixDone s g = (p : ℕ) (section : List Instruction) → slice_get s.sections p ≡ Some section
    → length (calls_of g p) ≡ length (script_calls_of_section section (script_calls_shown_by s p))

-- a prefix is whole exactly then
abbrev pub PrefixDoneLaw : Type 0
PrefixDoneLaw = (s : Plan) (g : List Event) → IsFlatBeginning s g → Follows s g ↔ IsPrefixDone s g

-- no two processors may access one word next, one of them storing
abbrev pub PrefixHasNoNeighbours : Plan → Type 0
PrefixHasNoNeighbours s = (g : List Event) (p q : ℕ) (a b : Kind) → IsFlatBeginning s (did g p a)
    → IsFlatBeginning s (did g q b) → p ≢ q → ¬ Conflict (event p a) (event q b)

-- then no prefix races
abbrev pub PrefixNeighboursLaw : Type 0
PrefixNeighboursLaw = (s : Plan) → PrefixHasNoNeighbours s → AreFlatBeginningsRaceFree s

-- after g and p's access a, q's access b races with a, if b has the reply that a load of it has then
pub record PrefixRacesAfter (s : Plan) (g : List Event) (p q : ℕ) (a b : Kind) : Type 0 where
  pub kind : Kind
  pub call : replyless_script_call kind ≡ replyless_script_call b
  pub beginning : IsFlatBeginning s (did (did g p a) q kind)
  pub race : Race (did (did g p a) q kind) (length g) (length g + 1)

-- two that may access one word next, one of them storing, race if they do so one after the other
abbrev pub PrefixRacingLaw : Type 0
PrefixRacingLaw = (s : Plan) (g : List Event) (p q : ℕ) (a b : Kind) → IsFlatBeginning s (did g p a)
    → IsFlatBeginning s (did g q b) → p ≢ q → Conflict (event p a) (event q b) → PrefixRacesAfter s g p q a b
