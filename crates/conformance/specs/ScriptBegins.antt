-- A history begins a script: what each processor called is a beginning of calls that follow its section.
use Rattle.std.specs.Prelude.{ℕ, ◌≡◌, ◌==◌, cond, Some, List, [], ◌++◌, slice_get}
use Rattle.journal.specs.declared.event.Event.{Event}
use Rattle.journal.specs.declared.event.Kind.{Kind}
use Rattle.lrc_script.specs.declared.script.Instruction.{Instruction}
use Rattle.lrc_script.specs.Plan.{Plan}
use Rattle.conformance.specs.Follows.{FollowsSection, calls_of}

-- with some calls more, these follow the section
pub record BeginsSection (section : List Instruction) (shown : List ℕ) (kinds : List Kind) : Type 0 where
  pub rest : List Kind
  pub follows : FollowsSection section shown (kinds ++ rest)

-- each processor's calls begin its section
abbrev pub BeginsScript : Plan → List Event → Type 0
BeginsScript s h = (p : ℕ) (section : List Instruction) → slice_get s.sections p ≡ Some section
    → BeginsSection section (cond (p == 0) s.shown []) (calls_of h p)
