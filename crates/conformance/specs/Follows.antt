-- A history follows a script: what each processor called is what its section says, the closing barrier,
-- and at processor 0 the loads of the shown addresses.
use Rattle.std.specs.Prelude.{ℕ, ◌≡◌, ◌==◌, Bool, true, false, cond, Some, List, [], ◌∷◌, ◌++◌, filter, map, slice_get, not}
use Rattle.journal.specs.declared.event.Event.{Event}
use Rattle.journal.specs.declared.event.Kind.{Kind}
use Rattle.journal.specs.declared.event.Kind.TheVariants as kind
use Rattle.journal.specs.Events.{events_of}
use Rattle.journal.specs.Sizes.{Sizes}
use Rattle.lrc_script.specs.declared.script.Instruction.{Instruction}
use Rattle.lrc_script.specs.Plan.{Plan}
use Rattle.conformance.specs.InstructionEvents.{AreEventsOfInstructions}

-- the sizes that a script asks for
abbrev pub plan_sizes : Plan → Sizes
plan_sizes s = record { processors = s.processors; pages = s.pages; words = s.words; locks = s.locks; flags = s.flags }

-- a load and its reply
abbrev pub load_of : ℕ × ℕ → Kind
load_of x = kind.Load x.0 x.1

-- what p called is its section, the closing barrier, and the loads of these addresses
pub record FollowsSection (section : List Instruction) (shown : List ℕ) (kinds : List Kind) : Type 0 where
  pub own : List Kind
  pub loads : List (ℕ × ℕ)
  pub kinds_are : kinds ≡ own ++ kind.Arrive ∷ kind.Depart ∷ map load_of loads
  pub follows : AreEventsOfInstructions section own
  pub addresses_are : map (λ (x : ℕ × ℕ). x.0) loads ≡ shown

abbrev pub is_fetch : Kind → Bool
is_fetch (kind.Fetch writers page records words) = true
is_fetch _ = false

-- the kinds of these events, fetches aside
abbrev pub call_kinds : List Event → List Kind
call_kinds es = filter (λ k. not (is_fetch k)) (map (λ (e : Event). e.kind) es)

-- what p called, its fetches aside
abbrev pub calls_of : List Event → ℕ → List Kind
calls_of h p = call_kinds (events_of h p)

-- each processor's calls follow its section
abbrev pub Follows : Plan → List Event → Type 0
Follows s h = (p : ℕ) (section : List Instruction) → slice_get s.sections p ≡ Some section
    → FollowsSection section (cond (p == 0) s.shown []) (calls_of h p)
