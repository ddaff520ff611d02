-- How many states of a script are looked at, by the words that they have.
use Rattle.std.specs.Prelude.{ℕ, ◌+◌, ◌/◌, ◌^◌, Bool, true, false, List, count_by, length, min, sum_by}
use Rattle.lrc_script.specs.declared.script.Instruction.{Instruction}
use Rattle.lrc_script.specs.declared.script.Instruction.TheVariants.{Load, Add}
use Rattle.lrc_script.specs.Plan.{Plan}
use Rattle.lrc_script.specs.Lawful.{plan_addresses}
use Rattle.explore.specs.declared.outcomes.telling.Detail.{Detail}
use Rattle.explore.specs.declared.outcomes.telling.Detail.TheVariants as detail

-- whether an instruction loads
abbrev pub state_room_is_loading : Instruction → Bool
state_room_is_loading (Load a) = true
state_room_is_loading (Add a v) = true
state_room_is_loading _ = false

-- whether it is a `load`
abbrev pub state_room_is_load : Instruction → Bool
state_room_is_load (Load a) = true
state_room_is_load _ = false

-- whether what an instruction loads is told by the detail, so that a state keeps it
abbrev pub state_room_keeps : Detail → Instruction → Bool
state_room_keeps detail.Words i = false
state_room_keeps detail.Loads i = state_room_is_load i
state_room_keeps detail.All i = state_room_is_loading i

-- how many replies of a section's loads a state keeps at most: those, and one that the next step adds to, but never more than all
abbrev pub state_room_replies_in : Detail → List Instruction → ℕ
state_room_replies_in d section = min (count_by state_room_is_loading section) (count_by (state_room_keeps d) section + 1)

-- a state has no more words: those of the memory and of what is shown, and the replies that it keeps
abbrev pub state_room_words : Plan → Detail → ℕ
state_room_words s d = plan_addresses s + length s.shown + sum_by (state_room_replies_in d) s.sections

-- so many states have 2^27 words at most
abbrev pub state_room_size : Plan → Detail → ℕ
state_room_size s d = 2 ^ 27 / state_room_words s d

-- so many are looked at, if this number is asked for
abbrev pub state_room_at_most : Plan → Detail → ℕ → ℕ
state_room_at_most s d most = min most (state_room_size s d)
