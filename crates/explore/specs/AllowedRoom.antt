-- How many beginnings of a script's runs are looked at, by how long they may be.
use Rattle.std.specs.Prelude.{ℕ, ◌+◌, ◌/◌, ◌^◌, List, length, min, sum_by}
use Rattle.lrc_script.specs.declared.script.Instruction.{Instruction}
use Rattle.lrc_script.specs.Plan.{Plan}
use Rattle.lrc_script.specs.Lawful.{plan_addresses}

-- how many instructions a section has
abbrev pub allowed_room_instructions_in : List Instruction → ℕ
allowed_room_instructions_in section = length section

-- what it takes to look at a beginning: in the order of the memory's words, the shown ones, and all instructions
abbrev pub allowed_room_work : Plan → ℕ
allowed_room_work s = plan_addresses s + length s.shown + sum_by allowed_room_instructions_in s.sections

-- so many beginnings take 2^25 of that at most
abbrev pub allowed_room_size : Plan → ℕ
allowed_room_size s = 2 ^ 25 / allowed_room_work s

-- so many are looked at, if this number is asked for
abbrev pub allowed_room_at_most : Plan → ℕ → ℕ
allowed_room_at_most s most = min most (allowed_room_size s)
