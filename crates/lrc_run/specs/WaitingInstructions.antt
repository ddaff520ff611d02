-- Instructions that wait.
use Rattle.std.specs.Prelude.{Bool, true, false}
use Rattle.lrc_script.specs.declared.script.Instruction.{Instruction}
use Rattle.lrc_script.specs.declared.script.Instruction.TheVariants.{Acquire, Barrier, Await}

-- the instruction waits for something, and isn't done by its first call
abbrev pub is_waiting_instruction : Instruction → Bool
is_waiting_instruction (Acquire l) = true
is_waiting_instruction Barrier = true
is_waiting_instruction (Await f) = true
is_waiting_instruction _ = false
