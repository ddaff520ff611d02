use Rattle.std.proofs.Common.{◌≡◌, ◌+◌, length, take}
use Rattle.explore.specs.Prefixes.ScriptCalls.{script_calls_of_all}
use Rattle.lrc_tester.proofs.next.next_in_section.Given as goal

-- the instructions so far make the calls that are no longer left
abbrev pub invariant-loop-index : goal.invariant-loop-index
invariant-loop-index l = l.made ≡ length (script_calls_of_all (take l.index l.section)) + l.left
