-- How many calls instructions make, and which comes next after so many.
use Rattle.std.proofs.Common.{ℕ, ◌≡◌, ◌+◌, ◌-◌, ◌<◌, ◌≤◌, Some, List, [], length, slice_get, take, ap, ◌∙◌, arith}
use Rattle.std.proofs.lemmas.List.{length-append}
use Rattle.lrc_script.specs.declared.script.Instruction.{Instruction}
use Rattle.explore.specs.Prefixes.ScriptCalls.{script_calls_of_all, script_calls_of_one}
use Rattle.explore.proofs.PrefixRuns.Steps.{prefix_steps_one_more}
use Rattle.lrc_tester.specs.Following.{IsInstructionNext, IsNextAfter}
use Rattle.lrc_tester.specs.declared.next.Next.{Next}
use Rattle.lrc_tester.specs.declared.next.Next.TheVariants as next

-- the calls of one instruction more
pub next_calls_more : (section : List Instruction) (i : ℕ) (x : Instruction) → slice_get section i ≡ Some x
    → length (script_calls_of_all (take (i + 1) section))
    ≡ length (script_calls_of_all (take i section)) + length (script_calls_of_one x)
next_calls_more section i x at =
    ap length (prefix_steps_one_more section i x at) ∙ length-append (script_calls_of_all (take i section)) (script_calls_of_one x)

-- fewer calls are left than the instruction makes
pub next_calls_inside : (section : List Instruction) (made i left calls : ℕ) (x : Instruction) → slice_get section i ≡ Some x → i < length section
    → made ≡ length (script_calls_of_all (take i section)) + left → calls ≡ length (script_calls_of_one x) → left < calls
    → IsInstructionNext section made i
next_calls_inside section made i left calls x at inside is count lt = record {
  inside = inside;
  before = omega (arith, is);
  left = let more = next_calls_more section i x at in omega (arith, is, count, lt, more);
}

-- what comes after all instructions
pub next_calls_at_end : (section : List Instruction) (shown made left : ℕ) (x : Next) → made ≡ length (script_calls_of_all section) + left
    → IsNextAfter [] shown left x → IsNextAfter section shown made x
next_calls_at_end section shown made left (next.Instruction i) is at = absurd (let lt = at.inside in omega (arith, lt))
next_calls_at_end section shown made left next.Closing is at = (omega (arith, is), let lt = at.1 in omega (arith, is, lt))
next_calls_at_end section shown made left (next.Shown i) is at = (at.0, let e = at.1 in omega (arith, is, e))
next_calls_at_end section shown made left next.Nothing is at = omega (arith, is, at)

-- as many calls are left after one instruction more
pub next_calls_next : (section : List Instruction) (made i left calls : ℕ) (x : Instruction) → slice_get section i ≡ Some x
    → made ≡ length (script_calls_of_all (take i section)) + left → calls ≡ length (script_calls_of_one x) → calls ≤ left
    → made ≡ length (script_calls_of_all (take (i + 1) section)) + (left - calls)
next_calls_next section made i left calls x at is count le =
    let more = next_calls_more section i x at in omega (arith, is, count, le, more)
