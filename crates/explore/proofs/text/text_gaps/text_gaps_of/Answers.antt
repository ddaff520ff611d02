use Rattle.std.proofs.Common.{◌≡◌, Bool, List, Result, Ok, Err, length, ap, sym, subst, ◌∙◌, arith}
use Rattle.std.specs.Prelude.{IfOk}
use Rattle.std.specs.Global.{Vec}
use Rattle.lrc_script.specs.Plan.{Plan, plan_of}
use Rattle.lrc_script.specs.Lawful.{plan_addresses}
use Rattle.explore.specs.declared.prefixes.script_call.ScriptCall.{ScriptCall}
use Rattle.explore.specs.declared.text.text_gaps.TextGaps.{TextGaps}
use Rattle.explore.specs.Prefixes.ScriptCalls.{AreScriptCallRows}
use Rattle.explore.specs.TextGaps.{AreTextGaps}
use Rattle.explore.specs.TextGuards.{AreGuardedByText}
use Rattle.explore.specs.UnguardedWords.{AreUnguardedWords}
use Rattle.explore.specs.UnrankedLocks.{AreUnrankedLocks}
use Rattle.explore.proofs.text.text_gaps.text_gaps_of.Goals as goal

-- what is said of the script's steps is said of the script
told : {E : Type 0} (s : Plan) (rows : List (Vec ScriptCall)) (guarded : List Bool) (result : Result TextGaps E) → AreScriptCallRows s rows
    → length guarded ≡ plan_addresses s → AreGuardedByText rows guarded → IfOk result (λ gaps. AreUnguardedWords rows guarded gaps.words.items)
    → IfOk result (λ gaps. AreUnrankedLocks rows gaps.locks) → IfOk result (AreTextGaps s)
told s rows guarded (Ok gaps) are long guards words locks =
    record { rows = rows; are = are; guarded = guarded; long = long; guards = guards; words = words; locks = locks }
told s rows guarded (Err error) are long guards words locks = tt

pub text_gaps_with-requires-clause-guarded : goal.text_gaps_with-requires-clause-guarded
text_gaps_with-requires-clause-guarded c =
    subst (AreGuardedByText c.args.steps.now) (sym c.deref.ensures.value) c.in_ok-guarded.ensures.guarded

pub returns : goal.returns
returns c =
    let s = plan_of c.args.script.now in
    let long : length c.deref.result.now ≡ plan_addresses s =
    ap length c.deref.ensures.value ∙ (let size = c.in_ok-guarded.guarded.ok.0 in let is = c.in_ok-guarded.ensures.long in omega arith) in
    told s c.args.steps.now c.deref.result.now c.text_gaps_with.result c.requires.are long
    (subst (AreGuardedByText c.args.steps.now) (sym c.deref.ensures.value) c.in_ok-guarded.ensures.guarded) c.text_gaps_with.ensures.words
    c.text_gaps_with.ensures.locks
