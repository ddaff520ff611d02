use Rattle.std.proofs.Common.{◌≡◌, ℕ, Bool, true, false, List, inr, subst, sym}
use Rattle.std.specs.Prelude.{IfErr, IfOk, Result, Ok, Err}
use Rattle.lrc_check.specs.FoundInBytes.{IsFaultFoundInBytes}
use Rattle.lrc_check.specs.TraceStreams.{IsTraceStream}
use Rattle.lrc_check.specs.Traces.FedText.{IsNoUnfinishedTrace}
use Rattle.lrc_check.specs.Traces.Labels.{without_trace_labels}
use Rattle.lrc_check.specs.Traces.LawfulTraces.{IsNoLawfulTrace}
use Rattle.lrc_check.specs.declared.check_fault.CheckFault.{CheckFault}
use Rattle.lrc_commands.specs.TraceCommand.{IsTraceCommandFound, IsTraceCommandNoText}
use Rattle.lrc_commands.proofs.checking.check_command_ends.Goals as goal

pub returns-then-unfinished-clause-found : goal.returns-then-unfinished-clause-found
returns-then-unfinished-clause-found c =
    let x = c.args.stream.now in
    subst (λ u. IfOk c.finish_unfinished.result (λ found. (bytes : List ℕ) → IsTraceStream bytes x → IsTraceCommandFound u x.rules bytes found))
    (sym c.if-unfinished.true) c.finish_unfinished.ensures.found

pub returns-else-unfinished-clause-found : goal.returns-else-unfinished-clause-found
returns-else-unfinished-clause-found c =
    let x = c.args.stream.now in
    subst (λ u. IfOk c.finish.result (λ found. (bytes : List ℕ) → IsTraceStream bytes x → IsTraceCommandFound u x.rules bytes found))
    (sym c.if-unfinished.false) c.finish.ensures.found

-- of what is no trace and no beginning of a line behind one
no_unfinished : {T : Type 0} (unfinished : Bool) (r : Result T CheckFault) (P : List ℕ → Type 0) → unfinished ≡ true
    → IfErr r (λ _. (bytes : List ℕ) → P bytes → IsNoUnfinishedTrace bytes)
    → IfErr r (λ fault. IsFaultFoundInBytes fault → (bytes : List ℕ) → P bytes → IsTraceCommandNoText unfinished bytes)
no_unfinished unfinished (Ok t) P is never = tt
no_unfinished unfinished (Err e) P is never = λ its bytes fed. subst (λ u. IsTraceCommandNoText u bytes) (sym is) (inr (never bytes fed))

-- of what is no trace
no_whole : {T : Type 0} (unfinished : Bool) (r : Result T CheckFault) (P : List ℕ → Type 0) → unfinished ≡ false
    → IfErr r (λ fault. IsFaultFoundInBytes fault → (bytes : List ℕ) → P bytes → IsNoLawfulTrace (without_trace_labels bytes))
    → IfErr r (λ fault. IsFaultFoundInBytes fault → (bytes : List ℕ) → P bytes → IsTraceCommandNoText unfinished bytes)
no_whole unfinished (Ok t) P is refused = tt
no_whole unfinished (Err e) P is refused = λ its bytes fed. subst (λ u. IsTraceCommandNoText u bytes) (sym is) (refused its bytes fed)

pub returns-then-unfinished-clause-refused : goal.returns-then-unfinished-clause-refused
returns-then-unfinished-clause-refused c =
    no_unfinished c.args.unfinished c.finish_unfinished.result (λ bytes. IsTraceStream bytes c.args.stream.now) c.if-unfinished.true
    c.finish_unfinished.ensures.never

pub returns-else-unfinished-clause-refused : goal.returns-else-unfinished-clause-refused
returns-else-unfinished-clause-refused c =
    no_whole c.args.unfinished c.finish.result (λ bytes. IsTraceStream bytes c.args.stream.now) c.if-unfinished.false c.finish.ensures.refused
