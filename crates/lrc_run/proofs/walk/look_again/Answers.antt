use Rattle.std.proofs.Common.{rules, ◌≡◌, Bool, Ok, Result, inl, inr, subst}
use Rattle.book.specs.declared.refused.Refused.{Refused}
use Rattle.cluster.specs.WaitingCalls.{IsWaitingCall}
use Rattle.cluster.specs.declared.waited.Waited.{Waited}
use Rattle.cluster.specs.declared.waited.Waited.TheVariants.{Deserted, MayHaveCome, Stuck}
use Rattle.lrc_run.specs.RunCalls.{IsRunCallOfTake}
use Rattle.lrc_run.proofs.RunWaits.{run_wait_takes_on, run_wait_goes_on}
use Rattle.lrc_run.proofs.walk.look_again.Goals as goal

pub returns-in_ok-end-in-MayHaveCome-clause-ok : goal.returns-in_ok-end-in-MayHaveCome-clause-ok
returns-in_ok-end-in-MayHaveCome-clause-ok g c =
    run_wait_takes_on c.args.processor.now c.wait.new.processor c.end.new.processor c.in_ok-end-in-MayHaveCome.field-0
    (run_wait_goes_on c.args.processor.now c.wait.new.processor c.wait.result c.wait.ensures)
    c.in_ok-end-in-MayHaveCome.ensures.ok

pub returns-in_ok-end-in-MayHaveCome-clause-looked : goal.returns-in_ok-end-in-MayHaveCome-clause-looked
returns-in_ok-end-in-MayHaveCome-clause-looked g c = λ late.
    let came : c.wait.result ≡ Ok MayHaveCome = search rules in
    let P : Result Waited Refused → Type 0 = λ r. IsWaitingCall c.args.processor.now c.wait.new.processor r in
    let Q : Bool → Type 0 = λ b. IsRunCallOfTake c.wait.new.processor c.end.new.processor b in
    record {
      before = c.wait.new.processor;
      waits = subst P came c.wait.ensures;
      looks = record { takes = subst Q late c.in_ok-end-in-MayHaveCome.ensures.ok; entered = c.in_ok-end-in-MayHaveCome.ensures.entered };
    }

pub returns-in-Stuck-clause-stuck : goal.returns-in-Stuck-clause-stuck
returns-in-Stuck-clause-stuck g c = λ stuck.
    let told : c.wait.result ≡ Ok Stuck = search rules in
    let P : Result Waited Refused → Type 0 = λ r. IsWaitingCall c.args.processor.now c.wait.new.processor r in
    inl (subst P told c.wait.ensures)

pub returns-in-Deserted-clause-stuck : goal.returns-in-Deserted-clause-stuck
returns-in-Deserted-clause-stuck g c = λ stuck.
    let told : c.wait.result ≡ Ok Deserted = search rules in
    let P : Result Waited Refused → Type 0 = λ r. IsWaitingCall c.args.processor.now c.wait.new.processor r in
    inr (subst P told c.wait.ensures)
