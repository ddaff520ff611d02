use Rattle.std.proofs.Common.{ℕ, ◌≡◌, ◌==◌, ◌+◌, ◌<◌, cond, List, [], ◌∷◌, Some, length, map, slice_get, sym, ap, subst, ◌∙◌, arith}
use Rattle.std.specs.Global.{Vec}
use Rattle.std.proofs.lemmas.List.{length-append}
use Rattle.lrc_script.specs.Plan.{plan_of}
use Rattle.explore.specs.Machines.{machine_rows}
use Rattle.explore.proofs.MachineReplies.{machine_reply_row_push}
use Rattle.explore.proofs.MachineSteps.{machine_step_some_at}
use Rattle.explore.proofs.ReportedWords.{reported_words_of, reported_words_pushed}
use Rattle.explore.proofs.memory.reported_outcome.outcome_of_words.Goals as goal

pub loop-processor-preserved : goal.loop-processor-preserved
loop-processor-preserved c =
    let vs = c.loop-processor.replies.items in
    let v = c.in_ok-words_told_of.field-0 in
    let n = c.loop-processor.processor in
    let old = c.loop-processor.invariant in
    let row : ℕ → List ℕ = λ p. cond (p == 0) (map (λ (x : ℕ × ℕ). x.1) c.args.report.now.shown.items) [] in
    let is : v.items ≡ row n =
    c.in_ok-words_told_of.ensures ∙ ap (λ xs. cond (n == 0) (map (λ (x : ℕ × ℕ). x.1) xs) []) c.deref.ensures.value in
    let long = ap (λ (rows : List (List ℕ)). length rows) (machine_reply_row_push vs v)
    ∙ length-append (machine_rows vs) (v.items ∷ []) in
    let was = old.long in
    subst
    (λ (xs : List (Vec ℕ)). record {
      long : length (machine_rows xs) ≡ n + 1;
      each : (p : ℕ) → p < n + 1 → slice_get (machine_rows xs) p ≡ Some (row p);
    })
    (sym c.in_ok-push.ensures.items)
    (record { long = omega (arith, long, was); each = reported_words_pushed row vs v n was old.each is })

pub returns : goal.returns
returns c = λ h tells.
    (let s = plan_of c.args.script.now in
    let old = c.loop-processor.invariant in
    let end = c.loop-processor-test.false in
    let top = c.loop-processor.auto.processor-end in
    let was = old.long in
    let sections = c.requires.but_uneven.one_each in
    record {
      long = omega (arith, was, end, top);
      each = λ p lt.
          (let section = machine_step_some_at s.sections p (omega (arith, lt, sections)) in
          old.each p (omega (arith, lt, end, top))
          ∙ ap (λ (r : List ℕ). Some r) (sym (reported_words_of s c.args.report.now h p section.0 tells section.1)));
    })
