use Rattle.std.proofs.Common.{◌≡◌, Bool, true, false, ◌++◌, List, Some, subst, sym, refl, ap, ◌∙◌}
use Rattle.std.specs.Prelude.{Option, Result, Ok, Err, IfOk}
use Rattle.std.proofs.lemmas.Option.{same_Some}
use Rattle.journal.specs.declared.event.Event.{Event}
use Rattle.journal.specs.Sizes.{Sizes}
use Rattle.judge.specs.declared.locksets.lockset_finder.LocksetWords.{LocksetWords}
use Rattle.judge.specs.declared.locksets.lockset_finder.Unprotected.{Unprotected}
use Rattle.judge.specs.JudgedSizes.{judged_sizes_of}
use Rattle.lrc_check.specs.declared.checked.Checked.{Checked}
use Rattle.lrc_check.specs.declared.checked.Rules.{Rules}
use Rattle.lrc_check.specs.declared.history_judge.HistoryJudge.{HistoryJudge}
use Rattle.lrc_check.specs.declared.trace_stream.TraceStream.{TraceStream}
use Rattle.lrc_check.specs.HistoryJudge.{HasJudgedToEnd, IsHistoryJudgeOf}
use Rattle.lrc_check.specs.Traces.Sizes.{trace_sizes_of}
use Rattle.lrc_check.specs.TraceStreams.{HasStreamJudgedAll, IsFoundInStream}
use Rattle.lrc_check.specs.Unprotected.{AreUnprotectedTold, may_unprotected_be_sought, unprotected_looked_for}
use Rattle.lrc_check.proofs.HistoryLocksets.{history_locksets_unsought, history_locksets_untold}
use Rattle.lrc_check.proofs.trace_stream.TraceStream.unprotected.Goals as goal

-- what is so of what succeeds, where it follows
follows : {A E : Type 0} (r : Result A E) (P Q : A → Type 0) → ((x : A) → P x → Q x) → IfOk r P → IfOk r Q
follows (Ok x) P Q f p = f x p
follows (Err e) P Q f p = tt

-- the judge that there is has judged to the end
to_end : (x : TraceStream) (h : HistoryJudge) (front : List Event) (found : Checked) → x.judge ≡ Some h → IsFoundInStream front found x
    → HasJudgedToEnd (front ++ x.reader.events) found h
to_end x h front found there is = record {
  told = λ sought. (let all = is.judge sought in
      subst (IsHistoryJudgeOf (front ++ x.reader.events)) (same_Some all.by h (sym all.is ∙ there)) all.told.judged);
  race = λ sought. (let all = is.judge sought in
      all.race ∙ ap (λ (k : HistoryJudge). k.judge.race) (same_Some all.by h (sym all.is ∙ there)));
}

-- what is told by its rules and sizes is told by the stream's
by_stream : (x : TraceStream) (h : HistoryJudge) (front : List Event) (found : Checked) (words : List Unprotected) → x.judge ≡ Some h
    → (is : IsFoundInStream front found x)
    → AreUnprotectedTold (unprotected_looked_for h.rules.locksets found) (judged_sizes_of h.judge.sizes) (front ++ x.reader.events) words
    → AreUnprotectedTold (unprotected_looked_for x.rules.locksets found) (trace_sizes_of is.known) (front ++ x.reader.events) words
by_stream x h front found words there is told = go (may_unprotected_be_sought found.verdict) refl
  where
    j : List Event
    j = front ++ x.reader.events

    by_all : HasStreamJudgedAll x.rules x.reader.sizes j found x.judge
        → AreUnprotectedTold (unprotected_looked_for x.rules.locksets found) (trace_sizes_of is.known) j words
    by_all all =
        let same : all.by ≡ h = same_Some all.by h (sym all.is ∙ there) in
        let rules : h.rules ≡ x.rules = ap (λ (k : HistoryJudge). k.rules) (sym same) ∙ all.told.rules_are in
        let known : all.told.known ≡ is.known = same_Some all.told.known is.known (sym all.told.sizes_are ∙ is.sizes_are) in
        let sizes : judged_sizes_of h.judge.sizes ≡ trace_sizes_of is.known =
        ap (λ (k : HistoryJudge). judged_sizes_of k.judge.sizes) (sym same) ∙ (all.told.judged_sizes ∙ ap trace_sizes_of known) in
        subst (λ (s : Sizes). AreUnprotectedTold (unprotected_looked_for x.rules.locksets found) s j words) sizes
        (subst (λ (r : Rules). AreUnprotectedTold (unprotected_looked_for r.locksets found) (judged_sizes_of h.judge.sizes) j words) rules told)

    go : (b : Bool) → may_unprotected_be_sought found.verdict ≡ b
        → AreUnprotectedTold (unprotected_looked_for x.rules.locksets found) (trace_sizes_of is.known) j words
    go true sought = by_all (is.judge sought)
    go false isnt = history_locksets_untold x.rules.locksets found (trace_sizes_of is.known) j words isnt
        (subst (λ (o : Option LocksetWords). AreUnprotectedTold o (judged_sizes_of h.judge.sizes) j words)
        (history_locksets_unsought h.rules.locksets found isnt) told)

pub returns-in-Some : goal.returns-in-Some
returns-in-Some c =
    let x = c.args.self.now in
    let h = c.in-Some.judge in
    let found = c.args.found.now in
    follows c.unprotected.result _ _
    (λ v told front is. by_stream x h front found v.items c.in-Some.is is (told (front ++ x.reader.events) (to_end x h front found c.in-Some.is is)))
    c.unprotected.ensures
