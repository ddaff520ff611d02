use Rattle.std.proofs.Common.{◌≡◌, List, Some, subst, sym, ◌∙◌}
use Rattle.std.specs.Prelude.{Option, Result, Ok, Err, IfOk}
use Rattle.judge.specs.declared.locksets.lockset_finder.LocksetWords.{LocksetWords}
use Rattle.journal.specs.declared.event.Event.{Event}
use Rattle.judge.specs.declared.locksets.lockset_finder.LocksetFinder.{LocksetFinder}
use Rattle.judge.specs.Locksets.Pairs.{PairsTellUnprotected}
use Rattle.lrc_check.specs.declared.history_judge.HistoryJudge.{HistoryJudge}
use Rattle.lrc_check.specs.HistoryJudge.{HasHistoryLocksets, IsHistoryJudgeOf, IsHistoryLocksets}
use Rattle.judge.specs.JudgedSizes.{judged_sizes_of}
use Rattle.lrc_check.specs.Unprotected.{AreUnprotectedTold}
use Rattle.lrc_check.proofs.HistoryLocksets.{history_locksets_sought}
use Rattle.lrc_check.proofs.history_judge.HistoryJudge.unprotected.Goals as goal

-- what is so of what succeeds, where it follows
follows : {A E : Type 0} (r : Result A E) (P Q : A → Type 0) → ((x : A) → P x → Q x) → IfOk r P → IfOk r Q
follows (Ok x) P Q f p = f x p
follows (Err e) P Q f p = tt

-- the finder that there is was told the events
finder_of : (x : HistoryJudge) (j : List Event) (f : LocksetFinder) → IsHistoryJudgeOf j x → x.locksets ≡ Some f → IsHistoryLocksets x.judge.sizes j f
finder_of x j f judged is = subst (λ o. HasHistoryLocksets x.rules.locksets x.judge.race x.judge.sizes j o) is judged.locksets

pub returns-in-Some-locksets : goal.returns-in-Some-locksets
returns-in-Some-locksets c =
    let x = c.args.self.now in
    let words = c.in-Some.words in
    let looked = sym c.unprotected_asked_for.ensures ∙ c.in-Some.is in
    let sought = history_locksets_sought x.rules.locksets c.args.found.now words looked in
    follows c.found.result _ _
    (λ v found j told.
    (let finder = finder_of x j c.in-Some-locksets.finder (told.told sought.sought) c.in-Some-locksets.is in
    subst (λ (o : Option LocksetWords). AreUnprotectedTold o (judged_sizes_of x.judge.sizes) j v.items) (sym looked)
    (subst (λ n. PairsTellUnprotected words j n v.items) finder.addresses (found j finder.told))))
    c.found.ensures
