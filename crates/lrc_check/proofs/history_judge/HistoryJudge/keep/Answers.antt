use Rattle.std.proofs.Common.{◌≡◌, ◌+◌, cond, [], ◌∷◌, ◌++◌, List, Option, subst, sym, ap, ◌∙◌, arith}
use Rattle.std.specs.Prelude.{is_some}
use Rattle.journal.specs.declared.event.Event.{Event}
use Rattle.judge.specs.declared.locksets.lockset_finder.LocksetFinder.{LocksetFinder}
use Rattle.judge.specs.JudgedSizes.{judged_sizes_of}
use Rattle.judge.specs.Miscounted.{IsEventInSizes}
use Rattle.lrc_check.specs.declared.checked.Rules.{Rules}
use Rattle.lrc_check.specs.declared.history_judge.HistoryJudge.{HistoryJudge}
use Rattle.lrc_check.specs.declared.trace_judge.TraceJudge.{TraceJudge}
use Rattle.lrc_check.specs.CheckVerdicts.{unjudged_in_check_verdict}
use Rattle.lrc_check.specs.HistoryJudge.{ComesNextToHistoryLocksets, ComesNextToTally, HasHistoryLocksets, HasJudgedNext, is_unjudged_next}
use Rattle.lrc_check.specs.TraceJudge.{IsTraceJudgeOf}
use Rattle.lrc_check.proofs.HistoryEnds.{history_end_unjudged_few, history_end_unjudged_next}
use Rattle.lrc_check.proofs.HistoryLocksets.{history_locksets_if_some, history_locksets_unraced, history_locksets_within}
use Rattle.lrc_check.proofs.history_judge.HistoryJudge.keep.Goals as goal

-- what is counted
tally_next : {j : List Event} {e : Event} {x : TraceJudge} {y : HistoryJudge} (f : Option LocksetFinder) → HasJudgedNext j e x y
    → ComesNextToTally j (record y { locksets = f })
tally_next {j} {e} {x} {y} f next =
    let before = next.before in
    let few = history_end_unjudged_few y.rules.model j x.race in
    let left = before.unjudged in
    record {
      few = next.few;
      tallied = record { count = before.tallied.count; traffic = before.tallied.traffic; costs = before.tallied.costs };
      unjudged = omega arith;
    }

-- the event comes next to its word
locksets_next : {j : List Event} {e : Event} {x : TraceJudge} {y : HistoryJudge} → HasJudgedNext j e x y
    → ComesNextToHistoryLocksets j e x.sizes
locksets_next {j} {e} {x} {y} next = record {
  few = next.few;
  within = subst (λ s. IsEventInSizes (judged_sizes_of s) e) next.sizes (history_locksets_within j e y.judge next.now);
}

pub note_history_locksets-requires : goal.note_history_locksets-requires
note_history_locksets-requires c =
    let j = c.requires.next.0 in
    let x = c.requires.next.1 in
    let next = c.requires.next.2 in
    (x.sizes, j, locksets_next next, history_locksets_if_some _ _ c.args.self.now.locksets next.before.locksets)

pub tally-requires : goal.tally-requires
tally-requires c = record { next = (c.requires.next.0, tally_next c.note_history_locksets.new.locksets c.requires.next.2) }

pub returns : goal.returns
returns c = record {
  judged = λ j x next.
      let y = c.args.self.now in
      let z = c.tally.new.self in
      let m = y.rules.model in
      let e = c.args.event in
      let more = j ++ e ∷ [] in
      let was = next.before in
      let now = next.now in
      let judge = c.tally.ensures.judge in
      let rules = c.tally.ensures.rules in
      let model = ap (λ (r : Rules). r.model) rules in
      let left : z.unjudged ≡ unjudged_in_check_verdict m y.judge.race more =
      c.tally.ensures.unjudged ∙ ap (λ n. n + cond (is_unjudged_next m (is_some y.judge.race) e.kind) 1 0) was.unjudged
      ∙ sym (history_end_unjudged_next m j e x.race y.judge.race was.judged.race now.race) in
      record {
        judged = subst (IsTraceJudgeOf more) (sym judge) now;
        model = ap (λ (t : TraceJudge). t.model) judge ∙ next.model ∙ was.model ∙ sym model;
        lax = ap (λ (t : TraceJudge). t.lax) judge ∙ next.lax ∙ was.lax ∙ sym (ap (λ (r : Rules). r.lax) rules);
        tallied = c.tally.ensures.tallied j (tally_next c.note_history_locksets.new.locksets next);
        unjudged = left ∙ ap (λ n. unjudged_in_check_verdict n y.judge.race more) (sym model)
            ∙ ap (λ (t : TraceJudge). unjudged_in_check_verdict z.rules.model t.race more) (sym judge);
        unraced = λ ends. ap (λ (t : TraceJudge). t.race) judge ∙ next.unraced (sym (ap (λ (r : Rules). r.ends_at_race) rules) ∙ ends);
        locksets = subst (λ (r : Rules). HasHistoryLocksets r.locksets z.judge.race z.judge.sizes more z.locksets) (sym rules)
            (subst (λ (t : TraceJudge). HasHistoryLocksets y.rules.locksets t.race t.sizes more z.locksets) (sym judge)
            (subst (λ o. HasHistoryLocksets y.rules.locksets y.judge.race y.judge.sizes more o) (sym c.tally.ensures.locksets)
            (subst (λ s. HasHistoryLocksets y.rules.locksets y.judge.race s more c.note_history_locksets.new.locksets) (sym next.sizes)
            (subst (λ o. HasHistoryLocksets y.rules.locksets o x.sizes more c.note_history_locksets.new.locksets) c.race-race.ensures
            (c.in_ok-note_history_locksets.ensures y.rules.locksets x.race x.sizes j (locksets_next next)
            (λ none. history_locksets_unraced j e x.race y.judge.race was.judged.race now.race (sym c.race-race.ensures ∙ none))
            was.locksets)))));
        racing = ap (λ (t : TraceJudge). is_some t.racing) judge ∙ next.racing ∙ was.racing ∙ sym (ap (λ (r : Rules). r.all_races) rules);
      };
  rules = c.tally.ensures.rules;
  judge = c.tally.ensures.judge;
}
