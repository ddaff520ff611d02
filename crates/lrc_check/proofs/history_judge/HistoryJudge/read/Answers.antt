use Rattle.std.proofs.Common.{◌≡◌, ℕ, ◌+◌, true, false, true≢false, [], ◌∷◌, ◌++◌, List, Option, Some, subst, sym, refl, ◌∙◌}
use Rattle.std.specs.Prelude.{None, MatchOption, is_some}
use Rattle.journal.specs.declared.event.Event.{Event}
use Rattle.judge.specs.JudgedSizes.{judged_sizes_of}
use Rattle.lrc_check.specs.declared.checked.Lie.{Lie}
use Rattle.lrc_check.specs.declared.checked.TraceVerdict.TheVariants as verdict
use Rattle.lrc_check.specs.declared.history_judge.HistoryJudge.{HistoryJudge}
use Rattle.lrc_check.specs.declared.trace_judge.TraceJudge.{TraceJudge}
use Rattle.lrc_check.specs.CheckVerdicts.{IsCheckVerdictLie, IsCheckVerdictRace, check_verdict_race_events}
use Rattle.lrc_check.specs.HistoryJudge.{IsHistoryEnd, IsHistoryJudgeOf}
use Rattle.lrc_check.specs.TraceJudge.{IsTraceJudgeOf}
use Rattle.lrc_check.proofs.HistoryEnds.{HasReadNext, history_end_lie, history_end_racy}
use Rattle.lrc_check.proofs.HistoryNext.{history_next_kept, history_next_read}
use Rattle.lrc_check.proofs.history_judge.HistoryJudge.read.Goals as goal
use Rattle.lrc_check.proofs.history_judge.HistoryJudge.read.Goals.{else-self-via-then-self+else-is_some, else-self-via-else-self}

-- what the judge told of the event
has_read : (j : List Event) (e : Event) (x : HistoryJudge) (y : TraceJudge) (o : Option Lie) → IsHistoryJudgeOf j x
    → MatchOption o (IsTraceJudgeOf (j ++ e ∷ []) y)
    (λ l. IsCheckVerdictLie x.judge.model x.judge.lax (judged_sizes_of x.judge.sizes) (j ++ e ∷ []) l
    × IsCheckVerdictRace (check_verdict_race_events l (j ++ e ∷ [])) y.race)
    → HasReadNext x.rules x.judge.sizes j e x.judge y o
has_read j e x y o judged told = record {
  judged = judged.judged;
  model = judged.model;
  lax = judged.lax;
  sizes = refl;
  told = told;
}

-- what is found if the judging ends with a race, which there is
racy : (j : List Event) (e : Event) (x : HistoryJudge) (y : TraceJudge) (o : Option Lie) (race : Option (ℕ × ℕ)) → IsHistoryJudgeOf j x
    → HasReadNext x.rules x.judge.sizes j e x.judge y o → x.rules.ends_at_race ≡ true → y.race ≡ race → is_some race ≡ true
    → IsHistoryEnd x.rules (judged_sizes_of x.judge.sizes) (j ++ e ∷ [])
    (record { count = x.count + 1; race = race; verdict = verdict.Racy })
racy j e x y o None judged read ends same some = absurd cc
racy j e x y o (Some r) judged read ends same some =
    subst (λ n. IsHistoryEnd x.rules (judged_sizes_of x.judge.sizes) (j ++ e ∷ [])
    (record { count = n + 1; race = Some r; verdict = verdict.Racy })) (sym judged.tallied.count)
    (history_end_racy x.rules x.judge.sizes j e x.judge y o r read ends (judged.unraced ends) same)

pub read-requires : goal.read-requires
read-requires c = record { next = (c.requires.next.0, history_next_read c.requires.next.0 c.args.self.now c.requires.next.1) }

pub returns-then-is_some-clause-judged : goal.returns-then-is_some-clause-judged
returns-then-is_some-clause-judged c = λ j next.
    let x = c.args.self.now in
    let judged = next.judged in
    let read = has_read j c.args.event x c.read.new.self c.in_ok-lie.lie judged (c.in_ok-lie.ensures.judged j (history_next_read j x next)) in
    racy j c.args.event x c.read.new.self c.in_ok-lie.lie c.race-race.result judged read c.if-self.true
    (sym c.race-race.ensures) (sym c.is_some.ensures ∙ c.if-is_some.true)

pub returns-in-Some-clause-judged : goal.returns-in-Some-clause-judged
returns-in-Some-clause-judged c = λ j next.
    let x = c.args.self.now in
    let e = c.args.event in
    let judged = next.judged in
    let told = rw c.in-Some.is at c.in_ok-lie.ensures.judged j (history_next_read j x next) in
    let read = has_read j e x c.read.new.self (Some c.in-Some.lie) judged told in
    subst (λ r. IsHistoryEnd x.rules (judged_sizes_of x.judge.sizes) (j ++ e ∷ [])
    (record { count = x.count + 1; race = r; verdict = verdict.Lie c.in-Some.lie })) (sym c.race-race.ensures)
    (subst (λ n. IsHistoryEnd x.rules (judged_sizes_of x.judge.sizes) (j ++ e ∷ [])
    (record { count = n + 1; race = c.read.new.self.race; verdict = verdict.Lie c.in-Some.lie })) (sym judged.tallied.count)
    (history_end_lie x.rules x.judge.sizes j e x.judge c.read.new.self c.in-Some.lie read))

-- no race is there, if none is told
no_race : (race : Option (ℕ × ℕ)) → is_some race ≡ false → race ≡ None
no_race None none = refl
no_race (Some r) none = absurd cc

pub keep-requires : goal.keep-requires
keep-requires c =
    let x = c.args.self.now in
    let j = c.requires.next.0 in
    let next = c.requires.next.1 in
    let now = rw c.in-None.is at c.in_ok-lie.ensures.judged j (history_next_read j x next) in
    record {
      next = (
        j,
        x.judge,
        history_next_kept c.args.event next now c.read.ensures.model c.read.ensures.lax c.read.ensures.sizes c.read.ensures.racing
            (λ ends. elim c.else-self.branch [
              | else-self-via-then-self+else-is_some w ↦
                  sym c.race-race.ensures ∙ no_race c.race-race.result (sym w.is_some.ensures ∙ w.if-is_some.false)
              | else-self-via-else-self w ↦ absurd (true≢false (sym ends ∙ w.if-self.false))
            ]),
      );
    }

pub returns-in_ok-keep-in-None-clause-judged : goal.returns-in_ok-keep-in-None-clause-judged
returns-in_ok-keep-in-None-clause-judged c = λ j next.
    let x = c.args.self.now in
    let now = rw c.in-None.is at c.in_ok-lie.ensures.judged j (history_next_read j x next) in
    c.in_ok-keep-in-None.ensures.judged j x.judge
    (history_next_kept c.args.event next now c.read.ensures.model c.read.ensures.lax c.read.ensures.sizes c.read.ensures.racing
    (λ ends. elim c.else-self.branch [
      | else-self-via-then-self+else-is_some w ↦
          sym c.race-race.ensures ∙ no_race c.race-race.result (sym w.is_some.ensures ∙ w.if-is_some.false)
      | else-self-via-else-self w ↦ absurd (true≢false (sym ends ∙ w.if-self.false))
    ]))
