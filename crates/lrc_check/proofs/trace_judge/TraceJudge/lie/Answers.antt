use Rattle.std.proofs.Common.{ℕ, Bool, List, refl, sym, ◌∙◌}
use Rattle.journal.specs.declared.event.Event.{Event}
use Rattle.judge.specs.JudgedSizes.{judged_sizes_of}
use Rattle.lrc_check.specs.declared.trace_judge.TraceJudge.{TraceJudge}
use Rattle.lrc_check.specs.TraceJudge.{ComesNextToExplain, ComesNextToJudge}
use Rattle.lrc_check.proofs.Accepting.{accepted_next_event}
use Rattle.lrc_check.proofs.LyingTraces.{lying_miscounted, lying_unexplained, lying_may_within}
use Rattle.lrc_check.proofs.trace_judge.TraceJudge.lie.Goals as goal

-- what is asked of the event to explain it
explained_next : (j : List Event) (e : Event) (place : ℕ) (racy : Bool) (x : TraceJudge) → ComesNextToJudge j e place racy x
    → ComesNextToExplain j e place racy x
explained_next j e place racy x next = record {
  judged = next.judged;
  within = lying_may_within x.lax (judged_sizes_of x.sizes) j e next.follows;
  place_is = next.place_is;
  racy_is = next.racy_is;
}

pub unexplained-requires : goal.unexplained-requires
unexplained-requires c =
    let x = c.args.self.now in
    (c.requires.0, explained_next c.requires.0 c.args.event c.args.place c.args.is_racy x c.requires.1)

pub returns-in-Some : goal.returns-in-Some
returns-in-Some c = λ j next.
    let x = c.args.self.now in
    let s = judged_sizes_of x.sizes in
    let found = rw c.in-Some.is at c.in_ok-load.ensures j (explained_next j c.args.event c.args.place c.args.is_racy x next) in
    (lying_unexplained x.model x.lax s j c.args.event c.in-Some.load next.judged.faithful found, refl)

pub miscounted-requires-clause-within : goal.miscounted-requires-clause-within
miscounted-requires-clause-within c =
    let x = c.args.self.now in
    let next = c.requires.1 in lying_may_within x.lax (judged_sizes_of x.sizes) c.requires.0 c.args.event next.follows

pub returns-in-Some-miscounted : goal.returns-in-Some-miscounted
returns-in-Some-miscounted c = λ j next.
    let x = c.args.self.now in
    let s = judged_sizes_of x.sizes in
    let judged = next.judged in
    let found = c.in-Some-miscounted.ensures j judged in (
      lying_miscounted x.model x.lax s j c.args.event c.in-Some-miscounted.fetch judged.faithful found.0 found.1 (found.2 ∙ sym next.place_is) found.3,
      refl,
    )

pub returns-in-None : goal.returns-in-None
returns-in-None c = λ j next.
    let x = c.args.self.now in
    let s = judged_sizes_of x.sizes in
    let e = c.args.event in
    let judged = next.judged in
    let paid = rw c.in_default.is at c.in_ok-load.ensures j (explained_next j e c.args.place c.args.is_racy x next) in
    accepted_next_event x.model x.lax s j e judged.faithful next.follows paid (c.in-None.ensures j judged)
