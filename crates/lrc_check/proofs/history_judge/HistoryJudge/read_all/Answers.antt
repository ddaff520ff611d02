use Rattle.std.proofs.Common.{◌≡◌, ℕ, ◌+◌, ◌<◌, Ok, [], ◌∷◌, ◌++◌, List, drop, length, take, slice_index_or, subst, sym, refl, ap, ◌∙◌, append_assoc, append-nil, arith, length-append}
use Rattle.std.proofs.lemmas.List.{length-take-le, take_all, take-append-drop}
use Rattle.std.proofs.lemmas.Option.{slice_get-get_or}
use Rattle.journal.specs.declared.event.Event.{Event}
use Rattle.journal.specs.declared.event.Kind.TheVariants.{Load}
use Rattle.journal.specs.DidEvent.{event}
use Rattle.journal.proofs.Passes.NextClocks.{next_clocks_front}
use Rattle.judge.specs.JudgedSizes.{judged_sizes_of}
use Rattle.lrc_check.specs.declared.history_judge.HistoryJudge.{HistoryJudge}
use Rattle.lrc_check.specs.HistoryJudge.{ComesNextInHistory, IsHistoryEndWithin, IsHistoryJudgeOf, IsNextPartOfHistory}
use Rattle.lrc_check.proofs.HistoryEnds.{history_end_within}
use Rattle.lrc_check.proofs.history_judge.HistoryJudge.read_all.Goals.{then-not-branch+in_ok-found+in_default, else-not-branch}
use Rattle.lrc_check.proofs.history_judge.HistoryJudge.read_all.Goals as goal

-- the event that is read
abbrev here : List Event → ℕ → Event
here events at = slice_index_or events at (event 0 (Load 0 0))

-- those so far and the next one
next_of : (j events : List Event) (at : ℕ) → at < length events
    → (j ++ take at events) ++ here events at ∷ [] ≡ j ++ take (at + 1) events
next_of j events at lt =
    let e = here events at in
    append_assoc j (take at events) (e ∷ [])
    ∙ ap (λ (xs : List Event). j ++ xs) (sym (next_clocks_front events at e (slice_get-get_or events at (event 0 (Load 0 0)) lt)))

-- all events are those up to and with that and the rest
rest_of : (j events : List Event) (n : ℕ) → (j ++ take n events) ++ drop n events ≡ j ++ events
rest_of j events n = append_assoc j (take n events) (drop n events) ∙ ap (λ (xs : List Event). j ++ xs) (take-append-drop n events)

-- what is read next
read_next : (j events : List Event) (at : ℕ) (x l : HistoryJudge) → IsNextPartOfHistory j events x → at < length events → l.rules ≡ x.rules
    → IsHistoryJudgeOf (j ++ take at events) l → ComesNextInHistory (j ++ take at events) l
read_next j events at x l part lt rules judged = record {
  judged = judged;
  few = (let long = length-append j (take at events) in
      let short = length-take-le at events (omega arith) in
      let few = part.few in
      omega arith);
}

pub goes_on-requires : goal.goes_on-requires
goes_on-requires c =
    let j = c.requires.0 in
    let part = c.requires.1 in
    let old = c.loop-at.invariant in
    record {
      next = (
        j ++ take c.loop-at.at c.args.events.now,
        read_next j c.args.events.now c.loop-at.at c.args.self.now c.loop-at.self part c.loop-at-test.true old.rules (old.judged j part),
      );
    }

pub read-requires : goal.read-requires
read-requires c =
    let j = c.requires.0 in
    let part = c.requires.1 in
    let events = c.args.events.now in
    let at = c.loop-at.at in
    let old = c.loop-at.invariant in
    let still = c.in_ok-goes_on.ensures.still (ap (λ b. Ok b) c.if-not-branch.true) in
    record {
      next = (
        j ++ take at events,
        subst (ComesNextInHistory (j ++ take at events)) (sym still)
            (read_next j events at c.args.self.now c.loop-at.self part c.loop-at-test.true old.rules (old.judged j part)),
      );
    }

pub loop-at-init : goal.loop-at-init
loop-at-init c = record {
  judged = λ j part. subst (λ xs. IsHistoryJudgeOf xs c.args.self.now) (sym (append-nil j)) part.judged;
  rules = refl;
  sizes = refl;
}

pub loop-at-preserved : goal.loop-at-preserved
loop-at-preserved c =
    let old = c.loop-at.invariant in
    let events = c.args.events.now in
    let at = c.loop-at.at in
    let lt = c.loop-at-test.true in
    let l = c.if-not-branch.self in
    let next = λ (j : List Event) (part : IsNextPartOfHistory j events c.args.self.now).
    read_next j events at c.args.self.now c.loop-at.self part lt old.rules (old.judged j part) in
    elim c.if-not-branch.branch [
      | then-not-branch+in_ok-found+in_default w ↦
          (let still = c.in_ok-goes_on.ensures.still (ap (λ b. Ok b) w.if-not-branch.true) in
          let read = w.read.new.self in
          record {
            judged = λ j part.
                (let told = rw w.in_default.is at w.in_ok-found.ensures.judged (j ++ take at events)
                (subst (ComesNextInHistory (j ++ take at events)) (sym still) (next j part)) in
                subst (IsHistoryJudgeOf (j ++ take (at + 1) events)) (sym w.self-is)
                (subst (λ xs. IsHistoryJudgeOf xs read) (next_of j events at lt) told));
            rules = ap (λ (h : HistoryJudge). h.rules) w.self-is ∙ w.read.ensures.rules ∙ ap (λ (h : HistoryJudge). h.rules) still ∙ old.rules;
            sizes = ap (λ (h : HistoryJudge). h.judge.sizes) w.self-is ∙ w.read.ensures.sizes ∙ ap (λ (h : HistoryJudge). h.judge.sizes) still ∙ old.sizes;
          })
      | else-not-branch w ↦
          (let goes = c.in_ok-goes_on.ensures in
          record {
            judged = λ j part.
                subst (IsHistoryJudgeOf (j ++ take (at + 1) events)) (sym w.self-is)
                (subst (λ xs. IsHistoryJudgeOf xs c.goes_on.new.self) (next_of j events at lt)
                (goes.judged w.if-not-branch.false (j ++ take at events) (next j part)));
            rules = ap (λ (h : HistoryJudge). h.rules) w.self-is ∙ goes.rules ∙ old.rules;
            sizes = ap (λ (h : HistoryJudge). h.judge.sizes) w.self-is ∙ goes.sizes ∙ old.sizes;
          })
    ]

pub returns-in-Some-clause-judged : goal.returns-in-Some-clause-judged
returns-in-Some-clause-judged c = λ j part.
    let x = c.args.self.now in
    let l = c.loop-at.self in
    let events = c.args.events.now in
    let at = c.loop-at.at in
    let lt = c.loop-at-test.true in
    let old = c.loop-at.invariant in
    let still = c.in_ok-goes_on.ensures.still (ap (λ b. Ok b) c.if-not-branch.true) in
    let end = rw c.in-Some.is at c.in_ok-found.ensures.judged (j ++ take at events)
    (subst (ComesNextInHistory (j ++ take at events)) (sym still) (read_next j events at x l part lt old.rules (old.judged j part))) in
    let here = subst (λ xs. IsHistoryEndWithin l.rules (judged_sizes_of l.judge.sizes) xs c.in-Some.found) (next_of j events at lt)
    (subst (λ (h : HistoryJudge). IsHistoryEndWithin h.rules (judged_sizes_of h.judge.sizes) ((j ++ take at events) ++ here events at ∷ []) c.in-Some.found)
    still (record { says = end.says; ended = end.ended })) in
    let there = history_end_within l.rules (judged_sizes_of l.judge.sizes) (j ++ take (at + 1) events) (drop (at + 1) events) c.in-Some.found here in
    subst (λ r. IsHistoryEndWithin r (judged_sizes_of x.judge.sizes) (j ++ events) c.in-Some.found) old.rules
    (subst (λ s. IsHistoryEndWithin l.rules (judged_sizes_of s) (j ++ events) c.in-Some.found) old.sizes
    (subst (λ xs. IsHistoryEndWithin l.rules (judged_sizes_of l.judge.sizes) xs c.in-Some.found) (rest_of j events (at + 1)) there))

pub returns-clause-judged : goal.returns-clause-judged
returns-clause-judged c = λ j part.
    let over = c.loop-at-test.false in
    subst (λ xs. IsHistoryJudgeOf (j ++ xs) c.loop-at.self) (take_all c.loop-at.at c.args.events.now over) (c.loop-at.invariant.judged j part)
