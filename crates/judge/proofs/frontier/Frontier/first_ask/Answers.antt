use Rattle.std.proofs.Common.{◌≡◌, ℕ, ◌+◌, ◌≤◌, List, Option, Some, MatchOption, slice_index_or, subst, sym, refl, ◌∙◌, arith}
use Rattle.std.specs.Prelude.{None}
use Rattle.std.proofs.lemmas.List.{get_or_read}
use Rattle.std.proofs.lemmas.Option.{none-some}
use Rattle.journal.specs.declared.event.Event.{Event}
use Rattle.judge.specs.declared.frontier.Frontier.{Frontier}
use Rattle.judge.specs.declared.frontier.LastEvent.{LastEvent}
use Rattle.judge.specs.FrontTells.{FrontTellsFirstAsk, FrontTellsNobodyAsks, FrontTellsHistory}
use Rattle.judge.proofs.FrontAsking.{AreFrontAskingFrom, FrontAsksAt, IsFrontAskingFound, front_asking_first_found, front_asking_from_lower, front_asking_from_same, front_asking_none_found}
use Rattle.judge.proofs.frontier.Frontier.first_ask.Goals as goal
use Rattle.judge.proofs.frontier.Frontier.first_ask.Goals.{in-Some+then-place-limit, in-Some+else-place-limit, in_default}

-- what is found by the end is the first ask
answer : (j : List Event) (x : Frontier) (l limit : ℕ) (found : Option (ℕ × ℕ)) → FrontTellsHistory j x
    → IsFrontAskingFound x.last.items x.place l found limit → AreFrontAskingFrom x.last.items l limit x.sizes.processors
    → MatchOption found (FrontTellsNobodyAsks j l) (λ (a : ℕ × ℕ). FrontTellsFirstAsk j l a.0 a.1)
answer j x l limit None tells is from = front_asking_none_found j x.last.items l limit tells.lasts x.sizes.processors from tells.processors (is ∙ tells.place)
answer j x l limit (Some a) tells is from =
    subst (FrontTellsFirstAsk j l a.0) (sym is.0)
    (front_asking_first_found j x.last.items l limit tells.lasts x.sizes.processors from tells.processors a.0 (subst (FrontAsksAt x.last.items l a.0) is.0 is.1))

pub returns : goal.returns
returns c = λ j tells.
    let over = c.loop-processor-test.false in
    answer j c.args.self.now c.args.lock c.loop-processor.limit c.loop-processor.first tells
    c.loop-processor.invariant.found
    (λ q i lt asks. c.loop-processor.invariant.least q i (omega arith) asks)

pub loop-processor-init : goal.loop-processor-init
loop-processor-init c = record { found = refl; least = λ q i lt asks. absurd (omega arith) }

-- what is kept, by another name
found_is : (last : List (Option LastEvent)) (end l a b : ℕ) (x y : Option (ℕ × ℕ)) → x ≡ y → a ≡ b
    → IsFrontAskingFound last end l y b → IsFrontAskingFound last end l x a
found_is last end l a b x y same equal is =
    subst (λ o. IsFrontAskingFound last end l o a) (sym same) (subst (IsFrontAskingFound last end l y) (sym equal) is)

from_is : (last : List (Option LastEvent)) (l a b n : ℕ) → a ≡ b → AreFrontAskingFrom last l b n → AreFrontAskingFrom last l a n
from_is last l a b n equal from q i lt asks = let le = from q i lt asks in omega arith

pub loop-processor-preserved : goal.loop-processor-preserved
loop-processor-preserved c =
    let last = c.args.self.now.last.items in
    let end = c.args.self.now.place in
    let l = c.args.lock in
    let n = c.loop-processor.processor in
    let old = c.loop-processor.invariant in
    let limit = c.loop-processor.limit in
    let first = c.loop-processor.first in
    let now = c.match-frontier_ask_at in
    let long = c.requires.1.long_last in
    let inside = c.loop-processor-test.true in
    let read : slice_index_or last n None ≡ c.index.result.now =
    sym (get_or_read last n c.index.result.now (omega (arith, long, c.args.self.now.last.ok.0, inside)) c.index.ensures None) in
    elim now.branch [
      | in-Some+then-place-limit w ↦
          (let asks = read ∙ (c.frontier_ask_at.ensures w.in-Some.place).0 w.in-Some.is in
          record {
            found = found_is last end l now.limit w.in-Some.place now.first _ w.first-is w.limit-is (refl, asks);
            least = from_is last l now.limit w.in-Some.place (n + 1) w.limit-is
                (front_asking_from_lower last l limit n w.in-Some.place asks w.if-place-limit.true old.least);
          })
      | in-Some+else-place-limit w ↦
          (record {
            found = found_is last end l now.limit limit now.first first w.first-is w.limit-is old.found;
            least = from_is last l now.limit limit (n + 1) w.limit-is
                (front_asking_from_same last l limit n
                (λ i asks. at_or_after w.in-Some.place i limit
                (sym w.in-Some.is ∙ (c.frontier_ask_at.ensures i).1 (sym read ∙ asks)) w.if-place-limit.false) old.least);
          })
      | in_default w ↦
          (record {
            found = found_is last end l now.limit limit now.first first w.first-is w.limit-is old.found;
            least = from_is last l now.limit limit (n + 1) w.limit-is
                (front_asking_from_same last l limit n
                (λ i asks. absurd (none-some i (sym w.in_default.is ∙ (c.frontier_ask_at.ensures i).1 (sym read ∙ asks)))) old.least);
          })
    ]
  where
    at_or_after : (m i limit : ℕ) → Some m ≡ Some i → limit ≤ m → limit ≤ i
    at_or_after m i limit is le = let same : m ≡ i = cc in omega arith
