use Rattle.std.proofs.Common.{◌≡◌, ◌<◌, ◌↔◌, ◌∙◌, Bool, IsTrue, true, List, Some, None, inl, inr, sym, refl, subst}
use Rattle.std.specs.Prelude.{is_some}
use Rattle.std.proofs.lemmas.Bool.{false≢true}
use Rattle.std.proofs.lemmas.Option.{none-some}
use Rattle.judge.specs.JudgedSizes.{judged_sizes_of}
use Rattle.journal.specs.declared.event.Event.{Event}
use Rattle.journal.specs.declared.event.Kind.{Kind}
use Rattle.journal.specs.WellFormed.{WellFormedKindInRange}
use Rattle.judge.specs.declared.frontier.Frontier.{Frontier}
use Rattle.judge.specs.LaxWellFormed.{lax_ask_of}
use Rattle.judge.specs.Why.{IsWhyVerdict, WhyIsInTurn, WhyMayTake, WhyWaitsFor}
use Rattle.judge.proofs.Verdicts.{verdict_no_processor, verdict_out_of_range, verdict_turn_for, verdict_turn_idle, verdict_waits_for_other}
use Rattle.judge.proofs.frontier.Frontier.may_follow.Goals as goal
use Rattle.judge.proofs.frontier.Frontier.may_follow.Goals.{else-lax-via-then-lax+else-is_lax_without_ask, else-lax-via-else-lax}

pub returns-then-event-self : goal.returns-then-event-self
returns-then-event-self c = λ j tells.
    verdict_no_processor c.args.lax (judged_sizes_of c.args.self.now.sizes) j c.args.event c.if-event-self.true

pub returns-then-not-have : goal.returns-then-not-have
returns-then-not-have c = λ j tells.
    verdict_out_of_range c.args.lax (judged_sizes_of c.args.self.now.sizes) j c.args.event c.if-event-self.false
    (λ range. false≢true (c.if-not-have.ensures.1 range))

pub returns-else-is_same_kind : goal.returns-else-is_same_kind
returns-else-is_same_kind c = λ j tells.
    verdict_waits_for_other c.args.lax (judged_sizes_of c.args.self.now.sizes) j c.args.event c.in-Some.kind c.if-event-self.false
    (c.if-not-have.ensures.0 refl) ((c.in-Some.ensures j tells c.in-Some.kind).0 refl)
    (λ same. false≢true (c.if-is_same_kind.ensures.1 same))

pub not_let_on-requires : goal.not_let_on-requires
not_let_on-requires c =
    let j = c.requires.0 in
    let tells = c.requires.1 in
    let waits = (c.in-Some.ensures j tells c.in-Some.kind).0 refl in
    let turn = verdict_turn_for (judged_sizes_of c.args.self.now.sizes) j c.args.event c.in-Some.kind c.if-event-self.false
    (c.if-not-have.ensures.0 refl) waits (c.if-is_same_kind.ensures.0 refl) in
    (j, tells, turn)

pub returns-then-is_same_kind : goal.returns-then-is_same_kind
returns-then-is_same_kind c = λ j tells.
    let e = c.args.event in
    let same = c.if-is_same_kind.ensures.0 refl in
    let waits = (c.in-Some.ensures j tells c.in-Some.kind).0 refl in
    let turn = verdict_turn_for (judged_sizes_of c.args.self.now.sizes) j e c.in-Some.kind c.if-event-self.false
    (c.if-not-have.ensures.0 refl) waits same in
    c.not_let_on.ensures j tells turn (inl (subst (WhyWaitsFor j e.processor) (sym same) waits))

-- what is known of an event whose processor waits for nothing
idle_turn : (j : List Event) (x : Frontier) (e : Event) → e.processor < x.sizes.processors
    → WellFormedKindInRange (judged_sizes_of x.sizes) e.kind → ((k : Kind) → (None ≡ Some k) ↔ WhyWaitsFor j e.processor k)
    → WhyIsInTurn (judged_sizes_of x.sizes) j e
idle_turn j x e lt range idle = verdict_turn_idle (judged_sizes_of x.sizes) j e lt range (λ k waits. none-some k ((idle k).1 waits))

pub not_free-requires : goal.not_free-requires
not_free-requires c =
    let j = c.requires.0 in
    let tells = c.requires.1 in
    (j, tells, idle_turn j c.args.self.now c.args.event c.if-event-self.false (c.if-not-have.ensures.0 refl) (c.in-None.ensures j tells))

pub not_let_on-requires-then-is_lax_without_ask : goal.not_let_on-requires-then-is_lax_without_ask
not_let_on-requires-then-is_lax_without_ask c =
    let j = c.requires.0 in
    let tells = c.requires.1 in
    (j, tells, idle_turn j c.args.self.now c.args.event c.if-event-self.false (c.if-not-have.ensures.0 refl) (c.in-None.ensures j tells))

pub returns-then-is_lax_without_ask : goal.returns-then-is_lax_without_ask
returns-then-is_lax_without_ask c = λ j tells.
    let s = judged_sizes_of c.args.self.now.sizes in
    let e = c.args.event in
    let turn = idle_turn j c.args.self.now e c.if-event-self.false (c.if-not-have.ensures.0 refl) (c.in-None.ensures j tells) in
    subst (λ lax. IsWhyVerdict lax s j e c.not_let_on-then-is_lax_without_ask.result) (sym c.if-lax.true)
    (c.not_let_on-then-is_lax_without_ask.ensures j tells turn (inr (refl, sym c.if-is_lax_without_ask.ensures)))

-- of a processor that waits for nothing, where it is strict, or the event isn't such a one
idle_may : (j : List Event) (x : Frontier) (e : Event) (lax : Bool) → ((k : Kind) → (None ≡ Some k) ↔ WhyWaitsFor j e.processor k)
    → ((lax ≡ true) × IsTrue (is_some (lax_ask_of e.kind)) → ⊥) → ¬ WhyMayTake lax j e.processor e.kind
idle_may j x e lax idle never (inl waits) = none-some e.kind ((idle e.kind).1 waits)
idle_may j x e lax idle never (inr unasked) = never unasked

pub returns-else-lax : goal.returns-else-lax
returns-else-lax c = λ j tells.
    let e = c.args.event in
    let turn = idle_turn j c.args.self.now e c.if-event-self.false (c.if-not-have.ensures.0 refl) (c.in-None.ensures j tells) in
    let never : (c.args.lax ≡ true) × IsTrue (is_some (lax_ask_of e.kind)) → ⊥ =
    elim c.else-lax.branch [
      | else-lax-via-then-lax+else-is_lax_without_ask w ↦ λ unasked.
          false≢true (w.if-is_lax_without_ask.ensures ∙ unasked.1)
      | else-lax-via-else-lax w ↦ λ unasked. false≢true (sym w.if-lax.false ∙ unasked.0)
    ] in
    c.not_free.ensures j tells turn c.args.lax (idle_may j c.args.self.now e c.args.lax (c.in-None.ensures j tells) never)
