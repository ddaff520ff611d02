use Rattle.std.proofs.Common.{ℕ, ◌≡◌, ◌+◌, List, slice_index, slice_index_or, arith, refl}
use Rattle.std.specs.Prelude.{None}
use Rattle.std.proofs.lemmas.Bool.{false≢true}
use Rattle.journal.specs.declared.event.Event.{Event}
use Rattle.journal.specs.declared.event.Kind.TheVariants.{Depart}
use Rattle.journal.specs.Events.{event_count, event_departs}
use Rattle.judge.specs.Why.{WhyWaitsFor}
use Rattle.explore.specs.declared.state.waits.Waiting.{Waiting}
use Rattle.explore.specs.KeptWaiting.{TellsKeptWaiting}
use Rattle.explore.proofs.WaitCodes.{wait_code_open_barrier}
use Rattle.explore.proofs.state.waits.Waiting.may_depart.Goals as goal

-- who waits at the barrier has arrived once more than it has departed
arrived : (j : List Event) (x : Waiting) (p : ℕ) → TellsKeptWaiting j x → WhyWaitsFor j p Depart
    → slice_index x.arrivals p ≡ event_count event_departs j p + 1
arrived j x p tells waits =
    let one = wait_code_open_barrier (slice_index_or x.waits p None) ((tells.waits p Depart).1 waits) in
    let departed = tells.departures p in
    let arrivals = tells.arrivals p in
    omega (arith, one, departed, arrivals)

pub returns-then-self-other : goal.returns-then-self-other
returns-then-self-other c = λ j tells waits. (
  λ yes. absurd (false≢true yes),
  λ all.
      let mine = arrived j c.args.self.now c.args.processor tells waits in
      let theirs = tells.arrivals c.loop-other.other in
      let le = all c.loop-other.other c.loop-other-test.true in
      absurd (omega (arith, mine, theirs, le)),
)

pub returns : goal.returns
returns c = λ j tells waits. (
  λ yes q lt.
      let mine = arrived j c.args.self.now c.args.processor tells waits in
      let theirs = tells.arrivals q in
      let over = c.loop-other-test.false in
      let past = c.loop-other.invariant q (omega arith) in
      omega (arith, mine, theirs, past),
  λ all. refl,
)
