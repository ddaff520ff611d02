use Rattle.std.proofs.Common.{ℕ, ◌+◌, ◌≤◌, List, Option, sym, subst, arith}
use Rattle.std.specs.Global.{Vec}
use Rattle.std.proofs.lemmas.Result.{on_ok_weaker}
use Rattle.journal.specs.declared.event.Kind.{Kind}
use Rattle.lrc_script.specs.Plan.{Plan}
use Rattle.explore.specs.declared.prefixes.script_call.ScriptCall.{ScriptCall}
use Rattle.explore.specs.declared.state.flat_state.FlatState.{FlatState}
use Rattle.explore.specs.declared.state.found_states.FoundStates.{FoundStates}
use Rattle.explore.specs.FoundStates.{IsFoundStateAt, KeepsFoundStates, found_states}
use Rattle.explore.proofs.CountedStates.{counted_states_same_transitive}
use Rattle.explore.specs.FollowedStates.{AreFollowedStates, MayBeFollowedStateByEach}
use Rattle.explore.proofs.FollowedAll.{followed_all_still_at, followed_all_may, followed_all_idle_next, followed_all_rest, followed_all_start, followed_all_next}
use Rattle.explore.proofs.state.found_states.FoundStates.follow_all.Goals.{in-Some-nexts+in_ok-copy+in_ok-follow, in_default-nexts}
use Rattle.explore.proofs.state.found_states.FoundStates.follow_all.Goals as goal

pub loop-processor-init : goal.loop-processor-init
loop-processor-init c = λ s may. followed_all_start s c.args.steps.now c.args.self.now c.args.self.now c.args.place c.args.nexts.now may

pub follow-requires-clause-may : goal.follow-requires-clause-may
follow-requires-clause-may c =
    let s = c.requires.may.0 in
    let may = c.requires.may.1 in (
      s,
      followed_all_may s c.args.steps.now c.args.self.now c.loop-processor.self c.args.place c.args.nexts.now may
          c.loop-processor.processor (c.loop-processor.invariant s may) c.in-Some-nexts.kind c.in-Some-nexts.is,
    )

pub loop-processor-preserved : goal.loop-processor-preserved
loop-processor-preserved c = λ s may.
    let rows = c.args.steps.now in
    let x = c.args.self.now in
    let y = c.loop-processor.self in
    let n = c.loop-processor.processor in
    let old = c.loop-processor.invariant s may in
    let place = c.args.place in
    let nexts = c.args.nexts.now in
    elim c.match-nexts-processor.branch [
      | in-Some-nexts+in_ok-copy+in_ok-follow w ↦
          (let k = w.in-Some-nexts.kind in
          let here = w.in-Some-nexts.is in
          let followed = w.in_ok-follow.ensures s (followed_all_may s rows x y place nexts may n old k here) in
          subst (λ z. AreFollowedStates s rows x z place nexts (n + 1)) (sym w.self-is)
          (followed_all_next s rows x y place nexts may n old k here w.follow.new.self followed))
      | in_default-nexts w ↦
          subst (λ z. AreFollowedStates s rows x z place nexts (n + 1)) (sym w.self-is)
          (followed_all_idle_next s rows x y place nexts may n old w.in_default-nexts.not-Some)
    ]

-- the machine is in the state at the place as long as that is kept
still_at : (s : Plan) (rows : List (Vec ScriptCall)) (x y : FoundStates) (place : ℕ) (nexts : List (Option Kind)) (m : FlatState)
    → MayBeFollowedStateByEach s rows x place nexts → KeepsFoundStates (found_states x) (found_states y) → IsFoundStateAt x place m
    → IsFoundStateAt y place m
still_at s rows x y place nexts m may keeps is n at = is n (followed_all_still_at s rows x y place nexts may keeps n at)

pub follow-requires-clause-state : goal.follow-requires-clause-state
follow-requires-clause-state c = λ n at.
    let s = c.requires.may.0 in
    let may = c.requires.may.1 in
    let y = c.loop-processor.self in
    let here = still_at s c.args.steps.now c.args.self.now y c.args.place c.args.nexts.now c.args.state may (c.loop-processor.invariant s may).keeps c.requires.state n at in
    counted_states_same_transitive n c.args.state _ here c.in_ok-copy.ensures

pub follow-requires-2-clause-state : goal.follow-requires-2-clause-state
follow-requires-2-clause-state c =
    let s = c.requires.may.0 in
    let may = c.requires.may.1 in
    still_at s c.args.steps.now c.args.self.now c.loop-processor.self c.args.place c.args.nexts.now c.args.state may
    (c.loop-processor.invariant s may).keeps c.requires.state

-- all up to the last one are followed
up_to : (s : Plan) (rows : List (Vec ScriptCall)) (x y : FoundStates) (place : ℕ) (nexts : List (Option Kind)) (n last : ℕ) → n ≤ last → last ≤ n
    → AreFollowedStates s rows x y place nexts n → AreFollowedStates s rows x y place nexts last
up_to s rows x y place nexts n last one two = subst (AreFollowedStates s rows x y place nexts) (omega (arith, one, two))

pub follow-requires-2-clause-may : goal.follow-requires-2-clause-may
follow-requires-2-clause-may c =
    let s = c.requires.may.0 in
    let may = c.requires.may.1 in
    let rows = c.args.steps.now in
    let last = c.in-Some.last in
    let old = up_to s rows c.args.self.now c.loop-processor.self c.args.place c.args.nexts.now c.loop-processor.processor last
    c.loop-processor.auto.processor-end c.loop-processor-test.false (c.loop-processor.invariant s may) in (
      s,
      followed_all_may s rows c.args.self.now c.loop-processor.self c.args.place c.args.nexts.now may last old c.in-Some-nexts-2.kind
          c.in-Some-nexts-2.is,
    )

pub returns-in_default-nexts-2 : goal.returns-in_default-nexts-2
returns-in_default-nexts-2 c = λ s may.
    let rows = c.args.steps.now in
    let x = c.args.self.now in
    let y = c.loop-processor.self in
    let nexts = c.args.nexts.now in
    let last = c.in-Some.last in
    let of = c.in-Some.ensures in
    let old = up_to s rows x y c.args.place nexts c.loop-processor.processor last
    c.loop-processor.auto.processor-end c.loop-processor-test.false (c.loop-processor.invariant s may) in
    let idle = followed_all_idle_next s rows x y c.args.place nexts may last old c.in_default-nexts-2.not-Some in
    let within = of.within in
    followed_all_rest s rows x y c.args.place nexts may (last + 1) idle (omega (arith, within))
    (λ p k told. let le = of.last p k told in omega (arith, le))

pub returns : goal.returns
returns c = on_ok_weaker c.follow-2.result (λ followed s may.
    let rows = c.args.steps.now in
    let x = c.args.self.now in
    let y = c.loop-processor.self in
    let nexts = c.args.nexts.now in
    let last = c.in-Some.last in
    let of = c.in-Some.ensures in
    let k = c.in-Some-nexts-2.kind in
    let here = c.in-Some-nexts-2.is in
    let old = up_to s rows x y c.args.place nexts c.loop-processor.processor last
    c.loop-processor.auto.processor-end c.loop-processor-test.false (c.loop-processor.invariant s may) in
    let z = c.follow-2.new.self in
    let next = followed_all_next s rows x y c.args.place nexts may last old k here z
    (followed s (followed_all_may s rows x y c.args.place nexts may last old k here)) in
    let within = of.within in
    followed_all_rest s rows x z c.args.place nexts may (last + 1) next (omega (arith, within))
    (λ p j told. let le = of.last p j told in omega (arith, le))) c.follow-2.ensures

pub follow-requires-clause-room : goal.follow-requires-clause-room
follow-requires-clause-room c =
    let few = (c.loop-processor.invariant c.requires.may.0 c.requires.may.1).few in
    let room = c.requires.room in
    let before = c.loop-processor-test.true in
    let within = c.in-Some.ensures.within in
    omega (arith, few, room, before, within)

pub follow-requires-2-clause-room : goal.follow-requires-2-clause-room
follow-requires-2-clause-room c =
    let few = (c.loop-processor.invariant c.requires.may.0 c.requires.may.1).few in
    let room = c.requires.room in
    let up_to = c.loop-processor.auto.processor-end in
    let within = c.in-Some.ensures.within in
    omega (arith, few, room, up_to, within)
