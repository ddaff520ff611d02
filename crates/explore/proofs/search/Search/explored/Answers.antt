use Rattle.std.proofs.Common.{ℕ, subst, ◌∙◌, arith}
use Rattle.std.proofs.lemmas.Result.{IfOk-weaker}
use Rattle.lrc_script.specs.Plan.{plan_of}
use Rattle.explore.specs.Explored.{IsExplored}
use Rattle.explore.specs.FlatSearchEnds.{IsFlatSearchEnd}
use Rattle.explore.specs.StateRoom.{state_room_at_most}
use Rattle.explore.proofs.search.Search.explored.Goals as goal

pub look_to_the_end-requires-clause-room : goal.look_to_the_end-requires-clause-room
look_to_the_end-requires-clause-room g c =
    let few = c.state_room_at_most-most.ensures.few in
    omega (arith, few)

pub answer-requires-clause-ended : goal.answer-requires-clause-ended
answer-requires-clause-ended g c =
    (c.state_room_at_most-most.result, c.in_ok-end.ensures.ended (plan_of c.args.script.now) c.requires.steps c.requires.searched c.requires.few)

pub answer-requires-clause-telling : goal.answer-requires-clause-telling
answer-requires-clause-telling g c =
    c.in_ok-end.ensures.telling (plan_of c.args.script.now) c.requires.steps c.requires.searched ∙ c.requires.telling

pub returns : goal.returns
returns g c =
    let s = plan_of c.args.script.now in
    let x = c.look_to_the_end.new.self in
    let d = c.args.detail in
    let ended = c.in_ok-end.ensures.ended s c.requires.steps c.requires.searched c.requires.few in
    IfOk-weaker c.answer.result
    (λ answer. (most : ℕ) → IsFlatSearchEnd s x c.args.steps.now (λ _. ⊥) (state_room_at_most s d most) c.in_ok-end.end → IsExplored s d most answer)
    (IsExplored s d c.args.most)
    (λ answer told. told c.args.most (subst (λ n. IsFlatSearchEnd s x c.args.steps.now (λ _. ⊥) n c.in_ok-end.end) c.state_room_at_most-most.ensures.at_most ended))
    c.answer.ensures
