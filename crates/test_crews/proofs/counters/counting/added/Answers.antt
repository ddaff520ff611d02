use Rattle.std.proofs.Common.{rules, ◌≡◌, ℕ, ◌≤◌, ap, ◌∙◌, subst}
use Rattle.turn.specs.Chairs.{ChairLockId, entries}
use Rattle.turn.proofs.ChairLists.{chair_in_list_within_limit}
use Rattle.test_crews.proofs.counters.counting.added.Goals as goal

pub returns : goal.returns
returns g c =
    let after = c.add_many.new.chair in
    let same = c.add_many.ensures.same in
    let limit : after.limit ≡ g.T.Turn.ENTRIES =
    ap (λ (l : ChairLockId). l.limit) (same.0.0 ∙ c.requires.new.0)
    ∙ (g.met.T.Turn g.world.𝓛 g.world.𝓜 g.world.𝓡 ((λ s x. x), (λ x. x), (λ x. x), λ x. x)).limits
    c.args.turn.now in
    let few : entries after ≤ g.T.Turn.ENTRIES = subst (λ (n : ℕ). entries after ≤ n) limit (chair_in_list_within_limit after) in
    search rules
