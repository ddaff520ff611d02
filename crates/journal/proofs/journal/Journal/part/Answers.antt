use Rattle.std.proofs.Common.{ℕ, ◌≤◌, List, Option, Some, None, MatchOption, IfSome, length, drop, length-drop, arith}
use Rattle.base.specs.Limits.{most_held}
use Rattle.journal.specs.declared.event.Event.{Event}
use Rattle.journal.specs.EpisodeBases.{IsEpisodeBaseFront, NoEpisodeBaseFront}
use Rattle.journal.proofs.journal.Journal.part.Goals as goal

-- a cut takes no more than there is
few_taken : (processors : ℕ) (j : List Event) → length j ≤ most_held → (o : Option ℕ)
    → MatchOption o (NoEpisodeBaseFront processors j) (λ n. IsEpisodeBaseFront processors j n) → IfSome o (λ n. n ≤ most_held)
few_taken processors j few None h = tt
few_taken processors j few (Some n) h = let within = h.within in omega arith

pub returns-clause-few : goal.returns-clause-few
returns-clause-few c =
    let j = c.self.inside in
    let behind = length-drop j.processors j.events.items in
    few_taken j.processors (drop j.processors j.events.items)
    (omega (arith, c.self.invariant.few, j.events.ok.0)) j.episodes.last c.self.invariant.episodes.last
