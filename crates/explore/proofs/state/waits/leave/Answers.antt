use Rattle.std.proofs.Common.{rules, ℕ, ◌==◌, not}
use Rattle.std.proofs.lemmas.Fn.{filter_same}
use Rattle.explore.proofs.state.waits.leave.Goals as goal

pub returns : goal.returns
returns c =
    filter_same _ (λ (q : ℕ). not (q == c.args.processor)) _ (λ x b f' k. search rules) c.args.asked.now.items
    c.retain.new.self.items c.retain.ensures.filtered
