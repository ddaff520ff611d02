use Rattle.std.proofs.Common.{rules, ℕ, ◌==◌, ◌&&◌, not}
use Rattle.std.proofs.lemmas.Fn.{filter_same}
use Rattle.journal.proofs.base_state.let_go.Goals as goal

pub returns : goal.returns
returns c =
    filter_same _ (λ (h : ℕ × ℕ). not ((h.0 == c.args.processor) && (h.1 == c.args.lock))) _
    (λ x b f' k. search rules) c.args.holders.now.items c.retain.new.self.items c.retain.ensures.filtered
