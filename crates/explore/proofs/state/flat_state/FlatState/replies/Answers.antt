use Rattle.std.specs.List.{each_same}
use Rattle.explore.proofs.Clones.{cloned_items, clone_match_ok}
use Rattle.explore.proofs.state.flat_state.FlatState.replies.Goals as goal

pub returns : goal.returns
returns c =
    clone_match_ok c.clone.result _ _ _
    (λ w h. cloned_items _ (λ a b z. each_same a.items b.items z.0) c.args.self.now.replies.items w.items h.0)
    c.clone.ensures.cases
