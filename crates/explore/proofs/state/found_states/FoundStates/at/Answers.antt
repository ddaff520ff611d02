use Rattle.std.proofs.Common.{◌≡◌, Some, slice_get, sym, subst, ◌∙◌}
use Rattle.std.proofs.lemmas.Option.{same_Some}
use Rattle.explore.specs.declared.state.flat_state.FlatState.{FlatState}
use Rattle.explore.specs.FoundStates.{found_states}
use Rattle.explore.specs.KeptStates.{opened_state}
use Rattle.explore.specs.Machines.{MachinesInSameState}
use Rattle.explore.proofs.AddedStates.{added_state_opened_at}
use Rattle.explore.proofs.Clones.{clone_if_ok}
use Rattle.explore.proofs.state.found_states.FoundStates.at.Goals as goal

pub open-requires : goal.open-requires
open-requires c = record {
  calls = c.requires.kept.calls;
  within = c.requires.kept.within c.args.place c.index.result.now c.index.ensures;
}

pub returns : goal.returns
returns c =
    let x = c.args.self.now in
    let k = c.index.result.now in
    let opened = opened_state x.parts x.first k in
    let there = added_state_opened_at (opened_state x.parts x.first) x.states.keys c.args.place k c.index.ensures in
    clone_if_ok c.open.result (MachinesInSameState opened) (λ n. (m : FlatState) → slice_get (found_states x) c.args.place ≡ Some m → MachinesInSameState m n)
    (λ n like m at. subst (λ z. MachinesInSameState z n) (same_Some opened m (sym there ∙ at)) like) c.open.ensures
