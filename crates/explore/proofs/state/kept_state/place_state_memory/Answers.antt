use Rattle.std.proofs.Common.{sym, ◌∙◌}
use Rattle.explore.specs.declared.state.kept_state.StateMemory.{StateMemory}
use Rattle.explore.proofs.Equals.{equal_numbers, state_memory_equal}
use Rattle.explore.proofs.KeptStates.{kept_state_memory_placed, kept_state_memory_there, kept_state_part_placed}
use Rattle.explore.proofs.state.kept_state.place_state_memory.Goals as goal

pub returns-then-eq : goal.returns-then-eq
returns-then-eq c =
    let same = equal_numbers c.deref.result.now _ (sym c.eq.ensures ∙ c.if-eq.true) in
    kept_state_memory_there c.args.memories.now.keys c.index.result.now c.args.memory.now c.args.likely c.len.ensures.unique c.index.ensures
    (sym c.deref.ensures.value ∙ sym same ∙ c.trimmed_length-length.ensures.trimmed)

pub returns : goal.returns
returns c =
    let e = c.in_ok-place.ensures in
    let a : StateMemory = record { words = c.in_ok-words.words } in
    kept_state_memory_placed c.args.memories.now.keys c.insert_full.new.self.keys a c.args.memory.now c.in_ok-place.place e.keys
    (kept_state_part_placed state_memory_equal c.args.memories.now.keys c.insert_full.new.self.keys a e.stored.0 c.in_ok-place.place e.keys e.unique
    e.stored.1 e.stored.2) (c.in_ok-words.ensures.items ∙ c.trimmed_length-length.ensures.trimmed)
