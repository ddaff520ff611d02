use Rattle.std.proofs.Common.{ℕ, ◌≡◌, List, length, refl, sym, ap, ap₂, subst, ◌∙◌, arith}
use Rattle.std.specs.List.{each_same}
use Rattle.explore.specs.declared.state.kept_state.StateAsks.{StateAsks}
use Rattle.explore.specs.declared.state.kept_state.StateMemory.{StateMemory}
use Rattle.explore.specs.declared.state.kept_state.StateReplies.{StateReplies}
use Rattle.explore.specs.KeptStates.{length-words_over, state_asks_of, state_memory_of, state_replies_of, words_over}
use Rattle.explore.specs.KeptWaiting.{IsLikeKeptWaiting}
use Rattle.explore.specs.Machines.{machine_rows}
use Rattle.explore.proofs.Clones.{cloned_items}
use Rattle.explore.proofs.KeptStates.{kept_state_reads}
use Rattle.explore.proofs.TrimmedWords.{trimmed_words_whole}
use Rattle.explore.proofs.CallTables.Told.{call_told_alike}
use Rattle.explore.proofs.state.kept_state.StateParts.open.Goals as goal

pub returns : goal.returns
returns c =
    let x = c.args.self.now in
    let k = c.args.kept.now in
    let f = c.args.first.now in
    let asks = kept_state_reads x.asks.keys k.asks (state_asks_of f) c.index.result.now c.index.ensures in
    let replies = kept_state_reads x.replies.keys k.replies (state_replies_of f) c.index-3.result.now c.index-3.ensures in
    let memory = kept_state_reads x.memories.keys k.memory (state_memory_of f) c.index-2.result.now c.index-2.ensures in
    let asked = each_same c.index.result.now.asked.items c.in_ok-asked.asked.items c.in_ok-asked.ensures.cases.0 in
    let new = c.put_words_over.new.memory in
    let zeros : c.in_ok-memory.memory.items ≡ f.memory.items = each_same f.memory.items c.in_ok-memory.memory.items c.in_ok-memory.ensures.cases.0 in
    let are : new ≡ words_over c.index-2.result.now.words.items f.memory.items =
    c.put_words_over.ensures ∙ ap₂ words_over c.deref.ensures.value (c.deref_mut.ensures.value ∙ zeros) in
    let taken =
    let long = ap (λ (ws : List ℕ). length ws) are ∙ length-words_over c.index-2.result.now.words.items f.memory.items in
    let kept = ap (λ (ws : List ℕ). length ws) zeros in
    let ok = c.in_ok-memory.memory.ok.0 in
    trimmed_words_whole new _ c.in_ok-memory.memory.len (omega (arith, long, kept, ok)) in
    record {
      telling = refl;
      done = refl;
      replies =
          cloned_items _ (λ a b z. each_same a.items b.items z.0) c.index-3.result.now.replies.items c.in_ok-clone.field-0.items c.in_ok-clone.ensures.cases.0
          ∙ ap (λ (v : StateReplies). machine_rows v.replies.items) (sym replies);
      memory = taken ∙ are ∙ ap (λ (v : StateMemory). words_over v.words.items f.memory.items) (sym memory);
      waiting =
          subst (IsLikeKeptWaiting _) (sym c.waiting.ensures.is)
          (call_told_alike x.calls k.done _ c.in_ok-asked.asked (asked ∙ ap (λ (v : StateAsks). v.asked.items) (sym asks)));
    }
