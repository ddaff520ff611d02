use Rattle.std.proofs.Common.{ℕ, ◌≡◌, ◌⊎◌, Some, ap, refl, slice_get, subst, ◌∙◌}
use Rattle.std.specs.Global.{Vec}
use Rattle.std.proofs.lemmas.Option.{slice_get_within}
use Rattle.explore.specs.declared.state.kept_state.KeptState.{KeptState}
use Rattle.explore.specs.declared.state.kept_state.StateAsks.{StateAsks}
use Rattle.explore.specs.declared.state.kept_state.StateMemory.{StateMemory}
use Rattle.explore.specs.declared.state.kept_state.StateParts.{StateParts}
use Rattle.explore.specs.KeptStates.{AreLikeStateAsks, state_replies_of, trimmed_words}
use Rattle.explore.proofs.Equals.{equal_state_asks_like, equal_state_replies_like}
use Rattle.explore.proofs.KeptStates.{HasPartsOfState, kept_state_asks_once, kept_state_trimmed_more, kept_state_is_like, kept_state_replies_once}
use Rattle.explore.proofs.CallTables.Told.{call_told_within}
use Rattle.explore.proofs.state.kept_state.StateParts.keep.Goals as goal

-- these wait
abbrev asks_of : Vec ℕ → StateAsks
asks_of asked = record { asked = asked }

pub returns : goal.returns
returns c =
    let x = c.args.self.now in
    let m = c.args.state in
    let v = c.in_ok-memory.ensures in
    let memory_is = ap trimmed_words c.deref.ensures.value in
    let r = c.in_ok-replies.ensures in
    let a = c.in_ok-asks.ensures in
    let k : KeptState = record { done = m.done; memory = c.in_ok-memory.memory; replies = c.in_ok-replies.replies; asks = c.in_ok-asks.asks } in
    let y : StateParts = record {
      calls = x.calls;
      memories = c.place_state_memory.new.memories;
      replies = c.place_state_part.new.parts;
      asks = c.place_state_part-2.new.parts;
      last = record { memory = k.memory; replies = k.replies; asks = k.asks };
    } in
    let has : HasPartsOfState y m k = record {
      done = refl;
      memory = v.part;
      memory_at = v.at;
      memory_like = v.words ∙ memory_is;
      replies = r.part;
      replies_at = r.at;
      replies_like = equal_state_replies_like (state_replies_of m) r.part r.same;
      asks = a.part;
      asks_at = a.at;
      asks_like = subst (λ asked. AreLikeStateAsks (asks_of asked) a.part) c.into_asked.ensures (equal_state_asks_like (asks_of c.into_asked.result) a.part a.same);
    } in
    let known = c.requires.known in
    record {
      keeps = record { calls = refl; memories = v.keeps; replies = r.keeps; asks = a.keeps };
      grown = record { memories = v.grown; replies = r.grown; asks = a.grown };
      once = record {
        memories = v.once;
        replies = kept_state_replies_once y.replies.keys r.once;
        asks = kept_state_asks_once y.asks.keys a.once;
      };
      within = record {
        memory = slice_get_within y.memories.keys k.memory v.part v.at;
        replies = slice_get_within y.replies.keys k.replies r.part r.at;
        asks = slice_get_within y.asks.keys k.asks a.part a.at;
        done = call_told_within known.plan x.calls known.table known.events m known.knows;
      };
      trimmed =
          kept_state_trimmed_more x.memories.keys y.memories.keys m.memory.items
          (subst (λ ws. (k : ℕ) (b : StateMemory) → slice_get y.memories.keys k ≡ Some b → (slice_get x.memories.keys k ≡ Some b) ⊎ (b.words.items ≡ trimmed_words ws))
          c.deref.ensures.value v.no_other);
      like = λ first one. kept_state_is_like y m first k known one has;
    }
