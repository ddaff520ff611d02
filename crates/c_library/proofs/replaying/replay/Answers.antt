use Rattle.std.proofs.Common.{ℕ, ◌≡◌, List, length, map, replicate, subst, ap, ◌∙◌}
use Rattle.std.specs.Prelude.{◌↔◌, IfSome, IsSome}
use Rattle.std.specs.Global.{Vec}
use Rattle.std.proofs.lemmas.List.{length-replicate}
use Rattle.std.proofs.lemmas.Option.{IfSome_then}
use Rattle.base.proofs.LastWritten.{length-written}
use Rattle.journal.specs.declared.event.Event.{Event}
use Rattle.journal.specs.ReplayMemory.{Replays, replay_memory_write, memory_after}
use Rattle.c_library.specs.Given.{given_event_of}
use Rattle.c_library.proofs.replaying.replay.Goals as goal

-- the memory after events has as many words as before them
memory_long : (room : ℕ) (j : List Event) → length (memory_after (replicate room 0) j) ≡ room
memory_long room j = length-written (λ (e : Event). replay_memory_write e.kind) (replicate room 0) j ∙ length-replicate room 0

pub returns-clause-told : goal.returns-clause-told
returns-clause-told c =
    let es = c.args.events.now in
    let room = c.args.room in
    let words = c.in_ok-words.words in
    let history = c.in_ok-history.ensures.taken in
    let is : c.deref.result.now ≡ map given_event_of es = c.deref.ensures.value ∙ history.is in
    let memory =
    subst (λ (j : List Event). IfSome words (λ (v : Vec ℕ). v.items ≡ memory_after (replicate room 0) j)) is
    c.in_ok-words.ensures.memory in
    record {
      taken = history.taken;
      replays =
          subst (λ (j : List Event). IsSome words ↔ Replays (replicate room 0) j) is c.in_ok-words.ensures.replays;
      memory = memory;
      long =
          IfSome_then words memory (λ (v : Vec ℕ) same. ap length same ∙ memory_long room (map given_event_of es));
    }
