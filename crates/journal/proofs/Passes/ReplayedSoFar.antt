-- Replay, an event at a time.
use Rattle.std.proofs.Common.{◌≡◌, ◌<◌, ◌+◌, ◌∙◌, ℕ, List, [], ◌∷◌, take, refl, sym, ap, subst, below_more, add-one}
use Rattle.std.specs.Prelude.{Some, slice_get}
use Rattle.std.proofs.lemmas.Option.{same_Some}
use Rattle.journal.specs.declared.event.Kind.{Kind}
use Rattle.base.specs.LastWrite.{wrote}
use Rattle.base.proofs.LastWritten.{written-append}
use Rattle.base.proofs.SlicesAndCounts.{slice_take-suc_at}
use Rattle.journal.specs.declared.event.Event.{Event}
use Rattle.journal.specs.declared.event.Kind.TheVariants.{Load}
use Rattle.journal.specs.DidEvent.{event}
use Rattle.journal.specs.WellFormed.{Does}
use Rattle.journal.specs.ReplayMemory.{memory_after, replay_memory_write, AnswersReplayMemory}

-- the memory is that after the first n events, and their loads answer its words
pub record ReplayedSoFar (start memory : List ℕ) (events : List Event) (n : ℕ) : Type 0 where
  pub memory_is : memory ≡ memory_after start (take n events)
  pub loads : (i : ℕ) → i < n → (p a v : ℕ) → Does events i p (Load a v)
      → slice_get (memory_after start (take i events)) a ≡ Some v

-- the memory after one more event
pub replayed_so_far_memory : (start : List ℕ) (events : List Event) (n : ℕ) (e : Event) → slice_get events n ≡ Some e
    → memory_after start (take (n + 1) events) ≡ wrote (memory_after start (take n events)) (replay_memory_write e.kind)
replayed_so_far_memory start events n e at =
    rw (
      add-one,
      slice_take-suc_at events n e at,
      written-append (λ (x : Event). replay_memory_write x.kind) start (take n events)
          (e ∷ []),
    )
    refl

-- one more event that answers
pub replayed_so_far_next : (start memory : List ℕ) (events : List Event) (n : ℕ) (e : Event) → slice_get events n ≡ Some e
    → ReplayedSoFar start memory events n → AnswersReplayMemory memory e.kind
    → ReplayedSoFar start (wrote memory (replay_memory_write e.kind)) events (n + 1)
replayed_so_far_next start memory events n e at so answers = record {
  memory_is = rw (replayed_so_far_memory start events n e at, so.memory_is) refl;
  loads = below_more _ _ so.loads (λ p a v does. rw (← so.memory_is) (answers_load p a v does));
}
  where
    answers_load : (p a v : ℕ) → Does events n p (Load a v) → slice_get memory a ≡ Some v
    answers_load p a v does =
        let same : e ≡ event p (Load a v) = same_Some e (event p (Load a v)) (sym at ∙ does) in
        let P : Kind → Type 0 = λ k. AnswersReplayMemory memory k in
        subst P (ap (λ x. x.kind) same) answers
