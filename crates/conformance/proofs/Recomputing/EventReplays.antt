-- One event on the flat memory: what it is made of there, and that it replays before others.
use Rattle.std.proofs.Common.{ℕ, zero, suc, ◌≡◌, ◌+◌, ◌%◌, ◌^◌, List, [], ◌∷◌, true, length, get_or, refl, sym, ap, ap₂, subst, ◌∙◌}
use Rattle.std.proofs.lemmas.Option.{slice_get-get_or, same_Some}
use Rattle.journal.specs.declared.event.Event.{Event}
use Rattle.journal.specs.declared.event.Kind.{Kind}
use Rattle.journal.specs.declared.event.Kind.TheVariants.{Load, Store}
use Rattle.journal.specs.DidEvent.{event}
use Rattle.journal.specs.ReplayMemory.{replay_memory_write, Replays, AnswersReplayMemory}
use Rattle.journal.specs.EventsInRange.{EventAddressInRange}
use Rattle.base.specs.LastWrite.{wrote}
use Rattle.base.proofs.LastWritten.{length-written}
use Rattle.conformance.specs.Follows.{is_fetch}
use Rattle.conformance.specs.Like.{like_without_value, SameButValues}
use Rattle.conformance.proofs.Script.ScriptSteps.{ScriptStep, IsScriptStep}
use Rattle.conformance.proofs.Script.ScriptSteps.ScriptStep.{plain, adds}

-- this call, as this memory answers it and after this reply
pub record RemadeAsEventReplays (memory : List ℕ) (reply : ℕ) (s : ScriptStep) (k : Kind) : Type 0 where
  pub kind : Kind
  pub like : like_without_value k ≡ like_without_value kind
  pub answers : AnswersReplayMemory memory kind
  pub is : IsScriptStep reply s kind

pub remade_as_event_replays : (memory : List ℕ) (old reply : ℕ) (s : ScriptStep) (k : Kind) → EventAddressInRange (length memory) k → IsScriptStep old s k
    → RemadeAsEventReplays memory reply s k
remade_as_event_replays memory old reply (adds a v) k inside is =
    record { kind = Store a ((reply + v) % 2 ^ 32); like = ap like_without_value is; answers = tt; is = refl }
remade_as_event_replays memory old reply (plain c) (Load a v) inside is =
    record { kind = Load a (get_or memory a 0); like = refl; answers = slice_get-get_or memory a 0 inside; is = is }
remade_as_event_replays memory old reply (plain c) k inside is = record { kind = k; like = refl; answers = tt; is = is }

-- what it is made of is a fetch only where it is one
pub event_replays_fetch_like : (a b : Kind) → like_without_value a ≡ like_without_value b → is_fetch a ≡ is_fetch b
event_replays_fetch_like a b same = sym (plain_fetch a) ∙ ap is_fetch same ∙ plain_fetch b
  where
    plain_fetch : (k : Kind) → is_fetch (like_without_value k) ≡ is_fetch k
    plain_fetch (Load a v) = refl
    plain_fetch (Store a v) = refl
    plain_fetch _ = refl

-- a fetch answers nothing
pub event_replays_fetch_answers : (memory : List ℕ) (k : Kind) → is_fetch k ≡ true → AnswersReplayMemory memory k
event_replays_fetch_answers memory (Load a v) is = absurd (cc)
event_replays_fetch_answers memory _ is = tt

-- an event that replays, before events that replay after it
pub event_replays_first : (memory : List ℕ) (e : Event) (es : List Event) → AnswersReplayMemory memory e.kind
    → Replays (wrote memory (replay_memory_write e.kind)) es → Replays memory (e ∷ es)
event_replays_first memory e es first rest zero p a v does =
    subst (λ (x : Event). AnswersReplayMemory memory x.kind) (same_Some e (event p (Load a v)) does) first
event_replays_first memory e es first rest (suc i) p a v does = rest i p a v does

-- and back: the first event replays, and the others after it
pub event_replays_answers_first : (memory : List ℕ) (p : ℕ) (k : Kind) (es : List Event) → Replays memory (event p k ∷ es)
    → AnswersReplayMemory memory k
event_replays_answers_first memory p (Load a v) es replays = replays 0 p a v refl
event_replays_answers_first memory p _ es replays = tt

pub event_replays_rest : (memory : List ℕ) (e : Event) (es : List Event) → Replays memory (e ∷ es)
    → Replays (wrote memory (replay_memory_write e.kind)) es
event_replays_rest memory e es replays i p a v does = replays (suc i) p a v does

-- the memory is as long after an event as before it
pub event_replays_wrote_length : (memory : List ℕ) (e : Event) → length (wrote memory (replay_memory_write e.kind)) ≡ length memory
event_replays_wrote_length memory e = length-written (λ (x : Event). replay_memory_write x.kind) memory (e ∷ [])

-- events that are alike, before histories that are
pub event_replays_like_first : (p : ℕ) (k l : Kind) (h g : List Event) → like_without_value k ≡ like_without_value l → SameButValues h g
    → SameButValues (event p k ∷ h) (event p l ∷ g)
event_replays_like_first p k l h g same like = ap₂ (λ kind es. event p kind ∷ es) same like
