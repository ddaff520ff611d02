-- Events of a history without the order of its locks.
use Rattle.std.proofs.Common.{◌≡◌, ℕ, ◌<◌, List, Some, Option, slice_get, subst, sym, refl, ap, ◌∙◌}
use Rattle.std.specs.Prelude.{None, option_map}
use Rattle.std.proofs.lemmas.Option.{slice_get-map, same_Some, none-some}
use Rattle.journal.specs.declared.event.Event.{Event}
use Rattle.journal.specs.declared.event.Kind.{Kind}
use Rattle.journal.specs.declared.event.Kind.TheVariants.{Ask, Acquire, Release}
use Rattle.journal.specs.Events.{EventAt, event_address, event_stores}
use Rattle.journal.specs.EventsInRange.{EventProcessorsInRange}
use Rattle.judge.specs.Locksets.Unlocked.{unlocked_event, unlocked_kind, unlocked_history}

-- it accesses what it did
pub without_locks_address : (k : Kind) → event_address (unlocked_kind k) ≡ event_address k
without_locks_address (Ask l) = refl
without_locks_address (Acquire l) = refl
without_locks_address (Release l) = refl
without_locks_address _ = refl

pub without_locks_store : (k : Kind) → event_stores (unlocked_kind k) ≡ event_stores k
without_locks_store (Ask l) = refl
without_locks_store (Acquire l) = refl
without_locks_store (Release l) = refl
without_locks_store _ = refl

-- and stands where it stood
pub without_locks_at : (j : List Event) (i : ℕ) (e : Event) → EventAt j i e → EventAt (unlocked_history j) i (unlocked_event e)
without_locks_at j i e at = slice_get-map unlocked_event j i ∙ ap (option_map unlocked_event) at

-- the event that stood there
pub record WithoutLocksStoodAt (j : List Event) (i : ℕ) (f : Event) : Type 0 where
  pub event : Event
  pub at : EventAt j i event
  pub is : f ≡ unlocked_event event

pub without_locks_stood : (j : List Event) (i : ℕ) (f : Event) → EventAt (unlocked_history j) i f → WithoutLocksStoodAt j i f
without_locks_stood j i f at = go (slice_get j i) refl
  where
    go : (o : Option Event) → slice_get j i ≡ o → WithoutLocksStoodAt j i f
    go None none = absurd (none-some f (sym (ap (option_map unlocked_event) none) ∙ (sym (slice_get-map unlocked_event j i) ∙ at)))
    go (Some e) some = record {
      event = e;
      at = some;
      is = same_Some f (unlocked_event e)
          (sym at ∙ (slice_get-map unlocked_event j i ∙ ap (option_map unlocked_event) some));
    }

-- its processors are the same
pub without_locks_range : (n : ℕ) (j : List Event) → ((i : ℕ) (e : Event) → EventAt j i e → e.processor < n)
    → EventProcessorsInRange n (unlocked_history j)
without_locks_range n j range i f at =
    let stood = without_locks_stood j i f at in
    subst (λ (e : Event). e.processor < n) (sym stood.is) (range i stood.event stood.at)
