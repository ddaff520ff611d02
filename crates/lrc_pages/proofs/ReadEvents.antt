-- Events that are read one by one.
use Rattle.std.proofs.Common.{◌≡◌, ℕ, zero, suc, ◌+◌, ◌<◌, [], ◌∷◌, ◌++◌, List, length, take, slice_index_or, subst, sym, ap, ◌∙◌, append_assoc}
use Rattle.std.proofs.lemmas.Option.{none-some, same_Some, slice_get-get_or}
use Rattle.journal.specs.declared.event.Event.{Event}
use Rattle.journal.specs.declared.event.Kind.TheVariants.{Load}
use Rattle.journal.specs.DidEvent.{event}
use Rattle.journal.specs.Sizes.{Sizes}
use Rattle.journal.proofs.Passes.NextClocks.{next_clocks_front}
use Rattle.lrc_check.specs.Traces.LawfulTraces.{IsWithinLawfulTrace}
use Rattle.lrc_pages.specs.PagedTraces.{AreTracedEvents}

-- the event that is read
abbrev pub paged_event_at : List Event → ℕ → Event
paged_event_at events at = slice_index_or events at (event 0 (Load 0 0))

-- those so far and the next one
pub paged_events_next : (j events : List Event) (at : ℕ) → at < length events
    → (j ++ take at events) ++ paged_event_at events at ∷ [] ≡ j ++ take (at + 1) events
paged_events_next j events at lt =
    let e = paged_event_at events at in
    append_assoc j (take at events) (e ∷ [])
    ∙ ap (λ (xs : List Event). j ++ xs) (sym (next_clocks_front events at e (slice_get-get_or events at (event 0 (Load 0 0)) lt)))

-- one event alone
pub traced_one : (s : Sizes) (x : Event) → IsWithinLawfulTrace s x → AreTracedEvents s (x ∷ [])
traced_one s x within zero e at = subst (IsWithinLawfulTrace s) (same_Some x e at) within
traced_one s x within (suc k) e at = absurd (none-some e at)
