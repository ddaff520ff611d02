-- A history without its fetches: a projection.
use Rattle.std.proofs.Common.{◌≡◌, Bool, List, [], ◌∷◌, true, false}
use Rattle.std.specs.Prelude.{not}
use Rattle.std.proofs.lemmas.Bool.{not-true, not-false}
use Rattle.journal.specs.declared.event.Event.{Event}
use Rattle.journal.specs.declared.event.Kind.{Kind}
use Rattle.conformance.specs.Follows.{is_fetch}
use Rattle.conformance.proofs.Projections.Embeds.{IsEmbeddedProjection, by_events_embedded, embedded_projection_is, embedded_projection}

-- any kind but a fetch
abbrev pub is_no_fetch : Kind → Bool
is_no_fetch k = not (is_fetch k)

-- the history without its fetches
abbrev pub without_fetches : List Event → List Event
without_fetches h = embedded_projection is_no_fetch h

abbrev pub IsWithoutFetchesOf : List Event → List Event → Type 0
IsWithoutFetchesOf g h = IsEmbeddedProjection is_no_fetch g h

-- what holds of nothing, of a list with a fetch before it, and of one with a call before it, holds of what is left
pub by_events_without_fetches : (P : List Event → List Event → Type 0) → P [] []
    → ((e : Event) (h : List Event) → is_fetch e.kind ≡ true → P (without_fetches h) h → P (without_fetches h) (e ∷ h))
    → ((e : Event) (h : List Event) → is_fetch e.kind ≡ false → P (without_fetches h) h → P (e ∷ without_fetches h) (e ∷ h))
    → (h : List Event) → P (without_fetches h) h
by_events_without_fetches P none fetch call =
    by_events_embedded is_no_fetch P none (λ e h out x. fetch e h (not-false (is_fetch e.kind) out) x)
    (λ e h kept x. call e h (not-true (is_fetch e.kind) kept) x)

-- each history without its fetches
pub without_fetches_of : (h : List Event) → IsWithoutFetchesOf (without_fetches h) h
without_fetches_of = embedded_projection_is is_no_fetch
