-- What was done, of lists of events.
use Rattle.std.proofs.Common.{ℕ, ◌≡◌, true, false, List, [], ◌∷◌, ◌++◌, map, filter, refl, ap, ◌∙◌}
use Rattle.std.specs.Prelude.{◌==◌}
use Rattle.std.proofs.lemmas.List.{map-append}
use Rattle.std.proofs.lemmas.List.Elements.{filter-append}
use Rattle.journal.specs.declared.event.Event.{Event}
use Rattle.journal.specs.Events.{events_of}
use Rattle.seats.specs.Deeds.{deeds, is_deed}

pub deeds-append : (xs ys : List Event) → deeds (xs ++ ys) ≡ deeds xs ++ deeds ys
deeds-append xs ys =
    ap (filter is_deed) (map-append (λ (e : Event). e.kind) xs ys)
    ∙ filter-append is_deed (map (λ (e : Event). e.kind) xs) (map (λ (e : Event). e.kind) ys)

-- what p did of these events and then of those
pub deeds_of_processor-append : (xs ys : List Event) (p : ℕ) → deeds (events_of (xs ++ ys) p) ≡ deeds (events_of xs p) ++ deeds (events_of ys p)
deeds_of_processor-append xs ys p =
    ap deeds (filter-append (λ (e : Event). e.processor == p) xs ys) ∙ deeds-append (events_of xs p) (events_of ys p)

-- p's own deed is what it did
pub deed_of_own_event : (e : Event) (p : ℕ) → (e.processor == p) ≡ true → is_deed e.kind ≡ true
    → deeds (events_of (e ∷ []) p) ≡ e.kind ∷ []
deed_of_own_event e p own deed = rw own (rw deed refl)

-- another's is not
pub deed_of_others_event : (e : Event) (p : ℕ) → (e.processor == p) ≡ false → deeds (events_of (e ∷ []) p) ≡ []
deed_of_others_event e p other = rw other refl

-- nor is a fetch
pub deeds_of_fetch : (e : Event) (p : ℕ) → (e.processor == p) ≡ true → is_deed e.kind ≡ false
    → deeds (events_of (e ∷ []) p) ≡ []
deeds_of_fetch e p own fetch = rw own (rw fetch refl)
