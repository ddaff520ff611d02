-- Events of which none takes or gives up a lock leave who holds it.
use Rattle.std.proofs.Common.{◌≢◌, ℕ, ◌↔◌, inl, inr, List, ◌++◌, refl}
use Rattle.journal.specs.declared.event.Event.{Event}
use Rattle.journal.specs.declared.event.Kind.TheVariants.{Acquire, Release}
use Rattle.journal.specs.DidEvent.{event}
use Rattle.journal.specs.Events.{EventAt}
use Rattle.journal.specs.WellFormed.{Does, Holds}
use Rattle.base.proofs.SlicesAndCounts.{slice_append_cases}
use Rattle.journal.proofs.Order.EventPlacesAndCounts.{event_place_longer}

module _ (j es : List Event) (p l : ℕ) where
  -- who holds a lock that it doesn't release still holds it
  pub holds_over_others : ((k : ℕ) → ¬ Does es k p (Release l)) → Holds j p l → Holds (j ++ es) p l
  holds_over_others kept h = record {
    place = h.place;
    acquires = event_place_longer j es h.place (event p (Acquire l)) h.acquires;
    keeps = λ k lt does. elim (slice_append_cases j es k (event p (Release l)) does) [
      | inl old ↦ h.keeps k lt old.1
      | inr new ↦ kept new.0 new.2
    ];
  }

  -- and who doesn't acquire one held it before
  pub holds_before_others : ((k : ℕ) → ¬ Does es k p (Acquire l)) → Holds (j ++ es) p l → Holds j p l
  holds_before_others idle h = elim (slice_append_cases j es h.place (event p (Acquire l)) h.acquires) [
    | inl old ↦ record {
      place = h.place;
      acquires = old.1;
      keeps = λ k lt does. h.keeps k lt (event_place_longer j es k (event p (Release l)) does);
    }
    | inr new ↦ absurd (idle new.0 new.2)
  ]

  -- others' events leave it held or not
  pub holds_of_others : ((k : ℕ) (e : Event) → EventAt es k e → e.processor ≢ p) → Holds (j ++ es) p l ↔ Holds j p l
  holds_of_others away = (
    holds_before_others (λ k does. away k (event p (Acquire l)) does refl),
    holds_over_others (λ k does. away k (event p (Release l)) does refl),
  )
