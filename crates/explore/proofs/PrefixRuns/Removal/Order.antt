-- An event left out, with no more of its processor behind it: what is left gets no new order, and so loses no race.
use Rattle.std.proofs.Common.{ℕ, ◌≢◌, ◌<◌, ◌⊎◌, inl, inr, List, ◌∷◌, ◌++◌, length, sym, ◌∙◌}
use Rattle.journal.specs.declared.event.Event.{Event}
use Rattle.journal.specs.Events.{EventAt, event_arrives, event_departs}
use Rattle.journal.specs.HappensBeforeEdges.{Link, Edge, HappensBefore}
use Rattle.journal.specs.HappensBeforeEdges.Link.{same, lets, meets}
use Rattle.journal.specs.HappensBeforeEdges.HappensBefore.{edge, on}
use Rattle.journal.specs.Races.{Race}
use Rattle.base.proofs.SlicesAndCounts.{slice_append_cases}
use Rattle.explore.proofs.PrefixRuns.Removal.Places.{removal_place_lift, removal_place_lift_less, removal_place_less_lift, removal_place_item_lift}
use Rattle.explore.proofs.PrefixRuns.Removal.Stays.{removal_stays_count_lift}

module _ (a b : List Event) (x : Event) (away : (m : ℕ) (f : Event) → EventAt b m f → f.processor ≢ x.processor) where
  -- an event of what is left stands before the one left out, or is another's
  removal_order_before_or_other : (i : ℕ) (e : Event) → EventAt (a ++ b) i e → (i < length a) ⊎ (x.processor ≢ e.processor)
  removal_order_before_or_other i e at = elim (slice_append_cases a b i e at) [
    | inl old ↦ inl old.0
    | inr new ↦ inr (λ is. away new.0 e new.2 (sym is))
  ]

  removal_order_link_lift : (i k : ℕ) (e f : Event) → EventAt (a ++ b) i e → EventAt (a ++ b) k f → Link (a ++ b) i k e f
      → Link (a ++ x ∷ b) (removal_place_lift (length a) i) (removal_place_lift (length a) k) e f
  removal_order_link_lift i k e f at to (same s) = same s
  removal_order_link_lift i k e f at to (lets l) = lets l
  removal_order_link_lift i k e f at to (meets m) =
      meets (record {
        arrives = m.arrives;
        departs = m.departs;
        episode = removal_stays_count_lift event_arrives a b x i e.processor (removal_order_before_or_other i e at) ∙ m.episode
            ∙ sym (removal_stays_count_lift event_departs a b x k f.processor (removal_order_before_or_other k f to));
      })

  removal_order_edge_lift : (i k : ℕ) → Edge (a ++ b) i k → Edge (a ++ x ∷ b) (removal_place_lift (length a) i) (removal_place_lift (length a) k)
  removal_order_edge_lift i k e = record {
    before = removal_place_lift_less (length a) i k e.before;
    from = e.from;
    to = e.to;
    from_at = removal_place_item_lift a b x i ∙ e.from_at;
    to_at = removal_place_item_lift a b x k ∙ e.to_at;
    link = removal_order_link_lift i k e.from e.to e.from_at e.to_at e.link;
  }

  -- what happens before what is left does so in the whole
  removal_order_lift : {i k : ℕ} → HappensBefore (a ++ b) i k → HappensBefore (a ++ x ∷ b) (removal_place_lift (length a) i) (removal_place_lift (length a) k)
  removal_order_lift (edge {i} {k} e) = edge (removal_order_edge_lift i k e)
  removal_order_lift (on {i} {m} {k} h e) = on (removal_order_lift h) (removal_order_edge_lift m k e)

  -- a race of the whole, between events that are left, stays one
  pub removal_order_race_kept : (i k : ℕ) → Race (a ++ x ∷ b) (removal_place_lift (length a) i) (removal_place_lift (length a) k) → Race (a ++ b) i k
  removal_order_race_kept i k race = record {
    before = removal_place_less_lift (length a) i k race.before;
    first = race.first;
    second = race.second;
    first_at = sym (removal_place_item_lift a b x i) ∙ race.first_at;
    second_at = sym (removal_place_item_lift a b x k) ∙ race.second_at;
    apart = race.apart;
    conflict = race.conflict;
    unordered = λ h. race.unordered (removal_order_lift h);
  }
