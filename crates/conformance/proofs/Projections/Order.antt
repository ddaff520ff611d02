-- What happens before what in a projection, happens so in the whole.
use Rattle.std.proofs.Common.{ℕ, List, Bool, sym, ◌∙◌}
use Rattle.journal.specs.declared.event.Event.{Event}
use Rattle.journal.specs.declared.event.Kind.{Kind}
use Rattle.journal.specs.Events.{event_arrives, event_departs}
use Rattle.journal.specs.HappensBeforeEdges.{Edge, HappensBeforeEdgesMeet, HappensBefore, Link}
use Rattle.journal.specs.HappensBeforeEdges.Link.{same, lets, meets}
use Rattle.journal.specs.HappensBeforeEdges.HappensBefore.{edge, on}
use Rattle.conformance.proofs.Projections.Embeds.{IsEmbeddedProjection}
use Rattle.conformance.proofs.Projections.WellFormed.{KeepsSynchronization, well_formed_projection_arrivals, well_formed_projection_departures}

-- the projection g of h
module _ (keep : Kind → Bool) (keeps : KeepsSynchronization keep) (g h : List Event) (x : IsEmbeddedProjection keep g h) where
  projection_order_meet : {i k : ℕ} {e f : Event} → HappensBeforeEdgesMeet g i k e f → HappensBeforeEdgesMeet h (x.embeds.place i) (x.embeds.place k) e f
  projection_order_meet {i = i} {k = k} {e = e} {f = f} m =
      let arrivals = x.fronts i event_arrives (well_formed_projection_arrivals keep keeps) e.processor in
      let departures = x.fronts k event_departs (well_formed_projection_departures keep keeps) f.processor in
      record { arrives = m.arrives; departs = m.departs; episode = sym arrivals ∙ m.episode ∙ departures }

  projection_order_link : {i k : ℕ} {e f : Event} → Link g i k e f → Link h (x.embeds.place i) (x.embeds.place k) e f
  projection_order_link (same s) = same s
  projection_order_link (lets l) = lets l
  projection_order_link (meets m) = meets (projection_order_meet m)

  projection_order_edge : {i k : ℕ} → Edge g i k → Edge h (x.embeds.place i) (x.embeds.place k)
  projection_order_edge {i = i} {k = k} e =
      record {
        before = x.embeds.rises i k e.before;
        from = e.from;
        to = e.to;
        from_at = x.embeds.there i e.from e.from_at;
        to_at = x.embeds.there k e.to e.to_at;
        link = projection_order_link e.link;
      }

  -- what happens before what, happens so in the whole
  pub projection_order_before : {i k : ℕ} → HappensBefore g i k → HappensBefore h (x.embeds.place i) (x.embeds.place k)
  projection_order_before (edge e) = edge (projection_order_edge e)
  projection_order_before (on b e) = on (projection_order_before b) (projection_order_edge e)
