-- Happens-before goes forward, is transitive, and is the same in every journal that begins with this one.
use Rattle.std.proofs.Common.{ℕ, ◌<◌, ◌≤◌, ◌↔◌, List, ◌++◌, length, sym, ◌∙◌, arith, lt_trans}
use Rattle.journal.specs.declared.event.Event.{Event}
use Rattle.journal.specs.Events.{event_arrives, event_departs}
use Rattle.journal.specs.HappensBeforeEdges.{Link, Edge, HappensBefore}
use Rattle.journal.specs.HappensBeforeEdges.Link.{same, lets, meets}
use Rattle.journal.specs.HappensBeforeEdges.HappensBefore.{edge, on}
use Rattle.journal.proofs.Order.EventPlacesAndCounts.{event_place_inside, event_place_longer, event_place_shorter, event_count-front}

-- happens-before goes forward
pub happens_before_goes_forward : (j : List Event) {i k : ℕ} → HappensBefore j i k → i < k
happens_before_goes_forward j (edge e) = e.before
happens_before_goes_forward j (on h e) = lt_trans (happens_before_goes_forward j h) e.before

-- what something happens before stands in the journal
pub happens_before_ends_within : (j : List Event) {i k : ℕ} → HappensBefore j i k → k < length j
happens_before_ends_within j (edge e) = event_place_inside j _ e.to e.to_at
happens_before_ends_within j (on h e) = event_place_inside j _ e.to e.to_at

-- what happens before something stands in the journal
pub happens_before_begins_within : (j : List Event) {i k : ℕ} → HappensBefore j i k → i < length j
happens_before_begins_within j h = let a = happens_before_goes_forward j h in let b = happens_before_ends_within j h in omega arith

-- happens-before is transitive
pub happens_before_transitive : (j : List Event) {i m k : ℕ} → HappensBefore j i m → HappensBefore j m k → HappensBefore j i k
happens_before_transitive j h (edge e) = on h e
happens_before_transitive j h (on g e) = on (happens_before_transitive j h g) e

happens_before_link_longer : (j es : List Event) (i k : ℕ) (e f : Event) → i ≤ length j → k ≤ length j → Link j i k e f
    → Link (j ++ es) i k e f
happens_before_link_longer j es i k e f hi hk (same s) = same s
happens_before_link_longer j es i k e f hi hk (lets l) = lets l
happens_before_link_longer j es i k e f hi hk (meets m) =
    meets (record {
      arrives = m.arrives;
      departs = m.departs;
      episode = event_count-front event_arrives j es i e.processor hi ∙ m.episode
          ∙ sym (event_count-front event_departs j es k f.processor hk);
    })

happens_before_link_shorter : (j es : List Event) (i k : ℕ) (e f : Event) → i ≤ length j → k ≤ length j → Link (j ++ es) i k e f
    → Link j i k e f
happens_before_link_shorter j es i k e f hi hk (same s) = same s
happens_before_link_shorter j es i k e f hi hk (lets l) = lets l
happens_before_link_shorter j es i k e f hi hk (meets m) =
    meets (record {
      arrives = m.arrives;
      departs = m.departs;
      episode = sym (event_count-front event_arrives j es i e.processor hi) ∙ m.episode
          ∙ event_count-front event_departs j es k f.processor hk;
    })

-- edges stay
pub happens_before_edge_longer : (j es : List Event) {i k : ℕ} → Edge j i k → Edge (j ++ es) i k
happens_before_edge_longer j es {i} {k} e =
    let a = event_place_inside j i e.from e.from_at in
    let b = event_place_inside j k e.to e.to_at in
    record {
      before = e.before;
      from = e.from;
      to = e.to;
      from_at = event_place_longer j es i e.from e.from_at;
      to_at = event_place_longer j es k e.to e.to_at;
      link = happens_before_link_longer j es i k e.from e.to (omega arith) (omega arith) e.link;
    }

-- and no new ones come between old places
pub happens_before_edge_shorter : (j es : List Event) {i k : ℕ} → k < length j → Edge (j ++ es) i k → Edge j i k
happens_before_edge_shorter j es {i} {k} h e =
    let lt = e.before in
    let hi : i < length j = omega arith in
    record {
      before = e.before;
      from = e.from;
      to = e.to;
      from_at = event_place_shorter j es i e.from hi e.from_at;
      to_at = event_place_shorter j es k e.to h e.to_at;
      link = happens_before_link_shorter j es i k e.from e.to (omega arith) (omega arith) e.link;
    }

-- happens-before stays
pub happens_before_longer : (j es : List Event) {i k : ℕ} → HappensBefore j i k → HappensBefore (j ++ es) i k
happens_before_longer j es (edge e) = edge (happens_before_edge_longer j es e)
happens_before_longer j es (on h e) = on (happens_before_longer j es h) (happens_before_edge_longer j es e)

-- and what happened before an old place did so before
pub happens_before_shorter : (j es : List Event) {i k : ℕ} → k < length j → HappensBefore (j ++ es) i k → HappensBefore j i k
happens_before_shorter j es lt (edge e) = edge (happens_before_edge_shorter j es lt e)
happens_before_shorter j es lt (on h e) =
    let before = e.before in on (happens_before_shorter j es (lt_trans e.before lt) h) (happens_before_edge_shorter j es lt e)

-- happens-before is the same in every journal that begins with this one
pub happens_before_extension : (j es : List Event) (i k : ℕ) → k < length j → HappensBefore (j ++ es) i k ↔ HappensBefore j i k
happens_before_extension j es i k h = (λ b. happens_before_shorter j es h b, λ b. happens_before_longer j es b)
