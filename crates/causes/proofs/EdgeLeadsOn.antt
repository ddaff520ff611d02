-- The events of other processors with an edge to an event.
use Rattle.std.proofs.Common.{◌≡◌, ◌≢◌, ℕ, ◌+◌, ◌<◌, ◌≤◌, ◌==◌, ◌&&◌, Bool, true, false, cond, inl, inr, List, length, take, slice_index, slice_set, subst, sym, refl, ap, ◌∙◌, arith}
use Rattle.std.proofs.lemmas.Bool.{cases_eq, eq-eqb, ne_eqb}
use Rattle.std.proofs.lemmas.List.{length-set, length-take-le, get_or-set_same, get_or-set_other}
use Rattle.std.proofs.lemmas.List.Sums.{count_by-le-length}
use Rattle.journal.specs.declared.event.Event.{Event}
use Rattle.journal.specs.declared.event.Kind.{Kind}
use Rattle.journal.specs.declared.event.Kind.TheVariants.{Acquire, Release, Depart, Set, Await}
use Rattle.journal.specs.Events.{EventAt, event_count, event_arrives, event_departs}
use Rattle.journal.specs.HappensBeforeEdges.{LetsThrough, Link, same, lets, meets}
use Rattle.journal.proofs.Order.EventPlacesAndCounts.{event_place_same}
use Rattle.journal.proofs.Passes.NextRaces.{next_race_count}
use Rattle.judge.specs.JudgedSizes.{most_judged_processors}
use Rattle.causes.specs.Edges.{EdgeFromOther, EdgeLetsOn}

edge_leads_lets_through : (a b : Kind) (n m : ℕ) → LetsThrough a b → EdgeLetsOn a n b m
edge_leads_lets_through (Release l) (Acquire k) n m is = ap (λ x. Release x) is
edge_leads_lets_through (Set f) (Await g) n m is = ap (λ x. Set x) is
edge_leads_lets_through _ _ n m is = absurd is

edge_leads_on_link : (j : List Event) (i k : ℕ) (e f : Event) (b : Kind) → f.kind ≡ b
    → EdgeLetsOn e.kind (event_count event_arrives (take i j) e.processor) b (event_count event_departs (take k j) f.processor)
    → Link j i k e f
edge_leads_on_link j i k e f (Acquire l) is on = lets (subst (λ a. LetsThrough a f.kind) (sym on) (subst (λ b. LetsThrough (Release l) b) (sym is) refl))
edge_leads_on_link j i k e f (Await g) is on = lets (subst (λ a. LetsThrough a f.kind) (sym on) (subst (λ b. LetsThrough (Set g) b) (sym is) refl))
edge_leads_on_link j i k e f Depart is on = meets (record { arrives = on.0; departs = is; episode = on.1 })
edge_leads_on_link j i k e f _ is on = absurd on

edge_leads_link_on : (j : List Event) (i k : ℕ) (e f : Event) → e.processor ≢ f.processor → Link j i k e f
    → EdgeLetsOn e.kind (event_count event_arrives (take i j) e.processor) f.kind (event_count event_departs (take k j) f.processor)
edge_leads_link_on j i k e f apart (same is) = absurd (apart is)
edge_leads_link_on j i k e f apart (lets is) =
    edge_leads_lets_through e.kind f.kind (event_count event_arrives (take i j) e.processor) (event_count event_departs (take k j) f.processor) is
edge_leads_link_on j i k e f apart (meets m) =
    subst (λ b. EdgeLetsOn e.kind (event_count event_arrives (take i j) e.processor) b (event_count event_departs (take k j) f.processor))
    (sym m.departs) (m.arrives, m.episode)

-- the event e at place i has an edge to another processor's event f at place k
abbrev pub LeadsTo : List Event → ℕ → ℕ → Event → Event → Type 0
LeadsTo j i k e f =
    (e.processor ≢ f.processor)
    × EdgeLetsOn e.kind (event_count event_arrives (take i j) e.processor) f.kind (event_count event_departs (take k j) f.processor)

pub leads : (j : List Event) (i k : ℕ) (e f : Event) → i < k → EventAt j i e → EventAt j k f → LeadsTo j i k e f
    → EdgeFromOther j i k
leads j i k e f lt at to x = record {
  edge = record {
    before = lt;
    from = e;
    to = f;
    from_at = at;
    to_at = to;
    link = edge_leads_on_link j i k e f f.kind refl x.1;
  };
  apart = x.0;
}

pub edge_leads_led : (j : List Event) (i k : ℕ) (e f : Event) → EventAt j i e → EventAt j k f → EdgeFromOther j i k → LeadsTo j i k e f
edge_leads_led j i k e f at to x =
    let from = event_place_same j i x.edge.from e x.edge.from_at at in
    let into = event_place_same j k x.edge.to f x.edge.to_at to in
    subst (λ (y : Event). LeadsTo j i k y f) from (subst (λ (y : Event). LeadsTo j i k x.edge.from y) into
    (x.apart, edge_leads_link_on j i k x.edge.from x.edge.to x.apart x.edge.link))

-- no count of a journal's front is past its place
pub edge_leads_count_within : (is : Kind → Bool) (j : List Event) (i p : ℕ) → i ≤ length j → event_count is (take i j) p ≤ i
edge_leads_count_within is j i p le =
    let all = count_by-le-length (λ (e : Event). (e.processor == p) && is e.kind) (take i j) in
    let long = length-take-le i j le in
    omega arith

-- one or none is at most one
pub edge_leads_one_or_none : (b : Bool) → cond b 1 0 ≤ 1
edge_leads_one_or_none true = omega arith
edge_leads_one_or_none false = omega arith

-- these are the counts of each of sixteen processors' events of some kinds before place i
pub record AreLeadingEdgeCountsBefore (is : Kind → Bool) (j : List Event) (i : ℕ) (counts : List ℕ) : Type 0 where
  pub long : length counts ≡ most_judged_processors
  pub each : (q : ℕ) → q < most_judged_processors → slice_index counts q ≡ event_count is (take i j) q

-- one place on
pub edge_leads_counts_next : {is : Kind → Bool} {j : List Event} {i : ℕ} {counts : List ℕ} (e : Event) (now : ℕ) → EventAt j i e
    → AreLeadingEdgeCountsBefore is j i counts → now ≡ slice_index counts e.processor + cond (is e.kind) 1 0
    → AreLeadingEdgeCountsBefore is j (i + 1) (slice_set counts e.processor now)
edge_leads_counts_next {is} {j} {i} {counts} e now at old set_now =
    record { long = length-set counts e.processor now ∙ old.long; each = each }
  where
    each : (q : ℕ) → q < most_judged_processors → slice_index (slice_set counts e.processor now) q ≡ event_count is (take (i + 1) j) q
    each q lt = elim (cases_eq q e.processor) [
      | inl mine ↦
          (let next = next_race_count is j i q e at in
          let long = old.long in
          let set = get_or-set_same counts e.processor now 0 (omega arith) in
          let read = ap (λ n. slice_index (slice_set counts e.processor now) n) mine in
          let was = old.each q lt in
          let same = ap (slice_index counts) mine in
          let one : cond {A = ℕ} ((e.processor == q) && is e.kind) 1 0 ≡ cond (is e.kind) 1 0 =
          rw (eq-eqb e.processor q (sym mine)) in
          omega arith)
      | inr other ↦
          (let next = next_race_count is j i q e at in
          let set = get_or-set_other counts e.processor q now 0 other in
          let was = old.each q lt in
          let none : cond {A = ℕ} ((e.processor == q) && is e.kind) 1 0 ≡ 0 =
          rw (ne_eqb e.processor q (λ x. other (sym x))) in
          omega arith)
    ]
