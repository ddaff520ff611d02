-- Two accesses that may come next and conflict race where they come one after the other.
use Rattle.std.proofs.Common.{ℕ, ◌≡◌, ◌≢◌, ◌+◌, inl, inr, List, [], ◌∷◌, length, replicate, Some, sym, ap, subst, ◌∙◌, length-append, arith}
use Rattle.std.proofs.lemmas.Option.{none-some}
use Rattle.journal.specs.declared.event.Event.{Event}
use Rattle.journal.specs.declared.event.Kind.{Kind}
use Rattle.journal.specs.declared.event.Kind.TheVariants.{Release, Set}
use Rattle.journal.specs.DidEvent.{did, event}
use Rattle.journal.specs.Events.{EventAt, event_address}
use Rattle.journal.specs.ReplayMemory.{memory_after}
use Rattle.journal.specs.HappensBeforeEdges.{LetsThrough, Link, Edge, HappensBefore}
use Rattle.journal.specs.HappensBeforeEdges.Link.{same, lets, meets}
use Rattle.journal.specs.HappensBeforeEdges.HappensBefore.{edge, on}
use Rattle.journal.specs.Races.{Conflict}
use Rattle.journal.proofs.Order.EventPlacesAndCounts.{event_place_same, event_place_at_end, event_place_longer}
use Rattle.journal.proofs.Order.HappensBefore.{happens_before_goes_forward}
use Rattle.base.proofs.SlicesAndCounts.{slice_push_cases}
use Rattle.lrc_script.specs.Lawful.{plan_addresses}
use Rattle.explore.specs.Prefixes.PrefixLaws.{PrefixCanGoOn, PrefixRacingLaw}
use Rattle.explore.proofs.PrefixRuns.Beginnings.{prefix_beginning_next}
use Rattle.explore.proofs.PrefixRuns.Neighbours.Replies.{neighbour_replied_call, neighbour_replied_replyless, neighbour_replied_conflict_second, neighbour_replied_access_over}

-- an access lets nothing through
neighbour_racing_lets_none : (j k : Kind) (w : ℕ) → event_address j ≡ Some w → ¬ LetsThrough j k
neighbour_racing_lets_none (Release l) k w at h = none-some w at
neighbour_racing_lets_none (Set f) k w at h = none-some w at
neighbour_racing_lets_none _ _ w at h = h

-- nothing leads from an access to the next event, of another
neighbour_racing_without_link : (j : List Event) (i k : ℕ) (e f : Event) (w : ℕ) → event_address e.kind ≡ Some w → e.processor ≢ f.processor
    → ¬ Link j i k e f
neighbour_racing_without_link j i k e f w at apart (same s) = apart s
neighbour_racing_without_link j i k e f w at apart (lets l) = neighbour_racing_lets_none e.kind f.kind w at l
neighbour_racing_without_link j i k e f w at apart (meets m) = none-some w (sym (ap event_address m.arrives) ∙ at)

neighbour_racing_without_edge : (j : List Event) (i k : ℕ) (e f : Event) (w : ℕ) → EventAt j i e → EventAt j k f → event_address e.kind ≡ Some w
    → e.processor ≢ f.processor → ¬ Edge j i k
neighbour_racing_without_edge j i k e f w here there at apart d =
    neighbour_racing_without_link j i k e f w at apart
    (subst (λ x. Link j i k x f) (event_place_same j i d.from e d.from_at here)
    (subst (λ y. Link j i k d.from y) (event_place_same j k d.to f d.to_at there) d.link))

-- one event happens before the next by an edge alone
neighbour_racing_without_order : (j : List Event) (i : ℕ) → ¬ Edge j i (i + 1) → ¬ HappensBefore j i (i + 1)
neighbour_racing_without_order j i none h = go (i + 1) (omega arith) none h
  where
    go : (k : ℕ) → k ≡ i + 1 → ¬ Edge j i k → ¬ HappensBefore j i k
    go k is without (edge d) = without d
    go k is without (on h d) = let lt = happens_before_goes_forward j h in let less = d.before in absurd (omega arith)

pub neighbour_racing_law : PrefixRacingLaw
neighbour_racing_law s g p q a b first second apart conflict = record {
  kind = kind;
  call = neighbour_replied_replyless memory b;
  beginning = (prefix_beginning_next s (did g p a) q kind).1 (first, next);
  race = record {
    before = omega arith;
    first = event p a;
    second = event q kind;
    first_at = here;
    second_at = there;
    apart = apart;
    conflict = conflicts;
    unordered = neighbour_racing_without_order (did (did g p a) q kind) (length g)
        (neighbour_racing_without_edge (did (did g p a) q kind) (length g) (length g + 1) (event p a) (event q kind) conflict.address here
        there conflict.first apart);
  };
}
  where
    memory : List ℕ
    memory = memory_after (replicate (plan_addresses s) 0) (did g p a)

    kind : Kind
    kind = neighbour_replied_call memory b

    others : (m : ℕ) (f : Event) → EventAt (event p a ∷ []) m f → f.processor ≢ q
    others m f at is = elim (slice_push_cases [] (event p a) m f at) [
      | inl old ↦ absurd (none-some f old.1)
      | inr new ↦ apart (ap (λ (e : Event). e.processor) new.1 ∙ is)
    ]

    next : PrefixCanGoOn s (did g p a) q kind
    next = neighbour_replied_access_over s g (event p a ∷ []) q b conflict.address conflict.second others ((prefix_beginning_next s g q b).0 second).1

    here : EventAt (did (did g p a) q kind) (length g) (event p a)
    here = event_place_longer (did g p a) (event q kind ∷ []) (length g) (event p a) (event_place_at_end g (event p a))

    there : EventAt (did (did g p a) q kind) (length g + 1) (event q kind)
    there = subst (λ n. EventAt (did (did g p a) q kind) n (event q kind)) (length-append g (event p a ∷ []))
        (event_place_at_end (did g p a) (event q kind))

    conflicts : Conflict (event p a) (event q kind)
    conflicts = neighbour_replied_conflict_second (event p a) q memory b conflict
