-- Without neighbours no beginning races.
use Rattle.std.proofs.Common.{ℕ, zero, suc, ◌≡◌, ◌+◌, ◌≤◌, List, [], ◌∷◌, ◌++◌, length, take, replicate, sym, ap, subst, ◌∙◌, append_assoc, length-append, length-take-le, le_refl, arith}
use Rattle.journal.specs.declared.event.Event.{Event}
use Rattle.journal.specs.DidEvent.{event}
use Rattle.journal.specs.Events.{EventAt}
use Rattle.journal.specs.ReplayMemory.{memory_after}
use Rattle.journal.specs.HappensBeforeEdges.{HappensBefore}
use Rattle.journal.specs.Races.{Conflict, Race, RaceFree}
use Rattle.journal.proofs.Order.EventPlacesAndCounts.{event_place_inside, event_place_same, event_place_at_end, event_place_behind}
use Rattle.journal.proofs.Order.HappensBefore.{happens_before_longer}
use Rattle.base.proofs.SlicesAndCounts.{slice_push_induction}
use Rattle.lrc_script.specs.Plan.{Plan}
use Rattle.lrc_script.specs.Lawful.{plan_addresses}
use Rattle.conformance.specs.Follows.{plan_sizes}
use Rattle.explore.specs.Prefixes.FlatBeginnings.{IsFlatBeginning}
use Rattle.explore.specs.Prefixes.PrefixLaws.{PrefixCanGoOn, PrefixHasNoNeighbours, PrefixNeighboursLaw}
use Rattle.explore.proofs.PrefixRuns.Beginnings.{prefix_beginning_next}
use Rattle.explore.proofs.PrefixRuns.Removal.Places.{removal_place_item_out}
use Rattle.explore.proofs.PrefixRuns.Removal.Follows.{IsRemovalUnneededToFollow, removal_follows_left}
use Rattle.explore.proofs.PrefixRuns.Removal.Removed.{removed_others_behind, removed_without_race, removed_is_unneeded, removed_calls_left, removed_follows_front, removed}
use Rattle.explore.proofs.PrefixRuns.Neighbours.Replies.{neighbour_replied_call, neighbour_replied_conflict_first, neighbour_replied_conflict_second, neighbour_replied_next, neighbour_replied_access_over}
use Rattle.explore.proofs.PrefixRuns.Neighbours.LastRace.{last_race_around, last_race_begins_take, last_race_of_front, RacesLast, last_race_unreached}

-- where x races with the last event e, and nothing is reached from x, the two are neighbours without x
module _ (s : Plan) (a b : List Event) (x e : Event) (last : ℕ)
    (r : RacesLast s (a ++ x ∷ (b ++ e ∷ [])) (length a) last) where
  no_neighbours_whole : (a ++ x ∷ b) ++ e ∷ [] ≡ a ++ x ∷ (b ++ e ∷ [])
  no_neighbours_whole = append_assoc a (x ∷ b) (e ∷ [])

  no_neighbours_reaches_nothing : (m : ℕ) → ¬ HappensBefore (a ++ x ∷ (b ++ e ∷ [])) (length a) m
  no_neighbours_reaches_nothing = last_race_unreached s (a ++ x ∷ (b ++ e ∷ [])) (length a) last r

  -- what comes before e, with x and without it
  no_neighbours_both : IsFlatBeginning s (a ++ x ∷ b) × PrefixCanGoOn s (a ++ x ∷ b) e.processor e.kind
  no_neighbours_both = (prefix_beginning_next s (a ++ x ∷ b) e.processor e.kind).0 (subst (IsFlatBeginning s) (sym no_neighbours_whole) r.begins)

  no_neighbours_length : length (a ++ x ∷ b) ≡ last
  no_neighbours_length =
      let long = r.long in
      let sum = length-append (a ++ x ∷ b) (e ∷ []) in
      let same = ap length no_neighbours_whole in
      omega arith

  no_neighbours_reaches_none : (m : ℕ) → ¬ HappensBefore (a ++ x ∷ b) (length a) m
  no_neighbours_reaches_none m h =
      no_neighbours_reaches_nothing m (subst (λ es. HappensBefore es (length a) m) no_neighbours_whole (happens_before_longer (a ++ x ∷ b) (e ∷ []) h))

  no_neighbours_without : IsFlatBeginning s (a ++ b)
  no_neighbours_without =
      removed s a b x
      (removed_without_race a b x no_neighbours_reaches_none (r.shorter (a ++ x ∷ b) (omega (arith, no_neighbours_length)) no_neighbours_both.0 (length a))) no_neighbours_both.0

  -- the memory then
  abbrev memory : List ℕ
  memory = memory_after (replicate (plan_addresses s) 0) (a ++ b)

  no_neighbours_first_is : r.race.first ≡ x
  no_neighbours_first_is = event_place_same (a ++ x ∷ (b ++ e ∷ [])) (length a) r.race.first x r.race.first_at (removal_place_item_out a (b ++ e ∷ []) x)

  no_neighbours_second_is : r.race.second ≡ e
  no_neighbours_second_is =
      let sum = length-append a (x ∷ b) in
      event_place_same (a ++ x ∷ (b ++ e ∷ [])) last r.race.second e r.race.second_at
      (subst (λ n. EventAt (a ++ x ∷ (b ++ e ∷ [])) n e) (sym sum ∙ no_neighbours_length)
      (event_place_behind a (x ∷ (b ++ e ∷ [])) (suc (length b)) e (event_place_at_end b e)))

  no_neighbours_conflict : Conflict x e
  no_neighbours_conflict = subst (λ y. Conflict y e) no_neighbours_first_is (subst (Conflict r.race.first) no_neighbours_second_is r.race.conflict)

  no_neighbours_unneeded_now : IsRemovalUnneededToFollow (plan_sizes s) a b x e
  no_neighbours_unneeded_now = removed_is_unneeded s a b x e no_neighbours_reaches_nothing (removed_follows_front s a (b ++ e ∷ []) x r.begins).may_follow

  no_neighbours_first_next : PrefixCanGoOn s (a ++ b) x.processor (neighbour_replied_call memory x.kind)
  no_neighbours_first_next =
      neighbour_replied_access_over s a b x.processor x.kind no_neighbours_conflict.address no_neighbours_conflict.first (removed_others_behind a b x no_neighbours_reaches_none)
      (removed_follows_front s a (b ++ e ∷ []) x r.begins)

  no_neighbours_second_next : PrefixCanGoOn s (a ++ b) e.processor (neighbour_replied_call memory e.kind)
  no_neighbours_second_next =
      neighbour_replied_next s (a ++ x ∷ b) (a ++ b) e.processor e.kind
      (removal_follows_left (plan_sizes s) a b x e no_neighbours_unneeded_now no_neighbours_both.1.may_follow)
      (removed_calls_left a b x e.processor no_neighbours_unneeded_now.apart) no_neighbours_both.1

  no_neighbours_refuted : ¬ PrefixHasNoNeighbours s
  no_neighbours_refuted none =
      none (a ++ b) x.processor e.processor (neighbour_replied_call memory x.kind) (neighbour_replied_call memory e.kind)
      ((prefix_beginning_next s (a ++ b) x.processor (neighbour_replied_call memory x.kind)).1 (no_neighbours_without, no_neighbours_first_next))
      ((prefix_beginning_next s (a ++ b) e.processor (neighbour_replied_call memory e.kind)).1 (no_neighbours_without, no_neighbours_second_next)) no_neighbours_unneeded_now.apart
      (neighbour_replied_conflict_first (event e.processor (neighbour_replied_call memory e.kind)) x.processor memory x.kind
      (neighbour_replied_conflict_second x e.processor memory e.kind no_neighbours_conflict))

-- a last race, of x with what is behind it
no_neighbours_last_race : (s : Plan) (a b : List Event) (x : Event) (last : ℕ) → PrefixHasNoNeighbours s
    → ¬ RacesLast s (a ++ x ∷ b) (length a) last
no_neighbours_last_race s a b x last none =
    slice_push_induction (λ es. ¬ RacesLast s (a ++ x ∷ es) (length a) last)
    (λ r. (let long = r.long in
    let sum = length-append a (x ∷ []) in
    let less = r.race.before in
    absurd (omega arith)))
    (λ es e ih r. no_neighbours_refuted s a es x e last r none) b

-- no beginning's last event races, where no shorter one does
no_neighbours_last_free : (s : Plan) (g : List Event) (last : ℕ) → PrefixHasNoNeighbours s → IsFlatBeginning s g → length g ≡ suc last
    → ((f : List Event) → length f ≤ last → IsFlatBeginning s f → RaceFree f) → (d i : ℕ) → last ≤ i + d
    → ¬ Race g i last
no_neighbours_last_free s g last none begins long shorter zero i le race = let less = race.before in absurd (omega arith)
no_neighbours_last_free s g last none begins long shorter (suc d) i le race =
    last_race_around race.first (λ xs n. ¬ RacesLast s xs n last) (λ a b. no_neighbours_last_race s a b race.first last none) g i race.first_at
    (record {
      begins = begins;
      long = long;
      shorter = shorter;
      race = race;
      later = λ m lt. no_neighbours_last_free s g last none begins long shorter d m (omega arith);
    })

-- so none up to a length does
no_neighbours_free_up_to : (s : Plan) → PrefixHasNoNeighbours s → (n : ℕ) (g : List Event) → length g ≤ n → IsFlatBeginning s g → RaceFree g
no_neighbours_free_up_to s none zero g le h i k race =
    let within = event_place_inside g k race.second race.second_at in absurd (omega arith)
no_neighbours_free_up_to s none (suc n) g le h i k race =
    let within = event_place_inside g k race.second race.second_at in
    no_neighbours_last_free s (take (suc k) g) k none (last_race_begins_take s g (suc k) h) (length-take-le (suc k) g (omega arith))
    (λ f no_neighbours_length begins. no_neighbours_free_up_to s none n f (omega arith) begins) k i (omega arith) (last_race_of_front g i k race)

pub no_neighbours_law : PrefixNeighboursLaw
no_neighbours_law s none g h = no_neighbours_free_up_to s none (length g) g (le_refl (length g)) h
