use Rattle.std.proofs.Common.{◌≡◌, ℕ, ◌<◌, ◌-◌, ◌^◌, [], ◌∷◌, ◌++◌, List, Option, Some, Bool, IsTrue, false, ◌↔◌, slice_index, slice_index_or, subst, sym, ap, ◌∙◌, length-append, arith}
use Rattle.std.specs.Prelude.{None}
use Rattle.journal.specs.declared.event.Event.{Event}
use Rattle.journal.specs.Events.{event_arrives, event_departs}
use Rattle.journal.specs.WellFormed.{Holds}
use Rattle.judge.specs.declared.frontier.Frontier.{Frontier}
use Rattle.judge.specs.JudgedSizes.{judged_sizes_of, most_judged_events}
use Rattle.judge.specs.FrontTells.{FrontTellsFlagSet, FrontTellsHistory, front_tells_flag_set_after, front_tells_holder_after}
use Rattle.judge.proofs.FrontNoting.{front_noting_count_small, front_noting_counts_next, front_noting_holders_next, front_noting_lasts_next, front_noting_range_next, front_noting_sets_next}
use Rattle.judge.proofs.VecItems.{vec_items_written}
use Rattle.judge.proofs.frontier.Frontier.note.Goals as goal

-- counts are below the number of events
arrivals_small : (j : List Event) (x : Frontier) (q : ℕ) → FrontTellsHistory j x → x.place < most_judged_events
    → slice_index x.arrivals.items q < 2 ^ 32 - 1
arrivals_small j x q tells few =
    let is = tells.arrivals q in
    let le = front_noting_count_small event_arrives j q in
    let long = tells.place in
    omega arith

departures_small : (j : List Event) (x : Frontier) (q : ℕ) → FrontTellsHistory j x → x.place < most_judged_events
    → slice_index x.departures.items q < 2 ^ 32 - 1
departures_small j x q tells few =
    let is = tells.departures q in
    let le = front_noting_count_small event_departs j q in
    let long = tells.place in
    omega arith

-- what is read is what the lemmas speak of
holder_is : (j : List Event) (e : Event) (l q : ℕ) (new : List (Option ℕ)) (o : Option ℕ)
    → slice_index_or new l None ≡ o → (o ≡ Some q) ↔ Holds (j ++ e ∷ []) q l
    → (slice_index_or new l None ≡ Some q) ↔ Holds (j ++ e ∷ []) q l
holder_is j e l q new o is tells = subst (λ x. (x ≡ Some q) ↔ Holds (j ++ e ∷ []) q l) (sym is) tells

flag_is : (j : List Event) (e : Event) (f : ℕ) (new : List Bool) (b : Bool) → slice_index_or new f false ≡ b
    → IsTrue b ↔ FrontTellsFlagSet (j ++ e ∷ []) f → IsTrue (slice_index_or new f false) ↔ FrontTellsFlagSet (j ++ e ∷ []) f
flag_is j e f new b is tells = subst (λ x. IsTrue x ↔ FrontTellsFlagSet (j ++ e ∷ []) f) (sym is) tells

pub update_frontier_episodes-requires : goal.update_frontier_episodes-requires
update_frontier_episodes-requires c =
    let given = c.requires.may_follow in
    record {
      arrived = (let long = given.1.long_arrivals in let lt = given.2.processor in omega arith);
      departed = (let long = given.1.long_departures in let lt = given.2.processor in omega arith);
      arrivals_room = arrivals_small given.0 c.args.self.now c.args.event.processor given.1 c.requires.few;
      departures_room = departures_small given.0 c.args.self.now c.args.event.processor given.1 c.requires.few;
    }

pub update_frontier_holders-requires : goal.update_frontier_holders-requires
update_frontier_holders-requires c =
    let given = c.requires.may_follow in
    let long = given.1.long_holders in
    let len = c.deref_mut.ensures.len in
    (judged_sizes_of c.args.self.now.sizes, omega arith, given.2.in_range)

pub set-requires : goal.set-requires
set-requires c =
    let given = c.requires.may_follow in
    let long = given.1.long_flags in
    let len = c.deref_mut-2.ensures.len in
    (judged_sizes_of c.args.self.now.sizes, omega arith, given.2.in_range)

pub index_mut-requires : goal.index_mut-requires
index_mut-requires c =
    let given = c.requires.may_follow in
    let long = given.1.long_last in
    let lt = given.2.processor in
    omega arith

pub returns-clause-tells : goal.returns-clause-tells
returns-clause-tells c = λ j tells may.
    let x = c.args.self.now in
    let e = c.args.event in
    let lt = may.processor in
    let long = tells.long_last in
    let after = c.update_frontier_episodes.ensures in
    record {
      sizes = tells.sizes;
      processors = front_noting_range_next j e x.sizes.processors tells.processors may.processor;
      place = (let was = tells.place in let now = length-append j (e ∷ []) in omega arith);
      long_last = long;
      lasts = front_noting_lasts_next j e x.last.items x.place (omega (arith, x.last.ok.0, long, lt)) tells.place tells.lasts;
      long_arrivals = after.long_arrivals ∙ tells.long_arrivals;
      long_departures = after.long_departures ∙ tells.long_departures;
      arrivals = front_noting_counts_next event_arrives j e x.arrivals.items c.update_frontier_episodes.new.arrivals.items after.arrivals tells.arrivals;
      departures =
          front_noting_counts_next event_departs j e x.departures.items c.update_frontier_episodes.new.departures.items after.departures tells.departures;
      long_holders = tells.long_holders;
      holders = λ l q. subst (λ xs. (slice_index_or xs l None ≡ Some q) ↔ Holds (j ++ e ∷ []) q l)
          (sym (vec_items_written c.update_frontier_holders.new.holders _ x.holders.len
          (c.update_frontier_holders.ensures.long ∙ c.deref_mut.ensures.len))) (
          holder_is j e l q c.update_frontier_holders.new.holders _ (c.update_frontier_holders.ensures.holders l
          ∙ ap (λ xs. front_tells_holder_after (slice_index_or xs l None) l e.processor e.kind) c.deref_mut.ensures.value)
          (front_noting_holders_next (judged_sizes_of x.sizes) j e.processor e.kind l _ may.allowed (tells.holders l) q));
      long_flags = tells.long_flags;
      flags = λ f. subst (λ xs. IsTrue (slice_index_or xs f false) ↔ FrontTellsFlagSet (j ++ e ∷ []) f)
          (sym (vec_items_written c.set.new.flags _ x.flags.len (c.set.ensures.long ∙ c.deref_mut-2.ensures.len))) (
          flag_is j e f c.set.new.flags _ (c.set.ensures.flags f
          ∙ ap (λ xs. front_tells_flag_set_after (slice_index_or xs f false) f e.kind) c.deref_mut-2.ensures.value) (front_noting_sets_next j e.processor e.kind f _ (tells.flags f)));
    }
