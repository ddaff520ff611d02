use Rattle.std.proofs.Common.{◌≡◌, ℕ, ◌<◌, ◌^◌, List, Option, Some, Bool, IsTrue, false, ◌↔◌, slice_index, slice_index_or, subst, sym, refl, ◌∙◌, arith}
use Rattle.std.proofs.Math.ListN.{length-set}
use Rattle.journal.specs.declared.event.Event.{Event}
use Rattle.journal.specs.DidEvent.{did, event}
use Rattle.journal.specs.Events.{event_arrives}
use Rattle.journal.specs.WellFormed.{Holds}
use Rattle.judge.specs.FrontTells.{FrontTellsFlagSet}
use Rattle.judge.proofs.FrontNoting.{front_noting_count_small, front_noting_counts_next, front_noting_holders_next, front_noting_sets_next}
use Rattle.judge.proofs.Refusing.{refusing_lax_allowed}
use Rattle.explore.specs.KeptWaiting.{MayFollowKeptWaiting}
use Rattle.explore.specs.WaitCodes.{wait_code_holder, wait_code_nobody}
use Rattle.explore.proofs.Asked.{asked_waits_next}
use Rattle.explore.proofs.Enabled.{enabled_taking_is_awaited, enabled_only_awaited}
use Rattle.explore.proofs.WaitCodes.{wait_code_departures_next}
use Rattle.explore.proofs.AskQueue.{ask_queue_next}
use Rattle.explore.specs.declared.state.waits.Waiting.{Waiting}
use Rattle.explore.specs.declared.state.wait_code.LockHolder.{LockHolder}
use Rattle.journal.specs.declared.event.Kind.TheVariants.{Depart}
use Rattle.journal.specs.Sizes.{Sizes}
use Rattle.journal.specs.WellFormed.{WellFormedNext}
use Rattle.judge.specs.Why.{WhyWaitsFor}
use Rattle.journal.specs.declared.event.Kind.{Kind}
use Rattle.explore.proofs.state.waits.Waiting.note.Goals as goal

due_small : (x : Waiting) (p : ℕ) (k : Kind) → MayFollowKeptWaiting x p k → p < 16
due_small x p k due = let few = due.small.processors in let lt = due.may_follow.processor in omega arith

-- counts are below the number of events
arrivals_small : (x : Waiting) (p q : ℕ) (k : Kind) → MayFollowKeptWaiting x p k → slice_index x.arrivals q < 2 ^ 22
arrivals_small x p q k due =
    let is = due.tells.arrivals q in
    let le = front_noting_count_small event_arrives due.events q in
    let few = due.few in
    omega arith

-- who departs has waited for that
departs_waits : (s : Sizes) (j : List Event) (p : ℕ) (k : Kind) → WellFormedNext s j (event p k) → k ≡ Depart
    → WhyWaitsFor j p Depart
departs_waits s j p Depart may is = enabled_taking_is_awaited s j p Depart refl may.allowed
departs_waits s j p k may is = absurd cc

-- what is read is what the lemmas speak of
holder_is : (h : List Event) (l q : ℕ) (new : List LockHolder) (o : Option ℕ) → wait_code_holder (slice_index_or new l wait_code_nobody) ≡ o
    → (o ≡ Some q) ↔ Holds h q l → (wait_code_holder (slice_index_or new l wait_code_nobody) ≡ Some q) ↔ Holds h q l
holder_is h l q new o is tells = subst (λ x. (x ≡ Some q) ↔ Holds h q l) (sym is) tells

flag_is : (h : List Event) (f : ℕ) (new : List Bool) (b : Bool) → slice_index_or new f false ≡ b
    → IsTrue b ↔ FrontTellsFlagSet h f → IsTrue (slice_index_or new f false) ↔ FrontTellsFlagSet h f
flag_is h f new b is tells = subst (λ x. IsTrue x ↔ FrontTellsFlagSet h f) (sym is) tells

pub count_waiting_arrival-requires : goal.count_waiting_arrival-requires
count_waiting_arrival-requires c =
    let x = c.args.self.now in
    let p = c.args.processor in
    record {
      processor = due_small x p c.args.kind c.requires;
      room = arrivals_small x p p c.args.kind c.requires;
    }

pub hold_waiting_lock-requires : goal.hold_waiting_lock-requires
hold_waiting_lock-requires c = record {
  processor = due_small c.args.self.now c.args.processor c.args.kind c.requires;
  in_range = (c.requires.sizes, c.requires.small, c.requires.may_follow.in_range);
}

pub after-requires : goal.after-requires
after-requires c = (c.requires.sizes, c.requires.small, c.requires.may_follow.in_range)

pub set-requires : goal.set-requires
set-requires c = (c.requires.sizes, c.requires.small, c.requires.may_follow.in_range)

pub bounds-self-processor : goal.bounds-self-processor
bounds-self-processor c = due_small c.args.self.now c.args.processor c.args.kind c.requires

pub returns : goal.returns
returns c = λ s j tells may small.
    let x = c.args.self.now in
    let p = c.args.processor in
    let k = c.args.kind in
    let long = tells.long in
    record {
      long = length-set x.waits p c.after.result ∙ long;
      arrivals_long = c.count_waiting_arrival.ensures.long ∙ tells.arrivals_long;
      holders_long = c.hold_waiting_lock.ensures.long ∙ tells.holders_long;
      flags_long = c.set.ensures.long ∙ tells.flags_long;
      waits = asked_waits_next j p k x.waits c.after.result (omega arith) c.after.ensures tells.waits;
      arrivals = front_noting_counts_next event_arrives j (event p k) x.arrivals c.count_waiting_arrival.new.arrivals c.count_waiting_arrival.ensures.arrivals tells.arrivals;
      departures =
          wait_code_departures_next j p k x.waits c.after.result (omega arith) c.after.ensures
          (λ b waits. enabled_only_awaited s j p b k waits may) (departs_waits s j p k may) tells.waits tells.departures;
      holders = λ l q.
          holder_is (did j p k) l q c.hold_waiting_lock.new.holders _ (c.hold_waiting_lock.ensures.holders l)
          (front_noting_holders_next s j p k l _ (refusing_lax_allowed s j p k may.allowed) (tells.holders l) q);
      flags = λ f. flag_is (did j p k) f c.set.new.flags _ (c.set.ensures.flags f) (front_noting_sets_next j p k f _ (tells.flags f));
      asked = ask_queue_next s j p k x.asked.items c.queue_waiting.new.asked.items may small tells.asked c.in_ok-queue_waiting.ensures;
    }
