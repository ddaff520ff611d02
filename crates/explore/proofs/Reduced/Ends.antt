-- What a reduced search looks for: hangs, what whole runs show and end with, and two next events that conflict.
use Rattle.std.proofs.Common.{ℕ, ◌≡◌, ◌≢◌, inl, inr, List, length, Some, sym, ap, subst, ◌∙◌, arith}
use Rattle.std.specs.Global.{Vec}
use Rattle.std.proofs.lemmas.Option.{slice_get_within}
use Rattle.journal.specs.declared.event.Event.{Event}
use Rattle.journal.specs.declared.event.Kind.{Kind}
use Rattle.journal.specs.DidEvent.{did, event}
use Rattle.journal.specs.Races.{Conflict}
use Rattle.lrc_script.specs.Plan.{Plan}
use Rattle.conformance.specs.Follows.{calls_of, Follows, FollowsSection}
use Rattle.explore.specs.declared.prefixes.script_call.ScriptCall.{ScriptCall}
use Rattle.explore.specs.Machines.{AreLawfulMachineSteps}
use Rattle.explore.specs.declared.outcomes.telling.OutcomeTelling.{OutcomeTelling}
use Rattle.explore.specs.OutcomeTelling.{AreOutcomeTellingReplies, outcome_telling_replies, outcome_telling_steps}
use Rattle.explore.specs.Prefixes.FlatBeginnings.{IsFlatBeginning, IsFlatBeginningHanging}
use Rattle.explore.specs.EndingWords.{HasEndingWords, IsRunEndingWithWords}
use Rattle.explore.specs.Prefixes.ScriptCalls.{script_calls_of_section, script_calls_shown_by}
use Rattle.explore.proofs.Locksets.TextGuardLaw.{text_guard_law_no_conflict}
use Rattle.explore.proofs.MachineSteps.{machine_step_next_within, machine_step_some_at}
use Rattle.explore.proofs.PrefixRuns.Beginnings.{prefix_beginning_next, prefix_beginning_whole_done}
use Rattle.explore.proofs.Reduced.SameBeginnings.{IsSameBeginning, same_beginning_other_way, same_beginning_calls, same_beginning_next}
use Rattle.explore.proofs.Reduced.Swapping.{IsCalmInReducedSwap, reduced_swapped_next_after}
use Rattle.explore.proofs.Reduced.Reaching.{IsReachingLasting, reduced_reaching_event_once}

-- a whole run can't go on
pub reduced_ends_whole : (s : Plan) (g : List Event) (p : ℕ) (k : Kind) → length s.sections ≡ s.processors → Follows s g
    → ¬ IsFlatBeginning s (did g p k)
reduced_ends_whole s g p k one follows next =
    let both = (prefix_beginning_next s g p k).0 next in
    let within = machine_step_next_within s g p k next in
    let section = machine_step_some_at s.sections p (omega arith) in
    let called = both.1.calls.next section.0 section.1 in
    let done = (prefix_beginning_whole_done s g both.0).0 follows p section.0 section.1 in
    let lt = slice_get_within (script_calls_of_section section.0 (script_calls_shown_by s p)) (length (calls_of g p)) called.step called.at in
    omega arith

reduced_ends_follows_same : (s : Plan) (g h : List Event) → IsSameBeginning s g h → Follows s g → Follows s h
reduced_ends_follows_same s g h same follows p section at =
    subst (FollowsSection section (script_calls_shown_by s p)) (same_beginning_calls s g h p same) (follows p section at)

reduced_ends_replies_same : (s : Plan) (t : OutcomeTelling) (g h : List Event) (replies : List (List ℕ)) → IsSameBeginning s g h
    → AreOutcomeTellingReplies s t g replies → AreOutcomeTellingReplies s t h replies
reduced_ends_replies_same s t g h replies same are = record {
  long = are.long;
  each = λ p lt. are.each p lt ∙ ap (λ ks. Some (outcome_telling_replies t p (outcome_telling_steps s p) 0 ks)) (same_beginning_calls s g h p same);
}

-- a hang
pub reduced_ends_hang_lasts : (s : Plan) (rows : List (Vec ScriptCall)) → IsReachingLasting s rows (IsFlatBeginningHanging s)
reduced_ends_hang_lasts s rows = record {
  shared = λ g h same begins hang. record {
    beginning = begins;
    unfinished = λ follows. hang.unfinished (reduced_ends_follows_same s h g (same_beginning_other_way s g h same) follows);
    stuck = λ p k next. hang.stuck p k (same_beginning_next s h g p k (same_beginning_other_way s g h same) hang.beginning next);
  };
  stays = λ g p k calm next hang. absurd (hang.stuck p k next);
}

-- a whole run that shows this, so far as it is told
pub record ReducedEndsShowing (s : Plan) (t : OutcomeTelling) (replies : List (List ℕ)) (g : List Event) : Type 0 where
  pub follows : Follows s g
  pub are : AreOutcomeTellingReplies s t g replies

pub reduced_ends_shows_last : (s : Plan) (t : OutcomeTelling) (rows : List (Vec ScriptCall)) (replies : List (List ℕ))
    → length s.sections ≡ s.processors → IsReachingLasting s rows (ReducedEndsShowing s t replies)
reduced_ends_shows_last s t rows replies long = record {
  shared = λ g h same begins shows. record {
    follows = reduced_ends_follows_same s g h same shows.follows;
    are = reduced_ends_replies_same s t g h replies same shows.are;
  };
  stays = λ g p k calm next shows. absurd (reduced_ends_whole s g p k long shows.follows next);
}

-- a whole run that ends with these words
pub reduced_ends_words_last : (s : Plan) (rows : List (Vec ScriptCall)) (words : List (ℕ × ℕ)) → length s.sections ≡ s.processors
    → IsReachingLasting s rows (IsRunEndingWithWords s words)
reduced_ends_words_last s rows words long = record {
  shared = λ g h same begins run. record {
    whole = record { beginning = begins; follows = reduced_ends_follows_same s g h same run.whole.follows };
    ends = subst (λ memory. HasEndingWords memory words) same.memory run.ends;
  };
  stays = λ g p k calm next run. absurd (reduced_ends_whole s g p k long run.whole.follows next);
}

-- two next events that conflict
pub record ReducedEndsInConflict (s : Plan) (g : List Event) : Type 0 where
  pub p : ℕ
  pub q : ℕ
  pub a : Kind
  pub b : Kind
  pub first : IsFlatBeginning s (did g p a)
  pub second : IsFlatBeginning s (did g q b)
  pub apart : p ≢ q
  pub conflict : Conflict (event p a) (event q b)

reduced_ends_conflict_turned : (p q : ℕ) (a b : Kind) → Conflict (event p a) (event q b) → Conflict (event q b) (event p a)
reduced_ends_conflict_turned p q a b c = record {
  address = c.address;
  first = c.second;
  second = c.first;
  stores = elim c.stores [ inl is ↦ inr is | inr is ↦ inl is ];
}

module _ (s : Plan) (rows : List (Vec ScriptCall)) (steps : AreLawfulMachineSteps s rows) (g : List Event) (r : ℕ) (k : Kind)
    (calm : IsCalmInReducedSwap rows k) (next : IsFlatBeginning s (did g r k)) where
  -- such an event conflicts with no other that may come next
  reduced_ends_no_conflict : (p : ℕ) (a : Kind) → r ≢ p → IsFlatBeginning s (did g p a) → ¬ Conflict (event r k) (event p a)
  reduced_ends_no_conflict p a apart first c = text_guard_law_no_conflict s rows steps g r p k a next first apart c (calm c.address c.first)

  -- and so is another's than those that do
  reduced_ends_others : (p q : ℕ) (a b : Kind) → p ≢ q → IsFlatBeginning s (did g p a) → IsFlatBeginning s (did g q b)
      → Conflict (event p a) (event q b) → r ≢ p
  reduced_ends_others p q a b apart first second conflict is =
      let mine = subst (λ t. IsFlatBeginning s (did g t a)) (sym is) first in
      let same = reduced_reaching_event_once s g r k a steps.lawful.but_uneven.one_each next mine in
      reduced_ends_no_conflict q b (λ other. apart (sym is ∙ other)) second
      (subst (λ c. Conflict (event r c) (event q b)) (sym same)
      (subst (λ t. Conflict (event t a) (event q b)) (sym is) conflict))

pub reduced_ends_conflict_lasts : (s : Plan) (rows : List (Vec ScriptCall)) → AreLawfulMachineSteps s rows → IsReachingLasting s rows (ReducedEndsInConflict s)
reduced_ends_conflict_lasts s rows steps = record {
  shared = λ g h same begins m. record {
    p = m.p;
    q = m.q;
    a = m.a;
    b = m.b;
    first = same_beginning_next s g h m.p m.a same begins m.first;
    second = same_beginning_next s g h m.q m.b same begins m.second;
    apart = m.apart;
    conflict = m.conflict;
  };
  stays = λ g r k calm next m.
      let one = reduced_ends_others s rows steps g r k calm next m.p m.q m.a m.b m.apart m.first m.second m.conflict in
      let two = reduced_ends_others s rows steps g r k calm next m.q m.p m.b m.a (λ is. m.apart (sym is)) m.second m.first
      (reduced_ends_conflict_turned m.p m.q m.a m.b m.conflict) in
      record {
        p = m.p;
        q = m.q;
        a = m.a;
        b = m.b;
        first = reduced_swapped_next_after s g r m.p k m.a one (reduced_ends_no_conflict s rows steps g r k calm next m.p m.a one m.first) next m.first;
        second = reduced_swapped_next_after s g r m.q k m.b two (reduced_ends_no_conflict s rows steps g r k calm next m.q m.b two m.second) next m.second;
        apart = m.apart;
        conflict = m.conflict;
      };
}
