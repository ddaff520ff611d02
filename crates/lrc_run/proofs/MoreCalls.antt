-- What calls on a processor add to those that it has made.
use Rattle.std.proofs.Common.{ℕ, Bool, inl, inr, ◌≡◌, Option, Some, None, Result, Ok, Err, OnOk, List, [], ◌∷◌, ◌++◌, length, map, false, true, cond, refl, sym, ap, subst, subst₂, ◌∙◌, append_assoc, append-nil}
use Rattle.std.specs.Prelude.{not}
use Rattle.std.specs.Result.{result_err}
use Rattle.std.proofs.lemmas.List.{map-append}
use Rattle.std.proofs.lemmas.Option.{slice_get_within}
use Rattle.base.proofs.SlicesAndCounts.{slice_get-append_left, slice_get-last}
use Rattle.journal.specs.declared.event.Event.{Event}
use Rattle.journal.specs.declared.event.Kind.{Kind}
use Rattle.journal.specs.declared.event.Kind.TheVariants.{Load}
use Rattle.journal.specs.DidEvent.{event}
use Rattle.journal.specs.Events.{event_address}
use Rattle.journal.specs.Sizes.{Sizes}
use Rattle.journal.specs.AwaitedNext.{awaited_next}
use Rattle.lrc_script.specs.declared.script.Instruction.{Instruction}
use Rattle.lrc_script.specs.declared.script.Instruction.TheVariants.{Barrier, Cut}
use Rattle.conformance.specs.InstructionEvents.{AreEventsOfInstruction}
use Rattle.conformance.specs.Follows.{is_fetch, call_kinds, load_of}
use Rattle.conformance.proofs.FollowedCalls.{followed_call_kinds-append, followed_call_kinds-one}
use Rattle.conformance.proofs.SameTurns.InstructionKinds.{instruction_kinds_awaited_plain}
use Rattle.conformance.proofs.Instructions.{NoInstructionFetches, instructions-push, instruction_no_fetch}
use Rattle.book.specs.declared.refused.Refused.{Refused}
use Rattle.book.specs.declared.refused.Refused.TheVariants.{NoMemory, NotYet, NothingAwaited, SeatSpent}
use Rattle.cluster.specs.Copies.Local.{Local, calls}
use Rattle.cluster.specs.ProcessorCalls.{IsSameAfterProcessorCall, IsSameProcessorOfCall, IsProcessorCall, IsHandedByProcessorCall, IsProcessorCallRefusedInside}
use Rattle.cluster.specs.ClosingCalls.{IsClosedByCall}
use Rattle.cluster.specs.Entering.{EnteredAndDid, entered}
use Rattle.cluster.specs.ProcessorRefusals.{processor_refusal_is_spent, processor_refusal_is_waiting, processor_refusal_or_spent, processor_refusal_of_take}
use Rattle.cluster.specs.TakingCalls.{IsTakingCallLate, IsTakingCallDone, IsTakingCall, taking_call_added}
use Rattle.conformance.specs.CutInstructions.{HasCutInstruction}
use Rattle.conformance.specs.WantedAccess.{FetchesAreWanted}
use Rattle.conformance.proofs.WantedFetches.{wanted_fetches-append, wanted_fetch_one}
use Rattle.lrc_run.proofs.RunCuts.{run_cut_has_no_event, run_cuts_none_more, run_cuts_one_more}
use Rattle.lrc_run.specs.RunCalls.{AreRunCallsWanted, run_calls, HasRunCallsAndFetches, HasRunCallsUnless, HasRunCallsOfLoads, AreRunCallsNoted, SeesNoFewerRunCalls, AreRunCallsTried, HasRunCallsOfInstruction, IsRunCallBegun, IsRunCallUnderway, IsRunCallOfTake, HasRunCallsOfAll, HasRunCallsOfWalk}
use Rattle.lrc_run.proofs.CallsInBlock.{calls_in_block_when_empty, calls_in_block_closed, calls_in_block_none, calls_in_block_taken, calls_in_block_then}

pub sees_more_calls_same_processor : (l m n : Local) → IsSameProcessorOfCall l m → IsSameProcessorOfCall m n → IsSameProcessorOfCall l n
sees_more_calls_same_processor l m n a b = record { lock = b.lock ∙ a.lock; number = b.number ∙ a.number; sizes = b.sizes ∙ a.sizes }

-- a processor that is as it was is the same
makes_more_calls_same_none : (m n : Local) → n ≡ m → IsSameProcessorOfCall m n
makes_more_calls_same_none m n e = record {
  lock = ap (λ (x : Local). x.lock) e;
  number = ap (λ (x : Local). x.number) e;
  sizes = ap (λ (x : Local). x.sizes) e;
}

-- who has seen what it had has seen no less
pub sees_more_calls_same : (m n : Local) → n.seen ≡ m.seen → SeesNoFewerRunCalls m n
sees_more_calls_same m n e = ([], e ∙ sym (append-nil m.seen))

pub sees_more_calls_then : (l m n : Local) → SeesNoFewerRunCalls l m → SeesNoFewerRunCalls m n → SeesNoFewerRunCalls l n
sees_more_calls_then l m n a b = (a.0 ++ b.0, b.1 ∙ ap (λ es. es ++ b.0) a.1 ∙ append_assoc l.seen a.0 b.0)

-- its fetches are wanted still where its calls are as they were
pub makes_more_calls_same_wanted : (m n : Local) → IsSameProcessorOfCall m n → calls n ≡ calls m → AreRunCallsWanted m → AreRunCallsWanted n
makes_more_calls_same_wanted m n same e was = subst₂ FetchesAreWanted (sym (ap (λ (s : Sizes). s.words) same.sizes)) (sym e) was

-- and where it has some more that are
pub makes_more_calls_wanted : (m n : Local) (es : List Event) → IsSameProcessorOfCall m n → calls n ≡ calls m ++ es
    → FetchesAreWanted m.sizes.words es → AreRunCallsWanted m → AreRunCallsWanted n
makes_more_calls_wanted m n es same e more was =
    subst₂ FetchesAreWanted (sym (ap (λ (s : Sizes). s.words) same.sizes)) (sym e)
    (wanted_fetches-append m.sizes.words (calls m) es was more)

-- a processor that is as it was has made no call
pub makes_more_calls_none : (m n : Local) → n ≡ m → HasRunCallsAndFetches m n []
makes_more_calls_none m n e = record {
  same = makes_more_calls_same_none m n e;
  sees = sees_more_calls_same m n (ap (λ (x : Local). x.seen) e);
  more = ap run_calls e ∙ sym (append-nil (run_calls m));
  noted = calls_in_block_none m n (makes_more_calls_same_none m n e) (ap calls e) (ap (λ (x : Local). x.block) e);
  wanted = makes_more_calls_same_wanted m n (makes_more_calls_same_none m n e) (ap calls e);
  uncut = ap (λ (x : Local). x.own_cut) e;
}

-- nor one whose calls are as they were
pub makes_more_calls_same : (m n : Local) → IsSameProcessorOfCall m n → SeesNoFewerRunCalls m n → calls n ≡ calls m → n.block ≡ m.block
    → n.own_cut ≡ m.own_cut → HasRunCallsAndFetches m n []
makes_more_calls_same m n same sees e block uncut = record {
  same = same;
  sees = sees;
  more = ap call_kinds e ∙ sym (append-nil (run_calls m));
  noted = calls_in_block_none m n same e block;
  wanted = makes_more_calls_same_wanted m n same e;
  uncut = uncut;
}

-- one more event is one more call
pub makes_more_calls_one : (m n : Local) (k : Kind) → is_fetch k ≡ false → IsSameProcessorOfCall m n → SeesNoFewerRunCalls m n
    → AreRunCallsNoted m n (k ∷ []) → calls n ≡ calls m ++ event m.number k ∷ [] → n.own_cut ≡ m.own_cut → HasRunCallsAndFetches m n (k ∷ [])
makes_more_calls_one m n k is same sees noted e uncut = record {
  same = same;
  sees = sees;
  more = ap call_kinds e ∙ followed_call_kinds-append (calls m) (event m.number k ∷ [])
      ∙ ap (λ ks. run_calls m ++ ks) (followed_call_kinds-one (event m.number k) is);
  noted = noted;
  wanted = makes_more_calls_wanted m n (event m.number k ∷ []) same e (wanted_fetch_one m.sizes.words (event m.number k) is);
  uncut = uncut;
}

-- what was made first, and then
pub makes_more_calls_then : (l m n : Local) (xs ys : List Kind) → HasRunCallsAndFetches l m xs → HasRunCallsAndFetches m n ys → HasRunCallsAndFetches l n (xs ++ ys)
makes_more_calls_then l m n xs ys first next = record {
  same = sees_more_calls_same_processor l m n first.same next.same;
  sees = sees_more_calls_then l m n first.sees next.sees;
  more = next.more ∙ ap (λ ks. ks ++ ys) first.more ∙ append_assoc (run_calls l) xs ys;
  noted = calls_in_block_then l m n xs ys first.same first.sees next.sees first.noted next.noted;
  wanted = λ was. next.wanted (first.wanted was);
  uncut = next.uncut ∙ first.uncut;
}

-- what cuts nothing off doesn't where it may
pub makes_more_calls_but : {cuts : Type 0} {m n : Local} {kinds : List Kind} → HasRunCallsAndFetches m n kinds → HasRunCallsUnless cuts m n kinds
makes_more_calls_but makes = record {
  same = makes.same;
  sees = makes.sees;
  more = makes.more;
  noted = makes.noted;
  wanted = makes.wanted;
  uncut = λ _. makes.uncut;
}

-- what was made first, and then, where either may have cut something off
pub makes_more_calls_but_then : {A B C : Type 0} (l m n : Local) (xs ys : List Kind) → (A → C) → (B → C) → HasRunCallsUnless A l m xs
    → HasRunCallsUnless B m n ys → HasRunCallsUnless C l n (xs ++ ys)
makes_more_calls_but_then l m n xs ys one other first next = record {
  same = sees_more_calls_same_processor l m n first.same next.same;
  sees = sees_more_calls_then l m n first.sees next.sees;
  more = next.more ∙ ap (λ ks. ks ++ ys) first.more ∙ append_assoc (run_calls l) xs ys;
  noted = calls_in_block_then l m n xs ys first.same first.sees next.sees first.noted next.noted;
  wanted = λ was. next.wanted (first.wanted was);
  uncut = λ none. next.uncut (λ b. none (other b)) ∙ first.uncut (λ a. none (one a));
}

-- whoever hands its block in sees that
pub sees_more_calls_handed : (m n : Local) → IsHandedByProcessorCall m n → SeesNoFewerRunCalls m n
sees_more_calls_handed m n e = (m.block, ap (λ (x : Local). x.seen) e)

-- and whoever closes its interval, too
pub sees_more_calls_closed : (k : Kind) (m n : Local) → IsClosedByCall k m n → SeesNoFewerRunCalls m n
sees_more_calls_closed k m n e = (
  m.block ++ event m.number k ∷ [],
  ap (λ (x : Local). x.seen) e ∙ append_assoc m.seen m.block (event m.number k ∷ []),
)

-- and whoever takes sees what it took
pub sees_more_calls_taken : (m n : Local) → IsTakingCallDone m n → SeesNoFewerRunCalls m n
sees_more_calls_taken m n taken = (event m.number taken.kind ∷ [], ap (λ (x : Local). x.seen) taken.after)

-- a call that entered has seen what it found there, and what it did
pub sees_more_calls_after : {done : Local → Local → Type 0} (m n : Local) → ((a b : Local) → done a b → SeesNoFewerRunCalls a b)
    → EnteredAndDid done m n → SeesNoFewerRunCalls m n
sees_more_calls_after m n sees after =
    sees_more_calls_then m (entered m after.rest after.cut) n (after.rest, refl) (sees (entered m after.rest after.cut) n after.after)

-- and one that did nothing there what it found
pub sees_more_calls_refused : (m n : Local) → EnteredAndDid IsSameAfterProcessorCall m n → SeesNoFewerRunCalls m n
sees_more_calls_refused m n after = (after.rest, ap (λ (x : Local). x.seen) after.after.same)

-- so has each call, whatever it answers
pub sees_more_calls_entered : {first : Option Refused} {many : ℕ} {absent : Local → Type 0} {done : Local → Local → Type 0}
    {added : List Event} {m n : Local} {refused : Option Refused} → ((a b : Local) → done a b → SeesNoFewerRunCalls a b)
    → IsProcessorCall first many absent done added m n refused → SeesNoFewerRunCalls m n
sees_more_calls_entered {first} {many} {absent} {done} {added} {m} {n} {refused} sees call = by refused first refl refl
  where
    by : (r f : Option Refused) → refused ≡ r → first ≡ f → SeesNoFewerRunCalls m n
    by None f is before = sees_more_calls_after m n sees (call.ok is).0
    by (Some e) (Some x) is before = sees_more_calls_same m n (ap (λ (l : Local). l.seen) (call.outside x before).1)
    by (Some e) None is before = elim (call.err e before is) [
      | inl inside ↦ sees_more_calls_refused m n inside.entered
      | inr unmade ↦ sees_more_calls_same m n (ap (λ (l : Local). l.seen) unmade.1)
    ]

-- it is the same processor, whatever the answer
pub sees_more_calls_same_if_tried : {A : Type 0} (m n : Local) (r : Result A Refused) (kinds : A → List Kind) → AreRunCallsTried m n r kinds
    → IsSameProcessorOfCall m n
sees_more_calls_same_if_tried m n (Ok x) kinds h = h.same
sees_more_calls_same_if_tried m n (Err e) kinds h = h.same

-- a call that closes the interval was made, the block is handed in, and what comes next is awaited
pub makes_more_calls_closing : {A : Type 0} {first : Option Refused} {many : ℕ} {absent : Local → Type 0} (k : Kind)
    (m n : Local) (r : Result A Refused) {x : A} → is_fetch k ≡ false → event_address k ≡ None → r ≡ Ok x
    → IsProcessorCall first many absent (IsClosedByCall k) (event m.number k ∷ []) m n (result_err r)
    → HasRunCallsAndFetches m n (k ∷ []) × (n.block ≡ []) × (n.awaits ≡ awaited_next k)
makes_more_calls_closing {A} {first} {many} {absent} k m n r {x} plain flat is call =
    let none : result_err r ≡ None = rw is refl in
    let done = call.ok none in
    let sees = sees_more_calls_entered (λ a b. sees_more_calls_closed k a b) call in (
      makes_more_calls_one m n k plain call.same sees (calls_in_block_closed k m n flat done.0) done.2 call.uncut,
      ap (λ (l : Local). l.block) done.0.after,
      ap (λ (l : Local). l.awaits) done.0.after,
    )

-- by it an instruction is begun
pub makes_more_calls_beginning_by : (k last : Kind) (i : Instruction) (m n : Local) → AreEventsOfInstruction i (k ∷ last ∷ []) → awaited_next k ≡ Some last
    → HasRunCallsAndFetches m n (k ∷ []) × (n.block ≡ []) × (n.awaits ≡ awaited_next k) → IsRunCallBegun m n i
makes_more_calls_beginning_by k last i m n are next run_calls =
    record {
      first = k;
      last = last;
      are = are;
      waits = next;
      makes = run_calls.0;
      handed = run_calls.1;
      awaits = run_calls.2 ∙ next;
    }

-- or done
pub makes_more_calls_instruction_by : (k : Kind) (i : Instruction) (m n : Local) → AreEventsOfInstruction i (k ∷ [])
    → HasRunCallsAndFetches m n (k ∷ []) × (n.block ≡ []) × (n.awaits ≡ awaited_next k) → HasRunCallsOfInstruction m n i
makes_more_calls_instruction_by k i m n are run_calls =
    record { kinds = k ∷ []; are = are; makes = makes_more_calls_but run_calls.0; cut = λ is. absurd (run_cut_has_no_event i k [] are is) }

-- of two kinds that are no fetches the last one isn't
makes_more_calls_no_fetch_last : (first last : Kind) → NoInstructionFetches (first ∷ last ∷ []) → is_fetch last ≡ false
makes_more_calls_no_fetch_last first last none = cases (is_fetch first) (is_fetch last) refl refl none
  where
    cases : (f l : Bool) → is_fetch first ≡ f → is_fetch last ≡ l
        → cond (not f) (first ∷ cond (not l) (last ∷ []) []) (cond (not l) (last ∷ []) []) ≡ first ∷ last ∷ []
        → is_fetch last ≡ false
    cases f false ef el e = el
    cases true true ef el e = absurd (cc)
    cases false true ef el e = absurd (cc)

-- an instruction's events are no fetches, its last one too
pub makes_more_calls_last_no_fetch : (i : Instruction) (first last : Kind) → AreEventsOfInstruction i (first ∷ last ∷ []) → is_fetch last ≡ false
makes_more_calls_last_no_fetch i first last are = makes_more_calls_no_fetch_last first last (instruction_no_fetch i (first ∷ last ∷ []) are)

-- why a take is refused before it enters is never that it comes too early
sees_more_calls_take_enters : (m : Local) → processor_refusal_or_spent (processor_refusal_of_take m) m ≡ Some NotYet → ⊥
sees_more_calls_take_enters m = waits (not (processor_refusal_is_waiting m))
  where
    spent : (b : Bool) → cond b (Some SeatSpent) None ≡ Some NotYet → ⊥
    spent true e = absurd (cc)
    spent false e = absurd (cc)

    waits : (b : Bool) → processor_refusal_or_spent (cond b (Some NothingAwaited) None) m ≡ Some NotYet → ⊥
    waits true e = absurd (cc)
    waits false e = spent (processor_refusal_is_spent m) e

-- a take that comes too early entered, and left all as it found it
pub sees_more_calls_take_inside : (m n : Local) (f : Option Refused) → processor_refusal_or_spent (processor_refusal_of_take m) m ≡ f → IsTakingCall m n (Some NotYet)
    → IsProcessorCallRefusedInside 1 IsTakingCallLate m n NotYet
sees_more_calls_take_inside m n (Some x) is call =
    let out : Some NotYet ≡ Some x = (call.outside x is).0 in absurd (sees_more_calls_take_enters m (is ∙ sym out))
sees_more_calls_take_inside m n None is call = elim (call.err NotYet is refl) [
  | inl inside ↦ inside
  | inr outside ↦ absurd (let other : NotYet ≡ NoMemory = outside.0 in cc)
]

-- a take of what hasn't come
pub sees_more_calls_nothing_taken : {A : Type 0} (m n : Local) (r : Result A Refused) → r ≡ Err NotYet
    → IsTakingCall m n (result_err r) → IsRunCallOfTake m n false
sees_more_calls_nothing_taken {A} m n r is call =
    let refused = subst (λ (x : Result A Refused). IsTakingCall m n (result_err x)) is call in
    let inside = sees_more_calls_take_inside m n (processor_refusal_or_spent (processor_refusal_of_take m) m) refl refused in
    record {
      same = refused.same;
      sees = sees_more_calls_refused m n inside.entered;
      block_is = ap (λ (l : Local). l.block) inside.entered.after.same;
      yes = λ not. absurd (cc);
      noted = λ not. absurd (cc);
      no = λ not. record {
        calls_are = refused.kept (λ none. cc);
        block_is = ap (λ (l : Local). l.block) inside.entered.after.same;
        awaits_is = ap (λ (l : Local). l.awaits) inside.entered.after.same;
        late = inside.not_yet.0 refl;
      };
      uncut = refused.uncut;
    }

-- and of what has
pub sees_more_calls_taken_all : {A : Type 0} (m n : Local) (r : Result A Refused) {x : A} → r ≡ Ok x
    → IsTakingCall m n (result_err r) → IsRunCallOfTake m n true
sees_more_calls_taken_all {A} m n r {x} is call =
    let done = call.ok (rw is refl) in
    record {
      same = call.same;
      sees = sees_more_calls_entered (λ a b taken. sees_more_calls_taken a b taken) call;
      block_is = ap (λ (l : Local). l.block) done.0.after.after;
      yes = λ yes. done.2;
      noted = λ yes own. calls_in_block_taken m n done.0 own;
      no = λ no. absurd (cc);
      uncut = call.uncut;
    }

-- what was begun is done by the take that finds what it awaits, and begun still by one that doesn't
pub makes_more_calls_its_way : (l m n : Local) (i : Instruction) (taken : Bool) → IsRunCallBegun l m i → IsRunCallOfTake m n taken
    → IsRunCallUnderway l n i taken
makes_more_calls_its_way l m n i true begun took = record {
  kinds = begun.first ∷ begun.last ∷ [];
  are = begun.are;
  makes = makes_more_calls_but (makes_more_calls_then l m n (begun.first ∷ []) (begun.last ∷ []) begun.makes
      (makes_more_calls_one m n begun.last (makes_more_calls_last_no_fetch i begun.first begun.last begun.are) took.same took.sees taken last
      took.uncut));
  cut = λ is. absurd (run_cut_has_no_event i begun.first (begun.last ∷ []) begun.are is);
}
  where
    last : calls n ≡ calls m ++ event m.number begun.last ∷ []
    last = took.yes refl ∙ ap (λ ks. calls m ++ taking_call_added m.number ks) begun.awaits

    taken : AreRunCallsNoted m n (begun.last ∷ [])
    taken =
        calls_in_block_when_empty m n begun.last (instruction_kinds_awaited_plain begun.first begun.last begun.waits).1 begun.handed
        (took.block_is ∙ begun.handed)
        (λ own. took.noted refl own ∙ ap (λ ks. m.seen ++ taking_call_added m.number ks) begun.awaits)
makes_more_calls_its_way l m n i false begun took = record {
  first = begun.first;
  last = begun.last;
  are = begun.are;
  waits = begun.waits;
  makes = makes_more_calls_then l m n (begun.first ∷ []) [] begun.makes
      (makes_more_calls_same m n took.same took.sees (took.no refl).calls_are took.block_is took.uncut);
  handed = (took.no refl).block_is ∙ begun.handed;
  awaits = (took.no refl).awaits_is ∙ begun.awaits;
}

-- no instruction is done yet
pub makes_more_calls_all_none : (m n : Local) → n ≡ m → HasRunCallsOfAll m n []
makes_more_calls_all_none m n e = record {
  kinds = [];
  are = refl;
  makes = makes_more_calls_but (makes_more_calls_none m n e);
  cuts = record { number = ap (λ (x : Local). x.number) e; uncut = ap (λ (x : Local). x.own_cut) e };
}

-- more instructions have the cut still
makes_more_calls_cut_more : (is : List Instruction) (i : Instruction) → HasCutInstruction is → HasCutInstruction (is ++ i ∷ [])
makes_more_calls_cut_more is i has =
    let within = slice_get_within is has.0 Cut has.1 in
    (has.0, slice_get-append_left is (i ∷ []) has.0 within ∙ has.1)

-- and one more may be one
makes_more_calls_last_cut : (is : List Instruction) (i : Instruction) → i ≡ Cut → HasCutInstruction (is ++ i ∷ [])
makes_more_calls_last_cut is i cut = (length is, slice_get-last is i ∙ ap Some cut)

-- and one more
pub makes_more_calls_all_more : (l m n : Local) (is : List Instruction) (i : Instruction) → HasRunCallsOfAll l m is → HasRunCallsOfInstruction m n i
    → HasRunCallsOfAll l n (is ++ i ∷ [])
makes_more_calls_all_more l m n is i all one = record {
  kinds = all.kinds ++ one.kinds;
  are = instructions-push is i all.kinds one.kinds all.are one.are;
  makes = makes_more_calls_but_then l m n all.kinds one.kinds (makes_more_calls_cut_more is i) (makes_more_calls_last_cut is i) all.makes one.makes;
  cuts = run_cuts_one_more l m n is i all.cuts (record { number = one.makes.same.number; cut = one.cut; others = one.makes.uncut });
}

-- a section and then a barrier
pub makes_more_calls_walk_by : (l m n : Local) (section : List Instruction) → HasRunCallsOfAll l m section → HasRunCallsOfInstruction m n Barrier → HasRunCallsOfWalk l n section
makes_more_calls_walk_by l m n section all last = record {
  kinds = all.kinds;
  are = all.are;
  makes = let P : List Kind → Type 0 = λ ks. HasRunCallsUnless (HasCutInstruction section) l n (all.kinds ++ ks) in
      let last_cut : Barrier ≡ Cut → HasCutInstruction section = λ is. absurd (cc) in
      subst P last.are (makes_more_calls_but_then l m n all.kinds last.kinds (λ has. has) last_cut all.makes last.makes);
  cuts = run_cuts_none_more l m n section all.cuts
      (record { number = last.makes.same.number; uncut = last.makes.uncut (λ is. cc) });
}

pub makes_more_calls_walk_where : {A E : Type 0} (l m n : Local) (section : List Instruction) (r : Result A E) → HasRunCallsOfAll l m section
    → OnOk r (HasRunCallsOfInstruction m n Barrier) → OnOk r (HasRunCallsOfWalk l n section)
makes_more_calls_walk_where l m n section (Ok x) all last = makes_more_calls_walk_by l m n section all last
makes_more_calls_walk_where l m n section (Err e) all last = tt

-- one load more
pub makes_more_calls_loads_more : (l m n : Local) (words more : List (ℕ × ℕ)) (a v : ℕ) → more ≡ words ++ (a, v) ∷ [] → HasRunCallsOfLoads l m words
    → HasRunCallsAndFetches m n (Load a v ∷ []) → HasRunCallsOfLoads l n more
makes_more_calls_loads_more l m n words more a v is first next =
    subst (HasRunCallsAndFetches l n) (sym (ap (map load_of) is ∙ map-append load_of words ((a, v) ∷ [])))
    (makes_more_calls_then l m n (map load_of words) (Load a v ∷ []) first next)
