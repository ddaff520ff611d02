-- What gets into a processor's open block, and with that into the history, where it sees nothing of others meanwhile.
use Rattle.std.proofs.Common.{ℕ, zero, suc, ◌≡◌, ◌≢◌, ◌<◌, ◌≤◌, ◌+◌, Bool, true, false, cond, Some, None, List, [], ◌∷◌, ◌++◌, length, map, take, slice_get, eq-eqb, ne_eqb, refl, sym, ap, ap₂, subst, subst₂, ◌∙◌, append_assoc, append-nil}
use Rattle.std.specs.Prelude.{◌==◌, nat_lt}
use Rattle.std.proofs.lemmas.Bool.{lt-ltb, le-ltb}
use Rattle.std.proofs.lemmas.List.{append_cancel_left, append_cancel_right, length-map, map-append}
use Rattle.std.proofs.lemmas.List.Elements.{filter-append}
use Rattle.std.proofs.lemmas.Option.{none-some, same_Some, slice_get_within}
use Rattle.std.proofs.Math.Seq.{take-append_seam}
use Rattle.base.proofs.SlicesAndCounts.{slice_get-append_left, slice_get-append_right, slice_get-last}
use Rattle.base.specs.Limits.{most_in_block}
use Rattle.journal.specs.declared.event.Event.{Event}
use Rattle.journal.specs.declared.event.Kind.{Kind}
use Rattle.journal.specs.declared.event.Kind.TheVariants.{Fetch}
use Rattle.journal.specs.BroughtCopy.{BroughtCopyHasNoGap}
use Rattle.journal.specs.DidEvent.{event}
use Rattle.journal.specs.Events.{EventAt, event_address, events_of}
use Rattle.journal.specs.PageImages.{GapCounts}
use Rattle.journal.specs.WellFormed.{Does}
use Rattle.conformance.specs.OpenBlocks.{OpenBlockNotesAll, open_block_handed_in, open_block_noted, open_block}
use Rattle.conformance.proofs.OpenBlockCalls.{open_block_calls-append, open_block_calls_plain}
use Rattle.cluster.specs.Copies.Local.{Local, calls}
use Rattle.cluster.specs.ProcessorCalls.{IsHandedByProcessorCall, IsSameProcessorOfCall}
use Rattle.cluster.specs.ClosingCalls.{IsClosedByCall}
use Rattle.cluster.specs.Covers.{IsCoveredAlone}
use Rattle.cluster.specs.Entering.{EnteredAndDid}
use Rattle.cluster.specs.ProcessorRefusals.{processor_refusal_has_valid}
use Rattle.cluster.specs.TakingCalls.{IsTakingCallDone, taking_call_added}
use Rattle.lrc_run.specs.RunCalls.{AreRunCallsItsOwn, AreRunCallsNoted, SeesNoFewerRunCalls, SeesOwnRunCalls, run_calls_open}

-- it is the same processor, has just these calls besides, and has cut nothing off
pub record HasRunCallsBesides (old new : Local) (kinds : List Kind) : Type 0 where
  pub same : IsSameProcessorOfCall old new
  pub sees : SeesNoFewerRunCalls old new
  pub calls_are : calls new ≡ calls old ++ map (event old.number) kinds
  pub uncut : new.own_cut ≡ old.own_cut

-- what it has seen, and behind that its open block, if it handed that in
abbrev pub calls_in_block_handed_in : Local → List Event
calls_in_block_handed_in m = open_block_handed_in m.number (run_calls_open m)

-- it has just this call besides, noted in its block if it has seen nothing of others since
pub record IsCallInBlockNoted (old new : Local) (k : Kind) : Type 0 where
  pub adds : HasRunCallsBesides old new (k ∷ [])
  pub noted : SeesOwnRunCalls old new → run_calls_open new ≡ open_block_noted old.number k (run_calls_open old)

-- where nothing stands there is nothing
pub calls_in_block_empty : (es : List Event) → ((k : ℕ) (e : Event) → EventAt es k e → ⊥) → es ≡ []
calls_in_block_empty [] none = refl
calls_in_block_empty (e ∷ es) none = absurd (none zero e refl)

-- events with no part of p: the first is another's, and the others have none
calls_in_block_away_first : (x : Event) (es : List Event) (p : ℕ) → events_of (x ∷ es) p ≡ [] → x.processor ≢ p
calls_in_block_away_first x es p none is =
    let some : x ∷ events_of es p ≡ [] = rw (eq-eqb x.processor p is) at none in absurd (cc)

calls_in_block_away_rest : (x : Event) (es : List Event) (p : ℕ) → events_of (x ∷ es) p ≡ [] → events_of es p ≡ []
calls_in_block_away_rest x es p none = rw (ne_eqb x.processor p (calls_in_block_away_first x es p none)) at none

-- so all are of others
pub calls_in_block_away : (es : List Event) (p : ℕ) → events_of es p ≡ [] → (k : ℕ) (e : Event) → EventAt es k e → e.processor ≢ p
calls_in_block_away [] p none k e at = absurd (none-some e at)
calls_in_block_away (x ∷ es) p none zero e at = subst (λ (y : Event). y.processor ≢ p) (same_Some x e at) (calls_in_block_away_first x es p none)
calls_in_block_away (x ∷ es) p none (suc k) e at = calls_in_block_away es p (calls_in_block_away_rest x es p none) k e at

-- what is p's own and of others is nothing
calls_in_block_own_away : (p : ℕ) (es : List Event) → AreRunCallsItsOwn p es → ((k : ℕ) (e : Event) → EventAt es k e → e.processor ≢ p) → es ≡ []
calls_in_block_own_away p es own away = calls_in_block_empty es (λ k e at. away k e at (own k e at))

-- parts of what is p's own are
calls_in_block_own_front : (p : ℕ) (front rest : List Event) → AreRunCallsItsOwn p (front ++ rest) → AreRunCallsItsOwn p front
calls_in_block_own_front p front rest own k e at = own k e (slice_get-append_left front rest k (slice_get_within front k e at) ∙ at)

calls_in_block_own_rest : (p : ℕ) (front rest : List Event) → AreRunCallsItsOwn p (front ++ rest) → AreRunCallsItsOwn p rest
calls_in_block_own_rest p front rest own k e at = own (length front + k) e (slice_get-append_right front rest k ∙ at)

-- events of p's own are told by their kinds
pub calls_in_block_own_kinds : (p : ℕ) (es : List Event) → AreRunCallsItsOwn p es → map (event p) (map (λ (e : Event). e.kind) es) ≡ es
calls_in_block_own_kinds p [] own = refl
calls_in_block_own_kinds p (e ∷ es) own =
    ap₂ (λ (q : ℕ) (xs : List Event). event q e.kind ∷ xs) (sym (own zero e refl)) (calls_in_block_own_kinds p es (λ k f at. own (suc k) f at))

-- so a block of its own is handed in as it is
calls_in_block_handed : (m : Local) → AreRunCallsItsOwn m.number m.block → calls_in_block_handed_in m ≡ m.seen ++ m.block
calls_in_block_handed m own = ap (λ es. m.seen ++ es) (calls_in_block_own_kinds m.number m.block own)

-- whoever has seen nothing of others has in the first part of its way, and in the second
pub calls_in_block_own_split : (l m n : Local) → m.number ≡ l.number → SeesNoFewerRunCalls l m → SeesNoFewerRunCalls m n → SeesOwnRunCalls l n
    → SeesOwnRunCalls l m × SeesOwnRunCalls m n
calls_in_block_own_split l m n same a b own =
    let part : own.0 ≡ a.0 ++ b.0 =
    append_cancel_left l.seen own.0 (a.0 ++ b.0)
    (sym own.2 ∙ b.1 ∙ ap (λ es. es ++ b.0) a.1 ∙ append_assoc l.seen a.0 b.0) in
    let all = subst (AreRunCallsItsOwn l.number) part own.1 in (
      (a.0, calls_in_block_own_front l.number a.0 b.0 all, a.1),
      (b.0, subst (λ p. AreRunCallsItsOwn p b.0) (sym same) (calls_in_block_own_rest l.number a.0 b.0 all), b.1),
    )

-- what was noted first, and then
pub calls_in_block_then : (l m n : Local) (xs ys : List Kind) → IsSameProcessorOfCall l m → SeesNoFewerRunCalls l m → SeesNoFewerRunCalls m n
    → AreRunCallsNoted l m xs → AreRunCallsNoted m n ys → AreRunCallsNoted l n (xs ++ ys)
calls_in_block_then l m n xs ys same a b first next own =
    let parts = calls_in_block_own_split l m n same.number a b own in
    open_block_calls-append l.sizes l.number xs ys (run_calls_open l) (run_calls_open m) (run_calls_open n) (first parts.0)
    (subst₂ (λ s p. OpenBlockNotesAll s p ys (run_calls_open m) (run_calls_open n)) same.sizes same.number (next parts.1))

-- whoever made no call has seen nothing more, unless of others
pub calls_in_block_none_seen : (m n : Local) → IsSameProcessorOfCall m n → calls n ≡ calls m → n.block ≡ m.block → SeesOwnRunCalls m n
    → n.seen ≡ m.seen
calls_in_block_none_seen m n same e block own =
    let p = m.number in
    let one : events_of n.seen p ≡ events_of m.seen p =
    append_cancel_right (events_of n.seen p) (events_of m.seen p) m.block
    (ap₂ (λ (q : ℕ) (es : List Event). events_of n.seen q ++ es) (sym same.number) (sym block) ∙ e) in
    let none : events_of own.0 p ≡ [] =
    append_cancel_left (events_of m.seen p) (events_of own.0 p) []
    (sym (filter-append (λ (x : Event). x.processor == p) m.seen own.0) ∙ ap (λ es. events_of es p) (sym own.2) ∙ one
    ∙ sym (append-nil (events_of m.seen p))) in
    own.2 ∙ ap (λ es. m.seen ++ es) (calls_in_block_own_away p own.0 own.1 (calls_in_block_away own.0 p none)) ∙ append-nil m.seen

pub calls_in_block_none : (m n : Local) → IsSameProcessorOfCall m n → calls n ≡ calls m → n.block ≡ m.block → AreRunCallsNoted m n []
calls_in_block_none m n same e block own =
    ap₂ (λ (xs ys : List Event). open_block xs (map (λ (x : Event). x.kind) ys)) (calls_in_block_none_seen m n same e block own) block

-- nor does a look at others' events change what was noted
pub calls_in_block_seen : (l m n : Local) (kinds : List Kind) → IsSameProcessorOfCall l m → IsSameProcessorOfCall m n → SeesNoFewerRunCalls l m
    → SeesNoFewerRunCalls m n → calls n ≡ calls m → n.block ≡ m.block → AreRunCallsNoted l m kinds → AreRunCallsNoted l n kinds
calls_in_block_seen l m n kinds same on a b e block noted =
    subst (AreRunCallsNoted l n) (append-nil kinds) (calls_in_block_then l m n kinds [] same a b noted (calls_in_block_none m n on e block))

-- what a call found on entering, and did, is its own: so it found nothing, and did this
calls_in_block_found_none : (m : Local) (rest added seen : List Event) → ((k : ℕ) (e : Event) → EventAt rest k e → e.processor ≢ m.number)
    → seen ≡ (m.seen ++ rest) ++ added → (own : (part : List Event) × AreRunCallsItsOwn m.number part × (seen ≡ m.seen ++ part))
    → (seen ≡ m.seen ++ added) × AreRunCallsItsOwn m.number added
calls_in_block_found_none m rest added seen away is own =
    let part : own.0 ≡ rest ++ added =
    append_cancel_left m.seen own.0 (rest ++ added) (sym own.2 ∙ is ∙ append_assoc m.seen rest added) in
    let all = subst (AreRunCallsItsOwn m.number) part own.1 in
    let none = calls_in_block_own_away m.number rest (calls_in_block_own_front m.number rest added all) away in (
      is ∙ ap (λ es. es ++ added) (ap (λ es. m.seen ++ es) none ∙ append-nil m.seen),
      calls_in_block_own_rest m.number rest added all,
    )

-- a call that closes the interval is noted so
pub calls_in_block_closed : (k : Kind) (m n : Local) → event_address k ≡ None → EnteredAndDid (IsClosedByCall k) m n → AreRunCallsNoted m n (k ∷ [])
calls_in_block_closed k m n plain after own =
    let found = calls_in_block_found_none m after.rest (m.block ++ event m.number k ∷ []) n.seen after.away
    (ap (λ (x : Local). x.seen) after.after ∙ append_assoc (m.seen ++ after.rest) m.block (event m.number k ∷ [])) own in
    let mine = calls_in_block_own_front m.number m.block (event m.number k ∷ []) found.1 in
    open_block_calls_plain m.sizes m.number k (run_calls_open m) (run_calls_open n) plain
    (ap₂ (λ (xs ys : List Event). open_block xs (map (λ (x : Event). x.kind) ys))
    (found.0 ∙ sym (append_assoc m.seen m.block (event m.number k ∷ []))
    ∙ ap (λ es. es ++ event m.number k ∷ []) (sym (calls_in_block_handed m mine)))
    (ap (λ (x : Local). x.block) after.after))

-- and a take
pub calls_in_block_taken : (m n : Local) → EnteredAndDid IsTakingCallDone m n → SeesOwnRunCalls m n
    → n.seen ≡ m.seen ++ taking_call_added m.number m.awaits
calls_in_block_taken m n after own =
    (calls_in_block_found_none m after.rest (event m.number after.after.kind ∷ []) n.seen after.away
    (ap (λ (x : Local). x.seen) after.after.after) own).0
    ∙ ap (λ o. m.seen ++ taking_call_added m.number o) (sym after.after.waits)

-- the kinds of its open block
abbrev kinds_of_calls_in_block : Local → List Kind
kinds_of_calls_in_block m = map (λ (e : Event). e.kind) m.block

-- one more in the block, by whether there is room
calls_in_block_by_room : (m : Local) (k : Kind) (b : Bool) → nat_lt (length m.block) most_in_block ≡ b
    → cond b (open_block m.seen (kinds_of_calls_in_block m ++ k ∷ [])) (open_block (calls_in_block_handed_in m) (k ∷ []))
    ≡ open_block_noted m.number k (run_calls_open m)
calls_in_block_by_room m k b is =
    ap (λ c. cond c (open_block m.seen (kinds_of_calls_in_block m ++ k ∷ [])) (open_block (calls_in_block_handed_in m) (k ∷ [])))
    (sym (ap (λ i. nat_lt i most_in_block) (length-map m.block (λ (e : Event). e.kind)) ∙ is))

-- if there is room
pub calls_in_block_roomy : (m n : Local) (k : Kind) → HasRunCallsBesides m n (k ∷ []) → n.seen ≡ m.seen → n.block ≡ m.block ++ event m.number k ∷ []
    → length m.block < most_in_block → IsCallInBlockNoted m n k
calls_in_block_roomy m n k adds seen block room = record {
  adds = adds;
  noted = λ own.
      ap₂ (λ (xs ys : List Event). open_block xs (map (λ (x : Event). x.kind) ys)) seen block
      ∙ ap (open_block m.seen) (map-append (λ (x : Event). x.kind) m.block (event m.number k ∷ []))
      ∙ calls_in_block_by_room m k true (lt-ltb (length m.block) most_in_block room);
}

-- what a block is after it was handed in, if it has seen nothing of others
calls_in_block_flushed : (m x : Local) → EnteredAndDid IsHandedByProcessorCall m x → SeesOwnRunCalls m x → x.seen ≡ calls_in_block_handed_in m
calls_in_block_flushed m x after own =
    let found = calls_in_block_found_none m after.rest m.block x.seen after.away (ap (λ (l : Local). l.seen) after.after) own in
    found.0 ∙ sym (calls_in_block_handed m found.1)

-- and if there is none, behind the block that is handed in
pub calls_in_block_after_flush : (m x n : Local) (k : Kind) → HasRunCallsBesides m n (k ∷ []) → EnteredAndDid IsHandedByProcessorCall m x
    → n.seen ≡ x.seen → n.block ≡ x.block ++ event x.number k ∷ [] → most_in_block ≤ length m.block → IsCallInBlockNoted m n k
calls_in_block_after_flush m x n k adds after seen block full = record {
  adds = adds;
  noted = λ own.
      ap₂ (λ (xs ys : List Event). open_block xs (map (λ (e : Event). e.kind) ys))
      (seen ∙ calls_in_block_flushed m x after (own.0, own.1, sym seen ∙ own.2))
      (block ∙ ap (λ es. es ++ event x.number k ∷ []) (ap (λ (l : Local). l.block) after.after))
      ∙ calls_in_block_by_room m k false (le-ltb (length m.block) most_in_block full);
}

-- a valid copy lacks nothing, and another one something
pub calls_in_block_valid : (m : Local) (page : ℕ) → IsCoveredAlone m → processor_refusal_has_valid m page ≡ true
    → BroughtCopyHasNoGap m.sizes (calls_in_block_handed_in m) m.number page
calls_in_block_valid m page knows valid =
    subst (λ es. BroughtCopyHasNoGap m.sizes es m.number page) (sym (calls_in_block_handed m knows.own)) (knows.valid page valid)

pub calls_in_block_stale : (m : Local) (page : ℕ) → IsCoveredAlone m → page < m.sizes.pages → processor_refusal_has_valid m page ≡ false
    → ¬ BroughtCopyHasNoGap m.sizes (calls_in_block_handed_in m) m.number page
calls_in_block_stale m page knows within stale =
    subst (λ es. ¬ BroughtCopyHasNoGap m.sizes es m.number page) (sym (calls_in_block_handed m knows.own)) (knows.stale page within stale)

-- the processor is as it was, with one more call in its block, and maybe other copies
pub record IsJustCallInBlock (m n : Local) (k : Kind) : Type 0 where
  pub sizes : n.sizes ≡ m.sizes
  pub number : n.number ≡ m.number
  pub seen : n.seen ≡ m.seen
  pub block : n.block ≡ m.block ++ event m.number k ∷ []

calls_in_block_own_before : (m n : Local) (k : Kind) → IsJustCallInBlock m n k → IsCoveredAlone n → AreRunCallsItsOwn m.number m.block
calls_in_block_own_before m n k just knows =
    calls_in_block_own_front m.number m.block (event m.number k ∷ [])
    (subst₂ AreRunCallsItsOwn just.number just.block knows.own)

-- its fetch counts what was missing
pub calls_in_block_counted : (m n : Local) (page w r d : ℕ) → IsJustCallInBlock m n (Fetch w page r d) → IsCoveredAlone n
    → GapCounts m.sizes (calls_in_block_handed_in m) m.number page w r d
calls_in_block_counted m n page w r d just knows =
    subst (λ es. GapCounts m.sizes es m.number page w r d) (sym (calls_in_block_handed m (calls_in_block_own_before m n (Fetch w page r d) just knows)))
    (subst (λ es. GapCounts m.sizes es m.number page w r d)
    (ap₂ (λ (xs ys : List Event). xs ++ take (length m.block) ys) just.seen just.block
    ∙ ap (λ es. m.seen ++ es) (take-append_seam m.block (event m.number (Fetch w page r d) ∷ [])))
    (subst₂ (λ s p. GapCounts s (n.seen ++ take (length m.block) n.block) p page w r d) just.sizes just.number
    (knows.counted (length m.block) page w r d at)))
  where
    at : Does n.block (length m.block) n.number (Fetch w page r d)
    at =
        ap (λ es. slice_get es (length m.block)) just.block ∙ slice_get-last m.block (event m.number (Fetch w page r d))
        ∙ ap (λ p. Some (event p (Fetch w page r d))) (sym just.number)

-- and so it does after a flush
pub calls_in_block_counted_after_flush : (m x n : Local) (page w r d : ℕ) → EnteredAndDid IsHandedByProcessorCall m x → IsSameProcessorOfCall m x
    → IsJustCallInBlock x n (Fetch w page r d) → IsCoveredAlone n → SeesOwnRunCalls m n
    → GapCounts m.sizes (calls_in_block_handed_in m) m.number page w r d
calls_in_block_counted_after_flush m x n page w r d after same just knows own =
    let seen = calls_in_block_flushed m x after (own.0, own.1, sym just.seen ∙ own.2) in
    let none = ap (λ (l : Local). l.block) after.after in
    let handed : calls_in_block_handed_in x ≡ calls_in_block_handed_in m =
    ap₂ (λ (xs ys : List Event). xs ++ map (event x.number) (map (λ (e : Event). e.kind) ys)) seen none ∙ append-nil (calls_in_block_handed_in m) in
    subst₂ (λ s p. GapCounts s (calls_in_block_handed_in m) p page w r d) same.sizes same.number
    (subst (λ es. GapCounts x.sizes es x.number page w r d) handed (calls_in_block_counted x n page w r d just knows))

-- a take behind an empty block
pub calls_in_block_when_empty : (m n : Local) (k : Kind) → event_address k ≡ None → m.block ≡ [] → n.block ≡ []
    → (SeesOwnRunCalls m n → n.seen ≡ m.seen ++ event m.number k ∷ []) → AreRunCallsNoted m n (k ∷ [])
calls_in_block_when_empty m n k plain none still taken own =
    let handed : calls_in_block_handed_in m ≡ m.seen =
    ap (λ es. m.seen ++ map (event m.number) (map (λ (e : Event). e.kind) es)) none ∙ append-nil m.seen in
    open_block_calls_plain m.sizes m.number k (run_calls_open m) (run_calls_open n) plain
    (ap₂ (λ (xs ys : List Event). open_block xs (map (λ (x : Event). x.kind) ys))
    (taken own ∙ ap (λ es. es ++ event m.number k ∷ []) (sym handed)) still)
