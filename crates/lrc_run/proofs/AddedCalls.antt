-- What an access adds to a processor's calls: itself, and before it maybe a fetch of its page.
use Rattle.std.proofs.Common.{ℕ, Bool, true, false, ◌≡◌, inl, inr, Option, Some, None, Result, Ok, Err, List, [], ◌∷◌, ◌++◌, length, map, refl, sym, ap, ap₂, subst, ◌∙◌, append_assoc, append-nil}
use Rattle.std.specs.Prelude.{◌/◌}
use Rattle.std.proofs.lemmas.Bool.{leb-true, leb-false}
use Rattle.std.proofs.lemmas.List.{map-append}
use Rattle.base.specs.Limits.{most_in_block}
use Rattle.journal.specs.declared.event.Kind.{Kind}
use Rattle.journal.specs.declared.event.Kind.TheVariants.{Load, Store, Fetch}
use Rattle.journal.specs.DidEvent.{event}
use Rattle.journal.specs.Events.{event_address, events_of}
use Rattle.journal.specs.PageImages.{GapCounts}
use Rattle.conformance.specs.Follows.{is_fetch, call_kinds}
use Rattle.conformance.specs.OpenBlocks.{OpenBlockNotesAt, IsFetchDueForOpenBlock, OpenBlock, open_block_noted}
use Rattle.conformance.specs.WantedAccess.{IsWantedAccess}
use Rattle.conformance.proofs.FollowedCalls.{followed_call_kinds-append, followed_call_kinds-one}
use Rattle.conformance.proofs.WantedFetches.{wanted_fetch_and_access}
use Rattle.book.specs.declared.refused.Refused.{Refused}
use Rattle.cluster.specs.Copies.Local.{Local, calls, local_noted}
use Rattle.cluster.specs.Copies.PageReplica.{PageReplica}
use Rattle.cluster.specs.Covers.{IsCoveredAlone}
use Rattle.cluster.specs.ProcessorCalls.{IsProcessorHandingCall}
use Rattle.cluster.specs.ProcessorRefusals.{processor_refusal_block_full, processor_refusal_has_valid}
use Rattle.cluster.specs.ReadyAccess.{HasAccessRoom, IsAccessFetched, IsReadyAccess, IsReadyAccessMade, IsReadyAccessRefused}
use Rattle.cluster.specs.declared.cluster.accessing.WordAccess.{WordAccess}
use Rattle.cluster.specs.declared.cluster.accessing.WordAccess.TheVariants as access
use Rattle.cluster.specs.declared.copies.replica.MissingCounts.{MissingCounts}
use Rattle.lrc_run.specs.RunCalls.{AreRunCallsTried, HasRunCallsAndFetches, MakesNoRunCalls, SeesOwnRunCalls, run_calls_open, run_calls}
use Rattle.lrc_run.proofs.CallsInBlock.{HasRunCallsBesides, IsCallInBlockNoted, IsJustCallInBlock, calls_in_block_after_flush, calls_in_block_counted, calls_in_block_counted_after_flush, calls_in_block_handed_in, calls_in_block_own_split, calls_in_block_roomy, calls_in_block_stale, calls_in_block_valid}
use Rattle.lrc_run.proofs.MoreCalls.{makes_more_calls_one, makes_more_calls_wanted, sees_more_calls_entered, sees_more_calls_handed, sees_more_calls_same, sees_more_calls_same_processor, sees_more_calls_then}

-- a processor that is as it was has no call more
pub added_calls_none : (m n : Local) → n ≡ m → HasRunCallsBesides m n []
added_calls_none m n e = record {
  same = record {
    lock = ap (λ (x : Local). x.lock) e;
    number = ap (λ (x : Local). x.number) e;
    sizes = ap (λ (x : Local). x.sizes) e;
  };
  sees = sees_more_calls_same m n (ap (λ (x : Local). x.seen) e);
  calls_are = ap calls e ∙ sym (append-nil (calls m));
  uncut = ap (λ (x : Local). x.own_cut) e;
}

-- what it has first, and then
pub added_calls_then : (l m n : Local) (xs ys : List Kind) → HasRunCallsBesides l m xs → HasRunCallsBesides m n ys → HasRunCallsBesides l n (xs ++ ys)
added_calls_then l m n xs ys first next = record {
  same = sees_more_calls_same_processor l m n first.same next.same;
  sees = sees_more_calls_then l m n first.sees next.sees;
  calls_are = next.calls_are ∙ ap (λ es. es ++ map (event m.number) ys) first.calls_are
      ∙ append_assoc (calls l) (map (event l.number) xs) (map (event m.number) ys)
      ∙ ap (λ p. calls l ++ (map (event l.number) xs ++ map (event p) ys)) first.same.number
      ∙ ap (λ es. calls l ++ es) (sym (map-append (event l.number) xs ys));
  uncut = next.uncut ∙ first.uncut;
}

-- a flush, whatever that answers
added_calls_flushed : (m n : Local) (refused : Option Refused) → IsProcessorHandingCall m n refused → HasRunCallsBesides m n []
added_calls_flushed m n None call = record {
  same = call.same;
  sees = sees_more_calls_entered (λ a b handed. sees_more_calls_handed a b handed) call;
  calls_are = (call.ok refl).2;
  uncut = call.uncut;
}
added_calls_flushed m n (Some e) call = record {
  same = call.same;
  sees = sees_more_calls_entered (λ a b handed. sees_more_calls_handed a b handed) call;
  calls_are = call.kept (λ none. cc) ∙ sym (append-nil (calls m));
  uncut = call.uncut;
}

-- an event that it noted in its block by itself
record IsOneOfAddedCalls (m n : Local) (k : Kind) : Type 0 where
  adds : HasRunCallsBesides m n (k ∷ [])
  just : IsJustCallInBlock m n k

added_calls_own : (m n : Local) (k : Kind) (copies : List PageReplica) (stored : List Bool)
    → n ≡ record (local_noted m k) { copies = copies; stored = stored } → IsOneOfAddedCalls m n k
added_calls_own m n k copies stored is = record {
  adds = record {
    same = record {
      lock = ap (λ (x : Local). x.lock) is;
      number = ap (λ (x : Local). x.number) is;
      sizes = ap (λ (x : Local). x.sizes) is;
    };
    sees = sees_more_calls_same m n (ap (λ (x : Local). x.seen) is);
    calls_are = ap calls is ∙ sym (append_assoc (events_of m.seen m.number) m.block _);
    uncut = ap (λ (x : Local). x.own_cut) is;
  };
  just = record {
    sizes = ap (λ (x : Local). x.sizes) is;
    number = ap (λ (x : Local). x.number) is;
    seen = ap (λ (x : Local). x.seen) is;
    block = ap (λ (x : Local). x.block) is;
  };
}

-- in a block that had room, or was handed in
added_calls_noted : (m x n : Local) (k : Kind) → HasAccessRoom m x → IsOneOfAddedCalls x n k → IsCallInBlockNoted m n k
added_calls_noted m x n k (inl had) one =
    subst (λ l. IsCallInBlockNoted l n k) had.1
    (calls_in_block_roomy x n k one.adds one.just.seen one.just.block
    (leb-false most_in_block (length x.block) (ap processor_refusal_block_full had.1 ∙ had.0)))
added_calls_noted m x n k (inr handed) one =
    calls_in_block_after_flush m x n k (added_calls_then m x n [] (k ∷ []) (added_calls_flushed m x None handed.1) one.adds)
    (handed.1.ok refl).0 one.just.seen one.just.block (leb-true most_in_block (length m.block) handed.0)

-- a fetch, which counts what its copy lacked if it has seen nothing of others since
record IsFetchOfAddedCalls (m : Local) (page : ℕ) (n : Local) : Type 0 where
  writers : ℕ
  records : ℕ
  words : ℕ
  one : IsCallInBlockNoted m n (Fetch writers page records words)
  counts : SeesOwnRunCalls m n → GapCounts m.sizes (calls_in_block_handed_in m) m.number page writers records words

added_calls_fetch : (m n : Local) (page : ℕ) → IsAccessFetched m page n → IsFetchOfAddedCalls m page n
added_calls_fetch m n page fetched = record {
  writers = c.writers;
  records = c.records;
  words = c.words;
  one = added_calls_noted m x n (Fetch c.writers page c.records c.words) fetched.room one;
  counts = counts fetched.room;
}
  where
    x : Local
    x = fetched.roomy

    c : MissingCounts
    c = fetched.done.counts

    one : IsOneOfAddedCalls x n (Fetch c.writers page c.records c.words)
    one = added_calls_own x n (Fetch c.writers page c.records c.words) _ x.stored fetched.done.after

    counts : HasAccessRoom m x → SeesOwnRunCalls m n
        → GapCounts m.sizes (calls_in_block_handed_in m) m.number page c.writers c.records c.words
    counts (inl had) own =
        subst (λ (l : Local). GapCounts l.sizes (calls_in_block_handed_in l) l.number page c.writers c.records c.words) had.1
        (calls_in_block_counted x n page c.writers c.records c.words one.just fetched.covers.alone)
    counts (inr handed) own =
        calls_in_block_counted_after_flush m x n page c.writers c.records c.words (handed.1.ok refl).0 handed.1.same one.just
        fetched.covers.alone own

-- the access of an address, as a script wants it
record IsAccessOfAddedCalls (m : Local) (a : ℕ) (k : Kind) : Type 0 where
  plain : is_fetch k ≡ false
  address : event_address k ≡ Some a
  wanted : IsWantedAccess m.sizes.words (a / m.sizes.words) k

-- of a copy that lacked nothing
added_calls_access : (m n : Local) (a : ℕ) (k : Kind) → IsAccessOfAddedCalls m a k → IsCoveredAlone m
    → processor_refusal_has_valid m (a / m.sizes.words) ≡ true → IsCallInBlockNoted m n k → HasRunCallsAndFetches m n (k ∷ [])
added_calls_access m n a k is knows valid noted =
    makes_more_calls_one m n k is.plain noted.adds.same noted.adds.sees
    (λ own. (
      run_calls_open n,
      subst (λ o. OpenBlockNotesAt m.sizes m.number k o (run_calls_open m) (run_calls_open n)) (sym is.address)
          (inl (calls_in_block_valid m (a / m.sizes.words) knows valid, noted.noted own)),
      refl,
    ))
    noted.adds.calls_are noted.adds.uncut

-- and after a fetch of what it lacked
added_calls_access_fetched : (l m n : Local) (a : ℕ) (k : Kind) → IsAccessOfAddedCalls l a k → IsCoveredAlone l
    → (fetched : IsAccessFetched l (a / l.sizes.words) m) → IsCallInBlockNoted m n k → HasRunCallsAndFetches l n (k ∷ [])
added_calls_access_fetched l m n a k is knows fetched access =
    let page = a / l.sizes.words in
    let f = added_calls_fetch l m page fetched in
    let fetch = Fetch f.writers page f.records f.words in
    let both = added_calls_then l m n (fetch ∷ []) (k ∷ []) f.one.adds access.adds in
    let one = event l.number fetch in
    let two = event l.number k in
    record {
      same = both.same;
      sees = both.sees;
      more = ap call_kinds both.calls_are ∙ followed_call_kinds-append (calls l) (one ∷ two ∷ [])
          ∙ ap (λ ks. run_calls l ++ ks) (followed_call_kinds-one two is.plain);
      noted = λ own.
          let parts = calls_in_block_own_split l m n f.one.adds.same.number f.one.adds.sees access.adds.sees own in
          let due : IsFetchDueForOpenBlock l.sizes (calls_in_block_handed_in l) l.number page fetch = record {
            gap =
                calls_in_block_stale l page knows (leb-false l.sizes.pages page fetched.due.within) fetched.due.stale;
            writers = f.writers;
            records = f.records;
            words = f.words;
            counts = f.counts parts.0;
            kind_is = refl;
          } in
          let noted : run_calls_open n ≡ open_block_noted l.number k (open_block_noted l.number fetch (run_calls_open l)) =
          access.noted parts.1
          ∙ ap₂ (λ (p : ℕ) (b : OpenBlock). open_block_noted p k b) f.one.adds.same.number (f.one.noted parts.0) in (
            run_calls_open n,
            subst (λ o. OpenBlockNotesAt l.sizes l.number k o (run_calls_open l) (run_calls_open n)) (sym is.address)
                (inr (fetch, due, noted)),
            refl,
          );
      wanted = makes_more_calls_wanted l n (one ∷ two ∷ []) both.same both.calls_are
          (wanted_fetch_and_access l.sizes.words page f.writers f.records f.words one two refl is.wanted);
      uncut = both.uncut;
    }

-- an access that was made, after that fetch if any
added_calls_made : (m n : Local) (a : ℕ) (x : WordAccess) (v : ℕ) (k : Kind) (made : IsReadyAccessMade m a x n v)
    → IsOneOfAddedCalls made.ready n k → IsAccessOfAddedCalls m a k → HasRunCallsAndFetches m n (k ∷ [])
added_calls_made m n a x v k made one is =
    let ready = made.is_ready in
    let knows = ready.brings.covers.alone in
    let noted = added_calls_noted ready.brought made.ready n k ready.room one in
    elim ready.brings.fetched [
      | inl same ↦ added_calls_access m n a k is knows
          (subst (λ l. processor_refusal_has_valid l (a / m.sizes.words) ≡ true) same ready.valid)
          (subst (λ l. IsCallInBlockNoted l n k) same noted)
      | inr fetched ↦ added_calls_access_fetched m ready.brought n a k is knows fetched noted
    ]

-- no call more is made
added_calls_none_made : (m n : Local) → HasRunCallsBesides m n [] → MakesNoRunCalls m n
added_calls_none_made m n adds = record {
  same = adds.same;
  none = ap call_kinds (adds.calls_are ∙ append-nil (calls m));
  uncut = adds.uncut;
}

-- an access that was refused, maybe after that fetch
pub added_calls_refused : (m n : Local) (a : ℕ) (e : Refused) → IsReadyAccessRefused m a n e → MakesNoRunCalls m n
added_calls_refused m n a e (inl at_once) = added_calls_none_made m n (added_calls_none m n at_once.1)
added_calls_refused m n a e (inr (brought, brings, full)) =
    let flushed = added_calls_flushed brought n (Some e) full.1 in
    elim brings.fetched [
      | inl same ↦ added_calls_none_made m n (added_calls_then m brought n [] [] (added_calls_none m brought same) flushed)
      | inr fetched ↦ (let f = added_calls_fetch m brought (a / m.sizes.words) fetched in
          let fetch = Fetch f.writers (a / m.sizes.words) f.records f.words in
          let both = added_calls_then m brought n (fetch ∷ []) [] f.one.adds flushed in
          record {
            same = both.same;
            none = ap call_kinds both.calls_are ∙ followed_call_kinds-append (calls m) (event m.number fetch ∷ []) ∙ append-nil (run_calls m);
            uncut = both.uncut;
          })
    ]

-- a load, by its answer
pub added_calls_load : (m n : Local) (a : ℕ) (r : Result ℕ Refused) → IsReadyAccess m a access.Load n r
    → AreRunCallsTried m n r (λ v. Load a v ∷ [])
added_calls_load m n a (Ok v) made =
    added_calls_made m n a access.Load v (Load a v) made
    (added_calls_own made.ready n (Load a v) made.ready.copies made.ready.stored made.done.1)
    (record { plain = refl; address = refl; wanted = refl })
added_calls_load m n a (Err e) refused = added_calls_refused m n a e refused

-- a store that was made
pub added_calls_store : (m n : Local) (a word v : ℕ) → IsReadyAccessMade m a (access.Store word) n v
    → HasRunCallsAndFetches m n (Store a word ∷ [])
added_calls_store m n a word v made =
    added_calls_made m n a (access.Store word) v (Store a word) made
    (added_calls_own made.ready n (Store a word) _ _ made.done.1.after)
    (record { plain = refl; address = refl; wanted = refl })
