use Rattle.std.proofs.Common.{◌≡◌, ℕ, ◌+◌, ◌-◌, ◌/◌, ◌<◌, ◌≤◌, Option, Some, None, List, slice_index_or, vec_len, subst, sym, refl, ap, ◌∙◌, arith}
use Rattle.std.proofs.lemmas.Grind.{pieces, elements}
use Rattle.std.specs.Global.{Vec}
use Rattle.std.proofs.lemmas.List.{get_or_read}
use Rattle.std.specs.Option.{unwrap_or}
use Rattle.journal.specs.declared.event.Event.{Event}
use Rattle.journal.specs.declared.event.Kind.TheVariants.{Store}
use Rattle.journal.specs.DidEvent.{did}
use Rattle.journal.specs.Events.{event_count, event_closes}
use Rattle.judge.specs.declared.sparse_table.SparseTable.{SparseTable}
use Rattle.judge.specs.declared.stored_counts.StoredCounts.{StoredCounts}
use Rattle.judge.specs.declared.stored_steps.StoredStep.{StoredStep}
use Rattle.judge.specs.declared.stored_steps.StoredTotal.{StoredTotal}
use Rattle.judge.specs.FetchGaps.{FetchGapStoreAt}
use Rattle.judge.specs.GapTally.{IsGapTallyMark, gap_tally_mark_in}
use Rattle.judge.specs.SparseTables.{IsSparseWith, sparse_at, sparse_room}
use Rattle.judge.specs.StoredCounts.{AreStoredCountsOf, StoredStepAdds, stored_row}
use Rattle.judge.specs.StoredSteps.{stored_total, stored_total_next}
use Rattle.judge.proofs.FrontNoting.{front_noting_count_small}
use Rattle.judge.proofs.GapEvents.{gap_event_store_bound}
use Rattle.judge.proofs.StoredTables.{IsStoredStepKept, IsStoredWritten, stored_tables_store, stored_tables_stored}
use Rattle.judge.proofs.stored_counts.StoredCounts.store.Goals as goal

same_mark : (o : Option ℕ) → gap_tally_mark_in o ≡ unwrap_or o 0
same_mark None = refl
same_mark (Some mark) = refl

-- the mark that is read is the word's
mark_is : (words : SparseTable ℕ) (row r read : ℕ) (o : Option ℕ) → row ≡ r → o ≡ sparse_at words row → read ≡ unwrap_or o 0
    → gap_tally_mark_in (sparse_at words r) ≡ read
mark_is words row r read o same got is =
    ap (λ x. gap_tally_mark_in (sparse_at words x)) (sym same) ∙ ap gap_tally_mark_in (sym got) ∙ same_mark o ∙ sym is

-- the word was stored to in the open interval, if that is below the mark
was_stored : (j : List Event) (a q mark interval : ℕ) → IsGapTallyMark (FetchGapStoreAt j a q) mark
    → interval ≡ event_count event_closes j q → interval < mark → FetchGapStoreAt j a q (event_count event_closes j q)
was_stored j a q mark interval is same lt =
    let stored = is.last (λ none. absurd (omega (arith, none, lt))) in
    let bound = gap_event_store_bound j a q (mark - 1) stored in
    subst (FetchGapStoreAt j a q) (omega (arith, bound, same, lt)) stored

-- the count that is read is the history's
count_is : (j : List Event) (x : StoredCounts) (q read : ℕ) → AreStoredCountsOf j x → q < x.sizes.processors
    → read ≡ slice_index_or x.closed.items q read → read ≡ event_count event_closes j q
count_is j x q read tells lt is =
    let long = tells.long in
    get_or_read x.closed.items q read (omega (arith, long, x.closed.ok.0, lt)) is 0 ∙ tells.closed q lt

pub returns-then-unwrap_or-interval-clause-tells : goal.returns-then-unwrap_or-interval-clause-tells
returns-then-unwrap_or-interval-clause-tells c = λ j tells long v.
    let x = c.args.self.now in
    let q = c.args.processor in
    let a = c.args.address in
    let row = stored_row x.sizes.processors a q in
    let mark = mark_is x.words c.word_row-word.result row c.unwrap_or.result c.get.result c.word_row-word.ensures.is c.get.ensures
    c.unwrap_or.ensures in
    let marked = subst (IsGapTallyMark (FetchGapStoreAt j a q)) mark (tells.words a q c.requires.processor) in
    stored_tables_stored j x q a v (was_stored j a q c.unwrap_or.result c.index-interval.result.now marked
    (count_is j x q c.index-interval.result.now tells c.requires.processor c.index-interval.ensures) c.if-unwrap_or-interval.true) tells

-- a step was kept in this row, of this total and interval
kept : {old new : SparseTable (Vec StoredStep)} {place : ℕ} (row r : ℕ) (total t : StoredTotal) (interval k : ℕ) → row ≡ r → total ≡ t
    → interval ≡ k → StoredStepAdds old new row place total interval → sparse_room new ≡ sparse_room old
    → vec_len new.kept ≤ vec_len old.kept + 1 → IsStoredStepKept old new r place t k
kept {old = old} {new = new} {place = place} row r total t interval k first second third adds room more = record {
  adds = subst (λ x. StoredStepAdds old new x place t k) first
      (subst (λ x. StoredStepAdds old new row place x k) second
      (subst (StoredStepAdds old new row place total) third adds));
  room = room;
  more = more;
}

-- a row was written, and this is what to
written : {A : Type 0} {old new : SparseTable A} (row r : ℕ) (value x : A) → row ≡ r → value ≡ x → IsSparseWith old new row value
    → sparse_room new ≡ sparse_room old → vec_len new.kept ≤ vec_len old.kept + 1 → IsStoredWritten old new r x
written {old = old} {new = new} row r value x first second is room more = record {
  is = subst (λ z. IsSparseWith old new z x) first (subst (IsSparseWith old new row) second is);
  room = room;
  more = more;
}

pub returns-clause-tells : goal.returns-clause-tells
returns-clause-tells c = λ j tells long v.
    let x = c.args.self.now in
    let q = c.args.processor in
    let a = c.args.address in
    let k = event_count event_closes j q in
    let interval = c.index-interval.result.now in
    let number : interval ≡ k = count_is j x q interval tells c.requires.processor c.index-interval.ensures in
    let word = stored_row x.sizes.processors a q in
    let row = stored_row x.sizes.processors (a / x.sizes.words) q in
    let total = stored_total (sparse_at x.totals row) in
    let mark = mark_is x.words c.word_row-word.result word c.unwrap_or.result c.get.result c.word_row-word.ensures.is c.get.ensures
    c.unwrap_or.ensures in
    let marked = subst (IsGapTallyMark (FetchGapStoreAt j a q)) mark (tells.words a q c.requires.processor) in
    let fresh : ¬ FetchGapStoreAt j a q k =
    λ h. (let lt = marked.below k h in let le = c.if-unwrap_or-interval.false in omega (arith, lt, le, number)) in
    let is_row : c.page_row-row.result ≡ row = c.page_row-row.ensures.is in
    let is_total : c.total-total.result ≡ total = c.total-total.ensures ∙ ap (λ r. stored_total (sparse_at x.totals r)) is_row in
    let next : c.with_word.result ≡ stored_total_next total k =
    c.with_word.ensures ∙ ap (λ t. stored_total_next t interval) is_total ∙ ap (stored_total_next total) number in
    let rest = c.add_step.ensures.rest in
    let steps = c.add_step.new.self.steps in
    let totals = c.set-2.new.self in
    let words = c.set.new.self in
    let Told : StoredCounts → Type 0 = λ y. AreStoredCountsOf (did j q (Store a v)) (record y { totals = totals }) in
    let old = ap (λ (y : StoredCounts). y.totals) rest in
    let step = kept c.page_row-row.result row c.total-total.result total interval k is_row is_total number c.in_ok-is_full.ensures.adds
    c.add_step.ensures.room c.add_step.ensures.few in
    let all = subst (λ t. IsStoredWritten t totals row (stored_total_next total k)) old
    (written c.page_row-row.result row c.with_word.result (stored_total_next total k) is_row next c.in_ok-set-2.ensures.set c.set-2.ensures.room
    c.set-2.ensures.few) in
    let marks = written c.word_row-word.result word (interval + 1) (k + 1) c.word_row-word.ensures.is (ap (λ z. z + 1) number)
    c.in_ok-set.ensures.set c.set.ensures.room c.set.ensures.few in
    subst Told (sym rest) (stored_tables_store v c.requires.processor fresh long step all marks tells)

pub overflow_add-interval : goal.overflow_add-interval
overflow_add-interval c =
    let j = c.requires.tells.0 in
    let q = c.args.processor in
    let same = count_is j c.args.self.now q c.index-interval.result.now c.requires.tells.1 c.requires.processor c.index-interval.ensures in
    let few = front_noting_count_small event_closes j q in
    let long = c.requires.tells.2 in
    let place = c.requires.few in
    omega arith

pub nonzero_div-address : goal.nonzero_div-address
nonzero_div-address c = search (pieces, arith)

pub with_word-requires-clause-interval : goal.with_word-requires-clause-interval
with_word-requires-clause-interval c =
    let j = c.requires.tells.0 in
    let q = c.args.processor in
    let same = count_is j c.args.self.now q c.index-interval.result.now c.requires.tells.1 c.requires.processor c.index-interval.ensures in
    let few = front_noting_count_small event_closes j q in
    let long = c.requires.tells.2 in
    let place = c.requires.few in
    omega arith

pub with_word-requires-clause-records : goal.with_word-requires-clause-records
with_word-requires-clause-records c = grind (arith, elements)

pub with_word-requires-clause-words : goal.with_word-requires-clause-words
with_word-requires-clause-words c = grind (arith, elements)
