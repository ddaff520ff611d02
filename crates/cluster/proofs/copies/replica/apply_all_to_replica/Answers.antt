use Rattle.std.proofs.Common.{ℕ, ◌≡◌, ◌+◌, ◌≤◌, Bool, List, [], ◌∷◌, ◌++◌, Some, length, map, take, slice_get, sum_by, subst, subst₂, sym, ap, refl, ◌∙◌, arith}
use Rattle.std.proofs.lemmas.List.Sums.{sum_by_push, sum_by-take-le}
use Rattle.std.proofs.lemmas.Grind.{elements}
use Rattle.interval.specs.SentIntervals.{SentRecord}
use Rattle.base.specs.AppliedRecords.{record_applied, records_applied}
use Rattle.base.proofs.LastWritten.{length-written}
use Rattle.page.specs.PageChanges.{PageChanges}
use Rattle.page.specs.CarriedHarvests.{CarriedHarvestFits}
use Rattle.cluster.specs.Copies.PageReplica.{page_replica_record_words}
use Rattle.cluster.proofs.copies.LoopItems.{loop_item_found_dropped, loop_item_found_taken}
use Rattle.cluster.proofs.copies.Owners.{no_owners, owners_no_marks, owner_again, owner_new}
use Rattle.cluster.proofs.copies.replica.apply_all_to_replica.Goals as goal
use Rattle.cluster.proofs.copies.replica.apply_all_to_replica.Goals.{then-not-has, else-not-has}

-- the words so far and those of the next record are within all
within : (xs : List SentRecord) (k : ℕ) (x : SentRecord) → take (k + 1) xs ≡ take k xs ++ x ∷ []
    → sum_by (λ (y : SentRecord). length (page_replica_record_words y)) (take k xs) + length (page_replica_record_words x)
    ≤ sum_by (λ (y : SentRecord). length (page_replica_record_words y)) xs
within xs k x more =
    let f : SentRecord → ℕ = λ y. length (page_replica_record_words y) in
    let push = sum_by_push f (take k xs) x in
    let le = subst (λ (ys : List SentRecord). sum_by f ys ≤ sum_by f xs) more (sum_by-take-le f xs (k + 1)) in
    omega arith

pub loop-index-init : goal.loop-index-init
loop-index-init c = record {
  long = refl;
  dirty = refl;
  access = refl;
  applied = refl;
  counted = no_owners;
  marked = rw (c.none-owners.ensures) owners_no_marks;
  some = omega arith;
  sums = refl;
}

pub apply-requires-clause-in_range : goal.apply-requires-clause-in_range
apply-requires-clause-in_range c =
    let x = c.at-sent.result.now in
    let fit =
    (c.requires.fit x (
      c.loop-index.index,
      c.at-sent.ensures,
    )).fits in
    let same : c.deref-content.result.now.words ≡ page_replica_record_words x =
    ap (λ (r : PageChanges). r.words) c.deref-content.ensures ∙ ap (λ (y : SentRecord). page_replica_record_words y) c.sent.view_is in
    subst₂ CarriedHarvestFits (sym c.loop-index.invariant.long) (sym same) fit

pub overflow_cast-words : goal.overflow_cast-words
overflow_cast-words c =
    let x = c.at-sent.result.now in
    let k = c.loop-index.index in
    let low = within c.args.missing.now.records k x (loop_item_found_taken c.args.missing.now.records k x (omega arith) c.at-sent.ensures) in
    let few = c.requires.few.words in
    let same : c.words.result.now ≡ page_replica_record_words x =
    c.words.ensures.words ∙ ap (λ (r : PageChanges). r.words) c.deref-content.ensures
    ∙ ap (λ (y : SentRecord). page_replica_record_words y) c.sent.view_is in
    rw same (omega arith)

pub overflow_add-words : goal.overflow_add-words
overflow_add-words c =
    let x = c.at-sent.result.now in
    let k = c.loop-index.index in
    let low = within c.args.missing.now.records k x (loop_item_found_taken c.args.missing.now.records k x (omega arith) c.at-sent.ensures) in
    let few = c.requires.few.words in
    let sums = c.loop-index.invariant.sums in
    let same : c.words.result.now ≡ page_replica_record_words x =
    c.words.ensures.words ∙ ap (λ (r : PageChanges). r.words) c.deref-content.ensures
    ∙ ap (λ (y : SentRecord). page_replica_record_words y) c.sent.view_is in
    rw same (omega arith)

pub has-requires : goal.has-requires
has-requires c =
    let x = c.at-sent.result.now in
    let fit =
    c.requires.fit x (
      c.loop-index.index,
      c.at-sent.ensures,
    ) in
    let small = fit.owner in
    let same = ap (λ (y : SentRecord). y.notice.owner) c.sent.view_is in
    omega arith

pub add-requires : goal.add-requires
add-requires c =
    let x = c.at-sent.result.now in
    let fit =
    c.requires.fit x (
      c.loop-index.index,
      c.at-sent.ensures,
    ) in
    let small = fit.owner in
    let same = ap (λ (y : SentRecord). y.notice.owner) c.sent.view_is in
    omega arith

pub loop-index-preserved : goal.loop-index-preserved
loop-index-preserved c =
    let x = c.at-sent.result.now in
    let k = c.loop-index.index in
    let all = c.args.missing.now.records in
    let inv = c.loop-index.invariant in
    let same : c.deref-content.result.now.words ≡ page_replica_record_words x =
    ap (λ (r : PageChanges). r.words) c.deref-content.ensures ∙ ap (λ (y : SentRecord). page_replica_record_words y) c.sent.view_is in
    let after : c.apply.new.self.words ≡ record_applied c.loop-index.page.words (page_replica_record_words x) =
    c.apply.ensures.words ∙ ap (λ (ws : List (ℕ × ℕ)). record_applied c.loop-index.page.words ws) same in
    let rest = loop_item_found_dropped all k x (omega arith) c.at-sent.ensures in
    let more = loop_item_found_taken all k x (omega arith) c.at-sent.ensures in
    let read : c.words.result.now ≡ page_replica_record_words x = c.words.ensures.words ∙ same in
    let f : SentRecord → ℕ = λ y. length (page_replica_record_words y) in
    let owned : c.sent.inside.notice.owner ≡ x.notice.owner = ap (λ (y : SentRecord). y.notice.owner) c.sent.view_is in
    let P : ℕ → Bool → Type 0 = λ q b. slice_get c.loop-index.owners q ≡ Some b in
    let long = ap length after ∙ length-written (λ (w : ℕ × ℕ). Some w) c.loop-index.page.words (page_replica_record_words x) ∙ inv.long in
    let dirty = c.apply.ensures.dirty ∙ inv.dirty in
    let access = c.apply.ensures.access ∙ inv.access in
    let applied = ap (λ (xs : List SentRecord). records_applied c.loop-index.page.words (map page_replica_record_words xs)) (sym rest)
    ∙ inv.applied in
    let sums = ap (λ n. n + f x) inv.sums ∙ sym (sum_by_push f (take k all) x) in
    elim c.if-not-has.branch [
      | then-not-has w ↦
          (let new =
          owner_new (take k all) x c.loop-index.owners c.loop-index.writers (subst₂ P owned w.if-not-has.true c.has.ensures)
          inv.marked inv.counted in
          record {
            long = long;
            dirty = dirty;
            access = access;
            applied = rw after applied;
            counted = rw (more, w.writers-is) new.1;
            marked = rw (more, w.owners-is, w.add.ensures, owned) new.0;
            some = let low = inv.some in let is = w.writers-is in omega arith;
            sums = rw (read, more) sums;
          })
      | else-not-has w ↦
          (let old =
          owner_again (take k all) x c.loop-index.owners c.loop-index.writers (subst₂ P owned w.if-not-has.false c.has.ensures)
          inv.marked inv.counted in
          record {
            long = long;
            dirty = dirty;
            access = access;
            applied = rw after applied;
            counted = rw (more, w.writers-is) old.1;
            marked = rw (more, w.owners-is) old.0;
            some = let low = inv.some in let is = w.writers-is in omega arith;
            sums = rw (read, more) sums;
          })
    ]

pub returns-clause-counts : goal.returns-clause-counts
returns-clause-counts c = grind (arith, elements)
