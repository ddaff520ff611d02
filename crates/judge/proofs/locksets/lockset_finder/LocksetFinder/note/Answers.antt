use Rattle.std.proofs.Common.{◌≡◌, ℕ, ◌<◌, ◌++◌, ◌∷◌, [], List, inl, inr, length, vec_len, subst, sym, ap, ◌∙◌, arith, length-append}
use Rattle.std.specs.Prelude.{Result, Ok, Err, OnOk}
use Rattle.std.proofs.lemmas.List.{map-append}
use Rattle.base.proofs.SlicesAndCounts.{slice_push_cases}
use Rattle.journal.specs.declared.event.Event.{Event}
use Rattle.journal.specs.EventsInRange.{EventProcessorsInRange}
use Rattle.judge.specs.declared.cuts.Cuts.{Cuts}
use Rattle.judge.specs.declared.locksets.lockset_finder.LocksetFinder.{LocksetFinder}
use Rattle.judge.specs.Cuts.{AreCuts}
use Rattle.judge.specs.SparseTables.{IsSparseFor, sparse_at}
use Rattle.judge.specs.Locksets.KeptLocksets.{AreKeptLocksetsOfAll, AreKeptLocksetWords}
use Rattle.judge.specs.Locksets.Unlocked.{unlocked_event, unlocked_history}
use Rattle.judge.proofs.LongerSparseTables.{longer_sparse_next}
use Rattle.judge.proofs.VecItems.{vec_items_written}
use Rattle.judge.proofs.locksets.TellingLocksets.{telling_locksets_begins}
use Rattle.judge.proofs.locksets.WithoutLocks.{without_locks_range}
use Rattle.judge.proofs.locksets.lockset_finder.LocksetFinder.note.Goals as goal

-- what a fact of success gives, success gives
success : {E P Q : Type 0} (r : Result (Unit {0}) E) → (P → Q) → OnOk r P → OnOk r Q
success (Ok x) f p = f p
success (Err e) f p = tt

-- one event more of a processor that there is
in_range : (n : ℕ) (j : List Event) (e : Event) → e.processor < n → EventProcessorsInRange n j → EventProcessorsInRange n (j ++ e ∷ [])
in_range n j e lt range i f at = elim (slice_push_cases j e i f at) [
  | inl old ↦ range i f old.1
  | inr new ↦ subst (λ (x : Event). x.processor < n) new.1 lt
]

pub returns-clause-tells : goal.returns-clause-tells
returns-clause-tells c = success c.note.result
    (λ noted j tells.
    (let x = c.args.self.now in
    let y = c.watch.new.self in
    let e = c.args.event in
    let watched = c.in_ok-watch.ensures in
    let cuts : y.cuts ≡ x.cuts = ap (λ (z : LocksetFinder). z.cuts) watched.rest in
    let present = ap (λ (z : Cuts). z.present) cuts in
    let same = c.note.ensures.present ∙ present in
    let long = length-append j (e ∷ []) in
    let locks = c.in_ok-update_finder_locks.ensures in
    record {
      cuts = subst (λ xs. AreCuts xs c.note.new.self) (sym (map-append unlocked_event j (e ∷ [])))
          (subst (λ (f : Event). AreCuts (unlocked_history j ++ f ∷ []) c.note.new.self) c.unlocked_event.ensures
          (noted (unlocked_history j) (subst (AreCuts (unlocked_history j)) (sym cuts) tells.cuts)
          (subst (λ n. EventProcessorsInRange n (unlocked_history j)) (sym present) (without_locks_range x.cuts.present j tells.processors))));
      processors = subst (λ n. EventProcessorsInRange n (j ++ e ∷ [])) (sym same)
          (in_range x.cuts.present j e c.requires.processor tells.processors);
      held = subst (AreKeptLocksetsOfAll (j ++ e ∷ []))
          (sym (vec_items_written c.update_finder_locks.new.held _ y.held.len (locks.long ∙ c.deref_mut.ensures.len)))
          (locks.locks j (subst (AreKeptLocksetsOfAll j)
          (sym (c.deref_mut.ensures.value ∙ ap (λ (z : LocksetFinder). z.held.items) watched.rest)) tells.held));
      sets = ap (λ (z : LocksetFinder). vec_len z.held) watched.rest ∙ (tells.sets ∙ sym same);
      words = λ h begins. subst (λ n. AreKeptLocksetWords h n (sparse_at y.words)) (let sum = long in omega arith)
          (watched.words h j tells (telling_locksets_begins h j e begins));
      sparse = subst (λ n. IsSparseFor n (length (j ++ e ∷ [])) y.words) (sym (ap (λ (z : LocksetFinder). z.addresses) watched.rest))
          (longer_sparse_next j e x.words y.words watched.sparse watched.room watched.few tells.sparse);
    }))
    c.note.ensures.cuts
