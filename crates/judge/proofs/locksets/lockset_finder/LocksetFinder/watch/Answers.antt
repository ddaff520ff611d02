use Rattle.std.proofs.Common.{◌≡◌, ℕ, ◌++◌, ◌∷◌, [], ◌<◌, List, length, slice_index, subst, sym, refl, ap, arith}
use Rattle.std.proofs.lemmas.List.{take_all}
use Rattle.std.specs.Prelude.{Result, Ok, Err, OnOk}
use Rattle.journal.specs.declared.event.Event.{Event}
use Rattle.journal.specs.DidEvent.{event}
use Rattle.journal.proofs.Order.EventPlacesAndCounts.{event_place_same}
use Rattle.judge.specs.CutRows.{cut_entry}
use Rattle.judge.specs.declared.locksets.lockset_finder.LocksetFinder.{LocksetFinder}
use Rattle.judge.specs.declared.locksets.watched_word.LockedAccess.{LockedAccess}
use Rattle.judge.specs.Cuts.{IsCutOf}
use Rattle.judge.specs.SparseTables.{sparse_at}
use Rattle.judge.specs.Locksets.KeptLocksets.{ComesNextToWatch, IsLocksetFinderOf}
use Rattle.judge.specs.Locksets.Unlocked.{unlocked_history}
use Rattle.judge.specs.Locksets.Watched.{IsWatchCandidate, IsWatchedNext}
use Rattle.judge.proofs.TellingCuts.{cut_of_equal, cut_of_present}
use Rattle.judge.proofs.locksets.TellingLocksets.{telling_locksets_begins, telling_locksets_words_left}
use Rattle.judge.proofs.locksets.lockset_finder.LocksetFinder.watch.Goals as goal

-- the access comes next to its word
comes_next : (x : LocksetFinder) (h j : List Event) (e : Event) (a : ℕ) (y : LockedAccess) (t : List ℕ) → IsLocksetFinderOf j x
    → ComesNextToWatch h j e → e.processor < x.cuts.present → IsWatchCandidate h a (length j) y
    → ((q : ℕ) → slice_index t q ≡ cut_entry x.cuts.processors e.processor q) → IsWatchedNext h a (length j) y (slice_index t)
comes_next x h j e a y t tells comes lt is read =
    let same : e.processor ≡ y.processor =
    ap (λ (f : Event). f.processor) (event_place_same h (length j) e (event y.processor is.kind) comes.at is.does) in
    let cut = cut_of_equal (unlocked_history j) e.processor (cut_entry x.cuts.processors e.processor) (slice_index t) (λ q. sym (read q))
    (cut_of_present tells.cuts e.processor lt) in
    record {
      access = is;
      cut = subst (λ xs. IsCutOf (unlocked_history xs) y.processor (slice_index t)) (sym comes.begins)
          (subst (λ q. IsCutOf (unlocked_history j) q (slice_index t)) same cut);
    }

-- what a fact of success gives, success gives
success : {E P Q : Type 0} (r : Result (Unit {0}) E) → (P → Q) → OnOk r P → OnOk r Q
success (Ok x) f p = f p
success (Err e) f p = tt

pub returns-in_default-clause-words : goal.returns-in_default-clause-words
returns-in_default-clause-words c = λ h j tells comes.
    telling_locksets_words_left h (length j) c.args.event (sparse_at c.args.self.now.words) comes.at c.in_default.ensures (tells.words h comes.begins)

pub watch_finder_word-requires-clause-next : goal.watch_finder_word-requires-clause-next
watch_finder_word-requires-clause-next c =
    let x = c.args.self.now in
    let j = c.requires.so_far.0 in
    let tells = c.requires.so_far.1 in
    let e = c.args.event in
    let h : List Event = j ++ e ∷ [] in
    let comes = telling_locksets_begins h j e (take_all (length h) h (omega arith)) in
    let access = c.in_ok-access.ensures h j c.in-Some.address e tells comes refl c.in-Some.ensures.0 c.in-Some.ensures.1 in (
      h,
      length j,
      comes_next x h j e c.in-Some.address c.in_ok-access.access c.of-cut.result.now tells comes c.requires.processor access c.of-cut.ensures.entries,
      tells.words h comes.begins,
    )

pub returns-clause-words : goal.returns-clause-words
returns-clause-words c = success c.watch_finder_word.result
    (λ noted h j tells comes.
    (let e = c.args.event in
    let access = c.in_ok-access.ensures h j c.in-Some.address e tells comes refl c.in-Some.ensures.0 c.in-Some.ensures.1 in
    noted h (length j)
    (comes_next c.args.self.now h j e c.in-Some.address c.in_ok-access.access c.of-cut.result.now tells comes c.requires.processor access c.of-cut.ensures.entries)
    (tells.words h comes.begins)))
    c.watch_finder_word.ensures.noted
