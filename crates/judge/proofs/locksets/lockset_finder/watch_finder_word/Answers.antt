use Rattle.std.proofs.Common.{slice_set, ap, ◌∙◌, arith}
use Rattle.std.specs.Prelude.{Result, Ok, Err, OnOk}
use Rattle.std.specs.Vec.{with_item}
use Rattle.base.proofs.SliceSets.{slice_get-set_same}
use Rattle.journal.specs.DidEvent.{event}
use Rattle.judge.specs.declared.locksets.watched_word.WatchedWord.{WatchedWord}
use Rattle.judge.specs.declared.sparse_table.SparseTable.{SparseTable}
use Rattle.judge.specs.SparseTables.{sparse_at, sparse_table_value}
use Rattle.judge.proofs.LongerSparseTables.{longer_sparse_others, longer_sparse_read}
use Rattle.judge.proofs.locksets.TellingLocksets.{telling_locksets_word_kept, telling_locksets_word_unkept, telling_locksets_words_noted}
use Rattle.judge.proofs.locksets.lockset_finder.watch_finder_word.Goals as goal

-- what a fact of success gives, success gives
success : {E P Q : Type 0} (r : Result (Unit {0}) E) → (P → Q) → OnOk r P → OnOk r Q
success (Ok x) f p = f p
success (Err e) f p = tt

pub note-requires-in-None : goal.note-requires-in-None
note-requires-in-None c =
    let words = c.args.words.now in
    let next = c.requires.next in
    let a = c.args.address in (
      next.0,
      a,
      next.1,
      c.new-word.ensures next.0 a next.1
          (telling_locksets_word_unkept next.0 next.1 (sparse_at words) (ap (sparse_table_value words.kept.items) c.in-None.ensures) next.3),
      next.2,
    )

pub returns-in-Some-clause-noted : goal.returns-in-Some-clause-noted
returns-in-Some-clause-noted c = success c.note.result
    (λ noted h n next kept.
    (let words = c.args.words.now in
    let a = c.args.address in
    let k = c.in-Some.place in
    let was = longer_sparse_read words a k c.index_mut.result.now c.requires.sparse c.in-Some.ensures c.index_mut.ensures.value in
    let le = c.requires.sparse.within a in
    let mark = c.in-Some.ensures in
    let written : SparseTable WatchedWord = record words { kept = with_item words.kept k c.note.new.self } in
    telling_locksets_words_noted h n a {e = event c.args.access.processor next.access.kind} (sparse_at words) (sparse_at written) next.access.does next.access.address
    (noted h a n (telling_locksets_word_kept (sparse_at words) was kept) next)
    (ap (sparse_table_value (slice_set words.kept.items k c.note.new.self)) mark
    ∙ slice_get-set_same words.kept.items k c.note.new.self (omega (arith, words.kept.ok.0)))
    (λ b other. longer_sparse_others words a b k c.note.new.self c.requires.sparse mark other) kept))
    c.note.ensures

pub returns-in_ok-note-in-None-clause-noted : goal.returns-in_ok-note-in-None-clause-noted
returns-in_ok-note-in-None-clause-noted c = success c.add.result
    (λ added h n next kept.
    (let words = c.args.words.now in
    let a = c.args.address in
    telling_locksets_words_noted h n a {e = event c.args.access.processor next.access.kind} (sparse_at words) (sparse_at c.add.new.self) next.access.does next.access.address
    (c.in_ok-note-in-None.ensures h a n
    (c.new-word.ensures h a n (telling_locksets_word_unkept h n (sparse_at words) (ap (sparse_table_value words.kept.items) c.in-None.ensures) kept)) next)
    added.now added.others kept))
    c.add.ensures.added
