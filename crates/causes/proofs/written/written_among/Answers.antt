use Rattle.std.proofs.Common.{◌≡◌, ◌+◌, ◌<◌, Some, length, slice_get, slice_index_or, subst, sym, arith}
use Rattle.std.specs.Prelude.{None}
use Rattle.std.specs.Global.{Vec}
use Rattle.std.proofs.lemmas.Option.{slice_get-get_or}
use Rattle.judge.specs.Prelude.{gap_tally_place_of}
use Rattle.causes.specs.declared.written.WrittenWord.{WrittenWord}
use Rattle.causes.specs.Origins.{IsOriginIfAny}
use Rattle.causes.specs.EventWrites.{IsEventWriteOfStore}
use Rattle.causes.proofs.WrittenWords.{AreWrittenWordsBelow, written_words_end, written_word_next, written_word_none, written_word_not, written_word_now, written_word_others}
use Rattle.causes.proofs.written.written_among.Goals as goal
use Rattle.causes.proofs.written.written_among.Goals.{in-Some+in_ok-push, in_default}

pub loop-address-preserved : goal.loop-address-preserved
loop-address-preserved c =
    let words = c.args.words.now in
    let a = c.loop-address.address in
    let p = c.args.reader in
    let k = c.args.place in
    let first = c.args.range.first in
    let old = c.loop-address.invariant in
    let lt = c.loop-address-test.true in
    let o = slice_index_or words (gap_tally_place_of a p) None in
    let low = c.requires.reader in
    let long = c.requires.long in
    let within : gap_tally_place_of a p < length words = omega arith in
    let there : slice_get words (gap_tally_place_of a p) ≡ Some o = slice_get-get_or words (gap_tally_place_of a p) None within in
    record {
      low = (let le = old.low in omega arith);
      written = λ s j before.
          (let origin : IsOriginIfAny s j p a (k + 1) o = before.each a p o low there in
          elim c.match-written_store.branch [
            | in-Some+in_ok-push w ↦
                (let is : o ≡ Some (record { store = w.in-Some.store; write = k }) =
                subst (IsEventWriteOfStore o k) w.in-Some.is c.written_store.ensures in
                let writes = written_word_now s j p a k w.in-Some.store (subst (IsOriginIfAny s j p a (k + 1)) is origin) in
                subst (λ (v : Vec WrittenWord). AreWrittenWordsBelow s j k p first (a + 1) v.items) (sym w.written-is)
                (subst (AreWrittenWordsBelow s j k p first (a + 1)) (sym w.in_ok-push.ensures.items)
                (written_word_next w.in-Some.store writes (old.written s j before))))
            | in_default w ↦
                subst (λ (v : Vec WrittenWord). AreWrittenWordsBelow s j k p first (a + 1) v.items) (sym w.written-is)
                (written_word_others
                (written_word_not s j p a k o origin (written_word_none o k c.written_store.result w.in_default.not-Some c.written_store.ensures))
                (old.written s j before))
          ]);
    }

pub returns : goal.returns
returns c = λ s j before.
    (let end = c.loop-address-test.false in
    written_words_end s j c.args.place c.args.reader c.args.range c.loop-address.address c.loop-address.written.items (omega arith)
    (c.loop-address.invariant.written s j before))
