use Rattle.std.proofs.Common.{◌∙◌, arith}
use Rattle.explore.specs.UnguardedWords.{text_accesses_kept}
use Rattle.explore.proofs.UnguardedWords.{unguarded_words_rows_next}
use Rattle.explore.proofs.text.text_accesses.text_accesses_by_word.Goals as goal

pub loop-processor-preserved : goal.loop-processor-preserved
loop-processor-preserved c =
    let more = c.in_ok-note_row_text_accesses.ensures in
    let old = c.loop-processor.invariant in
    record {
      long = c.note_row_text_accesses.ensures.long ∙ old.long;
      are = λ w. more.are w (old.are w);
      noted = λ w below unknown.
          unguarded_words_rows_next c.args.steps.now w c.loop-processor.processor (text_accesses_kept c.loop-processor.kept.items w)
          (text_accesses_kept c.note_row_text_accesses.new.kept.items w) (more.keeps w) (old.noted w below unknown) (more.noted w below unknown);
    }

pub returns-clause-are : goal.returns-clause-are
returns-clause-are c =
    let over = c.loop-processor-test.false in
    let end = c.loop-processor.auto.processor-end in
    record {
      are = c.loop-processor.invariant.are;
      noted = λ w below unknown p i a x lt. c.loop-processor.invariant.noted w below unknown p i a x (omega arith);
    }
