use Rattle.std.proofs.Common.{◌≡◌, ◌≤◌, ◌++◌, length, drop}
use Rattle.base.specs.AppliedRecords.{harvest}
use Rattle.page.specs.PageMarks.{page_marks_of, PageMarksBelow}
use Rattle.page.proofs.page.page_words_marked.Given as goal

abbrev pub invariant-loop-rest : goal.invariant-loop-rest
invariant-loop-rest l = record {
  within : l.offset ≤ length l.words;
  below : PageMarksBelow (length (drop l.offset l.words)) l.rest;
  so_far : l.found.items
      ++ harvest l.offset (drop l.offset l.words) (page_marks_of (length (drop l.offset l.words)) l.rest)
      ≡ harvest 0 l.words (page_marks_of (length l.words) l.dirty);
}

abbrev pub decreases-loop-rest : goal.decreases-loop-rest
decreases-loop-rest l = l.rest
