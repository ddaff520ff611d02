use Rattle.std.proofs.Common.{ℕ, ◌≡◌, List, ◌++◌, length, drop, append-nil, ap, sym, ◌∙◌, arith}
use Rattle.std.proofs.lemmas.List.{length-drop}
use Rattle.base.specs.AppliedRecords.{harvest}
use Rattle.page.specs.PageMarks.{page_marks_of}
use Rattle.page.proofs.Harvested.{harvest_first_within, harvest_found_more, harvest_below_more, harvest-none}
use Rattle.page.proofs.page.page_words_marked.Goals as goal

pub bounds-words-offset : goal.bounds-words-offset
bounds-words-offset c =
    let l = c.loop-rest in
    let within = harvest_first_within (drop l.offset c.args.words.now) l.rest (omega arith) (omega arith) l.invariant.below in
    omega (arith, length-drop l.offset c.args.words.now)

pub loop-rest-preserved : goal.loop-rest-preserved
loop-rest-preserved c =
    let l = c.loop-rest in
    let words = c.args.words.now in
    let within = harvest_first_within (drop l.offset words) l.rest (omega arith) (omega arith) l.invariant.below in
    record {
      within = omega (arith, length-drop l.offset words);
      below = harvest_below_more words l.offset l.rest l.invariant.below;
      so_far =
          rw c.in_ok-push.ensures.items (harvest_found_more l.found.items words
          (harvest 0 words (page_marks_of (length words) c.args.dirty)) l.offset l.rest (omega arith) (omega arith)
          l.invariant.below l.invariant.so_far);
    }

pub returns : goal.returns
returns c =
    let l = c.loop-rest in
    let words = c.args.words.now in
    let left = drop l.offset words in
    let done : l.rest ≡ 0 = omega arith in
    sym (append-nil l.found.items)
    ∙ ap (λ (xs : List (ℕ × ℕ)). l.found.items ++ xs) (sym (harvest-none l.offset left))
    ∙ ap (λ (word : ℕ). l.found.items ++ harvest l.offset left (page_marks_of (length left) word)) (sym done)
    ∙ l.invariant.so_far
