use Rattle.std.proofs.Common.{ℕ, ◌≡◌, List, length, ap, sym, ◌∙◌, subst}
use Rattle.base.specs.AppliedRecords.{harvest}
use Rattle.page.specs.PageChanges.{ArePageChangesRising}
use Rattle.page.specs.Contents.{Contents}
use Rattle.page.specs.CarriedHarvests.{CarriedHarvestFits}
use Rattle.page.specs.PageMarks.{page_marks_of}
use Rattle.base.proofs.MarkedWrites.{marked_writes_harvest_rises}
use Rattle.page.proofs.Harvested.{harvest_fits}
use Rattle.page.proofs.MergedPages.{merged_page_carries_record, merged_page_carries_none}
use Rattle.page.proofs.page.Page.harvest.Goals as goal

pub returns-then-is_clean-clause-carries : goal.returns-then-is_clean-clause-carries
returns-then-is_clean-clause-carries c = merged_page_carries_none c.args.self.now (c.is_clean.ensures.0 c.if-is_clean.true)

pub new-requires : goal.new-requires
new-requires c =
    let words = c.deref.result.now in
    let P : List (ℕ × ℕ) → Type 0 = λ found. ArePageChangesRising found in
    subst P (sym c.in_ok-words.ensures) (marked_writes_harvest_rises 0 words (page_marks_of (length words) c.self.inside.dirty))

-- the record has the harvest of the page that the caller sees
found : (c : goal.After-new) → c.new.result.words ≡ harvest 0 c.args.self.now.words c.args.self.now.dirty
found c =
    c.new.ensures.words
    ∙ c.in_ok-words.ensures
    ∙ ap (λ (ws : List ℕ). harvest 0 ws (page_marks_of (length ws) c.self.inside.dirty)) c.deref.ensures.value
    ∙ ap (λ (q : Contents). harvest 0 q.words q.dirty) c.self.view_is

pub returns-clause-dirty_words : goal.returns-clause-dirty_words
returns-clause-dirty_words c =
    let q = c.args.self.now in
    let P : List (ℕ × ℕ) → Type 0 = λ ws. CarriedHarvestFits (length q.words) ws in
    record {
      page_is = c.new.ensures.page;
      words_are = found c;
      fits = subst P (sym (found c)) (harvest_fits q.words q.dirty);
    }

pub returns-clause-carries : goal.returns-clause-carries
returns-clause-carries c = merged_page_carries_record c.args.self.now c.new.result (found c)
