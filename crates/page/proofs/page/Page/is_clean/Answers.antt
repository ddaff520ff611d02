use Rattle.std.proofs.Common.{ℕ, length, ap, sym, ◌∙◌, subst}
use Rattle.std.proofs.lemmas.Bool.{eqb-true, eq-eqb}
use Rattle.page.specs.Contents.{Contents, ContentsAreClean}
use Rattle.page.specs.PageMarks.{page_marks_of}
use Rattle.page.proofs.MarkBits.{mark_bits_zero, mark_bits_zero_from_clean}
use Rattle.page.proofs.page.Page.is_clean.Goals as goal

pub returns : goal.returns
returns c =
    let p = c.self.inside in
    let n = length p.words.items in
    let P : Contents → Type 0 = λ q. ContentsAreClean q in (
      λ e. subst P c.self.view_is (ap (λ (word : ℕ). page_marks_of n word) (eqb-true p.dirty 0 e) ∙ mark_bits_zero n),
      λ clean. eq-eqb p.dirty 0 (mark_bits_zero_from_clean n p.dirty c.self.invariant.1 (subst P (sym c.self.view_is) clean)),
    )
