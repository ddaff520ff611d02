use Rattle.std.proofs.Common.{◌≡◌, ◌∙◌, refl, arith}
use Rattle.std.proofs.lemmas.Result.{on_ok_weaker}
use Rattle.std.proofs.lemmas.Grind.{elements}
use Rattle.book.specs.BookInvariant.{book_invariant_state}
use Rattle.book.proofs.Calling.BookCut.{book_cut_call_is}
use Rattle.book.proofs.book.Book.cut.Goals.{After-parts}
use Rattle.book.proofs.book.Book.cut.Goals as goal

-- the parts hold the book as it is found
same : (c : After-parts) → book_invariant_state c.parts.inside ≡ c.args.self.now
same c = c.parts.view_is ∙ c.deref_mut-parts.ensures.value ∙ c.self.view_is

pub returns-clause-ok : goal.returns-clause-ok
returns-clause-ok c =
    on_ok_weaker c.cut.result
    (λ was. book_cut_call_is (book_invariant_state c.parts.inside)
    c.args.self.now c.parts.inside.journal c.cut.new.self c.parts.inside.owing
    (same (goal.at.returns-clause-ok c).After-parts) refl was) c.cut.ensures.ok

pub invariant_of-parts : goal.invariant_of-parts
invariant_of-parts c = grind (arith, elements)
