use Rattle.std.proofs.Common.{◌∙◌, ℕ, ◌↔◌, subst}
use Rattle.base.specs.InOrderOnce.{Has}
use Rattle.book.specs.BookWaits.{IsNamedByBookWaits}
use Rattle.book.specs.BookState.{BookState}
use Rattle.book.proofs.Told.NamedReady.{named_ready, named_ready_within, named_ready_if_let}
use Rattle.book.proofs.book.Book.let_on.Goals.{After-named_by}
use Rattle.book.proofs.book.Book.let_on.Goals as goal

-- whom the book names
named : (c : After-named_by) (q : ℕ) → Has c.named_by.result q ↔ IsNamedByBookWaits c.args.self.now c.args.processor c.args.kind q
named c q =
    subst (λ (b : BookState). Has c.named_by.result q ↔ IsNamedByBookWaits b c.args.processor c.args.kind q)
    (c.deref-parts.ensures ∙ c.self.view_is) (c.named_by.ensures q)

pub returns-clause-ready : goal.returns-clause-ready
returns-clause-ready c s h q told has =
    named_ready s h c.args.self.now told c.args.processor c.args.kind q
    ((named (goal.at.returns-clause-ready c).After-named_by q).0 has)

pub returns-clause-all : goal.returns-clause-all
returns-clause-all c s h block q told inner lets =
    (named (goal.at.returns-clause-all c).After-named_by q).1
    (named_ready_if_let s h block c.args.self.now c.args.processor c.args.kind q told inner lets)

pub returns-clause-within : goal.returns-clause-within
returns-clause-within c q has =
    named_ready_within c.args.self.now c.args.processor c.args.kind q
    ((named (goal.at.returns-clause-within c).After-named_by q).0 has)
