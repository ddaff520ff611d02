use Rattle.std.proofs.Common.{IfErr, subst}
use Rattle.journal.specs.JournalCuts.{IsJournalCutRefusal}
use Rattle.test_memory.specs.Histories.Telling.{Telling}
use Rattle.test_memory.proofs.histories.Calls.{kept_cut}
use Rattle.test_memory.proofs.histories.told.Told.cut.Goals as goal

pub invariant_of-self : goal.invariant_of-self
invariant_of-self c =
    kept_cut c.self.inside c.cut.new.self c.cut.result c.self.invariant c.cut.ensures.ok c.cut.ensures.err

pub returns-clause-fault : goal.returns-clause-fault
returns-clause-fault c =
    subst (λ (t : Telling). IfErr c.cut.result (IsJournalCutRefusal t.book.journal)) c.self.view_is c.cut.ensures.fault
