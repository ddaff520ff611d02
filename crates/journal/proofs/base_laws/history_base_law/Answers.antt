use Rattle.journal.proofs.Journals.HistoryAfterCut.{history_after_no_cut_law, history_after_cut_law}
use Rattle.journal.proofs.base_laws.history_base_law.Goals as goal

pub returns-clause-whole : goal.returns-clause-whole
returns-clause-whole c = history_after_no_cut_law

pub returns-clause-cut : goal.returns-clause-cut
returns-clause-cut c = history_after_cut_law
