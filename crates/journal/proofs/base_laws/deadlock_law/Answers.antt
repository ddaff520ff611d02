use Rattle.journal.proofs.Journals.AfterDeadlock.{after_deadlock_law}
use Rattle.journal.proofs.base_laws.deadlock_law.Goals as goal

pub returns : goal.returns
returns c = after_deadlock_law
