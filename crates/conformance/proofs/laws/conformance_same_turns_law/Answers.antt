use Rattle.conformance.proofs.SameTurns.Along.{along_same_turns_law}
use Rattle.conformance.proofs.SameTurns.TurnEnds.{turn_ends_same_law}
use Rattle.conformance.proofs.SameTurns.TurnReports.{turn_reports_same_law}
use Rattle.conformance.proofs.SameTurns.CopyValues.{copy_values_same_law}
use Rattle.conformance.proofs.laws.conformance_same_turns_law.Goals as goal

pub returns-clause-turns : goal.returns-clause-turns
returns-clause-turns c = along_same_turns_law

pub returns-clause-values : goal.returns-clause-values
returns-clause-values c = copy_values_same_law

pub returns-clause-ends : goal.returns-clause-ends
returns-clause-ends c = turn_ends_same_law

pub returns-clause-reports : goal.returns-clause-reports
returns-clause-reports c = turn_reports_same_law
