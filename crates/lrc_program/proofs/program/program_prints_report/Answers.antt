use Rattle.lrc_program.proofs.program.program_prints_report.Goals as goal

pub returns-clause-printed : goal.returns-clause-printed
returns-clause-printed g c = record {
  report = c.in_ok-report.report;
  came = c.in_ok-report.ensures.asked;
  tells = c.in_ok-report.ensures.report;
  written = c.in_ok-render.ensures;
}
