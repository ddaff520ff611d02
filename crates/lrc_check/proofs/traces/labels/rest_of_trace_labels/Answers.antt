use Rattle.lrc_check.proofs.traces.Labelling.{labelling_parts_next, labelling_part_alone, labelling_part_behind}
use Rattle.lrc_check.proofs.traces.labels.rest_of_trace_labels.Goals as goal

pub returns-in-Some : goal.returns-in-Some
returns-in-Some c = labelling_part_behind _ _ _ (labelling_parts_next _ _ _ c.in-Some.ensures)

pub returns-in-None : goal.returns-in-None
returns-in-None c = labelling_part_alone c.args.lines.now c.in-None.ensures
