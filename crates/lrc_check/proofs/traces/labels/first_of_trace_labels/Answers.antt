use Rattle.std.proofs.Common.{List, ℕ, [], slice_index_or, sym, ap}
use Rattle.lrc_script.proofs.Reading.Separators.{separator_absent_one_word}
use Rattle.lrc_check.proofs.traces.Labelling.{labelling_parts_next}
use Rattle.lrc_check.proofs.traces.labels.first_of_trace_labels.Goals as goal

pub returns-in-Some : goal.returns-in-Some
returns-in-Some c =
    sym (ap (λ (x : List (List ℕ)). slice_index_or x 0 []) (labelling_parts_next _ _ _ c.in-Some.ensures))

pub returns-in-None : goal.returns-in-None
returns-in-None c =
    sym (ap (λ (x : List (List ℕ)). slice_index_or x 0 []) (separator_absent_one_word 10 c.args.lines.now c.in-None.ensures))
