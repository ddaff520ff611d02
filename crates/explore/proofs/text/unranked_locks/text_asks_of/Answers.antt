use Rattle.explore.proofs.text.unranked_locks.text_asks_of.Goals as goal

pub loop-processor-preserved : goal.loop-processor-preserved
loop-processor-preserved c = c.in_ok-note_row_text_asks.ensures c.loop-processor.invariant
