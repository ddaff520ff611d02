use Rattle.lrc_run.proofs.InstructionCalls.{instruction_call_cut_does, instruction_call_cut_done}
use Rattle.lrc_run.proofs.walk.walk_instruction.cut.Goals as goal

pub returns-in-Err-NoEpisode-clause-ok : goal.returns-in-Err-NoEpisode-clause-ok
returns-in-Err-NoEpisode-clause-ok g c = instruction_call_cut_does c.args.processor.now c.cut.new.processor c.cut.ensures

pub returns-in_default-2-clause-ok : goal.returns-in_default-2-clause-ok
returns-in_default-2-clause-ok g c =
    instruction_call_cut_done c.args.processor.now c.cut.new.processor c.cut.result c.cut.ensures
