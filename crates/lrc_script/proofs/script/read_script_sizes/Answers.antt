use Rattle.lrc_script.specs.Plan.{plan_of}
use Rattle.lrc_script.proofs.Faults.SizesAlone.{sizes_alone_found, sizes_alone_first, sizes_alone_fault, sizes_alone_only}
use Rattle.lrc_script.proofs.script.read_script_sizes.Goals as goal

pub returns-in-Err-clause-only : goal.returns-in-Err-clause-only
returns-in-Err-clause-only c = sizes_alone_only c.args.line.now c.in-Err.fault c.in-Err.ensures.err

pub returns-in-Err-clause-fault : goal.returns-in-Err-clause-fault
returns-in-Err-clause-fault c = sizes_alone_fault c.args.line.now c.in-Err.fault c.in-Err.ensures.err

pub returns-in-Some-clause-found : goal.returns-in-Some-clause-found
returns-in-Some-clause-found c =
    sizes_alone_found c.args.line.now _ (plan_of c.in-Some.script) c.in-Ok.ensures.ok c.in-Some.ensures.found

pub returns-in-None-clause-only : goal.returns-in-None-clause-only
returns-in-None-clause-only c = absurd (sizes_alone_first c.args.line.now _ c.in-Ok.ensures.ok c.in-None.ensures.none)

pub returns-in-None-clause-fault : goal.returns-in-None-clause-fault
returns-in-None-clause-fault c = absurd (sizes_alone_first c.args.line.now _ c.in-Ok.ensures.ok c.in-None.ensures.none)
