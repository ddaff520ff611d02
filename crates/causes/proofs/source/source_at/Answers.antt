use Rattle.causes.proofs.CauseSources.{cause_source_in_load, cause_source_loads, cause_source_origin_in, cause_source_origin_out}
use Rattle.causes.proofs.source.source_at.Goals as goal

pub source_of-requires : goal.source_of-requires
source_of-requires c =
    let row = c.requires.row in
    let a = c.in-Load.field-0 in
    let v = c.in-Load.value in
    let loads = cause_source_loads c.args.events.now row.0 a v c.args.event row.1 c.in-Load.is in
    record { latest = (row.0, a, row.2.loads c.args.event.processor a v loads) }

pub returns-in-Load-clause-origin : goal.returns-in-Load-clause-origin
returns-in-Load-clause-origin c = λ k at row.
    let events = c.args.events.now in
    let p = c.args.event.processor in
    let a = c.in-Load.field-0 in
    let v = c.in-Load.value in
    let loads = cause_source_loads events k a v c.args.event at c.in-Load.is in
    cause_source_origin_in events k p a v c.args.origin c.source_of.result loads
    (c.source_of.ensures.origin k a (row.loads p a v loads))

pub returns-in-Load-clause-source : goal.returns-in-Load-clause-source
returns-in-Load-clause-source c = λ k at row.
    let events = c.args.events.now in
    let p = c.args.event.processor in
    let a = c.in-Load.field-0 in
    let v = c.in-Load.value in
    let loads = cause_source_loads events k a v c.args.event at c.in-Load.is in
    cause_source_in_load events k p a v c.source_of.result loads
    (c.source_of.ensures.source k a (row.loads p a v loads))

pub returns-in_default-clause-origin : goal.returns-in_default-clause-origin
returns-in_default-clause-origin c = λ k at row. cause_source_origin_out c.args.events.now k c.args.origin
