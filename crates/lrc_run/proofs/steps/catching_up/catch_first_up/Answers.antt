use Rattle.std.proofs.Common.{◌<◌, ◌∙◌, length, sym, arith}
use Rattle.lrc_run.proofs.CaughtUp.{caught_up_alone, caught_up_to_first}
use Rattle.lrc_run.proofs.steps.catching_up.catch_first_up.Goals as goal

pub returns-then-p-gt0 : goal.returns-then-p-gt0
returns-then-p-gt0 g c =
    let ms = c.args.processors.now.items in
    let cut = c.split_at_mut-front.ensures in
    let p = c.args.p in
    let within : p < length ms = omega (arith, c.requires.within, c.args.processors.now.ok) in
    caught_up_to_first ms c.split_at_mut-front.result.0.now c.split_at_mut-front.result.1.now p c.args.processors.now.len
    c.index-front-0.result c.index-back-0.result c.catch_up.new.processor c.catch_up.new.other
    (sym c.deref_mut.ensures.value ∙ cut.value) cut.front_len c.if-p-gt0.true within (omega (arith, c.args.processors.now.ok))
    c.index-front-0.is c.index-back-0.is c.catch_up.ensures.processor c.catch_up.ensures.other

pub returns-else-p-gt0 : goal.returns-else-p-gt0
returns-else-p-gt0 g c =
    let ms = c.args.processors.now.items in
    let p = c.args.p in
    let within : p < length ms = omega (arith, c.requires.within, c.args.processors.now.ok) in
    (caught_up_alone ms p within (omega (arith, c.if-p-gt0.false))).1
