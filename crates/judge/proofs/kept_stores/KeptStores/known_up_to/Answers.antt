use Rattle.std.proofs.Common.{sym, ap, ◌∙◌, arith}
use Rattle.judge.specs.CutRows.{cut_entry}
use Rattle.judge.proofs.TellingCuts.{cut_of_present}
use Rattle.judge.proofs.kept_stores.KeptStores.known_up_to.Goals as goal

pub returns-else-by-processor : goal.returns-else-by-processor
returns-else-by-processor c = λ j tells i e at is.
    let s = c.args.self.now in
    let p = c.args.processor in
    let present = tells.present in
    let cut = cut_of_present tells.cuts p (omega arith) in
    let covers = cut.covers i e at (λ same. c.if-by-processor.false (sym is ∙ same)) in
    let read = c.of.ensures.entries c.args.by in
    let same = ap (cut_entry s.cuts.processors p) is in
    ((λ h. (let lt = covers.0 h in omega arith)), (λ lt. covers.1 (omega arith)))
