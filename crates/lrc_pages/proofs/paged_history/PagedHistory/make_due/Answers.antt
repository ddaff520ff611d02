use Rattle.std.proofs.Common.{Some, subst}
use Rattle.std.specs.Prelude.{None}
use Rattle.std.proofs.lemmas.Result.{on_ok_weaker}
use Rattle.judge.specs.JudgedSizes.{judged_sizes_of}
use Rattle.lrc_pages.specs.Fetched.{IsDueFetch}
use Rattle.lrc_pages.proofs.FetchesDue.{fetch_due_made, no_fetch_due}
use Rattle.lrc_pages.proofs.paged_history.PagedHistory.make_due.Goals as goal

pub returns-in-None-clause-made : goal.returns-in-None-clause-made
returns-in-None-clause-made c = λ h told.
    let s = judged_sizes_of c.args.self.now.sizes in
    let due = subst (IsDueFetch s h c.args.processor c.args.page) c.in-None.is (c.due.ensures h told) in
    record { fetch = None; due = due; told = told; whole = no_fetch_due s h c.args.processor c.args.page due }

pub returns-in-Some-clause-made : goal.returns-in-Some-clause-made
returns-in-Some-clause-made c =
    on_ok_weaker c.note.result (λ noted h told. (
    let s = judged_sizes_of c.args.self.now.sizes in
    let due = subst (IsDueFetch s h c.args.processor c.args.page) c.in-Some.is (c.due.ensures h told) in
    record {
      fetch = Some c.in-Some.kind;
      due = due;
      told = noted h told;
      whole = fetch_due_made s h c.args.processor c.args.page c.in-Some.kind due;
    })) c.note.ensures.told
