use Rattle.std.proofs.Common.{◌≡◌, length, slice_index, subst, sym, ap, ◌∙◌}
use Rattle.std.proofs.lemmas.List.{with_items_is}
use Rattle.judge.specs.CutEntries.{CutEntriesJoinedAt}
use Rattle.judge.proofs.cut_rows.RowsOfCuts.{row_entry, rows_joined}
use Rattle.judge.proofs.cut_rows.CutRows.join.Goals as goal

pub returns-clause-joined : goal.returns-clause-joined
returns-clause-joined c =
    let rows = c.args.self.now in
    let w = rows.width in
    let n = c.args.number in
    let cut = c.args.cut.now in
    let xs = c.deref_mut.result.now in
    let ys = c.join_cut.new.entries in
    let after = c.join_cut.ensures in
    let is : xs ≡ rows.entries.items = c.deref_mut.ensures.value in
    let long : length ys ≡ rows.entries.len = after.long ∙ (ap length is ∙ sym rows.entries.ok.0) in
    subst (λ zs. CutEntriesJoinedAt (row_entry w rows.entries.items) (row_entry w zs) n (slice_index cut))
    (sym (with_items_is rows.entries ys long))
    (subst (λ zs. CutEntriesJoinedAt (row_entry w zs) (row_entry w ys) n (slice_index cut)) is
    (rows_joined w xs ys n cut c.requires.cut after.joined after.before after.behind))
