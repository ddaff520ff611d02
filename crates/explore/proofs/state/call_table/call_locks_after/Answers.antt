use Rattle.std.proofs.Common.{ap, sym, subst, ◌∙◌, ◌<◌, length}
use Rattle.explore.specs.CallTables.{IsCallListPut, call_list, call_locks_after}
use Rattle.explore.proofs.CallTables.Rows.{call_row_list_there, call_row_locks_left}
use Rattle.explore.proofs.state.call_table.call_locks_after.Goals as goal

pub returns-in_default : goal.returns-in_default
returns-in_default c =
    let lists = c.args.lists.now.items in
    let within : c.args.place < length lists = subst (λ n. c.args.place < n) c.args.lists.now.ok.0 c.requires in
    subst (λ ns. IsCallListPut lists lists ns c.args.place) (sym (ap (call_locks_after (call_list lists c.args.place)) c.in_default.is))
    (call_row_list_there lists c.args.place within)

pub returns-in_default-kind : goal.returns-in_default-kind
returns-in_default-kind c =
    let lists = c.args.lists.now.items in
    let within : c.args.place < length lists = subst (λ n. c.args.place < n) c.args.lists.now.ok.0 c.requires in
    let numbers = call_list lists c.args.place in
    subst (λ ns. IsCallListPut lists lists ns c.args.place)
    (sym (ap (call_locks_after numbers) c.in-Call.is ∙ call_row_locks_left numbers c.in-Call.kind c.in_default-kind.not-Acquire c.in_default-kind.not-Release))
    (call_row_list_there lists c.args.place within)
