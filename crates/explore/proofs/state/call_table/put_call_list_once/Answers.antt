use Rattle.std.proofs.Common.{◌<◌, ◌==◌, length, ap, sym, subst, ◌∙◌}
use Rattle.std.specs.List.{list_any}
use Rattle.explore.proofs.Clones.{clone_if_ok}
use Rattle.explore.proofs.MachineSteps.{machine_step_read_at}
use Rattle.explore.proofs.CallTables.Rows.{call_row_list, call_row_once_new, call_row_once_there}
use Rattle.explore.proofs.state.call_table.put_call_list_once.Goals as goal

pub returns-then-contains : goal.returns-then-contains
returns-then-contains c =
    let lists = c.args.lists.now.items in
    let within : c.args.place < length lists = subst (λ n. c.args.place < n) c.args.lists.now.ok.0 c.requires in
    let at = machine_step_read_at lists c.args.place c.index.result.now within c.index.ensures in
    call_row_once_there lists c.args.place c.args.number within
    (ap (λ ns. list_any (λ m. m == c.args.number) ns) (call_row_list lists c.args.place c.index.result.now at ∙ sym c.deref.ensures.value)
    ∙ sym c.contains.ensures.value ∙ c.if-contains.true)

pub returns : goal.returns
returns c =
    let lists = c.args.lists.now.items in
    let within : c.args.place < length lists = subst (λ n. c.args.place < n) c.args.lists.now.ok.0 c.requires in
    let at = machine_step_read_at lists c.args.place c.index.result.now within c.index.ensures in
    clone_if_ok c.put_call_list_with.result _ _
    (λ place. call_row_once_new lists c.put_call_list_with.new.lists.items c.args.place c.args.number place
    (ap (λ ns. list_any (λ m. m == c.args.number) ns) (call_row_list lists c.args.place c.index.result.now at ∙ sym c.deref.ensures.value)
    ∙ sym c.contains.ensures.value ∙ c.if-contains.false)) c.put_call_list_with.ensures
