use Rattle.std.proofs.Common.{refl, ◌∙◌}
use Rattle.explore.proofs.CallTables.Rows.{call_row_list_put}
use Rattle.explore.proofs.state.call_table.put_call_list.Goals as goal

pub returns : goal.returns
returns c =
    call_row_list_put c.args.lists.now.items c.push.new.self.items c.args.numbers c.args.numbers.items c.len-place.result
    (c.len-place.ensures ∙ c.args.lists.now.ok.0) c.in_ok-push.ensures.items refl
