use Rattle.std.proofs.Common.{refl, subst, ◌∙◌, ap, ◌++◌, ◌∷◌, []}
use Rattle.std.specs.Prelude.{None}
use Rattle.explore.specs.declared.state.call_table.CallsMade.{CallsMade}
use Rattle.explore.specs.CallTables.{HasCallList}
use Rattle.explore.proofs.CallTables.Rows.{call_row_start}
use Rattle.explore.proofs.state.call_table.CallRow.new.Goals as goal

pub returns : goal.returns
returns c =
    let made : CallsMade = record { wait = None; arrivals = 0; locks = c.in_ok-none.none; flags = c.in_ok-none.none } in
    call_row_start (record { made = c.push.new.self; lists = c.put_call_list.new.lists }) c.in_ok-none.none made (subst (HasCallList c.put_call_list.new.lists.items c.in_ok-none.none) c.new.ensures.items c.in_ok-none.ensures.put)
    (c.in_ok-push.ensures.items ∙ ap (λ ms. ms ++ made ∷ []) c.in_ok-made.ensures.items) refl refl refl refl
