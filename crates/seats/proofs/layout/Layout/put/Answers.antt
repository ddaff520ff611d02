use Rattle.std.proofs.Common.{◌≡◌, ◌<◌, ◌∙◌, length, map, slice_get, slice_set, ap, subst, arith}
use Rattle.std.proofs.lemmas.List.{length-map}
use Rattle.std.specs.Vec.{vec_items}
use Rattle.seats.specs.Tables.{GuardTables, table_guard, table_guard_put, table_range_has}
use Rattle.seats.proofs.LayoutTables.{layout_table_found_in, layout_table_put, layout_table_set_in}
use Rattle.seats.proofs.layout.Layout.put.Goals as goal

pub returns-then-table-len : goal.returns-then-table-len
returns-then-table-len c =
    let tables = c.self.inside.tables.items in
    let gs = c.put_in.new.table.items in
    let table = c.args.table in
    let less : table < length tables = omega (arith, c.if-table-len.true, c.len.ensures) in
    let found = layout_table_found_in vec_items tables table c.index_mut.result.now less c.index_mut.ensures.value in
    let new : GuardTables = record {
      tables = map vec_items (slice_set tables table c.put_in.new.table);
      round = c.self.inside.round;
    } in
    layout_table_put c.args.self.now new table c.args.from c.args.to c.args.guard gs
    (subst (λ (now : GuardTables). new ≡ record now { tables = slice_set now.tables table gs }) c.self.view_is
    (ap (λ ts. record { tables = ts; round = c.self.inside.round }) (layout_table_set_in vec_items tables table c.put_in.new.table)))
    (subst (λ (now : GuardTables). table < length now.tables) c.self.view_is
    (omega (arith, less, length-map tables vec_items)))
    (λ a. c.put_in.ensures.each a
    ∙ ap (λ gs. table_guard_put (table_range_has c.args.from c.args.to a) c.args.guard (slice_get gs a)) found
    ∙ ap (λ (now : GuardTables). table_guard_put (table_range_has c.args.from c.args.to a) c.args.guard (table_guard now table a))
    c.self.view_is)
