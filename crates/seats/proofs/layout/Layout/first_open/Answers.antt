use Rattle.std.proofs.Common.{◌≡◌, ◌≢◌, ◌<◌, ◌∙◌, Some, sym, inl, inr, length, map, get_or, slice_get, [], ap, subst, arith}
use Rattle.std.proofs.lemmas.Bool.{cases_lt}
use Rattle.std.specs.Vec.{vec_items}
use Rattle.seats.specs.declared.guard.Guard.TheVariants.{Open}
use Rattle.seats.specs.Tables.{GuardTables, table_guard}
use Rattle.seats.proofs.LayoutTables.{layout_table_found_in}
use Rattle.seats.proofs.layout.Layout.first_open.Goals as goal

pub loop-table-preserved : goal.loop-table-preserved
loop-table-preserved c = λ t a less. elim (cases_lt t c.loop-table.table) [
  | inl old ↦ c.loop-table.invariant t a old
  | inr new ↦ (let same : c.loop-table.table ≡ t = omega (arith, less, new) in
      let tables = c.self.inside.tables.items in
      let within : c.loop-table.table < length tables = omega (arith, c.loop-table-test.true, c.len-table-end.ensures) in
      let here = c.as_slice.ensures.value
      ∙ layout_table_found_in vec_items tables c.loop-table.table c.index.result.now within c.index.ensures in
      subst (λ (now : GuardTables). table_guard now t a ≢ Some Open) c.self.view_is
      (subst (λ k. slice_get (get_or (map vec_items tables) k []) a ≢ Some Open) same
      (λ is. c.in-None.ensures.none a (ap (λ xs. slice_get xs a) here ∙ is))))
]

pub returns-in-Some-clause-first : goal.returns-in-Some-clause-first
returns-in-Some-clause-first c =
    let t = c.loop-table.table in
    let a = c.in-Some.address in
    let tables = c.self.inside.tables.items in
    let within : t < length tables = omega (arith, c.loop-table-test.true, c.len-table-end.ensures) in
    let here = c.as_slice.ensures.value
    ∙ layout_table_found_in vec_items tables t c.index.result.now within c.index.ensures in
    record {
      table = t;
      is_open = subst (λ (now : GuardTables). table_guard now t a ≡ Some Open) c.self.view_is
          (sym (ap (λ xs. slice_get xs a) here) ∙ c.in-Some.ensures.found);
      tables = λ u b less. c.loop-table.invariant u b less;
      addresses = λ b less. subst (λ (now : GuardTables). table_guard now t b ≢ Some Open) c.self.view_is
          (λ is. c.in-Some.ensures.first b less (ap (λ xs. slice_get xs b) here ∙ is));
    }
