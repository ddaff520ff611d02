use Rattle.causes.proofs.StoreRowSteps.{store_row_start}
use Rattle.causes.proofs.store_rows.StoreRows.new.Goals as goal

pub returns-clause-rows : goal.returns-clause-rows
returns-clause-rows c = λ j. record {
  long = c.in_ok-rows.ensures.long;
  each = λ a q row lt at. store_row_start j a q row.items (c.in_ok-rows.ensures.empty _ row at);
}
