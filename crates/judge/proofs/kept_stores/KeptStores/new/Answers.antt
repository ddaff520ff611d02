use Rattle.std.proofs.Common.{◌≡◌, ℕ, ◌*◌, Option, Some, subst, sym, ap, ◌∙◌}
use Rattle.std.specs.Prelude.{None, SomeIff}
use Rattle.std.specs.Result.{result_ok}
use Rattle.std.proofs.lemmas.Option.{none-some, same_Some}
use Rattle.judge.specs.SparseTables.{IsSparseFor}
use Rattle.judge.proofs.kept_stores.KeepingStores.{keeping_rows_first}
use Rattle.judge.proofs.kept_stores.KeptStores.new.Goals as goal

-- a result that is there is the value
some_value : (o : Option ℕ) (P : Type 0) (v x : ℕ) → SomeIff o P v → o ≡ Some x → x ≡ v
some_value None P v x h is = absurd (none-some x is)
some_value (Some y) P v x h is = sym (same_Some y x is) ∙ h.1

pub returns-clause-tells : goal.returns-clause-tells
returns-clause-tells c =
    let n = c.args.processors in
    let rows = some_value c.checked_mul.result _ (c.args.addresses * n) c.in_ok-rows.rows c.checked_mul.ensures
    (c.ok_or.ensures.ok_part ∙ ap result_ok c.in_ok-rows.was) in
    record {
      cuts = c.in_ok-new.ensures.cuts;
      present = c.in_ok-new.ensures.present;
      processors = λ i e at. absurd (none-some e at);
      kept = record {
        wide = c.in_ok-new-2.ensures;
        sparse = subst (λ m. IsSparseFor m 0 c.in_ok-new-3.field-0) rows c.in_ok-new-3.ensures.sparse;
        stores = keeping_rows_first n c.in_ok-new-2.field-0.cuts c.in_ok-new-3.field-0 c.in_ok-new-3.ensures.none;
      };
    }
