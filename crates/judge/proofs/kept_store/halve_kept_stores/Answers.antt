use Rattle.std.proofs.Common.{◌<◌, ◌-◌, length, slice_index_or, arith}
use Rattle.std.proofs.lemmas.Option.{slice_get-get_or}
use Rattle.judge.specs.declared.kept_store.KeptStore.{KeptStore}
use Rattle.judge.proofs.kept_store.halve_kept_stores.Goals as goal

pub returns-then-count-eq0 : goal.returns-then-count-eq0
returns-then-count-eq0 c = λ m x at. c.first_kept_store_from-count.ensures.above m x (omega arith) at

pub returns-else-count-eq0 : goal.returns-else-count-eq0
returns-else-count-eq0 c =
    let stores = c.args.stores.now in
    let count = c.first_kept_store_from-count.result in
    let d : KeptStore = record { place = 0; value = 0; cut = 0 } in
    let first = c.first_kept_store_from-count.ensures in
    let le = first.within in
    let lt : count - 1 < length stores = omega arith in
    let at = slice_get-get_or stores (count - 1) d lt in
    record {
      index = count - 1;
      at = at;
      below = first.below (count - 1) (slice_index_or stores (count - 1) d) (omega arith) at;
      later = λ m y after here. first.above m y (omega arith) here;
    }
