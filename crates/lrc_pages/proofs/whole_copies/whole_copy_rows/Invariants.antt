use Rattle.std.proofs.Common.{◌≡◌, ℕ, vec_len}
use Rattle.lrc_pages.specs.WholeCopies.{whole_copy_at}
use Rattle.lrc_pages.proofs.whole_copies.whole_copy_rows.Given as goal

abbrev pub invariant-loop : goal.invariant-loop
invariant-loop l = record {
  long : vec_len l.rows ≡ l.counter;
  none : (p n : ℕ) → whole_copy_at l.rows.items p n ≡ 0;
}
