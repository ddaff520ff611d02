use Rattle.std.proofs.Common.{◌≡◌, take, vec_len}
use Rattle.judge.specs.Sources.Latest.{AreLatestRows}
use Rattle.journal.specs.Sizes.{addresses}
use Rattle.judge.specs.JudgedSizes.{judged_sizes_of}
use Rattle.judge.specs.KeptStores.{AreKeptStoresOf}
use Rattle.judge.proofs.sources.rows_of_latest.latest_rows.Given as goal

abbrev pub invariant-loop-place : goal.invariant-loop-place
invariant-loop-place l = record {
  tells : AreKeptStoresOf (take l.place l.events) l.sources;
  processors : l.sources.processors ≡ l.history.sizes.processors;
  addresses : l.sources.addresses ≡ addresses (judged_sizes_of l.history.sizes);
  long : vec_len l.rows ≡ l.place;
  rows : AreLatestRows l.events l.rows.items;
}
