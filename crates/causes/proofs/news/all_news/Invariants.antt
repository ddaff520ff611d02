use Rattle.std.proofs.Common.{◌≡◌, take, vec_len}
use Rattle.judge.specs.Cuts.{AreCuts}
use Rattle.causes.specs.News.{AreIncomingNews}
use Rattle.causes.proofs.news.all_news.Given as goal

abbrev pub invariant-loop-place : goal.invariant-loop-place
invariant-loop-place l = record {
  cuts : AreCuts (take l.place l.events) l.cuts;
  present : l.cuts.present ≡ l.processors;
  long : vec_len l.rows ≡ l.place;
  rows : AreIncomingNews l.events l.rows.items;
}
