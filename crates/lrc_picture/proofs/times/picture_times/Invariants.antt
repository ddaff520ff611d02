use Rattle.std.proofs.Common.{◌≡◌, take, vec_len}
use Rattle.journal.specs.Clocks.{AreClocks}
use Rattle.lrc_picture.specs.Timestamps.{ArePictureTimestampsAfter}
use Rattle.lrc_picture.proofs.times.picture_times.Given as goal

abbrev pub invariant-loop-place : goal.invariant-loop-place
invariant-loop-place l = record {
  clocks : AreClocks (take l.place l.events) l.clocks;
  present : l.clocks.present ≡ l.history.sizes.processors;
  long : vec_len l.times ≡ l.place;
  times : ArePictureTimestampsAfter l.events l.times.items;
}
