use Rattle.std.proofs.Common.{◌≤◌, vec_len}
use Rattle.causes.specs.FinalWaits.{AreThoseInFinalWait}
use Rattle.lrc_picture.specs.Cutout.{IsCutoutPlace}
use Rattle.lrc_picture.proofs.cutout.cutout_places_of.Given as goal

abbrev pub invariant-loop-place : goal.invariant-loop-place
invariant-loop-place l = record {
  places : AreThoseInFinalWait (IsCutoutPlace l.part l.events) l.place l.places.items;
  few : vec_len l.places ≤ l.place;
}
