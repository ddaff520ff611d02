-- What the events of a run change.
use Rattle.std.specs.Prelude.{◌≡◌, List, [], length, vec_len}
use Rattle.causes.specs.Dues.{AreAllDues}
use Rattle.causes.specs.EventWrites.{AreAllEventWrites}
use Rattle.journal.specs.declared.event.Event.{Event}
use Rattle.journal.specs.Sizes.{Sizes}
use Rattle.lrc_picture.specs.declared.changes.RunChanges.{RunChanges}
use Rattle.lrc_picture.specs.Timestamps.{ArePictureTimestampsAfter}

-- of each event its processor's timestamp after it, the words of copies that it writes, and the records that it tells of
pub record AreRunChanges (s : Sizes) (j : List Event) (x : RunChanges) : Type 0 where
  pub times_long : vec_len x.times ≡ length j
  pub times : ArePictureTimestampsAfter j x.times.items
  pub written_long : vec_len x.written ≡ length j
  pub written : AreAllEventWrites s j x.written.items
  pub dues_long : vec_len x.dues ≡ length j
  pub dues : AreAllDues s j x.dues.items

-- neither timestamps nor copies are told of any event
pub record AreChangesWithoutCopies (x : RunChanges) : Type 0 where
  pub times : x.times.items ≡ []
  pub written : x.written.items ≡ []
  pub dues : x.dues.items ≡ []
