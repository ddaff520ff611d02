use Rattle.std.proofs.Common.{subst, sym}
use Rattle.judge.specs.NearestRaces.{IsNearestRaceTo}
use Rattle.lrc_check.proofs.RacingWords.{racing_words_kept_none, racing_words_no_access}
use Rattle.lrc_check.proofs.racing_words.RacingWords.note.Goals as goal

pub returns-in_default : goal.returns-in_default
returns-in_default c = λ j long near is.
    racing_words_kept_none j c.args.event c.args.self.now is (subst (IsNearestRaceTo j c.args.event) c.in_default.is near)

pub returns-in_default-racing_address : goal.returns-in_default-racing_address
returns-in_default-racing_address c = λ j long near is.
    absurd (racing_words_no_access j c.args.event c.in-Some.first (sym c.in_default-racing_address.ensures)
    (subst (IsNearestRaceTo j c.args.event) c.in-Some.is near))
