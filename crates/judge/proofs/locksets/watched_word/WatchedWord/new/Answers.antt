use Rattle.std.proofs.Common.{refl}
use Rattle.judge.proofs.locksets.WatchedWords.{watched_word_start}
use Rattle.judge.proofs.locksets.watched_word.WatchedWord.new.Goals as goal

pub returns : goal.returns
returns c = λ j a n none. watched_word_start j a n _ refl c.new.ensures.items refl refl none
