-- What C is told of words that need a lock and have none.
use Rattle.std.specs.Prelude.{ℕ, ◌≡◌, ◌<◌, ◌≤◌, List, Option, Some, None, length, slice_get}
use Rattle.judge.specs.declared.locksets.lockset_finder.Unprotected.{Unprotected}
use Rattle.judge.specs.declared.locksets.watched_word.Guarded.{Guarded}
use Rattle.judge.specs.declared.locksets.watched_word.PairedAccess.{PairedAccess}
use Rattle.c_library.specs.declared.told_verdict.TheConstants.{NONE}
use Rattle.c_library.specs.declared.told_words.ToldAccess.{ToldAccess}
use Rattle.c_library.specs.declared.told_words.ToldGuarded.{ToldGuarded}
use Rattle.c_library.specs.declared.told_words.ToldWord.{ToldWord}

abbrev pub told_word_access : PairedAccess → ToldAccess
told_word_access x = record { place = x.place; processor = x.processor }

abbrev pub told_word_no_access : ToldAccess
told_word_no_access = record { place = NONE; processor = NONE }

-- two accesses that hold a lock in common, or none
abbrev pub told_word_guarded : Option Guarded → ToldGuarded
told_word_guarded None = record { first = told_word_no_access; second = told_word_no_access; lock = NONE }
told_word_guarded (Some g) = record { first = told_word_access g.accesses.0; second = told_word_access g.accesses.1; lock = g.lock }

-- a word, as C is told it
abbrev pub told_word_of : Unprotected → ToldWord
told_word_of w = record {
  address = w.address;
  first = told_word_access w.unguarded.0;
  second = told_word_access w.unguarded.1;
  guarded = told_word_guarded w.guarded;
}

-- of these words as many are written as there is room for; what is behind them stays
pub record AreToldWordsWritten (found : List Unprotected) (old new : List ToldWord) : Type 0 where
  pub long : length new ≡ length old
  pub told : (k : ℕ) (w : Unprotected) → k < length old → slice_get found k ≡ Some w → slice_get new k ≡ Some (told_word_of w)
  pub stays : (k : ℕ) → length found ≤ k → slice_get new k ≡ slice_get old k
