-- What is answered of a history whose words are to be told that need a lock and have none.
use Rattle.std.specs.Prelude.{ℕ, ◌≡◌, ◌==◌, ◌<◌, ◌⊎◌, cond, List, Some, length, map}
use Rattle.std.specs.Global.{Vec}
use Rattle.judge.specs.JudgedSizes.{AreJudgedSizes}
use Rattle.judge.specs.declared.locksets.lockset_finder.LocksetWords.{LocksetWords}
use Rattle.judge.specs.declared.locksets.lockset_finder.LocksetWords.TheVariants as words
use Rattle.judge.specs.declared.locksets.lockset_finder.Unprotected.{Unprotected}
use Rattle.lrc_check.specs.declared.checked.Checked.{Checked}
use Rattle.lrc_check.specs.declared.checked.Rules.{Rules}
use Rattle.lrc_check.specs.CheckVerdicts.{IsTrueCheckVerdict}
use Rattle.lrc_check.specs.Unprotected.{AreUnprotectedTold, unprotected_looked_for}
use Rattle.c_library.specs.declared.call_fault.CallFault.{CallFault}
use Rattle.c_library.specs.declared.call_fault.CallFault.TheVariants.{BadSizes, BadRules}
use Rattle.c_library.specs.declared.given.GivenEvent.{GivenEvent}
use Rattle.c_library.specs.declared.given.GivenRules.{GivenRules}
use Rattle.c_library.specs.declared.given.GivenSizes.{GivenSizes}
use Rattle.c_library.specs.declared.told_words.ToldLocksets.{ToldLocksets}
use Rattle.c_library.specs.declared.told_words.ToldWord.{ToldWord}
use Rattle.c_library.specs.Given.{AreGivenRules, given_event_of, given_sizes, given_rules_of}
use Rattle.c_library.specs.GivenJudged.{CanGivenBeJudged, IsGivenJudgedFault}
use Rattle.c_library.specs.ToldVerdicts.{told_verdict_of}
use Rattle.c_library.specs.ToldWords.{AreToldWordsWritten}

-- the words that the number names: those whose lock was forgotten somewhere; or those that never have one, too
abbrev pub given_lockset_words : ℕ → LocksetWords
given_lockset_words which = cond (which == 0) words.Forgotten words.All

-- the rules by which they are looked for
abbrev pub given_lockset_rules : GivenRules → ℕ → Rules
given_lockset_rules r which = record (given_rules_of r) { locksets = Some (given_lockset_words which) }

-- all that was handed in has a meaning, and this is found of it, and these words
pub record IsGivenLocksetsFound (s : GivenSizes) (r : GivenRules) (which : ℕ) (es : List GivenEvent) (x : Checked × Vec Unprotected) : Type 0 where
  pub judged : CanGivenBeJudged s r es
  pub known : which < 2
  pub checked : IsTrueCheckVerdict (given_lockset_rules r which) (given_sizes s) (map given_event_of es) x.0
  pub words : AreUnprotectedTold (unprotected_looked_for (Some (given_lockset_words which)) x.0) (given_sizes s) (map given_event_of es) x.1.items

-- so it is, and this is what is told of it
pub record IsGivenLocksetsTold (s : GivenSizes) (r : GivenRules) (which : ℕ) (es : List GivenEvent) (old new : List ToldWord) (told : ToldLocksets)
    : Type 0 where
  pub found : Checked × Vec Unprotected
  pub is : IsGivenLocksetsFound s r which es found
  pub verdict : told.verdict ≡ told_verdict_of found.0
  pub count : told.words ≡ length found.1.items
  pub written : AreToldWordsWritten found.1.items old new

-- the fault is that of the first thing handed in that has no meaning; of memory, if all have one
abbrev pub IsGivenLocksetsFault : GivenSizes → GivenRules → ℕ → List GivenEvent → CallFault → Type 0
IsGivenLocksetsFault s r which es BadSizes = ¬ AreJudgedSizes (given_sizes s)
IsGivenLocksetsFault s r which es BadRules = AreJudgedSizes (given_sizes s) × ((¬ (which < 2)) ⊎ (¬ AreGivenRules r))
IsGivenLocksetsFault s r which es fault = (which < 2) × IsGivenJudgedFault s r es fault
