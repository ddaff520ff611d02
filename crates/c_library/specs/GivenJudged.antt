-- What is answered of a history that is to be judged.
use Rattle.std.specs.Prelude.{◌≡◌, ◌≤◌, List, length, map}
use Rattle.base.specs.Limits.{most_held}
use Rattle.journal.specs.declared.event.Event.{Event}
use Rattle.judge.specs.JudgedSizes.{AreJudgedSizes, most_judged_events}
use Rattle.lrc_check.specs.declared.checked.Checked.{Checked}
use Rattle.lrc_check.specs.CheckVerdicts.{IsTrueCheckVerdict}
use Rattle.c_library.specs.declared.call_fault.CallFault.{CallFault}
use Rattle.c_library.specs.declared.call_fault.CallFault.TheVariants.{BadSizes, BadRules, TooMany, BadEvent, NoMemory}
use Rattle.c_library.specs.declared.given.GivenEvent.{GivenEvent}
use Rattle.c_library.specs.declared.given.GivenRules.{GivenRules}
use Rattle.c_library.specs.declared.given.GivenSizes.{GivenSizes}
use Rattle.c_library.specs.declared.told_verdict.ToldVerdict.{ToldVerdict}
use Rattle.c_library.specs.Given.{HaveGivenKinds, AreGivenRules, given_event_of, given_sizes, given_rules_of}
use Rattle.c_library.specs.ToldVerdicts.{told_verdict_of}

-- all that was handed in has a meaning
pub record CanGivenBeJudged (s : GivenSizes) (r : GivenRules) (es : List GivenEvent) : Type 0 where
  pub small : AreJudgedSizes (given_sizes s)
  pub rules : AreGivenRules r
  pub few : length es ≤ most_held
  pub known : HaveGivenKinds es

-- it has, and these are the events
pub record IsGivenJudgedEvents (s : GivenSizes) (r : GivenRules) (es : List GivenEvent) (j : List Event) : Type 0 where
  pub judged : CanGivenBeJudged s r es
  pub is : j ≡ map given_event_of es
  pub few : length j ≤ most_judged_events

-- it has, and this is what is told of what was found
pub record IsGivenJudgedTold (s : GivenSizes) (r : GivenRules) (es : List GivenEvent) (told : ToldVerdict) : Type 0 where
  pub judged : CanGivenBeJudged s r es
  pub found : Checked
  pub checked : IsTrueCheckVerdict (given_rules_of r) (given_sizes s) (map given_event_of es) found
  pub is : told ≡ told_verdict_of found

-- the fault is that of the first thing handed in that has no meaning; of memory, if all have one
abbrev pub IsGivenJudgedFault : GivenSizes → GivenRules → List GivenEvent → CallFault → Type 0
IsGivenJudgedFault s r es BadSizes = ¬ AreJudgedSizes (given_sizes s)
IsGivenJudgedFault s r es BadRules = AreJudgedSizes (given_sizes s) × (¬ AreGivenRules r)
IsGivenJudgedFault s r es TooMany = AreJudgedSizes (given_sizes s) × AreGivenRules r × (¬ (length es ≤ most_held))
IsGivenJudgedFault s r es BadEvent = AreJudgedSizes (given_sizes s) × AreGivenRules r × (length es ≤ most_held) × (¬ HaveGivenKinds es)
IsGivenJudgedFault s r es NoMemory = CanGivenBeJudged s r es
IsGivenJudgedFault s r es _ = ⊥
