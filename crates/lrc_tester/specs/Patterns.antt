-- What is promised of drawn scripts, by their patterns.
use Rattle.std.specs.Prelude.{ℕ, ◌≡◌, Bool, true, false, IsTrue, List, Option, None, Some}
use Rattle.journal.specs.declared.event.Event.{Event}
use Rattle.lrc_script.specs.Plan.{Plan}
use Rattle.explore.specs.Prefixes.Prelude.{IsFlatBeginningHanging}
use Rattle.lrc_tester.specs.declared.drawing.draw.Style.{Style}
use Rattle.lrc_tester.specs.declared.drawing.draw.Style.TheVariants as style
use Rattle.lrc_tester.specs.declared.pattern.Pattern.{Pattern}
use Rattle.lrc_tester.specs.declared.pattern.Pattern.TheVariants as pattern
use Rattle.lrc_tester.specs.declared.sizes.GivenSizes.{GivenSizes}

-- no script of this pattern races
abbrev pub never_races_by_pattern : Pattern → Bool
never_races_by_pattern pattern.Free = false
never_races_by_pattern pattern.Flags = false
never_races_by_pattern pattern.Mixed = false
never_races_by_pattern _ = true

-- no order of turns hangs on one flat memory
abbrev pub NeverHangsFlat : Plan → Type 0
NeverHangsFlat s = (g : List Event) → ¬ IsFlatBeginningHanging s g

-- the patterns whose draws are stated
abbrev pub plain_style : Pattern → Option Style
plain_style pattern.Guarded = Some style.Guarded
plain_style pattern.Free = Some style.Free
plain_style _ = None

-- the scripts of this pattern have flags
abbrev pub has_flags_by_pattern : Pattern → Bool
has_flags_by_pattern pattern.Chains = true
has_flags_by_pattern pattern.Flags = true
has_flags_by_pattern _ = false

-- this is the size, if one is given
abbrev pub IsGivenSize : Option ℕ → ℕ → Type 0
IsGivenSize given size = (n : ℕ) → given ≡ Some n → size ≡ n

-- the script has the sizes that are given; flags only if its pattern has some
pub record HasGivenSizes (p : Pattern) (g : GivenSizes) (s : Plan) : Type 0 where
  pub processors : IsGivenSize g.processors s.processors
  pub pages : IsGivenSize g.pages s.pages
  pub words : IsGivenSize g.words s.words
  pub locks : IsGivenSize g.locks s.locks
  pub flags : IsTrue (has_flags_by_pattern p) → IsGivenSize g.flags s.flags

-- all sizes are drawn
abbrev pub without_sizes : GivenSizes
without_sizes = record { processors = None; pages = None; words = None; locks = None; flags = None; length = None }
