-- What the commands `draw` and `follows` have done.
use Rattle.std.specs.Prelude.{ℕ, ◌≡◌, ◌<◌, ◌^◌, Bool, true, false, IsTrue, List, Option, None, Some, codes, cond, string_bytes}
use Rattle.std.specs.Option.{option_map_or}
use Rattle.std.specs.Str.{bytes_eq}
use Rattle.std.specs.Io.KnownBytes.{Appends}
use Rattle.journal.specs.declared.event.Event.{Event}
use Rattle.journal.specs.Sizes.{Sizes}
use Rattle.lrc_script.specs.Prelude.{IsLawful, text}
use Rattle.lrc_script.specs.Plan.{Plan}
use Rattle.conformance.specs.FlatRuns.{NeverRacesFlat}
use Rattle.conformance.specs.Follows.{Follows, plan_sizes}
use Rattle.lrc_options.specs.declared.options.DrawOptions.{DrawOptions}
use Rattle.lrc_program.specs.Prelude.{IsServedScriptRead}
use Rattle.lrc_commands.specs.Prelude.{HasTraceCommandText}
use Rattle.lrc_tester.specs.Drawing.Draw.{drawn, seeded}
use Rattle.lrc_tester.specs.Following.{with_asks}
use Rattle.lrc_tester.specs.Patterns.{NeverHangsFlat, has_flags_by_pattern, never_races_by_pattern, plain_style}
use Rattle.lrc_tester.specs.declared.drawing.draw.Style.{Style}
use Rattle.lrc_tester.specs.declared.pattern.Pattern.{Pattern}
use Rattle.lrc_tester.specs.declared.pattern.Pattern.TheVariants as pattern

-- the pattern of this name
abbrev pub pattern_of_name : List ℕ → Pattern
pattern_of_name name = cond (bytes_eq name (codes "guarded")) pattern.Guarded
    (cond (bytes_eq name (codes "free")) pattern.Free
    (cond (bytes_eq name (codes "chains")) pattern.Chains
    (cond (bytes_eq name (codes "sharing")) pattern.Sharing
    (cond (bytes_eq name (codes "barriers")) pattern.Barriers
    (cond (bytes_eq name (codes "nested")) pattern.Nested
    (cond (bytes_eq name (codes "flags")) pattern.Flags
    (cond (bytes_eq name (codes "silences")) pattern.Silences pattern.Mixed)))))))

-- the pattern that the options give
abbrev pub drawn_pattern : DrawOptions → Pattern
drawn_pattern o = option_map_or (λ name. pattern_of_name (string_bytes name)) o.pattern pattern.Mixed

-- the seed that they give, or 0
abbrev pub drawn_seed : DrawOptions → ℕ
drawn_seed o = option_map_or (λ n. n) o.seed 0

-- they give no size
pub record AreSizesLeftOut (o : DrawOptions) : Type 0 where
  pub processors : o.processors ≡ None
  pub pages : o.pages ≡ None
  pub words : o.words ≡ None
  pub locks : o.locks ≡ None
  pub flags : o.flags ≡ None
  pub length : o.length ≡ None

-- this is the size, if one is asked for that fits into 32 bits
abbrev pub IsAskedSize : Option ℕ → ℕ → Type 0
IsAskedSize asked size = (n : ℕ) → asked ≡ Some n → n < 2 ^ 32 → size ≡ n

-- the script has the sizes that are asked for; flags only if its pattern has some
pub record HasAskedSizes (o : DrawOptions) (s : Plan) : Type 0 where
  pub processors : IsAskedSize o.processors s.processors
  pub pages : IsAskedSize o.pages s.pages
  pub words : IsAskedSize o.words s.words
  pub locks : IsAskedSize o.locks s.locks
  pub flags : IsTrue (has_flags_by_pattern (drawn_pattern o)) → IsAskedSize o.flags s.flags

-- a lawful script was written which has these sizes, never hangs, and never races if its pattern promises so; it is the stated one of this seed, if its
-- pattern has stated draws and no size is given
pub record IsScriptDrawn (o : DrawOptions) (old new : Option (List ℕ)) : Type 0 where
  pub script : Plan
  pub lawful : IsLawful script
  pub race_free : IsTrue (never_races_by_pattern (drawn_pattern o)) → NeverRacesFlat script
  pub never_hangs : NeverHangsFlat script
  pub sizes : HasAskedSizes o script
  pub stated : AreSizesLeftOut o → (style : Style) → plain_style (drawn_pattern o) ≡ Some style → script ≡ drawn style (seeded (drawn_seed o))
  pub written : Appends old new (text script)

-- the sources have this script, and a trace of these sizes and events
pub record AreScriptAndTrace (script trace : Option (List ℕ)) (s : Plan) (sizes : Sizes) (events : List Event) : Type 0 where
  pub read : IsServedScriptRead script s
  pub told : HasTraceCommandText false trace sizes events

-- the trace has the script's sizes, and follows it with the asks and watches put in that it leaves out
pub record IsFollowingTrace (s : Plan) (sizes : Sizes) (events : List Event) : Type 0 where
  pub sizes_are : plan_sizes s ≡ sizes
  pub follows : Follows s (with_asks events)

-- the sources have a script and a trace; it follows the script, or it doesn't
abbrev pub IsFollowsAnswer : Bool → Plan → Sizes → List Event → Type 0
IsFollowsAnswer true s sizes events = IsFollowingTrace s sizes events
IsFollowsAnswer false s sizes events = ¬ IsFollowingTrace s sizes events

pub record IsFollowsCommandDone (follows : Bool) (script trace : Option (List ℕ)) : Type 0 where
  pub plan : Plan
  pub sizes : Sizes
  pub events : List Event
  pub are : AreScriptAndTrace script trace plan sizes events
  pub answer : IsFollowsAnswer follows plan sizes events
