-- What the program's words give.
use Rattle.std.specs.Prelude.{ℕ, ◌≡◌, ◌||◌, ◌<◌, ◌≤◌, ◌-◌, ◌^◌, ◌⊎◌, Bool, true, false, List, [], ◌∷◌, Option, Some, None, IfSome, codes, cond, map, not, option_map, replicate, string_bytes}
use Rattle.std.specs.Option.{option_map_or}
use Rattle.std.specs.Str.{bytes_eq}
use Rattle.std.specs.Str.Parse.{IsNumeral, digits_value, without_leading_plus}
use Rattle.clap.specs.Words.{App, app_of, HasKind, Row, Rule, Text, new_app, new_rule, with_rule, with_subcommand, subcommand_of, first_of, one_of, fault_of}
use Rattle.clap.specs.Simple.{on_top}
use Rattle.clap.specs.Values.{IsUnsignedIn, kind_of}
use Rattle.clap.specs.declared.builder.action.ArgAction.TheVariants.{SetTrue}
use Rattle.clap.specs.declared.builder.command.Command.{Command}
use Rattle.clap.specs.declared.builder.command.Command.TheViews.{out-Command}
use Rattle.clap.specs.declared.builder.value_parser.ValueParser.{ValueParser}
use Rattle.clap.specs.declared.builder.value_parser.ValueParser.TheVariants as vp
use Rattle.clap.specs.declared.error.Error.{Error}
use Rattle.clap.specs.declared.error.kind.ErrorKind.TheVariants.{ArgumentConflict, OutOfMemory, ValueValidation}
use Rattle.base.specs.Limits.{most_processors}
use Rattle.lrc_script.specs.LineReading.{parts_of_read_line}
use Rattle.lrc_options.specs.Clashes.{do_options_clash_together, is_option_in_words, is_own_model}
use Rattle.lrc_options.specs.FinalWords.{AreFinalWordsWritten}
use Rattle.lrc_options.specs.PageWords.{ArePageWordsWritten}
use Rattle.lrc_options.specs.Ranges.{AreProcessorsWritten, IsOptionRangeWritten, most_trace_processors}
use Rattle.lrc_options.specs.declared.ranges.EventRange.{EventRange}
use Rattle.lrc_options.specs.declared.options.Asked.{Asked}
use Rattle.lrc_options.specs.declared.options.Asked.TheVariants.{Draw, Explain, Explore, Follow, Pages, Sample, Script, Tell, Trace}
use Rattle.lrc_options.specs.declared.options.DrawOptions.{DrawOptions}
use Rattle.lrc_options.specs.declared.options.ExplainOptions.{ExplainOptions}
use Rattle.lrc_options.specs.declared.options.ExploreOptions.{ExploreOptions}
use Rattle.lrc_options.specs.declared.options.FollowOptions.{FollowOptions}
use Rattle.lrc_options.specs.declared.options.Options.{Options}
use Rattle.lrc_options.specs.declared.options.PagesOptions.{PagesOptions}
use Rattle.lrc_options.specs.declared.options.SampleOptions.{SampleOptions}
use Rattle.lrc_options.specs.declared.options.TellOptions.{TellOptions}
use Rattle.lrc_options.specs.declared.options.OutcomeDetail.{OutcomeDetail}
use Rattle.lrc_options.specs.declared.options.OutcomeDetail.TheVariants as outcome_detail
use Rattle.lrc_options.specs.declared.options.TraceLocksets.{TraceLocksets}
use Rattle.lrc_options.specs.declared.options.TraceLocksets.TheVariants as lockset_words
use Rattle.lrc_options.specs.declared.options.TraceModel.{TraceModel}
use Rattle.lrc_options.specs.declared.options.TraceModel.TheVariants.{HappensBefore, LazyRelease, RaceFree, Sequential}
use Rattle.lrc_options.specs.declared.options.TraceOptions.{TraceOptions}
use Rattle.lrc_options.specs.declared.options.ShowOptions.{ShowOptions}

-- the limits and the default of `--tries`, the limit of `--seed`, `--seeds` and `--most`, and the defaults of the latter two
abbrev pub option_rule_most_tries : ℕ
option_rule_most_tries = 1000000000

abbrev pub option_rule_default_tries : ℕ
option_rule_default_tries = 1000000

abbrev pub option_rule_most_seed : ℕ
option_rule_most_seed = 2 ^ 32 - 1

abbrev pub option_rule_default_seeds : ℕ
option_rule_default_seeds = 1000

abbrev pub option_rule_default_most : ℕ
option_rule_default_most = 1000000

-- an option with a value
abbrev pub option_rule : Text → Rule
option_rule id = record (new_rule id) { long = Some id; value_names = 1 }

-- one whose value is a number in this range
abbrev pub number_option_rule : Text → ℕ → ℕ → Rule
number_option_rule id least most = record (option_rule id) { parser = Some (vp.Unsigned least most) }

abbrev pub tries_option_rule : Rule
tries_option_rule = record (number_option_rule (codes "tries") 1 option_rule_most_tries) { defaults = codes "1000000" ∷ [] }

abbrev pub seed_option_rule : Rule
seed_option_rule = number_option_rule (codes "seed") 0 option_rule_most_seed

abbrev pub schedule_option_rule : Rule
schedule_option_rule = option_rule (codes "schedule")

abbrev pub seeds_option_rule : Rule
seeds_option_rule = record (number_option_rule (codes "seeds") 1 option_rule_most_seed) { defaults = codes "1000" ∷ [] }

abbrev pub most_option_rule : Rule
most_option_rule = record (number_option_rule (codes "most") 0 option_rule_most_seed) { defaults = codes "1000000" ∷ [] }

abbrev pub lock_option_rule : ValueParser → Rule
lock_option_rule locks = record (option_rule (codes "lock")) { parser = Some locks; defaults = codes "array" ∷ [] }

abbrev pub model_option_rule : ValueParser → Rule
model_option_rule models = record (option_rule (codes "model")) { parser = Some models; defaults = codes "race-free" ∷ [] }

-- an option without a value
abbrev pub flag_option_rule : Text → Rule
flag_option_rule id = record (new_rule id) { long = Some id; action = Some SetTrue }

abbrev pub journal_option_rule : Rule
journal_option_rule = flag_option_rule (codes "journal")

abbrev pub svg_option_rule : Rule
svg_option_rule = flag_option_rule (codes "svg")

abbrev pub html_option_rule : Rule
html_option_rule = flag_option_rule (codes "html")

abbrev pub state_option_rule : Rule
state_option_rule = flag_option_rule (codes "state")

abbrev pub events_option_rule : Rule
events_option_rule = option_rule (codes "events")

abbrev pub processors_option_rule : Rule
processors_option_rule = option_rule (codes "processors")

abbrev pub until_option_rule : Rule
until_option_rule = option_rule (codes "until")

abbrev pub outcomes_option_rule : ValueParser → Rule
outcomes_option_rule details = record (option_rule (codes "outcomes")) { parser = Some details; defaults = codes "words" ∷ [] }

abbrev pub json_option_rule : Rule
json_option_rule = flag_option_rule (codes "json")

-- the pattern that `draw` draws a script by, of those that this parser lets through
abbrev pub pattern_option_rule : ValueParser → Rule
pattern_option_rule patterns = record (new_rule (codes "PATTERN")) { parser = Some patterns; defaults = codes "mixed" ∷ [] }

-- a command of this shape, of which no argument is global
pub record IsCommandByOptionRules (a : App) (c : Command) : Type 0 where
  pub shape : app_of c ≡ a
  pub local : (out-Command c).has_globals ≡ false

-- a command on a file
abbrev pub file_option_rules : Text → App
file_option_rules name = with_rule (new_app name) (new_rule (codes "FILE"))

-- the same with an option of its own and `--lock`, which takes what this parser lets through
abbrev pub script_option_rules : Text → Rule → ValueParser → App
script_option_rules name own locks = with_rule (with_rule (file_option_rules name) own) (lock_option_rule locks)

-- the same with a flag
abbrev pub flagged_option_rules : Text → Rule → ValueParser → Rule → App
flagged_option_rules name own locks flag = with_rule (script_option_rules name own locks) flag

-- `lrc run` and `lrc step`
abbrev pub run_option_rules : ValueParser → App
run_option_rules locks = flagged_option_rules (codes "run") tries_option_rule locks journal_option_rule

abbrev pub step_option_rules : ValueParser → App
step_option_rules locks = with_rule (flagged_option_rules (codes "step") seed_option_rule locks journal_option_rule) schedule_option_rule

-- a command whose options say how a trace is judged: its model, of those that this parser lets through
abbrev pub lax_option_rule : Rule
lax_option_rule = flag_option_rule (codes "lax")

abbrev pub strict_option_rule : Rule
strict_option_rule = flag_option_rule (codes "strict")

abbrev pub unfinished_option_rule : Rule
unfinished_option_rule = flag_option_rule (codes "unfinished")

abbrev pub judged_option_rules : App → ValueParser → App
judged_option_rules a models =
    with_rule (with_rule (with_rule (with_rule a (model_option_rule models)) strict_option_rule) lax_option_rule) unfinished_option_rule

-- `lrc explain` of a script
abbrev pub told_option_rules : ValueParser → App
told_option_rules locks = with_rule (with_rule (with_rule (with_rule (with_rule
    (flagged_option_rules (codes "explain") seed_option_rule locks svg_option_rule) html_option_rule) schedule_option_rule) state_option_rule) events_option_rule) processors_option_rule

-- `lrc explain`
abbrev pub traced_option_rule : Rule
traced_option_rule = flag_option_rule (codes "trace")

abbrev pub explain_option_rules : ValueParser → ValueParser → App
explain_option_rules locks models = judged_option_rules (with_rule (told_option_rules locks) traced_option_rule) models

-- `lrc sample`
abbrev pub option_rule_most_jobs : ℕ
option_rule_most_jobs = 64

abbrev pub jobs_option_rule : Rule
jobs_option_rule = number_option_rule (codes "jobs") 1 option_rule_most_jobs

abbrev pub sample_option_rules : ValueParser → ValueParser → App
sample_option_rules locks details =
    with_rule (with_rule (with_rule (script_option_rules (codes "sample") seeds_option_rule locks) (outcomes_option_rule details)) jobs_option_rule) json_option_rule

-- `lrc explore`
abbrev pub explore_option_rules : ValueParser → App
explore_option_rules details =
    with_rule (with_rule (with_rule (with_rule (file_option_rules (codes "explore")) most_option_rule) until_option_rule) (outcomes_option_rule details)) json_option_rule

-- `lrc check`
abbrev pub race_is_error_option_rule : Rule
race_is_error_option_rule = flag_option_rule (codes "race-is-error")

abbrev pub locksets_option_rule : ValueParser → Rule
locksets_option_rule words = record (option_rule (codes "locksets")) { parser = Some words }

-- how many races of a program are told at most
abbrev pub option_rule_most_races : ℕ
option_rule_most_races = 1000

abbrev pub program_option_rule : Rule
program_option_rule = flag_option_rule (codes "program")

abbrev pub races_option_rule : Rule
races_option_rule = number_option_rule (codes "most") 1 option_rule_most_races

abbrev pub suppress_option_rule : Rule
suppress_option_rule = option_rule (codes "suppress")

-- `lrc check`, without what is asked of a program's trace, and with it
abbrev pub checked_option_rules : ValueParser → ValueParser → App
checked_option_rules models words =
    with_rule (with_rule (judged_option_rules (file_option_rules (codes "check")) models) race_is_error_option_rule) (locksets_option_rule words)

abbrev pub check_option_rules : ValueParser → ValueParser → App
check_option_rules models words =
    with_rule (with_rule (with_rule (with_rule (checked_option_rules models words) program_option_rule) races_option_rule) suppress_option_rule) json_option_rule

-- `lrc draw`, without its sizes and with them
abbrev pub drawn_option_rules : ValueParser → App
drawn_option_rules patterns = with_rule (with_rule (new_app (codes "draw")) (pattern_option_rule patterns)) seed_option_rule

abbrev pub draw_option_rules : ValueParser → App
draw_option_rules patterns = with_rule (with_rule (with_rule (with_rule (with_rule (with_rule (drawn_option_rules patterns)
    (number_option_rule (codes "processors") 1 16)) (number_option_rule (codes "pages") 1 64)) (number_option_rule (codes "words") 1 64))
    (number_option_rule (codes "locks") 1 32)) (number_option_rule (codes "flags") 1 32)) (number_option_rule (codes "length") 1 400)

-- `lrc follows`
abbrev pub follows_option_rules : App
follows_option_rules = with_rule (file_option_rules (codes "follows")) (new_rule (codes "TRACE"))

-- `lrc pages`
abbrev pub page_words_option_rule : Rule
page_words_option_rule = option_rule (codes "page-words")

abbrev pub option_rule_most_top : ℕ
option_rule_most_top = 1000

abbrev pub top_option_rule : Rule
top_option_rule = number_option_rule (codes "top") 1 option_rule_most_top

abbrev pub eager_option_rule : Rule
eager_option_rule = flag_option_rule (codes "eager")

abbrev pub pages_option_rules : App
pages_option_rules =
    with_rule (with_rule (with_rule (with_rule (with_rule (file_option_rules (codes "pages")) page_words_option_rule) top_option_rule) eager_option_rule) svg_option_rule) json_option_rule

-- `lrc` without its commands: it wants one, and has a version
abbrev pub bare_option_rules : App
bare_option_rules = on_top (λ s. record s { subcommand_required = true; has_version = true }) (new_app (codes "lrc"))

-- what takes the names of locks, of models, of words without a lock, of what outcomes tell, and of patterns
pub record OptionParsers : Type 0 where
  pub locks : ValueParser
  pub models : ValueParser
  pub words : ValueParser
  pub details : ValueParser
  pub patterns : ValueParser

abbrev pub option_parsers : ValueParser → ValueParser → ValueParser → ValueParser → ValueParser → OptionParsers
option_parsers locks models words details patterns =
    record { locks = locks; models = models; words = words; details = details; patterns = patterns }

-- `lrc` with all its commands
abbrev pub lrc_option_rules : OptionParsers → App
lrc_option_rules by = with_subcommand (with_subcommand (with_subcommand (with_subcommand (with_subcommand (with_subcommand (with_subcommand (with_subcommand (with_subcommand bare_option_rules
    (run_option_rules by.locks).top) (step_option_rules by.locks).top) (explain_option_rules by.locks by.models).top) (sample_option_rules by.locks by.details).top)
    (explore_option_rules by.details).top) (check_option_rules by.models by.words).top) (draw_option_rules by.patterns).top) follows_option_rules.top) pages_option_rules.top

-- the parser takes these names and no others
abbrev pub OptionTakesNames : List Text → ValueParser → Type 0
OptionTakesNames names (vp.Names given) = map (λ s. s.now) given.now ≡ names
OptionTakesNames names _ = ⊥

-- these are the names that may be given
pub record AreOptionParsers (by : OptionParsers) : Type 0 where
  pub locks : OptionTakesNames (codes "array" ∷ codes "ticket" ∷ []) by.locks
  pub models :
      OptionTakesNames (codes "race-free" ∷ codes "happens-before" ∷ codes "lazy-release" ∷ codes "sequential" ∷ []) by.models
  pub words : OptionTakesNames (codes "forgotten" ∷ codes "all" ∷ []) by.words
  pub details : OptionTakesNames (codes "words" ∷ codes "loads" ∷ codes "all" ∷ []) by.details
  pub patterns : OptionTakesNames (codes "guarded" ∷ codes "free" ∷ codes "chains" ∷ codes "sharing" ∷ codes "barriers"
      ∷ codes "nested" ∷ codes "flags" ∷ codes "silences" ∷ codes "mixed" ∷ []) by.patterns

-- the number that a text gives
abbrev pub option_rule_number : Text → ℕ
option_rule_number t = digits_value 10 (without_leading_plus t)

-- the number that is given, if the text is one of 64 bits
pub record IsNumberReadByOptionRule (given : Option Text) (n : Option ℕ) : Type 0 where
  pub read : (t : Text) → given ≡ Some t → IsNumeral 10 (without_leading_plus t) → option_rule_number t < 2 ^ 64
      → n ≡ Some (option_rule_number t)
  pub none : given ≡ None → n ≡ None

-- the number that is given, or the default; it is in range
pub record IsNumberByOptionRule (least most default : ℕ) (given : Option Text) (n : ℕ) : Type 0 where
  pub read : (t : Text) → given ≡ Some t → IsUnsignedIn least most t → n ≡ option_rule_number t
  pub default_is : given ≡ None → n ≡ default
  pub least_is : least ≤ n
  pub most_is : n ≤ most

-- the seed that is given, or none; it is in range
pub record IsSeedByOptionRule (given : Option Text) (seed : Option ℕ) : Type 0 where
  pub read : (t : Text) → given ≡ Some t → IsUnsignedIn 0 option_rule_most_seed t → seed ≡ Some (option_rule_number t)
  pub none : given ≡ None → seed ≡ None
  pub most_is : IfSome seed (λ n. n ≤ option_rule_most_seed)

-- the number in a range that is given, or none
pub record IsSizeByOptionRule (most : ℕ) (given : Option Text) (size : Option ℕ) : Type 0 where
  pub read : (t : Text) → given ≡ Some t → IsUnsignedIn 1 most t → size ≡ Some (option_rule_number t)
  pub none : given ≡ None → size ≡ None
  pub least_is : IfSome size (λ n. 1 ≤ n)
  pub most_is : IfSome size (λ n. n ≤ most)

-- whether a flag is set
pub record IsFlagByOptionRule (given : Option Text) (flag : Bool) : Type 0 where
  pub set : given ≡ Some (codes "true") → flag ≡ true
  pub unset : given ≡ Some (codes "false") → flag ≡ false
  pub none : given ≡ None → flag ≡ false

-- whether one of two flags is set
abbrev pub IsOneOfFlagsByOptionRule : Option Text → Option Text → Bool → Type 0
IsOneOfFlagsByOptionRule one two flag = (a : Bool) × (b : Bool) × IsFlagByOptionRule one a × IsFlagByOptionRule two b × (flag ≡ (a || b))

-- the options that a command's name and its rows give
pub record AreOptionsByRulesOfScript (name : Text) (rows : List Row) (o : Options) : Type 0 where
  pub step : o.step ≡ bytes_eq name (codes "step")
  pub file : option_map (λ f. string_bytes f) o.file ≡ first_of (codes "FILE") rows
  pub tries : IsNumberByOptionRule 1 option_rule_most_tries option_rule_default_tries (one_of (codes "tries") rows) o.tries
  pub seed : IsSeedByOptionRule (one_of (codes "seed") rows) o.seed
  pub schedule : option_map (λ t. string_bytes t) o.schedule ≡ first_of (codes "schedule") rows
  pub ticket : o.ticket ≡ option_map_or (λ t. bytes_eq t (codes "ticket")) (first_of (codes "lock") rows) false
  pub journal : IsFlagByOptionRule (one_of (codes "journal") rows) o.journal

-- the model of this name
abbrev pub option_rule_named_model : Text → TraceModel
option_rule_named_model name = cond (bytes_eq name (codes "happens-before")) HappensBefore
    (cond (bytes_eq name (codes "lazy-release")) LazyRelease
    (cond (bytes_eq name (codes "sequential")) Sequential RaceFree))

-- the model that is asked for, or the default
abbrev pub option_rule_model_given : List Row → TraceModel
option_rule_model_given rows = option_map_or option_rule_named_model (first_of (codes "model") rows) RaceFree

-- the words without a lock that this name gives
abbrev pub option_rule_named_locksets : Text → TraceLocksets
option_rule_named_locksets name = cond (bytes_eq name (codes "all")) lockset_words.All lockset_words.Forgotten

-- those that are asked for, if any are
abbrev pub option_rule_locksets_given : List Row → Option TraceLocksets
option_rule_locksets_given rows = option_map option_rule_named_locksets (first_of (codes "locksets") rows)

-- what is told by this name
abbrev pub option_rule_named_detail : Text → OutcomeDetail
option_rule_named_detail name = cond (bytes_eq name (codes "loads")) outcome_detail.Loads
    (cond (bytes_eq name (codes "all")) outcome_detail.All outcome_detail.Words)

-- how much of a run is told, or the default
abbrev pub option_rule_detail_given : List Row → OutcomeDetail
option_rule_detail_given rows = option_map_or option_rule_named_detail (first_of (codes "outcomes") rows) outcome_detail.Words

-- whether a trace is judged lax: if that is asked for, and under every model but this memory's own unless it is judged strictly
pub record IsLaxByOptionRules (rows : List Row) (lax : Bool) : Type 0 where
  pub asked : Bool
  pub strict : Bool
  pub asked_is : IsFlagByOptionRule (one_of (codes "lax") rows) asked
  pub strict_is : IsFlagByOptionRule (one_of (codes "strict") rows) strict
  pub lax_is : lax ≡ (asked || not (strict || is_own_model rows))

-- the options that the rows of `check` give
pub record AreOptionsByRulesOfTrace (rows : List Row) (o : TraceOptions) : Type 0 where
  pub file : option_map (λ f. string_bytes f) o.file ≡ first_of (codes "FILE") rows
  pub model : o.model ≡ option_rule_model_given rows
  pub lax : IsLaxByOptionRules rows o.lax
  pub unfinished : IsFlagByOptionRule (one_of (codes "unfinished") rows) o.unfinished
  pub race_is_error : IsFlagByOptionRule (one_of (codes "race-is-error") rows) o.race_is_error
  pub locksets : o.locksets ≡ option_rule_locksets_given rows
  pub program : IsFlagByOptionRule (one_of (codes "program") rows) o.program
  pub most : IsSizeByOptionRule option_rule_most_races (one_of (codes "most") rows) o.most
  pub suppress : option_map (λ f. string_bytes f) o.suppress ≡ first_of (codes "suppress") rows
  pub json : IsFlagByOptionRule (one_of (codes "json") rows) o.json

-- whether the ticket lock is asked for
abbrev pub option_rule_ticket : List Row → Bool
option_rule_ticket rows = option_map_or (λ t. bytes_eq t (codes "ticket")) (first_of (codes "lock") rows) false

-- the options that the rows of `sample` give
pub record AreOptionsByRulesOfSample (rows : List Row) (o : SampleOptions) : Type 0 where
  pub file : option_map (λ f. string_bytes f) o.file ≡ first_of (codes "FILE") rows
  pub seeds : IsNumberByOptionRule 1 option_rule_most_seed option_rule_default_seeds (one_of (codes "seeds") rows) o.seeds
  pub outcomes : o.outcomes ≡ option_rule_detail_given rows
  pub ticket : o.ticket ≡ option_rule_ticket rows
  pub jobs : IsSizeByOptionRule option_rule_most_jobs (one_of (codes "jobs") rows) o.jobs
  pub json : IsFlagByOptionRule (one_of (codes "json") rows) o.json

-- the words that are given, or none
abbrev pub AreUntilWordsByOptionRule : Option Text → List (ℕ × ℕ) → Type 0
AreUntilWordsByOptionRule None words = words ≡ []
AreUntilWordsByOptionRule (Some t) words = AreFinalWordsWritten (parts_of_read_line 44 t) words

-- the options that the rows of `explore` give
pub record AreOptionsByRulesOfExplore (rows : List Row) (o : ExploreOptions) : Type 0 where
  pub file : option_map (λ f. string_bytes f) o.file ≡ first_of (codes "FILE") rows
  pub most : IsNumberByOptionRule 0 option_rule_most_seed option_rule_default_most (one_of (codes "most") rows) o.most
  pub until : AreUntilWordsByOptionRule (first_of (codes "until") rows) o.until.items
  pub outcomes : o.outcomes ≡ option_rule_detail_given rows
  pub json : IsFlagByOptionRule (one_of (codes "json") rows) o.json

-- the options that the rows of `draw` give
pub record AreOptionsByRulesOfDraw (rows : List Row) (o : DrawOptions) : Type 0 where
  pub pattern : option_map (λ f. string_bytes f) o.pattern ≡ first_of (codes "PATTERN") rows
  pub seed : IsSeedByOptionRule (one_of (codes "seed") rows) o.seed
  pub processors : IsSizeByOptionRule 16 (one_of (codes "processors") rows) o.processors
  pub pages : IsSizeByOptionRule 64 (one_of (codes "pages") rows) o.pages
  pub words : IsSizeByOptionRule 64 (one_of (codes "words") rows) o.words
  pub locks : IsSizeByOptionRule 32 (one_of (codes "locks") rows) o.locks
  pub flags : IsSizeByOptionRule 32 (one_of (codes "flags") rows) o.flags
  pub length : IsSizeByOptionRule 400 (one_of (codes "length") rows) o.length

-- those that the rows of `follows` give
pub record AreOptionsByRulesOfFollow (rows : List Row) (o : FollowOptions) : Type 0 where
  pub script : option_map (λ f. string_bytes f) o.script ≡ first_of (codes "FILE") rows
  pub trace : option_map (λ f. string_bytes f) o.trace ≡ first_of (codes "TRACE") rows

-- the page sizes that are given, or the default
abbrev pub ArePageWordsByOptionRule : Option Text → List ℕ → Type 0
ArePageWordsByOptionRule None words = words ≡ 128 ∷ 256 ∷ 1024 ∷ 4096 ∷ []
ArePageWordsByOptionRule (Some t) words = ArePageWordsWritten (parts_of_read_line 44 t) words

-- the options that the rows of `pages` give
pub record AreOptionsByRulesOfPages (rows : List Row) (o : PagesOptions) : Type 0 where
  pub file : option_map (λ f. string_bytes f) o.file ≡ first_of (codes "FILE") rows
  pub page_words : ArePageWordsByOptionRule (first_of (codes "page-words") rows) o.page_words.items
  pub top : IsSizeByOptionRule option_rule_most_top (one_of (codes "top") rows) o.top
  pub eager : IsFlagByOptionRule (one_of (codes "eager") rows) o.eager
  pub svg : IsFlagByOptionRule (one_of (codes "svg") rows) o.svg
  pub json : IsFlagByOptionRule (one_of (codes "json") rows) o.json

-- the events that are given, or all
abbrev pub AreEventsByOptionRule : Option Text → EventRange → Type 0
AreEventsByOptionRule None x = (x.first ≡ 0) × (x.end ≡ None)
AreEventsByOptionRule (Some t) x = IsOptionRangeWritten t x

-- so many processors may be given: those of a trace, or of a script's cluster
abbrev pub option_rule_most_processors : List Row → ℕ
option_rule_most_processors rows = cond (is_option_in_words (codes "trace") rows) most_trace_processors most_processors

-- the processors that are given, numbers below n, or all
abbrev pub AreProcessorsByOptionRule : ℕ → Option Text → List Bool → Type 0
AreProcessorsByOptionRule n None marks = marks ≡ replicate most_trace_processors true
AreProcessorsByOptionRule n (Some t) marks = AreProcessorsWritten n (parts_of_read_line 44 t) marks

-- what the rows of `explain` say that is shown of a history, and how
pub record AreOptionsByRulesOfShowing (rows : List Row) (v : ShowOptions) : Type 0 where
  pub picture : IsOneOfFlagsByOptionRule (one_of (codes "svg") rows) (one_of (codes "html") rows) v.picture
  pub page : IsFlagByOptionRule (one_of (codes "html") rows) v.page
  pub state : IsFlagByOptionRule (one_of (codes "state") rows) v.state
  pub events : AreEventsByOptionRule (first_of (codes "events") rows) v.events
  pub processors : AreProcessorsByOptionRule (option_rule_most_processors rows) (first_of (codes "processors") rows) v.processors

-- the options that the rows of `explain` give
pub record AreOptionsByRulesOfExplain (rows : List Row) (o : ExplainOptions) : Type 0 where
  pub file : option_map (λ f. string_bytes f) o.file ≡ first_of (codes "FILE") rows
  pub seed : IsSeedByOptionRule (one_of (codes "seed") rows) o.seed
  pub schedule : option_map (λ t. string_bytes t) o.schedule ≡ first_of (codes "schedule") rows
  pub ticket : o.ticket ≡ option_rule_ticket rows
  pub showing : AreOptionsByRulesOfShowing rows o.showing

-- those that the rows of `explain --trace` give
pub record AreOptionsByRulesOfTell (rows : List Row) (o : TellOptions) : Type 0 where
  pub file : option_map (λ f. string_bytes f) o.file ≡ first_of (codes "FILE") rows
  pub model : o.model ≡ option_rule_model_given rows
  pub lax : IsLaxByOptionRules rows o.lax
  pub unfinished : IsFlagByOptionRule (one_of (codes "unfinished") rows) o.unfinished
  pub showing : AreOptionsByRulesOfShowing rows o.showing

-- a run of a script is to be explained, or with `--trace` a trace is to be told
abbrev pub IsExplanationAskedByOptionRules : List Row → Asked → Type 0
IsExplanationAskedByOptionRules rows (Explain o) = (is_option_in_words (codes "trace") rows ≡ false) × AreOptionsByRulesOfExplain rows o
IsExplanationAskedByOptionRules rows (Tell o) = (is_option_in_words (codes "trace") rows ≡ true) × AreOptionsByRulesOfTell rows o
IsExplanationAskedByOptionRules rows _ = ⊥

-- what a command's name and its rows ask for
abbrev pub AreOptionsAskedByRules : Text → List Row → Asked → Type 0
AreOptionsAskedByRules name rows (Explain o) = (bytes_eq name (codes "explain") ≡ true) × IsExplanationAskedByOptionRules rows (Explain o)
AreOptionsAskedByRules name rows (Tell o) = (bytes_eq name (codes "explain") ≡ true) × IsExplanationAskedByOptionRules rows (Tell o)
AreOptionsAskedByRules name rows (Sample o) = (bytes_eq name (codes "sample") ≡ true) × AreOptionsByRulesOfSample rows o
AreOptionsAskedByRules name rows (Explore o) = (bytes_eq name (codes "explore") ≡ true) × AreOptionsByRulesOfExplore rows o
AreOptionsAskedByRules name rows (Trace o) = (bytes_eq name (codes "check") ≡ true) × AreOptionsByRulesOfTrace rows o
AreOptionsAskedByRules name rows (Draw o) = (bytes_eq name (codes "draw") ≡ true) × AreOptionsByRulesOfDraw rows o
AreOptionsAskedByRules name rows (Follow o) = (bytes_eq name (codes "follows") ≡ true) × AreOptionsByRulesOfFollow rows o
AreOptionsAskedByRules name rows (Pages o) = (bytes_eq name (codes "pages") ≡ true) × AreOptionsByRulesOfPages rows o
AreOptionsAskedByRules name rows (Script o) = (bytes_eq name (codes "explain") ≡ false)
    × (bytes_eq name (codes "sample") ≡ false)
    × (bytes_eq name (codes "explore") ≡ false)
    × (bytes_eq name (codes "check") ≡ false)
    × (bytes_eq name (codes "draw") ≡ false)
    × (bytes_eq name (codes "follows") ≡ false)
    × (bytes_eq name (codes "pages") ≡ false)
    × AreOptionsByRulesOfScript name rows o

-- what the words ask for, by the matches of a simple command, which find no fault in them; no options exclude each other
pub record AreOptionsGivenByRules (words : List Text) (o : Asked) : Type 0 where
  pub parsers : OptionParsers
  pub parsers_are : AreOptionParsers parsers
  pub faultless : fault_of (lrc_option_rules parsers) words ≡ []
  pub name : Text
  pub rows : List Row
  pub command : subcommand_of (lrc_option_rules parsers) words ≡ Some (name, rows)
  pub apart : do_options_clash_together name rows ≡ false
  pub asked : AreOptionsAskedByRules name rows o

-- the words give options that exclude each other, and the fault says so
pub record IsOptionConflict (parsers : OptionParsers) (words : List Text) (e : Error) : Type 0 where
  pub name : Text
  pub rows : List Row
  pub command : subcommand_of (lrc_option_rules parsers) words ≡ Some (name, rows)
  pub clash : do_options_clash_together name rows ≡ true
  pub kind : kind_of e ≡ ArgumentConflict

-- what is given for the events, for the processors, for the words or for the page sizes can't be read
abbrev pub IsOptionUnread : List Row → Type 0
IsOptionUnread rows = ((x : EventRange) → ¬ AreEventsByOptionRule (first_of (codes "events") rows) x)
    ⊎ (((marks : List Bool) → ¬ AreProcessorsByOptionRule (option_rule_most_processors rows) (first_of (codes "processors") rows) marks)
    ⊎ (((words : List (ℕ × ℕ)) → ¬ AreUntilWordsByOptionRule (first_of (codes "until") rows) words)
    ⊎ ((words : List ℕ) → ¬ ArePageWordsByOptionRule (first_of (codes "page-words") rows) words)))

-- the words give such a text, and the fault says so
pub record IsOptionMisread (parsers : OptionParsers) (words : List Text) (e : Error) : Type 0 where
  pub name : Text
  pub rows : List Row
  pub command : subcommand_of (lrc_option_rules parsers) words ≡ Some (name, rows)
  pub unread : IsOptionUnread rows
  pub kind : kind_of e ≡ ValueValidation

-- what is shown isn't answered: memory ran out, or a text can't be read
abbrev pub IsShowingUnreadByOptionRules : List Row → Error → Type 0
IsShowingUnreadByOptionRules rows e = (kind_of e ≡ OutOfMemory) ⊎ (IsOptionUnread rows × (kind_of e ≡ ValueValidation))

-- a command isn't answered: options exclude each other, or what is shown isn't answered
abbrev pub IsOptionUnanswered : Text → List Row → Error → Type 0
IsOptionUnanswered name rows e = ((do_options_clash_together name rows ≡ true) × (kind_of e ≡ ArgumentConflict)) ⊎ IsShowingUnreadByOptionRules rows e

-- memory ran out, or the matches of that command find a fault of this kind in the words, or options that exclude each other, or a
-- text that can't be read
pub record AreOptionsRefusedByRules (words : List Text) (e : Error) : Type 0 where
  pub parsers : OptionParsers
  pub parsers_are : AreOptionParsers parsers
  pub kind : HasKind (fault_of (lrc_option_rules parsers) words) e
      ⊎ (IsOptionConflict parsers words e ⊎ IsOptionMisread parsers words e)
