-- Which options exclude each other.
use Rattle.std.specs.Prelude.{◌&&◌, ◌||◌, Bool, true, false, List, Option, Some, codes, find, if◌then◌else◌, is_some, not, option_and_then}
use Rattle.std.specs.Option.{option_map_or}
use Rattle.std.specs.Str.{bytes_eq}
use Rattle.clap.specs.Words.{Row, Text, first_of}
use Rattle.clap.specs.declared.parser.matches.ValueSource.{ValueSource}
use Rattle.clap.specs.declared.parser.matches.ValueSource.TheVariants.{CommandLine}

-- it comes from the words, and isn't a default
abbrev pub is_from_words : Option ValueSource → Bool
is_from_words (Some CommandLine) = true
is_from_words _ = false

-- where what is found for an option comes from
abbrev pub clashing_option_source : Text → List Row → Option ValueSource
clashing_option_source id rows = option_and_then (λ r. r.source) (find (λ r. bytes_eq r.id id) rows)

-- the words give the option
abbrev pub is_option_in_words : Text → List Row → Bool
is_option_in_words id rows = is_from_words (clashing_option_source id rows)

-- a seed and a schedule are given
abbrev pub do_seed_and_schedule_clash : List Row → Bool
do_seed_and_schedule_clash rows = is_some (first_of (codes "seed") rows) && is_some (first_of (codes "schedule") rows)

-- a trace is to be judged both lax and strictly
abbrev pub do_lax_and_strict_clash : List Row → Bool
do_lax_and_strict_clash rows = is_option_in_words (codes "lax") rows && is_option_in_words (codes "strict") rows

-- a picture and JSON are asked for
abbrev pub do_picture_and_json_clash : List Row → Bool
do_picture_and_json_clash rows = is_option_in_words (codes "svg") rows && is_option_in_words (codes "json") rows

-- something is given that only a script has
abbrev pub has_clashing_script_option : List Row → Bool
has_clashing_script_option rows = is_option_in_words (codes "seed") rows
    || (is_option_in_words (codes "schedule") rows || is_option_in_words (codes "lock") rows)

-- something is given that only a trace has
abbrev pub has_clashing_trace_option : List Row → Bool
has_clashing_trace_option rows = is_option_in_words (codes "model") rows
    || (is_option_in_words (codes "lax") rows
    || (is_option_in_words (codes "strict") rows || is_option_in_words (codes "unfinished") rows))

-- the state of this memory's pages is asked for
abbrev pub has_clashing_page_option : List Row → Bool
has_clashing_page_option rows = is_option_in_words (codes "state") rows || is_option_in_words (codes "html") rows

-- a trace is to be judged by this memory's own model
abbrev pub is_own_model : List Row → Bool
is_own_model rows = option_map_or (λ t. bytes_eq t (codes "lazy-release")) (first_of (codes "model") rows) false

-- beside `--trace` something is given that only a script has, or pages are asked for without this memory's model
abbrev pub does_trace_clash : List Row → Bool
does_trace_clash rows = has_clashing_script_option rows || (not (is_own_model rows) && has_clashing_page_option rows)

-- a seed and a schedule are given, or that a trace is judged both lax and strictly, or a picture and JSON are asked for, or to `explain`
-- is given what doesn't go with `--trace`, or what wants it
abbrev pub do_options_clash_together : Text → List Row → Bool
do_options_clash_together name rows = do_seed_and_schedule_clash rows
    || (do_lax_and_strict_clash rows
    || (do_picture_and_json_clash rows
    || (bytes_eq name (codes "explain")
    && (if is_option_in_words (codes "trace") rows then does_trace_clash rows else has_clashing_trace_option rows))))
