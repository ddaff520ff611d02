-- What the getters of clap's matches read, by the rows.
use Rattle.std.proofs.Common.{◌≡◌, ◌⊎◌, ◌∙◌, ◌<◌, ◌≤◌, ◌^◌, ℕ, Bool, true, false, List, Option, Some, None, Result, Ok, Err, [], ◌∷◌, inl, inr, refl, subst, sym, ap, ap₂, codes, cond, map}
use Rattle.std.specs.Prelude.{◌||◌, IfErr, IfOk, OnOk, find, is_some, option_and_then, option_map}
use Rattle.std.specs.Option.{option_map_or}
use Rattle.std.specs.Str.{bytes_eq}
use Rattle.std.specs.Str.Parse.{IsNumeral, ParsesUnsigned, without_leading_plus}
use Rattle.std.proofs.lemmas.Option.{same_Some}
use Rattle.clap.specs.Facts.{Entry}
use Rattle.clap.specs.Walk.{row_of}
use Rattle.clap.specs.declared.parser.matches.MatchedArg.{MatchedArg}
use Rattle.clap.specs.Words.{App, FailsBy, fault_of, HasKind, IsAmong, Kinds, Row, Rule, Text, ReadsOne, first_of, first_value, matched_of, one_of, one_text, rows_of, subcommand_of, with_rule}
use Rattle.clap.specs.declared.builder.command.Command.{Command}
use Rattle.clap.specs.declared.parser.matches.Found.{Found}
use Rattle.clap.specs.declared.error.Error.{Error}
use Rattle.clap.proofs.WalkLemmas.{first_value-rows, one_text-rows}
use Rattle.clap.specs.Values.{kind_of}
use Rattle.clap.specs.declared.builder.value_parser.ValueParser.{ValueParser}
use Rattle.clap.specs.declared.error.kind.ErrorKind.TheVariants.{OutOfMemory}
use Rattle.lrc_options.specs.declared.options.Asked.{Asked}
use Rattle.lrc_options.specs.declared.options.OutcomeDetail.{OutcomeDetail}
use Rattle.lrc_options.specs.declared.options.OutcomeDetail.TheVariants.{Words}
use Rattle.lrc_options.specs.declared.options.TraceModel.{TraceModel}
use Rattle.lrc_options.specs.declared.options.TraceLocksets.{TraceLocksets}
use Rattle.lrc_options.specs.declared.options.TraceModel.TheVariants.{RaceFree}
use Rattle.lrc_options.specs.Clashes.{do_options_clash_together, clashing_option_source}
use Rattle.lrc_options.specs.OptionRules.{option_rule_detail_given, option_rule_locksets_given, option_rule_model_given, option_rule_named_detail, option_rule_named_locksets, option_rule_named_model, IsCommandByOptionRules, IsNumberReadByOptionRule, IsNumberByOptionRule, IsSeedByOptionRule, IsSizeByOptionRule, IsFlagByOptionRule, AreOptionsRefusedByRules, IsOptionUnanswered, AreOptionParsers, OptionParsers, AreOptionsAskedByRules, AreOptionsGivenByRules, flagged_option_rules, lrc_option_rules, option_rule_number, option_rule_most_seed}

-- a text that is a number is read as that
matched_option_number_reads : {E : Type 0} (t : Text) (G : List ℕ → Result ℕ E → Type 0) (r : Option ℕ) → ReadsOne G t r
    → ((u : List ℕ) (x : Result ℕ E) → G u x → ParsesUnsigned 64 10 u x) → IsNumeral 10 (without_leading_plus t)
    → option_rule_number t < 2 ^ 64 → r ≡ Some (option_rule_number t)
matched_option_number_reads t G (Some n) reads parses numeral small = ap Some (parses t (Ok n) reads).1
matched_option_number_reads t G None reads parses numeral small = absurd (parses t (Err reads.0) reads.1 (numeral, small))

-- `get_one` of a number
pub matched_option_number_read : {E : Type 0} (G : List ℕ → Result ℕ E → Type 0) (f : Found) (id : Text) (r : Option ℕ)
    → (one_text f id ≡ None → r ≡ None)
    → ((t : List ℕ) → one_text f id ≡ Some t → ReadsOne G t r)
    → ((u : List ℕ) (x : Result ℕ E) → G u x → ParsesUnsigned 64 10 u x) → IsNumberReadByOptionRule (one_of id (rows_of f)) r
matched_option_number_read G f id r none value parses = record {
  read = λ t is. matched_option_number_reads t G r (value t (one_text-rows f id ∙ is)) parses;
  none = λ is. none (one_text-rows f id ∙ is);
}

-- a number in range
pub matched_option_number_in : (least most default : ℕ) (given : Option Text) (n : ℕ) → IsNumberReadByOptionRule given (Some n) → least ≤ n
    → n ≤ most → IsNumberByOptionRule least most default given n
matched_option_number_in least most default given n r above below = record {
  read = λ t is within. same_Some n (option_rule_number t) (r.read t is within.0 within.1);
  default_is = λ is. absurd (cc (r.none is));
  least_is = above;
  most_is = below;
}

-- a number out of range
pub matched_option_number_out : (least most default : ℕ) (given : Option Text) (n : ℕ) → IsNumberReadByOptionRule given (Some n)
    → (least ≤ n → n ≤ most → ⊥) → least ≤ default → default ≤ most → IsNumberByOptionRule least most default given default
matched_option_number_out least most default given n r out above below = record {
  read = λ t is within.
      let same = same_Some n (option_rule_number t) (r.read t is within.0 within.1) in
      absurd (out (rw same within.2) (rw same within.3));
  default_is = λ is. refl;
  least_is = above;
  most_is = below;
}

-- no number
pub matched_option_number_none : (least most default : ℕ) (given : Option Text) → IsNumberReadByOptionRule given None → least ≤ default
    → default ≤ most → IsNumberByOptionRule least most default given default
matched_option_number_none least most default given r above below = record {
  read = λ t is within. absurd (cc (r.read t is within.0 within.1));
  default_is = λ is. refl;
  least_is = above;
  most_is = below;
}

-- a size in range
pub matched_option_size_in : (most : ℕ) (given : Option Text) (n : ℕ) → IsNumberReadByOptionRule given (Some n) → 1 ≤ n → n ≤ most
    → IsSizeByOptionRule most given (Some n)
matched_option_size_in most given n r least within_most = record {
  read = λ t is within. r.read t is within.0 within.1;
  none = r.none;
  least_is = least;
  most_is = within_most;
}

pub matched_option_size_out : (most : ℕ) (given : Option Text) (n : ℕ) → IsNumberReadByOptionRule given (Some n) → (1 ≤ n → n ≤ most → ⊥)
    → IsSizeByOptionRule most given None
matched_option_size_out most given n r out = record {
  read = λ t is within. absurd (out (rw (same_Some n (option_rule_number t) (r.read t is within.0 within.1)) within.2)
      (rw (same_Some n (option_rule_number t) (r.read t is within.0 within.1)) within.3));
  none = λ is. refl;
  least_is = tt;
  most_is = tt;
}

pub matched_option_size_none : (most : ℕ) (given : Option Text) → IsNumberReadByOptionRule given None → IsSizeByOptionRule most given None
matched_option_size_none most given r = record {
  read = λ t is within. r.read t is within.0 within.1;
  none = λ is. refl;
  least_is = tt;
  most_is = tt;
}

-- a seed in range
pub matched_option_seed_in : (given : Option Text) (n : ℕ) → IsNumberReadByOptionRule given (Some n) → n ≤ option_rule_most_seed → IsSeedByOptionRule given (Some n)
matched_option_seed_in given n r most = record {
  read = λ t is within. r.read t is within.0 within.1;
  none = r.none;
  most_is = most;
}

-- a number out of range
pub matched_option_seed_out : (given : Option Text) (n : ℕ) → IsNumberReadByOptionRule given (Some n) → (n ≤ option_rule_most_seed → ⊥)
    → IsSeedByOptionRule given None
matched_option_seed_out given n r out = record {
  read = λ t is within. absurd (out (rw (same_Some n (option_rule_number t) (r.read t is within.0 within.1)) within.3));
  none = λ is. refl;
  most_is = tt;
}

-- no number
pub matched_option_seed_none : (given : Option Text) → IsNumberReadByOptionRule given None → IsSeedByOptionRule given None
matched_option_seed_none given r = record {
  read = λ t is within. r.read t is within.0 within.1;
  none = λ is. refl;
  most_is = tt;
}

-- `get_flag`
pub matched_option_flag_read : (f : Found) (id : Text) (b : Bool) → (one_text f id ≡ None → b ≡ false)
    → (one_text f id ≡ Some (codes "true") → b ≡ true)
    → (one_text f id ≡ Some (codes "false") → b ≡ false) → IsFlagByOptionRule (one_of id (rows_of f)) b
matched_option_flag_read f id b none value other = record {
  set = λ is. value (one_text-rows f id ∙ is);
  unset = λ is. other (one_text-rows f id ∙ is);
  none = λ is. none (one_text-rows f id ∙ is);
}

-- `get_str`, compared with a word
pub matched_option_word_read : (f : Found) (id word lock : Text) (b : Bool) → Some lock ≡ first_value f id → b ≡ bytes_eq lock word
    → b ≡ option_map_or (λ t. bytes_eq t word) (first_of id (rows_of f)) false
matched_option_word_read f id word lock b is same = same
    ∙ ap (λ o. option_map_or (λ t. bytes_eq t word) o false) (is ∙ first_value-rows f id)

pub matched_option_no_word : (f : Found) (id word : Text) → None ≡ first_value f id
    → false ≡ option_map_or (λ t. bytes_eq t word) (first_of id (rows_of f)) false
matched_option_no_word f id word is = ap (λ o. option_map_or (λ t. bytes_eq t word) o false) (is ∙ first_value-rows f id)

-- the model of a name that is given, and of none
pub matched_option_model_read : (f : Found) (name : Text) (m : TraceModel) → Some name ≡ first_value f (codes "model")
    → m ≡ option_rule_named_model name → m ≡ option_rule_model_given (rows_of f)
matched_option_model_read f name m is same = same
    ∙ ap (λ o. option_map_or option_rule_named_model o RaceFree) (is ∙ first_value-rows f (codes "model"))

pub matched_option_no_model : (f : Found) → None ≡ first_value f (codes "model") → RaceFree ≡ option_rule_model_given (rows_of f)
matched_option_no_model f is = ap (λ o. option_map_or option_rule_named_model o RaceFree) (is ∙ first_value-rows f (codes "model"))

-- what is told by a name that is given, and by none
pub matched_option_detail_read : (f : Found) (name : Text) (d : OutcomeDetail) → Some name ≡ first_value f (codes "outcomes")
    → d ≡ option_rule_named_detail name → d ≡ option_rule_detail_given (rows_of f)
matched_option_detail_read f name d is same = same
    ∙ ap (λ o. option_map_or option_rule_named_detail o Words) (is ∙ first_value-rows f (codes "outcomes"))

pub matched_option_no_detail : (f : Found) → None ≡ first_value f (codes "outcomes") → Words ≡ option_rule_detail_given (rows_of f)
matched_option_no_detail f is = ap (λ o. option_map_or option_rule_named_detail o Words) (is ∙ first_value-rows f (codes "outcomes"))

-- the words without a lock that a name gives
pub matched_option_locksets_read : (f : Found) (name : Text) (d : TraceLocksets) → Some name ≡ first_value f (codes "locksets")
    → d ≡ option_rule_named_locksets name → Some d ≡ option_rule_locksets_given (rows_of f)
matched_option_locksets_read f name d is same = ap (λ x. Some x) same
    ∙ ap (λ o. option_map option_rule_named_locksets o) (is ∙ first_value-rows f (codes "locksets"))

pub matched_option_no_locksets : (f : Found) → None ≡ first_value f (codes "locksets") → None ≡ option_rule_locksets_given (rows_of f)
matched_option_no_locksets f is = ap (λ o. option_map option_rule_named_locksets o) (is ∙ first_value-rows f (codes "locksets"))

-- what holds of a value, where there is one, makes what follows from it hold
pub matched_option_if_ok_map : {T E : Type 0} {P Q : T → Type 0} (r : Result T E) → ((x : T) → P x → Q x) → IfOk r P → IfOk r Q
matched_option_if_ok_map (Ok x) follows holds = follows x holds
matched_option_if_ok_map (Err e) follows holds = tt

-- and so of what it was
pub matched_option_if_ok_was : {T E : Type 0} (P : T → Type 0) (r : Result T E) (x : T) → r ≡ Ok x → IfOk r P → P x
matched_option_if_ok_was P r x was holds = rw was at holds

-- a command with one more part takes no argument from above
pub matched_option_still_local : (a b r : Bool) → r ≡ (a || b) → a ≡ false → b ≡ false → r ≡ false
matched_option_still_local a b r is first second = is ∙ ap₂ (λ x y. x || y) first second

-- a command with a rule is one with the same rule
pub matched_option_with_rule : {E : Type 0} (r : Result Command E) (a : App) (given rule : Rule) → given ≡ rule
    → IfOk r (IsCommandByOptionRules (with_rule a given)) → IfOk r (IsCommandByOptionRules (with_rule a rule))
matched_option_with_rule r a given rule is = subst (λ (x : Rule). IfOk r (IsCommandByOptionRules (with_rule a x))) is

-- and so of one with a rule of its own
pub matched_option_own_rule : {E : Type 0} (r : Result Command E) (name : Text) (given rule : Rule) (locks : ValueParser) (flag : Rule)
    → given ≡ rule → IfOk r (IsCommandByOptionRules (flagged_option_rules name given locks flag))
    → IfOk r (IsCommandByOptionRules (flagged_option_rules name rule locks flag))
matched_option_own_rule r name given rule locks flag is =
    subst (λ (x : Rule). IfOk r (IsCommandByOptionRules (flagged_option_rules name x locks flag))) is

-- what is there stays there, as something else
pub matched_option_is_some_map : {A B : Type 0} (f : A → B) (o : Option A) → is_some (option_map f o) ≡ is_some o
matched_option_is_some_map f None = refl
matched_option_is_some_map f (Some x) = refl

-- what holds of an error, where there is one, makes what follows from it hold
pub matched_option_if_err_map : {T E : Type 0} {P Q : E → Type 0} (r : Result T E) → ((e : E) → P e → Q e) → IfErr r P → IfErr r Q
matched_option_if_err_map (Ok x) follows holds = tt
matched_option_if_err_map (Err e) follows holds = follows e holds

-- two readings of one thing
abbrev pub both_of_matched_option : {A : Type 0} → (A → Text) → (A → List Row) → A → Text × List Row
both_of_matched_option f g b = (f b, g b)

-- the name and the rows of what was entered
pub matched_option_named_rows : {A : Type 0} (f : A → Text) (g : A → List Row) (o : Option A) (name : Text) (rows : List Row)
    → Some name ≡ option_map f o
    → Some rows ≡ option_map (λ (p : Text × List Row). p.1) (option_map (both_of_matched_option f g) o)
    → option_map (both_of_matched_option f g) o ≡ Some (name, rows)
matched_option_named_rows f g None name rows named found = absurd (cc)
matched_option_named_rows f g (Some b) name rows named found =
    ap₂ (λ x y. Some (x, y)) (sym (same_Some name (f b) named)) (sym (same_Some rows (g b) found))

-- where the words were taken there is no fault
pub matched_option_no_fault : {T : Type 0} (kinds : Kinds) (r : Result T Error) (x : T) → r ≡ Ok x → FailsBy kinds r → kinds ≡ []
matched_option_no_fault kinds r x was fails = rw was at fails

-- an error has one of the kinds
pub matched_option_is_fault : {T : Type 0} (kinds : Kinds) (r : Result T Error) (e : Error) → r ≡ Err e → FailsBy kinds r
    → HasKind kinds e
matched_option_is_fault kinds r e was fails = rw was at fails

-- an error of the same kind has one of the kinds too
pub matched_option_fault_same_kind : (kinds : Kinds) (a b : Error) → kind_of b ≡ kind_of a → HasKind kinds a → HasKind kinds b
matched_option_fault_same_kind kinds a b is has = subst (λ k. (k ≡ OutOfMemory) ⊎ IsAmong k kinds) (sym is) has

-- running out of memory refuses any words
pub matched_options_out_of_memory : (parsers : OptionParsers) (words : List Text) (e : Error)
    → AreOptionParsers parsers
    → kind_of e ≡ OutOfMemory → AreOptionsRefusedByRules words e
matched_options_out_of_memory parsers words e are is = record { parsers = parsers; parsers_are = are; kind = inl (inl is) }

-- and so do options that exclude each other, and a text that can't be read
pub matched_options_refused_by : (parsers : OptionParsers) (words : List Text) (name : Text) (rows : List Row) (e : Error)
    → AreOptionParsers parsers
    → subcommand_of (lrc_option_rules parsers) words ≡ Some (name, rows)
    → IsOptionUnanswered name rows e → AreOptionsRefusedByRules words e
matched_options_refused_by parsers words name rows e are command (inl clash) = record {
  parsers = parsers;
  parsers_are = are;
  kind = inr (inl (record { name = name; rows = rows; command = command; clash = clash.0; kind = clash.1 }));
}
matched_options_refused_by parsers words name rows e are command (inr (inl memory)) =
    matched_options_out_of_memory parsers words e are memory
matched_options_refused_by parsers words name rows e are command (inr (inr bad)) = record {
  parsers = parsers;
  parsers_are = are;
  kind = inr (inr (record { name = name; rows = rows; command = command; unread = bad.0; kind = bad.1 }));
}

-- what is answered is what the words ask for
pub matched_options_given_by : (parsers : OptionParsers) (words : List Text) (name : Text) (rows : List Row) (result : Result Asked Error)
    → AreOptionParsers parsers
    → fault_of (lrc_option_rules parsers) words ≡ []
    → subcommand_of (lrc_option_rules parsers) words ≡ Some (name, rows) → OnOk result (do_options_clash_together name rows ≡ false)
    → IfOk result (AreOptionsAskedByRules name rows) → IfOk result (AreOptionsGivenByRules words)
matched_options_given_by parsers words name rows (Ok asked) are none command apart told = record {
  parsers = parsers;
  parsers_are = are;
  faultless = none;
  name = name;
  rows = rows;
  command = command;
  apart = apart;
  asked = told;
}
matched_options_given_by parsers words name rows (Err e) are none command apart told = tt

-- `value_source`, by the rows
pub matched_option_source_read : (f : Found) (id : Text) → option_and_then (λ (a : MatchedArg). a.source) (matched_of f id) ≡ clashing_option_source id (rows_of f)
matched_option_source_read f id = go f.entries.items
  where
    go : (xs : List Entry) → option_and_then (λ (a : MatchedArg). a.source) (option_map (λ e. e.1) (find (λ e. bytes_eq e.0.now id) xs))
        ≡ option_and_then (λ (r : Row). r.source) (find (λ r. bytes_eq r.id id) (map row_of xs))
    go [] = refl
    go (e ∷ es) = elim (bytes_eq e.0.now id) as (λ b. option_and_then (λ (a : MatchedArg). a.source) (option_map (λ e. e.1) (cond b (Some e) (find (λ e. bytes_eq e.0.now id) es)))
        ≡ option_and_then (λ (r : Row). r.source) (cond b (Some (row_of e)) (find (λ r. bytes_eq r.id id) (map row_of es)))) [
          | true ↦ refl
          | false ↦ go es
        ]
