-- How a line is read, by cases.
use Rattle.std.proofs.Common.{◌≡◌, ℕ, Bool, true, false, cond, List, [], ◌∷◌, ◌++◌, length, map, Option, Some, None, Result, Ok, Err, refl, sym, ap, subst, ◌∙◌}
use Rattle.std.specs.List.{list_all, flat_map}
use Rattle.std.specs.Fmt.{decimal}
use Rattle.std.proofs.lemmas.List.{length-map}
use Rattle.lrc_script.specs.declared.fault.ScriptFault.{ScriptFault}
use Rattle.lrc_script.specs.declared.fault.ScriptFault.TheVariants.{BadLine}
use Rattle.lrc_script.specs.declared.line.LineKeyword.{LineKeyword}
use Rattle.lrc_script.specs.ScriptLines.{script_line_bytes}
use Rattle.lrc_script.specs.ScriptFront.{ScriptFront}
use Rattle.lrc_script.specs.ScriptFaults.{IsLineSplit}
use Rattle.lrc_script.specs.LineReading.{◌>>=◌, parts_of_read_line, line_read_word_has_bytes, line_read_keyword, is_read_line_due, line_read_numbers_after, line_read_step, line_read_after, line_read_after_words, line_read_after_keyword}
use Rattle.lrc_script.proofs.Reading.DecimalNumbers.{AreDecimalNumbers, IsNoDecimalNumber, decimal_numbers_taken, decimal_numbers_refused}
use Rattle.lrc_script.proofs.Reading.Separators.{separator_words_of_split, separator_split_from_parts}
use Rattle.lrc_script.proofs.Reading.KeywordLines.{keyword_line_numbers_flat}

-- a line that is a keyword, allowed at this point, and numbers
pub record LineCaseOfCommand (f : ScriptFront) (line : List ℕ) : Type 0 where
  pub word : List ℕ
  pub numbers : List ℕ
  pub key : LineKeyword
  pub key_is : line_read_keyword word ≡ Some key
  pub due : is_read_line_due f key (length numbers) ≡ true
  pub small : AreDecimalNumbers numbers
  pub line_is : line ≡ script_line_bytes (record { word = word; numbers = numbers })

-- a line of a keyword that is allowed, with a word that is no number
pub record LineCaseOfNoNumber (f : ScriptFront) (line : List ℕ) (fault : ScriptFault) : Type 0 where
  pub word : List ℕ
  pub words : List (List ℕ)
  pub key : LineKeyword
  pub split : IsLineSplit line word words
  pub key_is : line_read_keyword word ≡ Some key
  pub due : is_read_line_due f key (length words) ≡ true
  pub refused : IsNoDecimalNumber words fault

-- a line that has no allowed shape
abbrev pub LineCaseOfNothingDue : ScriptFront → List ℕ → Type 0
LineCaseOfNothingDue f line =
    (word : List ℕ) (words : List (List ℕ)) (k : LineKeyword) → IsLineSplit line word words → line_read_keyword word ≡ Some k
    → is_read_line_due f k (length words) ≡ true → ⊥

pub data LineCases (f : ScriptFront) (line : List ℕ) (r : Result ScriptFront ScriptFault) : Type 0 where
  Shapeless : LineCaseOfNothingDue f line → r ≡ Err BadLine → LineCases f line r
  NoNumber : (fault : ScriptFault) → LineCaseOfNoNumber f line fault → r ≡ Err fault → LineCases f line r
  Reached : (c : LineCaseOfCommand f line) → r ≡ line_read_step f c.key c.numbers → LineCases f line r

line_case_parts_injective : (w v : List ℕ) (ws vs : List (List ℕ)) → (w ∷ ws) ≡ (v ∷ vs) → (w ≡ v) × (ws ≡ vs)
line_case_parts_injective w v ws vs e = (cc, cc)

-- words read as numbers
line_case_command : (f : ScriptFront) {line w : List ℕ} {ws : List (List ℕ)} (k : LineKeyword) (r : Result ScriptFront ScriptFault) (ns : Result (List ℕ) ScriptFault)
    → IsLineSplit line w ws → line_read_keyword w ≡ Some k → is_read_line_due f k (length ws) ≡ true → line_read_numbers_after [] ws ≡ ns
    → (ns >>= line_read_step f k) ≡ r → LineCases f line r
line_case_command f {w = w} {ws = ws} k r (Ok ns) split key due read e =
    let t = decimal_numbers_taken [] ws ns read in
    let all : ns ≡ t.numbers = t.all_is in
    let words : ws ≡ map decimal ns = t.words_are ∙ ap (map decimal) (sym all) in
    Reached (record {
      word = w;
      numbers = ns;
      key = k;
      key_is = key;
      due = subst (λ (n : ℕ). is_read_line_due f k n ≡ true) (ap length words ∙ length-map ns decimal) due;
      small = subst AreDecimalNumbers (sym all) t.small;
      line_is =
          split.whole
          ∙ ap (λ (t : List ℕ). w ++ t)
          (ap (λ (v : List (List ℕ)). flat_map (λ x. 32 ∷ x) v) words ∙ sym (keyword_line_numbers_flat ns));
    }) (sym e)
line_case_command f {w = w} {ws = ws} k r (Err fault) split key due read e =
    NoNumber fault (record {
      word = w;
      words = ws;
      key = k;
      split = split;
      key_is = key;
      due = due;
      refused = decimal_numbers_refused [] ws fault read;
    })
    (sym e)

line_case_due : (f : ScriptFront) {line w : List ℕ} {ws : List (List ℕ)} (k : LineKeyword) (r : Result ScriptFront ScriptFault) (b : Bool)
    → IsLineSplit line w ws → line_read_keyword w ≡ Some k → is_read_line_due f k (length ws) ≡ b
    → cond b (line_read_numbers_after [] ws >>= line_read_step f k) (Err BadLine) ≡ r → LineCases f line r
line_case_due f {ws = ws} k r true split key due e =
    line_case_command f k r (line_read_numbers_after [] ws) split key due refl e
line_case_due f {line = line} {w = w} {ws = ws} k r false split key due e = Shapeless (λ v vs k' other key' due'.
    let same =
    line_case_parts_injective w v ws vs (sym (separator_words_of_split line w ws split).0 ∙ (separator_words_of_split line v vs other).0) in
    let keys : Some k ≡ Some k' = sym key ∙ ap line_read_keyword same.0 ∙ key' in
    let both : is_read_line_due f k (length ws) ≡ is_read_line_due f k' (length vs) =
    let kk : k ≡ k' = cc in
    ap (λ (x : LineKeyword). is_read_line_due f x (length ws)) kk
    ∙ ap (λ (x : List (List ℕ)). is_read_line_due f k' (length x)) same.1 in
    absurd cc) (sym e)

line_case_keyword : (f : ScriptFront) (line w : List ℕ) (ws : List (List ℕ)) (r : Result ScriptFront ScriptFault) (o : Option LineKeyword)
    → IsLineSplit line w ws → line_read_keyword w ≡ o → line_read_after_keyword f o ws ≡ r → LineCases f line r
unfolding line_read_after_keyword
line_case_keyword f line w ws r None split key e = Shapeless (λ v vs k other key' due.
    let same =
    line_case_parts_injective w v ws vs (sym (separator_words_of_split line w ws split).0 ∙ (separator_words_of_split line v vs other).0) in
    let keys : None ≡ Some k = sym key ∙ ap line_read_keyword same.0 ∙ key' in
    absurd cc) (sym e)
line_case_keyword f line w ws r (Some k) split key e = line_case_due f k r (is_read_line_due f k (length ws)) split key refl e

line_case_words : (f : ScriptFront) (line w : List ℕ) (ws : List (List ℕ)) (r : Result ScriptFront ScriptFault) (b : Bool)
    → parts_of_read_line 32 line ≡ w ∷ ws → list_all line_read_word_has_bytes (w ∷ ws) ≡ b
    → cond b (line_read_after_keyword f (line_read_keyword w) ws) (Err BadLine) ≡ r → LineCases f line r
line_case_words f line w ws r true parts have e =
    line_case_keyword f line w ws r (line_read_keyword w) (separator_split_from_parts line w ws parts have) refl e
line_case_words f line w ws r false parts have e = Shapeless (λ v vs k other key due.
    let given = separator_words_of_split line v vs other in
    let same : (w ∷ ws) ≡ (v ∷ vs) = sym parts ∙ given.0 in
    let both : list_all line_read_word_has_bytes (w ∷ ws) ≡ list_all line_read_word_has_bytes (v ∷ vs) = ap (list_all line_read_word_has_bytes) same in
    absurd (let false-is-true : false ≡ true = sym have ∙ both ∙ given.1 in cc)) (sym e)

line_case_parts : (f : ScriptFront) (line : List ℕ) (r : Result ScriptFront ScriptFault) (parts : List (List ℕ))
    → parts_of_read_line 32 line ≡ parts → line_read_after_words f parts ≡ r → LineCases f line r
line_case_parts f line r [] parts e =
    Shapeless (λ v vs k other key due. absurd
    (let none : [] ≡ (v ∷ vs) = sym parts ∙ (separator_words_of_split line v vs other).0 in cc))
    (sym e)
line_case_parts f line r (w ∷ ws) parts e = line_case_words f line w ws r (list_all line_read_word_has_bytes (w ∷ ws)) parts refl e

pub line_cases_read : (f : ScriptFront) (line : List ℕ) (r : Result ScriptFront ScriptFault) → line_read_after f line ≡ r → LineCases f line r
line_cases_read f line r e = line_case_parts f line r (parts_of_read_line 32 line) refl e
