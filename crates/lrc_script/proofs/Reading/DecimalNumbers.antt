-- Numbers and their decimal digits.
use Rattle.std.proofs.Common.{◌≡◌, ℕ, suc, ◌^◌, ◌<◌, ◌≢◌, true, false, not, ◌&&◌, cond, eqb, ltb, List, [], ◌∷◌, ◌++◌, length, get_or, map, subst, append_assoc, Option, Some, None, Ok, Err, refl, sym, ap, ◌∙◌, zero, arith, rules}
use Rattle.std.specs.Char.{is_ascii_digit}
use Rattle.std.specs.Prelude.{Contains, is_some, unwrap_or}
use Rattle.std.specs.List.{list_all, AllByRecursion}
use Rattle.std.specs.Fmt.{decimal}
use Rattle.std.specs.Str.Parse.{digits_value}
use Rattle.std.proofs.lemmas.Bool.{ltb-true, lt-ltb, and_parts}
use Rattle.std.proofs.lemmas.Bool.Decides.{nat_tests}
use Rattle.std.proofs.lemmas.Str.Parse.{IsNumeralModel, numerals_by_value}
use Rattle.std.proofs.lemmas.Fmt.{decimal-digits_value, digits_decimal, digits_value-decimal, decimal_nonempty, first_decimal, decimal_digit}
use Rattle.std.proofs.lemmas.Option.{cond_some}
use Rattle.std.proofs.lemmas.List.{append-nil}
use Rattle.std.proofs.lemmas.List.Elements.{Contains-append_right}
use Rattle.lrc_script.specs.declared.fault.ScriptFault.{ScriptFault}
use Rattle.lrc_script.specs.declared.fault.ScriptFault.TheVariants.{BadNumber}
use Rattle.lrc_script.specs.LineReading.{is_line_read_as_decimal, line_read_number, line_read_numbers_after}

-- our test for digits is std's
pub own : IsNumeralModel (λ ds. list_all is_ascii_digit ds ≡ true) (digits_value 10)
own = numerals_by_value _ (search rules)

-- what the test for a decimal says
pub record IsDecimalNumber (w : List ℕ) : Type 0 where
  pub digits : list_all is_ascii_digit w ≡ true
  pub some : 0 < length w
  pub alone : get_or w 0 0 ≡ 48 → length w ≡ 1

pub decimal_number_parts : (w : List ℕ) → is_line_read_as_decimal w ≡ true → IsDecimalNumber w
decimal_number_parts w e =
    let a =
    and_parts (not (eqb (length w) 0) && not (eqb (get_or w 0 0) 48 && ltb 1 (length w)))
    (list_all is_ascii_digit w) e in
    let b = and_parts (not (eqb (length w) 0)) (not (eqb (get_or w 0 0) 48 && ltb 1 (length w))) a.0 in
    record { digits = a.1; some = grind (arith, nat_tests, b.0); alone = λ z. grind (arith, nat_tests, b.0, b.1, z) }

pub decimal_number_whole : (w : List ℕ) → IsDecimalNumber w → is_line_read_as_decimal w ≡ true
decimal_number_whole w d =
    let some = d.some in
    let front : (not (eqb (length w) 0) && not (eqb (get_or w 0 0) 48 && ltb 1 (length w)))
    ≡ true = elim (eqb (get_or w 0 0) 48) as
    (λ b. eqb (get_or w 0 0) 48 ≡ b → (not (eqb (length w) 0) && not (b && ltb 1 (length w))) ≡ true) [
      | true ↦ λ t. let one = d.alone (grind (arith, nat_tests, t)) in grind (arith, nat_tests, one)
      | false ↦ λ t. grind (arith, nat_tests, some)
    ] refl in
    rw (front, d.digits) refl

-- what is read as a number is its decimal digits
pub decimal_number_taken : (w : List ℕ) (n : ℕ) → line_read_number w ≡ Some n → (w ≡ decimal n) × (n < 2 ^ 32)
decimal_number_taken w n e =
    let s = cond_some (is_line_read_as_decimal w && ltb (digits_value 10 w) (2 ^ 32)) (digits_value 10 w) n e in
    let t = and_parts (is_line_read_as_decimal w) (ltb (digits_value 10 w) (2 ^ 32)) s.0 in
    let d = decimal_number_parts w t.0 in
    let below : digits_value 10 w < 2 ^ 32 = ltb-true _ _ t.1 in
    (rw (← s.1) (sym (decimal-digits_value own w d.digits d.some d.alone (omega arith))), rw (← s.1) below)

-- decimal digits are read as their number
pub decimal_number_of : (n : ℕ) → n < 2 ^ 64 → IsDecimalNumber (decimal n)
decimal_number_of n lt = record {
  digits = digits_decimal own n lt;
  some = decimal_nonempty n lt;
  alone = elim n as (λ k. k < 2 ^ 64 → get_or (decimal k) 0 0 ≡ 48 → length (decimal k) ≡ 1) [
    | zero ↦ λ l z. ap length (decimal_digit 0 (omega arith))
    | suc k ↦ λ l z. absurd (omega (arith, first_decimal (suc k) (omega arith) l, z))
  ] lt;
}

pub decimal_number_again : (n : ℕ) → n < 2 ^ 32 → line_read_number (decimal n) ≡ Some n
decimal_number_again n lt =
    let big : n < 2 ^ 64 = omega arith in
    let same : digits_value 10 (decimal n) ≡ n = digits_value-decimal own n big in
    let small : ltb n (2 ^ 32) ≡ true = lt-ltb _ _ lt in
    rw (decimal_number_whole (decimal n) (decimal_number_of n big), same, small) refl

abbrev pub AreDecimalNumbers : List ℕ → Type 0
AreDecimalNumbers ns = AllByRecursion (λ n. n < 2 ^ 32) ns

-- the words of a list are decimals
pub record ReadsDecimalNumbers (front : List ℕ) (words : List (List ℕ)) (all : List ℕ) : Type 0 where
  pub numbers : List ℕ
  pub all_is : all ≡ front ++ numbers
  pub words_are : words ≡ map decimal numbers
  pub small : AreDecimalNumbers numbers

pub decimal_numbers_taken : (front : List ℕ) (words : List (List ℕ)) (all : List ℕ) → line_read_numbers_after front words ≡ Ok all
    → ReadsDecimalNumbers front words all
decimal_numbers_taken front [] all e =
    record {
      numbers = [];
      all_is = (let same : front ≡ all = cc in sym same ∙ sym (append-nil front));
      words_are = refl;
      small = tt;
    }
decimal_numbers_taken front (w ∷ ws) all e =
    first_taken front w ws all (line_read_number w) refl e (decimal_numbers_taken (front ++ unwrap_or (line_read_number w) 0 ∷ []) ws all)
  where
    first_taken : (front w : List ℕ) (ws : List (List ℕ)) (all : List ℕ) (o : Option ℕ) → line_read_number w ≡ o
        → cond (is_some o) (line_read_numbers_after (front ++ unwrap_or o 0 ∷ []) ws) (Err BadNumber) ≡ Ok all
        → (line_read_numbers_after (front ++ unwrap_or (line_read_number w) 0 ∷ []) ws ≡ Ok all
        → ReadsDecimalNumbers (front ++ unwrap_or (line_read_number w) 0 ∷ []) ws all)
        → ReadsDecimalNumbers front (w ∷ ws) all
    first_taken front w ws all None n e rest = absurd cc
    first_taken front w ws all (Some k) n e rest =
        let r : ReadsDecimalNumbers (front ++ k ∷ []) ws all =
        subst (λ (o : Option ℕ). line_read_numbers_after (front ++ unwrap_or o 0 ∷ []) ws ≡ Ok all
        → ReadsDecimalNumbers (front ++ unwrap_or o 0 ∷ []) ws all)
        n rest e in
        let t = decimal_number_taken w k n in
        record {
          numbers = k ∷ r.numbers;
          all_is = r.all_is ∙ append_assoc front (k ∷ []) r.numbers;
          words_are = ap (λ (v : List ℕ). v ∷ ws) t.0 ∙ ap (λ (vs : List (List ℕ)). decimal k ∷ vs) r.words_are;
          small = (t.1, r.small);
        }

pub decimal_numbers_again : (front numbers : List ℕ) → AreDecimalNumbers numbers
    → line_read_numbers_after front (map decimal numbers) ≡ Ok (front ++ numbers)
decimal_numbers_again front [] small = ap (λ (ns : List ℕ). Ok ns) (sym (append-nil front))
decimal_numbers_again front (n ∷ ns) small =
    rw (decimal_number_again n small.0)
    (decimal_numbers_again (front ++ n ∷ []) ns small.1 ∙ ap (λ (ms : List ℕ). Ok ms) (append_assoc front (n ∷ []) ns))

-- a word that is no number
pub record IsNoDecimalNumber (words : List (List ℕ)) (fault : ScriptFault) : Type 0 where
  pub fault_is : fault ≡ BadNumber
  pub word : List ℕ
  pub within : Contains words word
  pub none : (n : ℕ) → n < 2 ^ 32 → word ≢ decimal n

pub decimal_numbers_refused : (front : List ℕ) (words : List (List ℕ)) (fault : ScriptFault)
    → line_read_numbers_after front words ≡ Err fault → IsNoDecimalNumber words fault
decimal_numbers_refused front [] fault e = absurd cc
decimal_numbers_refused front (w ∷ ws) fault e =
    first_refused front w ws fault (line_read_number w) refl e
    (decimal_numbers_refused (front ++ unwrap_or (line_read_number w) 0 ∷ []) ws fault)
  where
    first_refused : (front w : List ℕ) (ws : List (List ℕ)) (fault : ScriptFault) (o : Option ℕ) → line_read_number w ≡ o
        → cond (is_some o) (line_read_numbers_after (front ++ unwrap_or o 0 ∷ []) ws) (Err BadNumber) ≡ Err fault
        → (line_read_numbers_after (front ++ unwrap_or (line_read_number w) 0 ∷ []) ws ≡ Err fault → IsNoDecimalNumber ws fault)
        → IsNoDecimalNumber (w ∷ ws) fault
    first_refused front w ws fault None n e rest =
        record {
          fault_is = cc;
          word = w;
          within = (0, omega arith, refl);
          none = λ k lt same. let again = decimal_number_again k lt in absurd (cc);
        }
    first_refused front w ws fault (Some k) n e rest =
        let r : IsNoDecimalNumber ws fault =
        subst (λ (o : Option ℕ). line_read_numbers_after (front ++ unwrap_or o 0 ∷ []) ws ≡ Err fault → IsNoDecimalNumber ws fault)
        n rest e in
        record {
          fault_is = r.fault_is;
          word = r.word;
          within = Contains-append_right (w ∷ []) ws r.word r.within;
          none = r.none;
        }
