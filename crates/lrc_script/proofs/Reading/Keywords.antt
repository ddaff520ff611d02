-- Keywords: how they are spelled, and where they are allowed.
use Rattle.std.proofs.Common.{◌≡◌, ℕ, ◌+◌, true, false, cond, eqb, leb, List, length, Option, Some, refl, ap, ◌∙◌, arith, inl, inr}
use Rattle.std.specs.Prelude.{codes}
use Rattle.std.specs.Str.{bytes_eq}
use Rattle.std.proofs.lemmas.Bool.{and_parts, or_cases}
use Rattle.std.proofs.lemmas.Bool.Decides.{nat_tests}
use Rattle.std.proofs.lemmas.Slice.Eq.{bytes_eq-Decides}
use Rattle.lrc_script.specs.declared.script.Instruction.{Instruction}
use Rattle.lrc_script.specs.declared.script.Instruction.TheVariants as instruction
use Rattle.lrc_script.specs.declared.line.LineKeyword.{LineKeyword}
use Rattle.lrc_script.specs.declared.line.LineKeyword.TheVariants as keyword
use Rattle.lrc_script.specs.Plan.{Plan}
use Rattle.lrc_script.specs.ScriptLines.{script_instruction_line}
use Rattle.lrc_script.specs.ScriptFront.{ScriptFront, Nothing, Headed, Within, Whole}
use Rattle.lrc_script.specs.ScriptFaults.{AllowsScriptLine}
use Rattle.lrc_script.specs.LineReading.{line_read_keyword, is_read_line_due}

abbrev pub keyword_bytes : LineKeyword → List ℕ
keyword_bytes keyword.Cluster = codes "cluster"
keyword_bytes keyword.Section = codes "p"
keyword_bytes keyword.Load = codes "load"
keyword_bytes keyword.Store = codes "store"
keyword_bytes keyword.Add = codes "add"
keyword_bytes keyword.Acquire = codes "acquire"
keyword_bytes keyword.Release = codes "release"
keyword_bytes keyword.Barrier = codes "barrier"
keyword_bytes keyword.Set = codes "set"
keyword_bytes keyword.Await = codes "await"
keyword_bytes keyword.Cut = codes "cut"
keyword_bytes keyword.Show = codes "show"

keyword_bytes_if : (w : List ℕ) (k : LineKeyword) (rest : Option LineKeyword) (found : LineKeyword)
    → (rest ≡ Some found → w ≡ keyword_bytes found) → cond (bytes_eq w (keyword_bytes k)) (Some k) rest ≡ Some found
    → w ≡ keyword_bytes found
keyword_bytes_if w k rest found later e =
    elim (bytes_eq w (keyword_bytes k)) as
    (λ b. bytes_eq w (keyword_bytes k) ≡ b → cond b (Some k) rest ≡ Some found → w ≡ keyword_bytes found) [
      | true ↦ λ t h. let same : k ≡ found = cc in (bytes_eq-Decides w (keyword_bytes k)).0 t ∙ ap keyword_bytes same
      | false ↦ λ t h. later h
    ] refl e

-- a keyword's word is its spelling
pub keyword_spelled : (w : List ℕ) (k : LineKeyword) → line_read_keyword w ≡ Some k → w ≡ keyword_bytes k
keyword_spelled w k e =
    keyword_bytes_if w keyword.Cluster _ k
    (keyword_bytes_if w keyword.Section _ k (keyword_bytes_if w keyword.Load _ k (keyword_bytes_if w keyword.Store _ k (
    keyword_bytes_if w keyword.Add _ k
    (keyword_bytes_if w keyword.Acquire _ k (keyword_bytes_if w keyword.Release _ k (keyword_bytes_if w keyword.Barrier _ k (
    keyword_bytes_if w keyword.Set _ k (keyword_bytes_if w keyword.Await _ k
    (keyword_bytes_if w keyword.Cut _ k (keyword_bytes_if w keyword.Show _ k (λ h. absurd cc)))))))))))) e

-- what is due is allowed
pub keyword_due_allows : (f : ScriptFront) (k : LineKeyword) (n : ℕ) → is_read_line_due f k n ≡ true → AllowsScriptLine f (keyword_bytes k) n
keyword_due_allows Nothing keyword.Cluster n e = (
  refl,
  elim (or_cases (eqb n 4) (eqb n 5) e)
      [ inl t ↦ inl (grind (arith, nat_tests, t)) | inr t ↦ inr (grind (arith, nat_tests, t)) ],
)
keyword_due_allows Nothing _ n e = absurd cc
keyword_due_allows (Headed s) keyword.Section n e = (refl, grind (arith, nat_tests, e))
keyword_due_allows (Headed s) _ n e = absurd cc
keyword_due_allows (Within s is) keyword.Section n e = inl (refl, grind (arith, nat_tests, e))
keyword_due_allows (Within s is) keyword.Show n e =
    let both = and_parts (leb 1 n) (eqb (length s.sections + 1) s.processors) e in
    let some = both.0 in
    let last = both.1 in
    inr (inl (refl, grind (arith, nat_tests, some), grind (arith, nat_tests, last)))
keyword_due_allows (Within s is) keyword.Load n e = inr (inr (instruction.Load 0, refl, grind (arith, nat_tests, e)))
keyword_due_allows (Within s is) keyword.Store n e = inr (inr (instruction.Store 0 0, refl, grind (arith, nat_tests, e)))
keyword_due_allows (Within s is) keyword.Add n e = inr (inr (instruction.Add 0 0, refl, grind (arith, nat_tests, e)))
keyword_due_allows (Within s is) keyword.Acquire n e = inr (inr (instruction.Acquire 0, refl, grind (arith, nat_tests, e)))
keyword_due_allows (Within s is) keyword.Release n e = inr (inr (instruction.Release 0, refl, grind (arith, nat_tests, e)))
keyword_due_allows (Within s is) keyword.Barrier n e = inr (inr (instruction.Barrier, refl, grind (arith, nat_tests, e)))
keyword_due_allows (Within s is) keyword.Set n e = inr (inr (instruction.Set 0, refl, grind (arith, nat_tests, e)))
keyword_due_allows (Within s is) keyword.Await n e = inr (inr (instruction.Await 0, refl, grind (arith, nat_tests, e)))
keyword_due_allows (Within s is) keyword.Cut n e = inr (inr (instruction.Cut, refl, grind (arith, nat_tests, e)))
keyword_due_allows (Within s is) keyword.Cluster n e = absurd cc
keyword_due_allows (Whole s) k n e = absurd cc

-- a keyword that is due
abbrev pub KeywordIsDue : ScriptFront → List ℕ → ℕ → Type 0
KeywordIsDue f w n = (k : LineKeyword) × (line_read_keyword w ≡ Some k) × (is_read_line_due f k n ≡ true)

keyword_due_in_section : (s : Plan) (is : List Instruction) (w : List ℕ) (n : ℕ) (i : Instruction)
    → w ≡ (script_instruction_line i).word → n ≡ length (script_instruction_line i).numbers → KeywordIsDue (Within s is) w n
keyword_due_in_section s is w n (instruction.Load a) word count =
    (keyword.Load, ap line_read_keyword word, ap (λ m. eqb m 1) count)
keyword_due_in_section s is w n (instruction.Store a v) word count =
    (keyword.Store, ap line_read_keyword word, ap (λ m. eqb m 2) count)
keyword_due_in_section s is w n (instruction.Add a v) word count =
    (keyword.Add, ap line_read_keyword word, ap (λ m. eqb m 2) count)
keyword_due_in_section s is w n (instruction.Acquire l) word count =
    (keyword.Acquire, ap line_read_keyword word, ap (λ m. eqb m 1) count)
keyword_due_in_section s is w n (instruction.Release l) word count =
    (keyword.Release, ap line_read_keyword word, ap (λ m. eqb m 1) count)
keyword_due_in_section s is w n instruction.Barrier word count =
    (keyword.Barrier, ap line_read_keyword word, ap (λ m. eqb m 0) count)
keyword_due_in_section s is w n (instruction.Set f) word count =
    (keyword.Set, ap line_read_keyword word, ap (λ m. eqb m 1) count)
keyword_due_in_section s is w n (instruction.Await f) word count =
    (keyword.Await, ap line_read_keyword word, ap (λ m. eqb m 1) count)
keyword_due_in_section s is w n instruction.Cut word count = (keyword.Cut, ap line_read_keyword word, ap (λ m. eqb m 0) count)

-- what is allowed is due
pub keyword_due_if_allowed : (f : ScriptFront) (w : List ℕ) (n : ℕ) → AllowsScriptLine f w n → KeywordIsDue f w n
keyword_due_if_allowed Nothing w n a = (
  keyword.Cluster,
  ap line_read_keyword a.0,
  elim a.1
      [ inl e ↦ grind (arith, nat_tests, e) | inr e ↦ grind (arith, nat_tests, e) ],
)
keyword_due_if_allowed (Headed s) w n a = (keyword.Section, ap line_read_keyword a.0, ap (λ m. eqb m 1) a.1)
keyword_due_if_allowed (Within s is) w n (inl a) = (keyword.Section, ap line_read_keyword a.0, ap (λ m. eqb m 1) a.1)
keyword_due_if_allowed (Within s is) w n (inr (inl a)) =
    let some = a.1 in let last = a.2 in (keyword.Show, ap line_read_keyword a.0, grind (arith, nat_tests, some, last))
keyword_due_if_allowed (Within s is) w n (inr (inr a)) = keyword_due_in_section s is w n a.0 a.1 a.2
keyword_due_if_allowed (Whole s) w n a = absurd a
