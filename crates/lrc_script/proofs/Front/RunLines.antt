-- Reading line after line: what stands behind the lines of a script is determined.
use Rattle.std.proofs.Common.{◌≡◌, ℕ, Bool, true, false, cond, eqb, List, [], ◌∷◌, ◌++◌, Result, Ok, refl, sym, ap, subst, ◌∙◌, append_assoc}
use Rattle.std.specs.List.{flat_map, onto_first}
use Rattle.lrc_script.specs.declared.fault.ScriptFault.{ScriptFault}
use Rattle.lrc_script.specs.ScriptLines.{ScriptLine, script_line_bytes, script_line_text}
use Rattle.lrc_script.specs.ScriptFront.{ScriptFront}
use Rattle.lrc_script.specs.LineReading.{◌>>=◌, parts_of_read_line, line_read_after}
use Rattle.lrc_script.proofs.Reading.Separators.{HasNoSeparator, separator_behind_first_word}
use Rattle.lrc_script.proofs.Reading.KeywordLines.{KeywordLinePasses}

-- what stands behind the whole lines among these parts, the last of which has no line feed
unfoldable pub run_lines_front : ScriptFront → List (List ℕ) → Result ScriptFront ScriptFault
run_lines_front f [] = Ok f
run_lines_front f (last ∷ []) = Ok f
run_lines_front f (line ∷ next ∷ more) = line_read_after f line >>= λ g. run_lines_front g (next ∷ more)

-- a list of parts is never empty
abbrev HasSomeRunLine : List (List ℕ) → Type 0
HasSomeRunLine [] = ⊥
HasSomeRunLine (p ∷ ps) = Unit {0}

run_line_cons : (f : ScriptFront) (line : List ℕ) (parts : List (List ℕ)) → HasSomeRunLine parts
    → run_lines_front f (line ∷ parts) ≡ (line_read_after f line >>= λ g. run_lines_front g parts)
unfolding run_lines_front
run_line_cons f line [] h = absurd h
run_line_cons f line (p ∷ ps) h = refl

run_lines_onto_first : (x : ℕ) (parts : List (List ℕ)) → HasSomeRunLine (onto_first x parts)
run_lines_onto_first x [] = tt
run_lines_onto_first x (p ∷ ps) = tt

run_lines_some_if : (b : Bool) (x : ℕ) (parts : List (List ℕ)) → HasSomeRunLine (cond b ([] ∷ parts) (onto_first x parts))
run_lines_some_if true x parts = tt
run_lines_some_if false x parts = run_lines_onto_first x parts

run_lines_some_parts : (c : ℕ) (bytes : List ℕ) → HasSomeRunLine (parts_of_read_line c bytes)
run_lines_some_parts c [] = tt
run_lines_some_parts c (x ∷ xs) = run_lines_some_if (eqb x c) x (parts_of_read_line c xs)

pub run_line : (f : ScriptFront) (line more : List ℕ) → HasNoSeparator 10 line
    → run_lines_front f (parts_of_read_line 10 (line ++ 10 ∷ more)) ≡ (line_read_after f line >>= λ g. run_lines_front g (parts_of_read_line 10 more))
run_line f line more h =
    ap (run_lines_front f) (separator_behind_first_word 10 line more h) ∙ run_line_cons f line (parts_of_read_line 10 more) (run_lines_some_parts 10 more)

pub run_last_line : (f : ScriptFront) (last : List ℕ) → run_lines_front f (last ∷ []) ≡ Ok f
unfolding run_lines_front
run_last_line f last = refl

-- lines that lead from one point to another
abbrev pub RunLinesPass : ScriptFront → List ScriptLine → ScriptFront → Type 0
RunLinesPass f [] g = f ≡ g
RunLinesPass f (l ∷ ls) g = (h : ScriptFront) × KeywordLinePasses f l h × RunLinesPass h ls g

pub RunLinesPass-append : (f g h : ScriptFront) (ls ms : List ScriptLine) → RunLinesPass f ls g → RunLinesPass g ms h → RunLinesPass f (ls ++ ms) h
RunLinesPass-append f g h [] ms p q = subst (λ (x : ScriptFront). RunLinesPass x ms h) (sym p) q
RunLinesPass-append f g h (l ∷ ls) ms p q = (p.0, p.1, RunLinesPass-append p.0 g h ls ms p.2 q)

pub run_lines : (f g : ScriptFront) (ls : List ScriptLine) (more : List ℕ) → RunLinesPass f ls g
    → run_lines_front f (parts_of_read_line 10 (flat_map script_line_text ls ++ more)) ≡ run_lines_front g (parts_of_read_line 10 more)
run_lines f g [] more p = ap (λ (x : ScriptFront). run_lines_front x (parts_of_read_line 10 more)) p
run_lines f g (l ∷ ls) more p =
    let rest = flat_map script_line_text ls ++ more in
    let bytes : flat_map script_line_text (l ∷ ls) ++ more ≡ script_line_bytes l ++ 10 ∷ rest =
    append_assoc (script_line_text l) (flat_map script_line_text ls) more ∙ append_assoc (script_line_bytes l) (10 ∷ []) rest in
    ap (λ (x : List ℕ). run_lines_front f (parts_of_read_line 10 x)) bytes ∙ run_line f (script_line_bytes l) rest p.1.one_line
    ∙ rw p.1.after_is (run_lines p.0 g ls more p.2)
