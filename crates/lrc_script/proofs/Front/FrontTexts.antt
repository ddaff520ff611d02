-- What reading a line says of all scripts.
use Rattle.std.proofs.Common.{◌≡◌, ◌≢◌, ℕ, List, [], ◌∷◌, ◌++◌, Ok, Err, refl, sym, ap, subst, ◌∙◌, append_assoc}
use Rattle.std.proofs.lemmas.List.{append-nil, append_cancel_left}
use Rattle.lrc_script.specs.declared.fault.ScriptFault.{ScriptFault}
use Rattle.lrc_script.specs.Plan.{Plan}
use Rattle.lrc_script.specs.Lawful.{IsLawfulButUneven}
use Rattle.lrc_script.specs.ScriptLines.{text}
use Rattle.lrc_script.specs.ScriptFront.{ScriptFront, Nothing, Whole, IsScriptFrontLawful, script_front_lines, script_front_text}
use Rattle.lrc_script.specs.ScriptFaults.{BeginsScriptText}
use Rattle.lrc_script.specs.LineReading.{◌>>=◌, parts_of_read_line, line_read_after}
use Rattle.lrc_script.proofs.Reading.Separators.{HasNoSeparator, separator_absent_one_word}
use Rattle.lrc_script.proofs.Front.RunLines.{run_lines_front, run_line, run_last_line, run_lines}
use Rattle.lrc_script.proofs.Front.PassedLines.{passed_lines_front}

-- reading from the start goes through what stands before
pub front_text_run : (f : ScriptFront) (more : List ℕ) → IsScriptFrontLawful f
    → run_lines_front Nothing (parts_of_read_line 10 (script_front_text f ++ more)) ≡ run_lines_front f (parts_of_read_line 10 more)
front_text_run f more h = run_lines Nothing f (script_front_lines f) more (passed_lines_front f h)

-- the text of a script leads to it
pub front_text_run_whole : (s : Plan) → IsLawfulButUneven s → run_lines_front Nothing (parts_of_read_line 10 (text s)) ≡ Ok (Whole s)
front_text_run_whole s h =
    ap (λ (x : List ℕ). run_lines_front Nothing (parts_of_read_line 10 x)) (sym (append-nil (text s))) ∙ front_text_run (Whole s) [] h
    ∙ run_last_line (Whole s) []

-- a line that is refused begins no script's text there
pub front_text_never_goes_on : (f : ScriptFront) (line more : List ℕ) (fault : ScriptFault) (s : Plan) → IsScriptFrontLawful f → HasNoSeparator 10 line
    → line_read_after f line ≡ Err fault → IsLawfulButUneven s → text s ≢ script_front_text f ++ (line ++ 10 ∷ more)
front_text_never_goes_on f line more fault s begun clean refused lawful e =
    let reads : Ok (Whole s) ≡ (line_read_after f line >>= λ g. run_lines_front g (parts_of_read_line 10 more)) =
    sym (front_text_run_whole s lawful) ∙ ap (λ (x : List ℕ). run_lines_front Nothing (parts_of_read_line 10 x)) e
    ∙ front_text_run f (line ++ 10 ∷ more) begun ∙ run_line f line more clean in
    let fails : Ok (Whole s) ≡ Err fault = reads ∙ rw refused refl in
    absurd cc

pub front_text_never_begins : (f : ScriptFront) (line : List ℕ) (fault : ScriptFault) → IsScriptFrontLawful f → HasNoSeparator 10 line
    → line_read_after f line ≡ Err fault → BeginsScriptText (script_front_text f ++ (line ++ 10 ∷ [])) → ⊥
front_text_never_begins f line fault begun clean refused b =
    front_text_never_goes_on f line b.2 fault b.0 begun clean refused b.1 (b.3 ∙ append_assoc (script_front_text f) (line ++ 10 ∷ []) b.2
    ∙ ap (λ (x : List ℕ). script_front_text f ++ x) (append_assoc line (10 ∷ []) b.2))

-- bytes that end without a line feed are a script's text only where nothing is left
pub front_text_ends : (f : ScriptFront) (rest : List ℕ) (s : Plan) → IsScriptFrontLawful f → HasNoSeparator 10 rest → IsLawfulButUneven s
    → text s ≡ script_front_text f ++ rest → (f ≡ Whole s) × (rest ≡ [])
front_text_ends f rest s begun clean lawful e =
    let reads : Ok (Whole s) ≡ Ok f =
    sym (front_text_run_whole s lawful) ∙ ap (λ (x : List ℕ). run_lines_front Nothing (parts_of_read_line 10 x)) e ∙ front_text_run f rest begun
    ∙ ap (run_lines_front f) (separator_absent_one_word 10 rest clean) ∙ run_last_line f rest in
    let same : f ≡ Whole s = cc in
    let e' : text s ≡ text s ++ rest = subst (λ (g : ScriptFront). text s ≡ script_front_text g ++ rest) same e in
    (same, append_cancel_left (text s) rest [] (sym e' ∙ sym (append-nil (text s))))

-- two scripts with one text are one
pub front_text_injective : (s t : Plan) → IsLawfulButUneven s → IsLawfulButUneven t → text s ≡ text t → s ≡ t
front_text_injective s t h k e =
    let reads : Ok (Whole s) ≡ Ok (Whole t) =
    sym (front_text_run_whole s h) ∙ ap (λ (x : List ℕ). run_lines_front Nothing (parts_of_read_line 10 x)) e ∙ front_text_run_whole t k in
    cc
