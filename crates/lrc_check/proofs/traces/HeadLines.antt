-- The line of the sizes: what is read of it, and what a fault says of it.
use Rattle.std.proofs.Common.{◌≡◌, ℕ, ◌⊎◌, inl, inr, Bool, true, false, ◌||◌, cond, eqb, List, [], ◌∷◌, ◌++◌, length, map, Option, Some, Result, Ok, Err, refl, sym, ap, subst, ◌∙◌}
use Rattle.std.specs.Prelude.{None, Contains, codes}
use Rattle.std.specs.List.{list_all, flat_map}
use Rattle.std.specs.Fmt.{decimal}
use Rattle.std.proofs.lemmas.Bool.{eqb-true}
use Rattle.std.proofs.lemmas.List.{append_cancel_right, length-map}
use Rattle.journal.specs.Sizes.{Sizes}
use Rattle.lrc_script.specs.declared.fault.ScriptFault.{ScriptFault}
use Rattle.lrc_script.specs.declared.fault.ScriptFault.TheVariants as script
use Rattle.lrc_script.specs.declared.line.LineKeyword.{LineKeyword}
use Rattle.lrc_script.specs.declared.line.LineKeyword.TheVariants as keyword
use Rattle.lrc_script.specs.ScriptLines.{script_line_bytes}
use Rattle.lrc_script.specs.ScriptFront.{Nothing}
use Rattle.lrc_script.specs.ScriptFaults.{IsLineSplit, ScriptFaultSays}
use Rattle.lrc_script.specs.LineReading.{◌>>=◌, LineReadFails, line_read_word_has_bytes, is_read_line_due, line_read_keyword, line_read_numbers_after, parts_of_read_line, line_read_after_keyword, line_read_after_words, line_read_step}
use Rattle.lrc_script.proofs.Faults.RefusedLines.{refused_line_says}
use Rattle.lrc_script.proofs.Reading.Keywords.{keyword_spelled}
use Rattle.lrc_script.proofs.Reading.KeywordLines.{keyword_line_numbers_flat, keyword_line_split}
use Rattle.lrc_script.proofs.Reading.DecimalNumbers.{AreDecimalNumbers, decimal_numbers_refused, decimal_numbers_taken}
use Rattle.lrc_script.proofs.Reading.Separators.{separator_parts_whole}
use Rattle.lrc_check.specs.declared.traces.fault.TraceFault.{TraceFault}
use Rattle.lrc_check.specs.declared.traces.fault.TraceFault.TheVariants.{BadSize}
use Rattle.lrc_check.specs.Traces.Sizes.{AreTraceSizes}
use Rattle.lrc_check.specs.Traces.Heads.{AreNoTraceHeadNumbers, IsTraceHeadOfNumbers, trace_head_first_word_read, trace_head_numbers_of, trace_head_numbers_read, trace_head_words_read}
use Rattle.lrc_check.specs.Traces.TraceFaults.{TraceFaultSaysNoSizes, TraceLineHasSizes, trace_fault_from_script}
use Rattle.lrc_check.proofs.traces.EventWords.{event_words_decimals_same, event_words_splits_agree}
use Rattle.lrc_check.proofs.traces.Never.{never_bad_number}
use Rattle.lrc_check.proofs.traces.TextParts.{text_parts_head, text_parts_head_small, text_parts_head_split}

-- ---- what is read

head_line_four_or_five : (n : ℕ) (b c : Bool) → eqb n 4 ≡ b → eqb n 5 ≡ c → (b || c) ≡ true → (n ≡ 4) ⊎ (n ≡ 5)
head_line_four_or_five n true c p q e = inl (eqb-true n 4 p)
head_line_four_or_five n false true p q e = inr (eqb-true n 5 q)
head_line_four_or_five n false false p q e = absurd cc

-- what is read behind a keyword that is due
head_line_due : (k : LineKeyword) (ws : List (List ℕ)) (ns : List ℕ) (d : Bool) → is_read_line_due Nothing k (length ws) ≡ d
    → cond d (line_read_numbers_after [] ws) (Err script.BadLine) ≡ Ok ns
    → (k ≡ keyword.Cluster) × ((length ws ≡ 4) ⊎ (length ws ≡ 5)) × (line_read_numbers_after [] ws ≡ Ok ns)
head_line_due k ws ns false due e = absurd cc
head_line_due keyword.Cluster ws ns true due e = (refl, head_line_four_or_five (length ws) (eqb (length ws) 4) (eqb (length ws) 5) refl refl due, e)
head_line_due _ ws ns true due e = absurd cc

head_line_of_numbers : (line : List ℕ) (w : List ℕ) (ws : List (List ℕ)) (ns : List ℕ) → parts_of_read_line 32 line ≡ w ∷ ws
    → w ≡ codes "cluster" → (length ws ≡ 4) ⊎ (length ws ≡ 5) → line_read_numbers_after [] ws ≡ Ok ns → IsTraceHeadOfNumbers line ns
head_line_of_numbers line w ws ns parts word count read =
    let t = decimal_numbers_taken [] ws ns read in
    let all : ns ≡ t.numbers = t.all_is in
    let words : ws ≡ map decimal ns = t.words_are ∙ ap (map decimal) (sym all) in
    let long : length ws ≡ length ns = ap (λ (x : List (List ℕ)). length x) words ∙ length-map ns decimal in
    record {
      line_is = separator_parts_whole 32 line w ws parts
          ∙ ap (λ (x : List ℕ). x ++ flat_map (λ v. 32 ∷ v) ws) word
          ∙ ap (λ (x : List (List ℕ)). codes "cluster" ++ flat_map (λ v. 32 ∷ v) x) words
          ∙ ap (λ (x : List ℕ). codes "cluster" ++ x) (sym (keyword_line_numbers_flat ns));
      count = elim count [ inl four ↦ inl (sym long ∙ four) | inr five ↦ inr (sym long ∙ five) ];
      small = subst AreDecimalNumbers (sym all) t.small;
    }

head_line_parts : (line w : List ℕ) (ws : List (List ℕ)) (ns : List ℕ) (b : Bool) (o : Option LineKeyword) → parts_of_read_line 32 line ≡ w ∷ ws
    → line_read_keyword w ≡ o → cond b (trace_head_first_word_read o ws) (Err script.BadLine) ≡ Ok ns → IsTraceHeadOfNumbers line ns
unfolding trace_head_first_word_read
head_line_parts line w ws ns false o parts key e = absurd cc
head_line_parts line w ws ns true None parts key e = absurd cc
head_line_parts line w ws ns true (Some k) parts key e =
    let due = head_line_due k ws ns (is_read_line_due Nothing k (length ws)) refl e in
    head_line_of_numbers line w ws ns parts (keyword_spelled w keyword.Cluster (key ∙ ap (λ (x : LineKeyword). Some x) due.0)) due.1 due.2

head_line_all_parts : (line : List ℕ) (parts : List (List ℕ)) (ns : List ℕ) → parts_of_read_line 32 line ≡ parts → trace_head_words_read parts ≡ Ok ns
    → IsTraceHeadOfNumbers line ns
head_line_all_parts line [] ns parts e = absurd cc
head_line_all_parts line (w ∷ ws) ns parts e = head_line_parts line w ws ns (list_all line_read_word_has_bytes (w ∷ ws)) (line_read_keyword w) parts refl e

-- what is read of a line is the line's
pub head_line_read : (line ns : List ℕ) → trace_head_numbers_read line ≡ Ok ns → IsTraceHeadOfNumbers line ns
head_line_read line ns e = head_line_all_parts line (parts_of_read_line 32 line) ns refl e

-- ---- what is refused

head_line_refused_due : (k : LineKeyword) (ws : List (List ℕ)) (e : ScriptFault) (d : Bool)
    → cond d (line_read_numbers_after [] ws) (Err script.BadLine) ≡ Err e
    → cond d (line_read_numbers_after [] ws >>= line_read_step Nothing k) (Err script.BadLine) ≡ Err e
head_line_refused_due k ws e false is = cc
head_line_refused_due k ws e true is = ap (λ (r : Result (List ℕ) ScriptFault). r >>= line_read_step Nothing k) is

head_line_refused_keyword : (ws : List (List ℕ)) (e : ScriptFault) (b : Bool) (o : Option LineKeyword)
    → cond b (trace_head_first_word_read o ws) (Err script.BadLine) ≡ Err e
    → cond b (line_read_after_keyword Nothing o ws) (Err script.BadLine) ≡ Err e
unfolding trace_head_first_word_read line_read_after_keyword
head_line_refused_keyword ws e false o is = cc
head_line_refused_keyword ws e true None is = cc
head_line_refused_keyword ws e true (Some k) is = head_line_refused_due k ws e (is_read_line_due Nothing k (length ws)) is

head_line_refused_parts : (parts : List (List ℕ)) (e : ScriptFault) → trace_head_words_read parts ≡ Err e → line_read_after_words Nothing parts ≡ Err e
head_line_refused_parts [] e is = cc
head_line_refused_parts (w ∷ ws) e is = head_line_refused_keyword ws e (list_all line_read_word_has_bytes (w ∷ ws)) (line_read_keyword w) is

-- the fault is one of the line's shape, or of a number
head_line_fault_due : (ws : List (List ℕ)) (e : ScriptFault) (d : Bool)
    → cond d (line_read_numbers_after [] ws) (Err script.BadLine) ≡ Err e → (e ≡ script.BadLine) ⊎ (e ≡ script.BadNumber)
head_line_fault_due ws e false is = inl cc
head_line_fault_due ws e true is = inr (decimal_numbers_refused [] ws e is).fault_is

head_line_fault_keyword : (ws : List (List ℕ)) (e : ScriptFault) (b : Bool) (o : Option LineKeyword)
    → cond b (trace_head_first_word_read o ws) (Err script.BadLine) ≡ Err e → (e ≡ script.BadLine) ⊎ (e ≡ script.BadNumber)
unfolding trace_head_first_word_read
head_line_fault_keyword ws e false o is = inl cc
head_line_fault_keyword ws e true None is = inl cc
head_line_fault_keyword ws e true (Some k) is = head_line_fault_due ws e (is_read_line_due Nothing k (length ws)) is

head_line_fault_parts : (parts : List (List ℕ)) (e : ScriptFault) → trace_head_words_read parts ≡ Err e
    → (e ≡ script.BadLine) ⊎ (e ≡ script.BadNumber)
head_line_fault_parts [] e is = inl cc
head_line_fault_parts (w ∷ ws) e is = head_line_fault_keyword ws e (list_all line_read_word_has_bytes (w ∷ ws)) (line_read_keyword w) is

-- ---- no line of sizes is refused

head_line_number_count : (p n w l g : ℕ) (b : Bool)
    → (length (map decimal (p ∷ n ∷ w ∷ l ∷ cond b [] (g ∷ []))) ≡ 4) ⊎ (length (map decimal (p ∷ n ∷ w ∷ l ∷ cond b [] (g ∷ []))) ≡ 5)
head_line_number_count p n w l g true = inl refl
head_line_number_count p n w l g false = inr refl

head_line_never_bad : (s : Sizes) → AreTraceSizes s → ScriptFaultSays script.BadLine Nothing (text_parts_head s) → ⊥
head_line_never_bad s h (inl none) =
    none (codes "cluster") (map decimal (trace_head_numbers_of s)) (text_parts_head_split s h)
    (refl, head_line_number_count s.processors s.pages s.words s.locks s.flags (eqb s.flags 0))
head_line_never_bad s h (inr x) = x.2

head_line_number_never_bad : (s : Sizes) → AreTraceSizes s → ScriptFaultSays script.BadNumber Nothing (text_parts_head s) → ⊥
head_line_number_never_bad s h x =
    let agree = event_words_splits_agree (text_parts_head s) _ _ _ _ x.2 (text_parts_head_split s h) in
    never_bad_number (trace_head_numbers_of s) x.4 (text_parts_head_small s h)
    (subst (λ (ws : List (List ℕ)). Contains ws x.4) agree.1 x.5) x.6

-- a line that has sizes is theirs
head_line_of_sizes : (line : List ℕ) (s : Sizes) → TraceLineHasSizes line s → line ≡ text_parts_head s
head_line_of_sizes line s x = append_cancel_right line (text_parts_head s) (10 ∷ []) x.line_is

head_line_fault_says : (line : List ℕ) (e : ScriptFault) → (e ≡ script.BadLine) ⊎ (e ≡ script.BadNumber) → ScriptFaultSays e Nothing line
    → TraceFaultSaysNoSizes (trace_fault_from_script e) line
head_line_fault_says line e (inl is) says =
    let said = subst (λ (x : ScriptFault). ScriptFaultSays x Nothing line) is says in
    subst (λ (x : ScriptFault). TraceFaultSaysNoSizes (trace_fault_from_script x) line) (sym is) (
      said,
      λ s x. head_line_never_bad s x.sizes (subst (ScriptFaultSays script.BadLine Nothing) (head_line_of_sizes line s x) said),
    )
head_line_fault_says line e (inr is) says =
    let said = subst (λ (x : ScriptFault). ScriptFaultSays x Nothing line) is says in
    subst (λ (x : ScriptFault). TraceFaultSaysNoSizes (trace_fault_from_script x) line) (sym is) (
      said,
      λ s x. head_line_number_never_bad s x.sizes (subst (ScriptFaultSays script.BadNumber Nothing) (head_line_of_sizes line s x) said),
    )

-- why a line that isn't read has no sizes
pub head_line_refused : (line : List ℕ) (e : ScriptFault) (f : TraceFault) → LineReadFails e (trace_head_numbers_read line) → f ≡ trace_fault_from_script e
    → TraceFaultSaysNoSizes f line
head_line_refused line script.NoMemory f fails same = subst (λ (x : TraceFault). TraceFaultSaysNoSizes x line) (sym same) tt
head_line_refused line e f fails same =
    subst (λ (x : TraceFault). TraceFaultSaysNoSizes x line) (sym same)
    (head_line_fault_says line e (head_line_fault_parts (parts_of_read_line 32 line) e fails)
    (refused_line_says Nothing line e (head_line_refused_parts (parts_of_read_line 32 line) e fails)))

-- and why one whose numbers are no sizes'
pub head_line_has_no_sizes : (line ns : List ℕ) → IsTraceHeadOfNumbers line ns → AreNoTraceHeadNumbers ns → TraceFaultSaysNoSizes BadSize line
head_line_has_no_sizes line ns is none = (
  (ns, is, none),
  λ s x.
      (let same = is.line_is in
      let mine = subst (λ (l : List ℕ). IsLineSplit l (codes "cluster") (map decimal ns)) (sym same)
      (keyword_line_split (codes "cluster") ns refl is.small) in
      let theirs = subst (λ (l : List ℕ). IsLineSplit l (codes "cluster") (map decimal (trace_head_numbers_of s))) (sym (head_line_of_sizes line s x))
      (text_parts_head_split s x.sizes) in
      none s x.sizes
      (event_words_decimals_same ns (trace_head_numbers_of s) is.small (text_parts_head_small s x.sizes)
      (event_words_splits_agree line _ _ _ _ mine theirs).1)),
)

-- the sizes that it has
pub head_line_has_sizes : (line ns : List ℕ) (s : Sizes) → IsTraceHeadOfNumbers line ns → AreTraceSizes s → ns ≡ trace_head_numbers_of s
    → TraceLineHasSizes line s
head_line_has_sizes line ns s is sizes same = record {
  sizes = sizes;
  line_is = ap (λ (x : List ℕ). x ++ 10 ∷ [])
      (is.line_is ∙ ap (λ (x : List ℕ). script_line_bytes (record { word = codes "cluster"; numbers = x })) same);
}
