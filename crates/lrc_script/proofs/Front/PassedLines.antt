-- The lines of a script lead from nothing to the whole script.
use Rattle.std.proofs.Common.{◌≡◌, ℕ, suc, ◌+◌, ◌<◌, ◌≤◌, Bool, true, false, ◌&&◌, cond, eqb, ltb, leb, List, [], ◌∷◌, ◌++◌, length, map, None, refl, sym, ap, subst, ◌∙◌, append_assoc, arith}
use Rattle.std.specs.Prelude.{All, codes}
use Rattle.std.specs.List.{AllByRecursion, list_any}
use Rattle.std.proofs.lemmas.Bool.{eqb-true}
use Rattle.std.proofs.lemmas.Bool.Decides.{nat_tests}
use Rattle.std.proofs.lemmas.List.{append-nil, length-append}
use Rattle.std.proofs.lemmas.List.Elements.{recursion_from_All, All-from_recursion, All-weaker}
use Rattle.lrc_script.specs.declared.script.Instruction.{Instruction}
use Rattle.lrc_script.specs.declared.script.Instruction.TheVariants as instruction
use Rattle.lrc_script.specs.declared.line.LineKeyword.TheVariants as keyword
use Rattle.lrc_script.specs.Plan.{Plan, plan_of_sizes}
use Rattle.lrc_script.specs.Lawful.{plan_addresses, AreLawfulSizes, IsInstructionInRange, IsLawfulAfter, IsLawfulSection, IsLawfulButUneven}
use Rattle.lrc_script.specs.ScriptLines.{ScriptLine, script_cluster_line, script_section_line, script_instruction_line, script_show_line, script_section_lines, script_lines_of}
use Rattle.lrc_script.specs.ScriptFront.{ScriptFront, Nothing, Headed, Within, Whole, IsScriptFrontLawful, IsScriptFrontHeaded, IsScriptFrontLawfulWithin, script_front_lines}
use Rattle.lrc_script.specs.LineReading.{are_line_read_sizes, line_read_refusal, line_read_section_closed, line_read_step}
use Rattle.lrc_script.proofs.Reading.DecimalNumbers.{AreDecimalNumbers}
use Rattle.lrc_script.proofs.Reading.KeywordLines.{KeywordLinePasses, keyword_line_passes}
use Rattle.lrc_script.proofs.LawfulSizes.{lawful_sizes_test, lawful_sizes_small, lawful_sizes_over, lawful_sizes_section_over, lawful_sizes_with_sections, lawful_sizes_section_with, lawful_sizes_with}
use Rattle.lrc_script.proofs.Front.RunLines.{RunLinesPass, RunLinesPass-append}

pub passed_lines_headed_front : (s : Plan) → IsScriptFrontHeaded s → s ≡ plan_of_sizes s.processors s.pages s.words s.locks s.flags
passed_lines_headed_front s h =
    ap (λ (x : List (List Instruction)). record s { sections = x }) h.no_sections
    ∙ ap (λ (x : List ℕ). record s { sections = []; shown = x }) h.none_shown

passed_line_of_sizes : (p n w l g : ℕ) (b : Bool) → eqb g 0 ≡ b → AreLawfulSizes (plan_of_sizes p n w l g)
    → KeywordLinePasses Nothing (record { word = codes "cluster"; numbers = p ∷ n ∷ w ∷ l ∷ cond b [] (g ∷ []) })
    (Headed (plan_of_sizes p n w l g))
unfolding line_read_step
passed_line_of_sizes p n w l g true e h =
    let small = lawful_sizes_small (plan_of_sizes p n w l g) h in
    let none : g ≡ 0 = eqb-true g 0 e in
    let test : are_line_read_sizes (plan_of_sizes p n w l 0) ≡ true =
    subst (λ (x : ℕ). are_line_read_sizes (plan_of_sizes p n w l x) ≡ true) none (lawful_sizes_test (plan_of_sizes p n w l g) h) in
    keyword_line_passes Nothing (Headed (plan_of_sizes p n w l g)) keyword.Cluster (codes "cluster") refl refl (
      omega (arith, small.processors),
      (omega (arith, small.pages), (omega (arith, small.words), (omega (arith, small.locks), tt))),
    )
    refl
    (rw (test, none) refl)
passed_line_of_sizes p n w l g false e h =
    let small = lawful_sizes_small (plan_of_sizes p n w l g) h in
    let some : ltb 0 g ≡ true = grind (arith, nat_tests, e) in
    keyword_line_passes Nothing (Headed (plan_of_sizes p n w l g)) keyword.Cluster (codes "cluster") refl refl (
      omega (arith, small.processors),
      (
        omega (arith, small.pages),
        (omega (arith, small.words), (omega (arith, small.locks), (omega (arith, small.flags), tt))),
      ),
    )
    refl
    (rw (some, lawful_sizes_test (plan_of_sizes p n w l g) h) refl)

-- the cluster line
pub passed_line_of_cluster : (s : Plan) → IsScriptFrontHeaded s → KeywordLinePasses Nothing (script_cluster_line s) (Headed s)
passed_line_of_cluster s h =
    let plan = plan_of_sizes s.processors s.pages s.words s.locks s.flags in
    subst (λ (x : Plan). KeywordLinePasses Nothing (script_cluster_line x) (Headed x)) (sym (passed_lines_headed_front s h)) (passed_line_of_sizes s.processors
    s.pages s.words s.locks s.flags (eqb s.flags 0) refl (subst AreLawfulSizes (passed_lines_headed_front s h) h.sizes))

-- no test refuses an instruction that may stand behind these
passed_line_unrefused : (s : Plan) (before : List Instruction) (i : Instruction) → IsInstructionInRange s i → IsLawfulAfter before i
    → length before < 10000 → line_read_refusal s before i ≡ None
passed_line_unrefused s before (instruction.Load a) range may room =
    let below : leb (plan_addresses s) a ≡ false = grind (arith, nat_tests, range) in
    let fits : leb 10000 (length before) ≡ false = grind (arith, nat_tests, room) in
    rw (below, fits) refl
passed_line_unrefused s before (instruction.Store a v) range may room =
    let below : leb (plan_addresses s) a ≡ false = grind (arith, nat_tests, range.0) in
    let fits : leb 10000 (length before) ≡ false = grind (arith, nat_tests, room) in
    rw (below, fits) refl
passed_line_unrefused s before (instruction.Add a v) range may room =
    let below : leb (plan_addresses s) a ≡ false = grind (arith, nat_tests, range.0) in
    let fits : leb 10000 (length before) ≡ false = grind (arith, nat_tests, room) in
    rw (below, fits) refl
passed_line_unrefused s before (instruction.Acquire l) range may room =
    let below : leb s.locks l ≡ false = grind (arith, nat_tests, range) in
    let fits : leb 10000 (length before) ≡ false = grind (arith, nat_tests, room) in
    rw (below, may, fits) refl
passed_line_unrefused s before (instruction.Release l) range may room =
    let below : leb s.locks l ≡ false = grind (arith, nat_tests, range) in
    let fits : leb 10000 (length before) ≡ false = grind (arith, nat_tests, room) in
    rw (below, may, fits) refl
passed_line_unrefused s before instruction.Barrier range may room =
    let fits : leb 10000 (length before) ≡ false = grind (arith, nat_tests, room) in
    rw fits refl
passed_line_unrefused s before (instruction.Set f) range may room =
    let below : leb s.flags f ≡ false = grind (arith, nat_tests, range) in
    let fits : leb 10000 (length before) ≡ false = grind (arith, nat_tests, room) in
    rw (below, fits) refl
passed_line_unrefused s before (instruction.Await f) range may room =
    let below : leb s.flags f ≡ false = grind (arith, nat_tests, range) in
    let fits : leb 10000 (length before) ≡ false = grind (arith, nat_tests, room) in
    rw (below, fits) refl
passed_line_unrefused s before instruction.Cut range may room =
    let fits : leb 10000 (length before) ≡ false = grind (arith, nat_tests, room) in
    rw fits refl

-- an instruction that may stand behind these
pub passed_line_instruction : (s : Plan) (before : List Instruction) (i : Instruction) → AreLawfulSizes s → IsInstructionInRange s i
    → IsLawfulAfter before i → length before < 10000
    → KeywordLinePasses (Within s before) (script_instruction_line i) (Within s (before ++ i ∷ []))
unfolding line_read_step
passed_line_instruction s before (instruction.Load a) sizes range may room =
    let small = lawful_sizes_small s sizes in
    keyword_line_passes (Within s before) _ keyword.Load (codes "load") refl refl
    (omega (arith, small.addresses_fit, range), tt) refl
    (rw (passed_line_unrefused s before (instruction.Load a) range may room) refl)
passed_line_instruction s before (instruction.Store a v) sizes range may room =
    let small = lawful_sizes_small s sizes in
    keyword_line_passes (Within s before) _ keyword.Store (codes "store") refl refl
    (omega (arith, small.addresses_fit, range.0), (range.1, tt)) refl
    (rw (passed_line_unrefused s before (instruction.Store a v) range may room) refl)
passed_line_instruction s before (instruction.Add a v) sizes range may room =
    let small = lawful_sizes_small s sizes in
    keyword_line_passes (Within s before) _ keyword.Add (codes "add") refl refl
    (omega (arith, small.addresses_fit, range.0), (range.1, tt)) refl
    (rw (passed_line_unrefused s before (instruction.Add a v) range may room) refl)
passed_line_instruction s before (instruction.Acquire l) sizes range may room =
    let small = lawful_sizes_small s sizes in
    keyword_line_passes (Within s before) _ keyword.Acquire (codes "acquire") refl refl
    (omega (arith, small.locks, range), tt) refl
    (rw (passed_line_unrefused s before (instruction.Acquire l) range may room) refl)
passed_line_instruction s before (instruction.Release l) sizes range may room =
    let small = lawful_sizes_small s sizes in
    keyword_line_passes (Within s before) _ keyword.Release (codes "release") refl refl
    (omega (arith, small.locks, range), tt) refl
    (rw (passed_line_unrefused s before (instruction.Release l) range may room) refl)
passed_line_instruction s before instruction.Barrier sizes range may room =
    let small = lawful_sizes_small s sizes in
    keyword_line_passes (Within s before) _ keyword.Barrier (codes "barrier") refl refl tt refl
    (rw (passed_line_unrefused s before instruction.Barrier range may room) refl)
passed_line_instruction s before (instruction.Set f) sizes range may room =
    let small = lawful_sizes_small s sizes in
    keyword_line_passes (Within s before) _ keyword.Set (codes "set") refl refl (omega (arith, small.flags, range), tt) refl
    (rw (passed_line_unrefused s before (instruction.Set f) range may room) refl)
passed_line_instruction s before (instruction.Await f) sizes range may room =
    let small = lawful_sizes_small s sizes in
    keyword_line_passes (Within s before) _ keyword.Await (codes "await") refl refl (omega (arith, small.flags, range), tt)
    refl (rw (passed_line_unrefused s before (instruction.Await f) range may room) refl)
passed_line_instruction s before instruction.Cut sizes range may room =
    let small = lawful_sizes_small s sizes in
    keyword_line_passes (Within s before) _ keyword.Cut (codes "cut") refl refl tt refl
    (rw (passed_line_unrefused s before instruction.Cut range may room) refl)

passed_line_next_section : (s : Plan) (is : List Instruction) → AreLawfulSizes s → suc (length s.sections) < s.processors
    → KeywordLinePasses (Within s is) (script_section_line (suc (length s.sections))) (Within (line_read_section_closed s is) [])
unfolding line_read_step
passed_line_next_section s is sizes lt =
    let small = lawful_sizes_small s sizes in
    let next : (eqb (suc (length s.sections)) (length s.sections + 1) && ltb (suc (length s.sections)) s.processors)
    ≡ true =
    grind (arith, nat_tests, lt) in
    keyword_line_passes (Within s is) (Within (line_read_section_closed s is) []) keyword.Section (codes "p") refl refl
    (omega (arith, small.processors, lt), tt) refl (rw next refl)

passed_line_first_section : (s : Plan) → AreLawfulSizes s → KeywordLinePasses (Headed s) (script_section_line 0) (Within s [])
unfolding line_read_step
passed_line_first_section s sizes =
    keyword_line_passes (Headed s) (Within s []) keyword.Section (codes "p") refl refl (omega arith, tt) refl refl

passed_lines_all_below : (n : ℕ) (xs : List ℕ) → AllByRecursion (λ a. a < n) xs → list_any (λ a. leb n a) xs ≡ false
passed_lines_all_below n [] h = refl
passed_lines_all_below n (x ∷ xs) h =
    let lt = h.0 in
    let first : leb n x ≡ false = grind (arith, nat_tests, lt) in
    rw (first, passed_lines_all_below n xs h.1) refl

passed_lines_all_words : (n : ℕ) (xs : List ℕ) → n ≤ 4096 → AllByRecursion (λ a. a < n) xs → AreDecimalNumbers xs
passed_lines_all_words n [] le h = tt
passed_lines_all_words n (x ∷ xs) le h = (omega (arith, h.0), passed_lines_all_words n xs le h.1)

passed_line_shown : (s : Plan) (is : List Instruction) (shown : List ℕ) → AreLawfulSizes s → suc (length s.sections) ≡ s.processors
    → 1 ≤ length shown → length shown ≤ 64 → All (λ a. a < plan_addresses s) shown
    → KeywordLinePasses (Within s is) (script_show_line shown) (Whole (record (line_read_section_closed s is) { shown = shown }))
unfolding line_read_step
passed_line_shown s is shown sizes one_each some most below =
    let small = lawful_sizes_small s sizes in
    let each = recursion_from_All (λ a. a < plan_addresses s) shown below in
    let due : (leb 1 (length shown) && eqb (length s.sections + 1) s.processors) ≡ true =
    grind (arith, nat_tests, some, one_each) in
    let few : ltb 64 (length shown) ≡ false = grind (arith, nat_tests, most) in
    keyword_line_passes (Within s is) (Whole (record (line_read_section_closed s is) { shown = shown })) keyword.Show (codes "show") refl refl
    (passed_lines_all_words (plan_addresses s) shown small.addresses_fit each) due
    (rw (passed_lines_all_below (plan_addresses s) shown each, few) refl)

-- ---- whole sections

-- what each instruction of a list needs
abbrev pub PassedLinesStandAfter : Plan → List Instruction → List Instruction → Type 0
PassedLinesStandAfter s before after = AllByRecursion (IsInstructionInRange s) after × (length before + length after ≤ 10000)
    × ((front : List Instruction) (i : Instruction) (back : List Instruction) → after ≡ front ++ i ∷ back
    → IsLawfulAfter (before ++ front) i)

passed_lines_instructions : (s : Plan) (before after : List Instruction) → AreLawfulSizes s → PassedLinesStandAfter s before after
    → RunLinesPass (Within s before) (map script_instruction_line after) (Within s (before ++ after))
passed_lines_instructions s before [] sizes h = ap (λ (is : List Instruction). Within s is) (sym (append-nil before))
passed_lines_instructions s before (i ∷ after) sizes h =
    let first =
    passed_line_instruction s before i sizes h.0.0
    (subst (λ (is : List Instruction). IsLawfulAfter is i) (append-nil before) (h.2 [] i after refl))
    (omega (arith, h.1)) in
    let rest =
    passed_lines_instructions s (before ++ i ∷ []) after sizes (
      h.0.1,
      omega (arith, h.1, length-append before (i ∷ [])),
      λ front j back e. subst (λ (is : List Instruction). IsLawfulAfter is j)
          (sym (append_assoc before (i ∷ []) front))
          (h.2 (i ∷ front) j back (ap (λ (is : List Instruction). i ∷ is) e)),
    )
    in (
      Within s (before ++ i ∷ []),
      first,
      subst (λ (is : List Instruction). RunLinesPass (Within s (before ++ i ∷ []))
          (map script_instruction_line after) (Within s is))
          (append_assoc before (i ∷ []) after) rest,
    )

passed_lines_section : (s : Plan) (is : List Instruction) → AreLawfulSizes s → IsLawfulSection s is
    → RunLinesPass (Within s []) (map script_instruction_line is) (Within s is)
passed_lines_section s is sizes h =
    passed_lines_instructions s [] is sizes (recursion_from_All (IsInstructionInRange s) is h.in_range, omega (arith, h.most), h.holding)

-- the sections behind the one that is open
passed_lines_next_sections : (s : Plan) (done : List (List Instruction)) (open' : List Instruction)
    (rest : List (List Instruction)) (last : List Instruction)
    → AreLawfulSizes s → length done + length rest + 1 < s.processors → AllByRecursion (IsLawfulSection s) rest → IsLawfulSection s last
    → RunLinesPass (Within (lawful_sizes_with_sections s done) open') (script_section_lines (suc (length done)) (rest ++ last ∷ []))
    (Within (lawful_sizes_with_sections s (done ++ open' ∷ rest)) last)
passed_lines_next_sections s done open' [] last sizes room each h =
    let head = passed_line_next_section (lawful_sizes_with_sections s done) open' (lawful_sizes_with s done sizes) (omega (arith, room)) in
    let whole = lawful_sizes_with_sections s (done ++ open' ∷ []) in
    let body =
    passed_lines_section whole last (lawful_sizes_with s (done ++ open' ∷ []) sizes)
    (lawful_sizes_section_with s (done ++ open' ∷ []) last h) in (
      Within whole [],
      head,
      subst (λ (ls : List ScriptLine). RunLinesPass (Within whole []) ls (Within whole last))
          (sym (append-nil (map script_instruction_line last))) body,
    )
passed_lines_next_sections s done open' (is ∷ rest) last sizes room each h =
    let head = passed_line_next_section (lawful_sizes_with_sections s done) open' (lawful_sizes_with s done sizes) (omega (arith, room)) in
    let now = done ++ open' ∷ [] in
    let whole = lawful_sizes_with_sections s now in
    let body = passed_lines_section whole is (lawful_sizes_with s now sizes) (lawful_sizes_section_with s now is each.0) in
    let longer : length now ≡ suc (length done) = omega (arith, length-append done (open' ∷ [])) in
    let others = passed_lines_next_sections s now is rest last sizes (omega (arith, room, longer)) each.1 h in
    let others' =
    subst (λ (n : ℕ). RunLinesPass (Within whole is) (script_section_lines (suc n) (rest ++ last ∷ []))
    (Within (lawful_sizes_with_sections s (now ++ is ∷ rest)) last))
    longer others in
    let both =
    RunLinesPass-append (Within whole []) (Within whole is) (Within (lawful_sizes_with_sections s (now ++ is ∷ rest)) last)
    (map script_instruction_line is) (script_section_lines (suc (suc (length done))) (rest ++ last ∷ [])) body others' in (
      Within whole [],
      head,
      subst (λ (all : List (List Instruction)). RunLinesPass (Within whole [])
          (map script_instruction_line is ++ script_section_lines (suc (suc (length done))) (rest ++ last ∷ []))
          (Within (lawful_sizes_with_sections s all) last))
          (append_assoc done (open' ∷ []) (is ∷ rest)) both,
    )

-- the sections of a script, the last of which may be open
passed_lines_all_sections : (s : Plan) (sections : List (List Instruction)) (last : List Instruction) → AreLawfulSizes s
    → length sections < s.processors → AllByRecursion (IsLawfulSection s) sections → IsLawfulSection s last
    → RunLinesPass (Headed (lawful_sizes_with_sections s [])) (script_section_lines 0 (sections ++ last ∷ []))
    (Within (lawful_sizes_with_sections s sections) last)
passed_lines_all_sections s [] last sizes room each h =
    let none = lawful_sizes_with_sections s [] in
    let body = passed_lines_section none last (lawful_sizes_with s [] sizes) (lawful_sizes_section_with s [] last h) in (
      Within none [],
      passed_line_first_section none (lawful_sizes_with s [] sizes),
      subst
          (λ (ls : List ScriptLine). RunLinesPass (Within none []) ls (Within none last))
          (sym (append-nil (map script_instruction_line last))) body,
    )
passed_lines_all_sections s (is ∷ rest) last sizes room each h =
    let none = lawful_sizes_with_sections s [] in
    let body = passed_lines_section none is (lawful_sizes_with s [] sizes) (lawful_sizes_section_with s [] is each.0) in
    let others = passed_lines_next_sections s [] is rest last sizes (omega (arith, room)) each.1 h in (
      Within none [],
      passed_line_first_section none (lawful_sizes_with s [] sizes),
      RunLinesPass-append (Within none []) (Within none is)
          (Within (lawful_sizes_with_sections s (is ∷ rest)) last) (map script_instruction_line is)
          (script_section_lines 1 (rest ++ last ∷ [])) body others,
    )

passed_lines_headed_front_with : (s : Plan) → AreLawfulSizes s → s.shown ≡ [] → IsScriptFrontHeaded (lawful_sizes_with_sections s [])
passed_lines_headed_front_with s sizes none = record { sizes = lawful_sizes_with s [] sizes; no_sections = refl; none_shown = none }

passed_lines_within : (s : Plan) (is : List Instruction) → IsScriptFrontLawfulWithin s is
    → RunLinesPass Nothing (script_front_lines (Within s is)) (Within s is)
passed_lines_within s is h =
    let head = passed_line_of_cluster (lawful_sizes_with_sections s []) (passed_lines_headed_front_with s h.sizes h.none_shown) in (
      Headed (lawful_sizes_with_sections s []),
      head,
      passed_lines_all_sections s s.sections is h.sizes h.one_each
          (recursion_from_All (IsLawfulSection s) s.sections h.sections) h.last,
    )

-- a list that isn't empty has a last element
abbrev pub Ends : List (List Instruction) → Type 0
Ends xs = (front : List (List Instruction)) × (last : List Instruction) × (xs ≡ front ++ last ∷ [])

pub ends : (xs : List (List Instruction)) → 0 < length xs → Ends xs
ends [] lt = absurd (omega arith)
ends (x ∷ []) lt = ([], x, refl)
ends (x ∷ y ∷ xs) lt =
    let e = ends (y ∷ xs) (omega arith) in (x ∷ e.0, e.1, ap (λ (l : List (List Instruction)). x ∷ l) e.2)

AllByRecursion-split : (P : List Instruction → Type 0) (xs : List (List Instruction)) (last : List Instruction)
    → AllByRecursion P (xs ++ last ∷ []) → AllByRecursion P xs × P last
AllByRecursion-split P [] last h = (tt, h.0)
AllByRecursion-split P (x ∷ xs) last h = let r = AllByRecursion-split P xs last h.1 in ((h.0, r.0), r.1)

abbrev pub passed_lines_unshown : Plan → List (List Instruction) → Plan
passed_lines_unshown s sections = record s { sections = sections; shown = [] }

passed_lines_whole_from : (s : Plan) (front : List (List Instruction)) (last : List Instruction) → s.sections ≡ front ++ last ∷ []
    → IsLawfulButUneven s → RunLinesPass Nothing (script_lines_of s) (Whole s)
passed_lines_whole_from s front last e h =
    let small = lawful_sizes_small s h.sizes in
    let before = passed_lines_unshown s front in
    let each =
    AllByRecursion-split (IsLawfulSection s) front last (subst
    (λ (xs : List (List Instruction)). AllByRecursion (IsLawfulSection s) xs) e
    (recursion_from_All (IsLawfulSection s) s.sections h.sections))
    in
    let count : suc (length front) ≡ s.processors =
    omega (arith, ap (λ (xs : List (List Instruction)). length xs) e, length-append front (last ∷ []), h.one_each)
    in
    let sizes : AreLawfulSizes before = lawful_sizes_over s front [] h.sizes in
    let as_before : (is : List Instruction) → IsLawfulSection s is → IsLawfulSection before is =
    λ is k. lawful_sizes_section_over s front [] is k in
    let within : IsScriptFrontLawfulWithin before last = record {
      sizes = sizes;
      sections =
          All-weaker (IsLawfulSection s) (IsLawfulSection before) as_before front (All-from_recursion (IsLawfulSection s) front each.0);
      last = as_before last each.1;
      one_each = omega (arith, count);
      none_shown = refl;
    } in
    let shows = passed_line_shown before last s.shown sizes count h.some_shown h.most_shown h.shown in
    let same : record s { sections = front ++ last ∷ [] } ≡ s =
    ap (λ (xs : List (List Instruction)). record s { sections = xs }) (sym e) in
    let shows' = subst (λ (x : Plan). KeywordLinePasses (Within before last) (script_show_line s.shown) (Whole x)) same shows in
    let all =
    RunLinesPass-append Nothing (Within before last) (Whole s) (script_cluster_line s ∷ script_section_lines 0 (front ++ last ∷ []))
    (script_show_line s.shown ∷ []) (passed_lines_within before last within) (Whole s, shows', refl) in
    subst (λ (xs : List (List Instruction)). RunLinesPass Nothing
    (script_cluster_line s ∷ script_section_lines 0 xs ++ script_show_line s.shown ∷ []) (Whole s))
    (sym e) all

passed_lines_whole : (s : Plan) → IsLawfulButUneven s → RunLinesPass Nothing (script_lines_of s) (Whole s)
passed_lines_whole s h =
    let small = lawful_sizes_small s h.sizes in
    let e = ends s.sections (omega (arith, small.some, h.one_each)) in
    passed_lines_whole_from s e.0 e.1 e.2 h

-- the lines of what stands before lead there
pub passed_lines_front : (f : ScriptFront) → IsScriptFrontLawful f → RunLinesPass Nothing (script_front_lines f) f
passed_lines_front Nothing h = refl
passed_lines_front (Headed s) h = (Headed s, passed_line_of_cluster s h, refl)
passed_lines_front (Within s is) h = passed_lines_within s is h
passed_lines_front (Whole s) h = passed_lines_whole s h
