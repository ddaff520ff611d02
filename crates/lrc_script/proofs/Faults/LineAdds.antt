-- What a line that is read adds to the lines before it.
use Rattle.std.proofs.Common.{◌≡◌, ℕ, ◌+◌, ◌<◌, Bool, true, false, ◌&&◌, ◌||◌, cond, eqb, ltb, leb, List, [], ◌∷◌, ◌++◌, length, map, Option, Some, None, Result, Ok, Err, refl, sym, ap, subst, ◌∙◌, append_assoc, arith, inl, inr, ◌⊎◌}
use Rattle.std.specs.Prelude.{All, codes}
use Rattle.std.specs.List.{AllByRecursion, list_any}
use Rattle.std.proofs.lemmas.Bool.{and_parts, not-false, leb-false}
use Rattle.std.proofs.lemmas.Bool.Decides.{nat_tests}
use Rattle.std.proofs.lemmas.List.{append-nil, length-append, map_push}
use Rattle.std.proofs.lemmas.List.Elements.{All-from_recursion, All-weaker, All-nil, All-push}
use Rattle.lrc_script.specs.declared.fault.ScriptFault.{ScriptFault}
use Rattle.lrc_script.specs.declared.script.Instruction.{Instruction}
use Rattle.lrc_script.specs.declared.script.Instruction.TheVariants as instruction
use Rattle.lrc_script.specs.declared.line.LineKeyword.{LineKeyword}
use Rattle.lrc_script.specs.declared.line.LineKeyword.TheVariants as keyword
use Rattle.lrc_script.specs.Plan.{Plan, plan_of_sizes}
use Rattle.lrc_script.specs.Lawful.{plan_addresses, AreLawfulSizes, IsInstructionInRange, IsLawfulAfter, IsLawfulSection, instruction_address, instruction_lock, instruction_flag}
use Rattle.lrc_script.specs.ScriptLines.{ScriptLine, script_cluster_line, script_section_line, script_instruction_line, script_show_line, script_section_lines}
use Rattle.lrc_script.specs.ScriptFront.{ScriptFront, Nothing, Headed, Within, Whole, IsScriptFrontLawful, IsScriptFrontHeaded, IsScriptFrontLawfulWithin, script_front_lines}
use Rattle.lrc_script.specs.LineReading.{are_line_read_sizes, is_read_line_due, line_read_sizes, line_read_cluster, line_read_first_section, line_read_next_section, line_read_shown, is_line_read_past, line_read_takes_held, line_read_gives_unheld, line_read_refusal, line_read_instruction, line_read_section_closed, line_read_step}
use Rattle.lrc_script.proofs.Reading.DecimalNumbers.{AreDecimalNumbers}
use Rattle.lrc_script.proofs.LawfulSizes.{lawful_sizes_from_test, lawful_sizes_small, lawful_sizes_section_with, lawful_sizes_with, lawful_sizes_section_over, lawful_sizes_over, lawful_sizes_section_none}
use Rattle.lrc_script.proofs.SectionTexts.{script_section_lines-append}
use Rattle.lrc_script.proofs.Reading.Keywords.{keyword_bytes}

line_adds_if_true : {A : Type 0} (b : Bool) (x y : A) (fault : ScriptFault) → cond b (Ok x) (Err fault) ≡ Ok y
    → (b ≡ true) × (x ≡ y)
line_adds_if_true true x y fault e = (refl, cc)
line_adds_if_true false x y fault e = absurd cc

line_adds_if_false : {A : Type 0} (b : Bool) (r : Result A ScriptFault) (y : A) (fault : ScriptFault)
    → cond b (Err fault) r ≡ Ok y → (b ≡ false) × (r ≡ Ok y)
line_adds_if_false true r y fault e = absurd cc
line_adds_if_false false r y fault e = (refl, e)

-- the line stands behind the lines before it, and the lines begin a script's text
pub record LineAdds (f : ScriptFront) (l : ScriptLine) (g : ScriptFront) : Type 0 where
  pub lines_are : script_front_lines g ≡ script_front_lines f ++ l ∷ []
  pub begun : IsScriptFrontLawful g

-- ---- the cluster line

line_adds_sizes : (s : Plan) (are : Bool) (l : ScriptLine) (g : ScriptFront) → (are ≡ true → AreLawfulSizes s) → s.sections ≡ []
    → s.shown ≡ [] → script_cluster_line s ≡ l → line_read_sizes are s ≡ Ok g → LineAdds Nothing l g
line_adds_sizes s are l g sizes none unshown line e =
    let t = line_adds_if_true are (Headed s) g _ e in
    subst (λ (x : ScriptFront). LineAdds Nothing l x) t.1 (record {
      lines_are = ap (λ (x : ScriptLine). x ∷ []) line;
      begun = record { sizes = sizes t.0; no_sections = none; none_shown = unshown };
    })

line_adds_cluster_of_five : (p n w l g : ℕ) → eqb g 0 ≡ false
    → script_cluster_line (plan_of_sizes p n w l g) ≡ record { word = codes "cluster"; numbers = p ∷ n ∷ w ∷ l ∷ g ∷ [] }
line_adds_cluster_of_five p n w l g e =
    ap (λ (b : Bool). record { word = codes "cluster"; numbers = p ∷ n ∷ w ∷ l ∷ cond b [] (g ∷ []) }) e

line_adds_cluster : (ns : List ℕ) (g : ScriptFront) → line_read_cluster ns ≡ Ok g
    → LineAdds Nothing (record { word = codes "cluster"; numbers = ns }) g
line_adds_cluster [] g e = absurd cc
line_adds_cluster (p ∷ []) g e = absurd cc
line_adds_cluster (p ∷ n ∷ []) g e = absurd cc
line_adds_cluster (p ∷ n ∷ w ∷ []) g e = absurd cc
line_adds_cluster (p ∷ n ∷ w ∷ l ∷ []) g e =
    line_adds_sizes (plan_of_sizes p n w l 0) (are_line_read_sizes (plan_of_sizes p n w l 0)) _ g (lawful_sizes_from_test (plan_of_sizes p n w l 0))
    refl refl refl e
line_adds_cluster (p ∷ n ∷ w ∷ l ∷ k ∷ []) g e =
    let s = plan_of_sizes p n w l k in
    let both = line_adds_if_true (ltb 0 k && are_line_read_sizes s) (Headed s) g _ e in
    let parts = and_parts (ltb 0 k) (are_line_read_sizes s) both.0 in
    let some = parts.0 in
    let other : eqb k 0 ≡ false = grind (arith, nat_tests, some) in
    line_adds_sizes s (ltb 0 k && are_line_read_sizes s) _ g (λ t. lawful_sizes_from_test s (and_parts (ltb 0 k) (are_line_read_sizes s) t).1) refl
    refl (line_adds_cluster_of_five p n w l k other) e
line_adds_cluster (p ∷ n ∷ w ∷ l ∷ k ∷ m ∷ ns) g e = absurd cc

-- ---- a section line

line_adds_first_section : (s : Plan) (ns : List ℕ) (g : ScriptFront) → IsScriptFrontHeaded s → line_read_first_section s ns ≡ Ok g
    → LineAdds (Headed s) (record { word = codes "p"; numbers = ns }) g
line_adds_first_section s [] g h e = absurd cc
line_adds_first_section s (k ∷ []) g h e =
    let t = line_adds_if_true (eqb k 0) (Within s []) g _ e in
    let test = t.0 in
    let zero-is : 0 ≡ k = grind (arith, nat_tests, test) in
    let lines : script_front_lines (Within s []) ≡ script_cluster_line s ∷ script_section_line k ∷ [] =
    ap (λ (xs : List (List Instruction)). script_cluster_line s ∷ script_section_lines 0 (xs ++ [] ∷ [])) h.no_sections
    ∙ ap (λ (n : ℕ). script_cluster_line s ∷ script_section_line n ∷ []) zero-is in
    subst (λ (x : ScriptFront). LineAdds (Headed s) (script_section_line k) x) t.1 (record {
      lines_are = lines;
      begun = record {
        sizes = h.sizes;
        sections = subst (All (IsLawfulSection s)) (sym h.no_sections) (All-nil (IsLawfulSection s));
        last = lawful_sizes_section_none s;
        one_each = omega (
          arith,
          ap (λ (xs : List (List Instruction)). length xs) h.no_sections,
          (lawful_sizes_small s h.sizes).some,
        );
        none_shown = h.none_shown;
      };
    })
line_adds_first_section s (k ∷ m ∷ ns) g h e = absurd cc

line_adds_next_section : (s : Plan) (is : List Instruction) (ns : List ℕ) (g : ScriptFront) → IsScriptFrontLawfulWithin s is → line_read_next_section s is ns ≡ Ok g
    → LineAdds (Within s is) (record { word = codes "p"; numbers = ns }) g
line_adds_next_section s is [] g h e = absurd cc
line_adds_next_section s is (k ∷ []) g h e =
    let t = line_adds_if_true (eqb k (length s.sections + 1) && ltb k s.processors) (Within (line_read_section_closed s is) []) g _ e in
    let both = and_parts (eqb k (length s.sections + 1)) (ltb k s.processors) t.0 in
    let test = both.0 in
    let room = both.1 in
    let count : 0 + length (s.sections ++ is ∷ []) ≡ k =
    grind (arith, nat_tests, test, length-append s.sections (is ∷ [])) in
    let sections = s.sections ++ is ∷ [] in
    let lines : script_section_lines 0 (sections ++ [] ∷ []) ≡ script_section_lines 0 sections ++ script_section_line k ∷ [] =
    script_section_lines-append 0 sections ([] ∷ [])
    ∙ ap (λ (n : ℕ). script_section_lines 0 sections ++ script_section_line n ∷ []) count in
    subst (λ (x : ScriptFront). LineAdds (Within s is) (script_section_line k) x) t.1 (record {
      lines_are = ap (λ (ls : List ScriptLine). script_cluster_line s ∷ ls) lines;
      begun = record {
        sizes = lawful_sizes_with s sections h.sizes;
        sections =
            All-weaker (IsLawfulSection s) (IsLawfulSection (line_read_section_closed s is)) (lawful_sizes_section_with s sections) sections
            (All-push (IsLawfulSection s) s.sections is h.sections h.last);
        last = lawful_sizes_section_none (line_read_section_closed s is);
        one_each = grind (arith, nat_tests, test, room, length-append s.sections (is ∷ []));
        none_shown = h.none_shown;
      };
    })
line_adds_next_section s is (k ∷ m ∷ ns) g h e = absurd cc

-- ---- the show line

line_adds_none_past : (n : ℕ) (xs : List ℕ) → list_any (λ a. leb n a) xs ≡ false → AllByRecursion (λ a. a < n) xs
line_adds_none_past n [] e = tt
line_adds_none_past n (x ∷ xs) e = past_cases n x xs (leb n x) refl e (line_adds_none_past n xs)
  where
    past_cases : (n x : ℕ) (xs : List ℕ) (b : Bool) → leb n x ≡ b → (b || list_any (λ a. leb n a) xs) ≡ false
        → (list_any (λ a. leb n a) xs ≡ false → AllByRecursion (λ a. a < n) xs)
        → (x < n) × AllByRecursion (λ a. a < n) xs
    past_cases n x xs true t e rest = absurd cc
    past_cases n x xs false t e rest = (grind (arith, nat_tests, t), rest e)

line_adds_shown : (s : Plan) (is : List Instruction) (ns : List ℕ) (g : ScriptFront) → IsScriptFrontLawfulWithin s is
    → (leb 1 (length ns) && eqb (length s.sections + 1) s.processors) ≡ true → line_read_shown s is ns ≡ Ok g
    → LineAdds (Within s is) (script_show_line ns) g
line_adds_shown s is ns g h due e =
    let whole = record (line_read_section_closed s is) { shown = ns } in
    let near = line_adds_if_false (list_any (λ a. leb (plan_addresses s) a) ns) _ g _ e in
    let few = line_adds_if_false (ltb 64 (length ns)) (Ok (Whole whole)) g _ near.1 in
    let same : Whole whole ≡ g = let last = few.1 in cc in
    let both = and_parts (leb 1 (length ns)) (eqb (length s.sections + 1) s.processors) due in
    let some = both.0 in
    let all = both.1 in
    let short = few.0 in
    let sections = s.sections ++ is ∷ [] in
    let as_whole : (is : List Instruction) → IsLawfulSection s is → IsLawfulSection whole is =
    λ js k. lawful_sizes_section_over s sections ns js k in
    subst (λ (x : ScriptFront). LineAdds (Within s is) (script_show_line ns) x) same (record {
      lines_are = refl;
      begun = record {
        sizes = lawful_sizes_over s sections ns h.sizes;
        one_each = grind (arith, nat_tests, all, length-append s.sections (is ∷ []));
        sections =
            All-weaker (IsLawfulSection s) (IsLawfulSection whole) as_whole sections
            (All-push (IsLawfulSection s) s.sections is h.sections h.last);
        some_shown = grind (arith, nat_tests, some);
        most_shown = grind (arith, nat_tests, short);
        shown = All-from_recursion (λ a. a < plan_addresses s) ns (line_adds_none_past (plan_addresses s) ns near.0);
      };
    })

-- ---- an instruction line

line_adds_before_or_last : (is before : List Instruction) (i j : Instruction) (after : List Instruction)
    → is ++ i ∷ [] ≡ before ++ j ∷ after
    → ((before ≡ is) × (j ≡ i)) ⊎ ((rest : List Instruction) × (is ≡ before ++ j ∷ rest))
line_adds_before_or_last [] [] i j after e = inl (refl, cc)
line_adds_before_or_last [] (b ∷ bs) i j after e =
    absurd (omega (arith, ap (λ (is : List Instruction). length is) e, length-append bs (j ∷ after)))
line_adds_before_or_last (x ∷ xs) [] i j after e = inr (xs, let head : x ≡ j = cc in ap (λ (y : Instruction). y ∷ xs) head)
line_adds_before_or_last (x ∷ xs) (b ∷ bs) i j after e =
    let head : x ≡ b = cc in
    let tail : xs ++ i ∷ [] ≡ bs ++ j ∷ after = cc in
    elim (line_adds_before_or_last xs bs i j after tail) [
      | inl p ↦ inl (ap (λ (y : Instruction). y ∷ bs) (sym head) ∙ ap (λ (ys : List Instruction). x ∷ ys) p.0, p.1)
      | inr p ↦ inr (p.0, ap (λ (y : Instruction). y ∷ xs) head ∙ ap (λ (ys : List Instruction). b ∷ ys) p.1)
    ]

-- no test refuses the instruction
pub record LineAddsNoFault (s : Plan) (is : List Instruction) (i : Instruction) : Type 0 where
  pub address : is_line_read_past (instruction_address i) (plan_addresses s) ≡ false
  pub lock : is_line_read_past (instruction_lock i) s.locks ≡ false
  pub flag : is_line_read_past (instruction_flag i) s.flags ≡ false
  pub held : line_read_takes_held is i ≡ false
  pub unheld : line_read_gives_unheld is i ≡ false
  pub room : leb 10000 (length is) ≡ false

line_adds_no_fault_rest : {A : Type 0} (b : Bool) (x : A) (rest : Option A) → cond b (Some x) rest ≡ None
    → (b ≡ false) × (rest ≡ None)
line_adds_no_fault_rest true x rest e = absurd cc
line_adds_no_fault_rest false x rest e = (refl, e)

line_adds_no_fault : (s : Plan) (is : List Instruction) (i : Instruction) → line_read_refusal s is i ≡ None → LineAddsNoFault s is i
line_adds_no_fault s is i e =
    let a = line_adds_no_fault_rest (is_line_read_past (instruction_address i) (plan_addresses s)) _ _ e in
    let b = line_adds_no_fault_rest (is_line_read_past (instruction_lock i) s.locks) _ _ a.1 in
    let c = line_adds_no_fault_rest (is_line_read_past (instruction_flag i) s.flags) _ _ b.1 in
    let d = line_adds_no_fault_rest (line_read_takes_held is i) _ _ c.1 in
    let f = line_adds_no_fault_rest (line_read_gives_unheld is i) _ _ d.1 in
    let g = line_adds_no_fault_rest (leb 10000 (length is)) _ _ f.1 in
    record { address = a.0; lock = b.0; flag = c.0; held = d.0; unheld = f.0; room = g.0 }

line_adds_lawfully : (s : Plan) (is : List Instruction) (i : Instruction) → LineAddsNoFault s is i → IsLawfulAfter is i
line_adds_lawfully s is (instruction.Acquire l) p = p.held
line_adds_lawfully s is (instruction.Release l) p = not-false _ p.unheld
line_adds_lawfully s is _ p = tt

line_adds_instruction : (s : Plan) (is : List Instruction) (i : Instruction) (g : ScriptFront) (o : Option ScriptFault)
    → line_read_refusal s is i ≡ o → IsScriptFrontLawfulWithin s is → (LineAddsNoFault s is i → IsInstructionInRange s i) → line_read_instruction s is i o ≡ Ok g
    → LineAdds (Within s is) (script_instruction_line i) g
line_adds_instruction s is i g (Some fault) refused h ranges e = absurd cc
line_adds_instruction s is i g None refused h ranges e =
    let p = line_adds_no_fault s is i refused in
    let room = p.room in
    let same : Within s (is ++ i ∷ []) ≡ g = cc in
    let start = script_section_lines-append 0 s.sections (is ∷ []) in
    let n = 0 + length s.sections in
    let lines : script_section_lines 0 (s.sections ++ (is ++ i ∷ []) ∷ [])
    ≡ script_section_lines 0 (s.sections ++ is ∷ []) ++ script_instruction_line i ∷ [] =
    script_section_lines-append 0 s.sections ((is ++ i ∷ []) ∷ [])
    ∙ ap (λ (ls : List ScriptLine). script_section_lines 0 s.sections ++ (script_section_line n ∷ ls)) (append-nil
    (map script_instruction_line (is ++ i ∷ []))
    ∙ map_push script_instruction_line is i
    ∙ ap (λ (ls : List ScriptLine). ls ++ script_instruction_line i ∷ []) (sym (append-nil (map script_instruction_line is))))
    ∙ sym (append_assoc (script_section_lines 0 s.sections) (script_section_line n ∷ map script_instruction_line is ++ [])
    (script_instruction_line i ∷ []))
    ∙ ap (λ (ls : List ScriptLine). ls ++ script_instruction_line i ∷ []) (sym start) in
    let may = line_adds_lawfully s is i p in
    let section : IsLawfulSection s (is ++ i ∷ []) = record {
      most = grind (arith, nat_tests, room, length-append is (i ∷ []));
      in_range = All-push (IsInstructionInRange s) is i h.last.in_range (ranges p);
      holding = λ before j after e. elim (line_adds_before_or_last is before i j after e) [
        | inl q ↦ subst (λ (k : Instruction). IsLawfulAfter before k) (sym q.1)
            (subst (λ (ks : List Instruction). IsLawfulAfter ks i) (sym q.0) may)
        | inr q ↦ h.last.holding before j q.0 q.1
      ];
    } in
    subst (λ (x : ScriptFront). LineAdds (Within s is) (script_instruction_line i) x) same (record {
      lines_are = ap (λ (ls : List ScriptLine). script_cluster_line s ∷ ls) lines;
      begun =
          record {
            sizes = h.sizes;
            sections = h.sections;
            last = section;
            one_each = h.one_each;
            none_shown = h.none_shown;
          };
    })

-- what a keyword and its numbers add
pub line_adds_command : (f : ScriptFront) (k : LineKeyword) (ns : List ℕ) (g : ScriptFront) → IsScriptFrontLawful f → is_read_line_due f k (length ns) ≡ true
    → AreDecimalNumbers ns → line_read_step f k ns ≡ Ok g → LineAdds f (record { word = keyword_bytes k; numbers = ns }) g
unfolding line_read_step
line_adds_command Nothing keyword.Cluster ns g h due small e = line_adds_cluster ns g e
line_adds_command Nothing _ ns g h due small e = absurd cc
line_adds_command (Headed s) keyword.Section ns g h due small e = line_adds_first_section s ns g h e
line_adds_command (Headed s) _ ns g h due small e = absurd cc
line_adds_command (Within s is) keyword.Section ns g h due small e = line_adds_next_section s is ns g h e
line_adds_command (Within s is) keyword.Show ns g h due small e = line_adds_shown s is ns g h due e
line_adds_command (Within s is) keyword.Load (a ∷ []) g h due small e =
    line_adds_instruction s is (instruction.Load a) g _ refl h (λ p. leb-false (plan_addresses s) a p.address) e
line_adds_command (Within s is) keyword.Load _ g h due small e = absurd cc
line_adds_command (Within s is) keyword.Store (a ∷ v ∷ []) g h due small e =
    line_adds_instruction s is (instruction.Store a v) g _ refl h (λ p. (leb-false (plan_addresses s) a p.address, small.1.0)) e
line_adds_command (Within s is) keyword.Store _ g h due small e = absurd cc
line_adds_command (Within s is) keyword.Add (a ∷ v ∷ []) g h due small e =
    line_adds_instruction s is (instruction.Add a v) g _ refl h (λ p. (leb-false (plan_addresses s) a p.address, small.1.0)) e
line_adds_command (Within s is) keyword.Add _ g h due small e = absurd cc
line_adds_command (Within s is) keyword.Acquire (l ∷ []) g h due small e =
    line_adds_instruction s is (instruction.Acquire l) g _ refl h (λ p. leb-false s.locks l p.lock) e
line_adds_command (Within s is) keyword.Acquire _ g h due small e = absurd cc
line_adds_command (Within s is) keyword.Release (l ∷ []) g h due small e =
    line_adds_instruction s is (instruction.Release l) g _ refl h (λ p. leb-false s.locks l p.lock) e
line_adds_command (Within s is) keyword.Release _ g h due small e = absurd cc
line_adds_command (Within s is) keyword.Barrier [] g h due small e =
    line_adds_instruction s is instruction.Barrier g _ refl h (λ p. tt) e
line_adds_command (Within s is) keyword.Barrier _ g h due small e = absurd cc
line_adds_command (Within s is) keyword.Set (f ∷ []) g h due small e =
    line_adds_instruction s is (instruction.Set f) g _ refl h (λ p. leb-false s.flags f p.flag) e
line_adds_command (Within s is) keyword.Set _ g h due small e = absurd cc
line_adds_command (Within s is) keyword.Await (f ∷ []) g h due small e =
    line_adds_instruction s is (instruction.Await f) g _ refl h (λ p. leb-false s.flags f p.flag) e
line_adds_command (Within s is) keyword.Await _ g h due small e = absurd cc
line_adds_command (Within s is) keyword.Cut [] g h due small e = line_adds_instruction s is instruction.Cut g _ refl h (λ p. tt) e
line_adds_command (Within s is) keyword.Cut _ g h due small e = absurd cc
line_adds_command (Within s is) keyword.Cluster ns g h due small e = absurd cc
line_adds_command (Whole s) k ns g h due small e = absurd cc
