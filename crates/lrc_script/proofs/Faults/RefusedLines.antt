-- What a fault says of the line that is refused.
use Rattle.std.proofs.Common.{◌≡◌, ◌≢◌, ℕ, suc, ◌+◌, ◌≤◌, Bool, true, false, ◌&&◌, ◌||◌, cond, eqb, ltb, leb, List, [], ◌∷◌, length, Option, Some, None, Result, Ok, Err, refl, sym, ap, subst, ◌∙◌, arith, inl, inr, ◌⊎◌}
use Rattle.std.specs.Prelude.{Any, IsSomeAnd, codes}
use Rattle.std.specs.List.{list_any}
use Rattle.std.proofs.lemmas.Bool.{and_cases, both_ways, not-true}
use Rattle.std.proofs.lemmas.Bool.Decides.{nat_tests}
use Rattle.lrc_script.specs.declared.fault.ScriptFault.{ScriptFault}
use Rattle.lrc_script.specs.declared.fault.ScriptFault.TheVariants as fault
use Rattle.lrc_script.specs.declared.script.Instruction.{Instruction}
use Rattle.lrc_script.specs.declared.script.Instruction.TheVariants as instruction
use Rattle.lrc_script.specs.declared.line.LineKeyword.{LineKeyword}
use Rattle.lrc_script.specs.declared.line.LineKeyword.TheVariants as keyword
use Rattle.lrc_script.specs.Plan.{Plan, plan_of_sizes}
use Rattle.lrc_script.specs.Lawful.{plan_addresses, AreLawfulSizes, instruction_address, instruction_lock, instruction_flag, holds}
use Rattle.lrc_script.specs.ScriptLines.{ScriptLine, script_line_bytes, script_section_line, script_instruction_line, script_show_line}
use Rattle.lrc_script.specs.ScriptFront.{ScriptFront, Nothing, Headed, Within, Whole, IsScriptFrontLawful}
use Rattle.lrc_script.specs.ScriptFaults.{AllowsScriptLine, IsScriptFaultOutOfTurn, AreScriptFaultSizes, ScriptFaultSaysWithin, ScriptFaultSays, IsScriptFaultOfLine, IsScriptFaultBehind, IsScriptFaultAt, IsScriptFault}
use Rattle.lrc_script.specs.LineReading.{are_line_read_sizes, is_read_line_due, line_read_cluster, line_read_first_section, line_read_next_section, line_read_shown, is_line_read_past, line_read_takes_held, line_read_gives_unheld, line_read_refusal, line_read_instruction, line_read_section_closed, line_read_step, line_read_after}
use Rattle.lrc_script.proofs.LawfulSizes.{lawful_sizes_test}
use Rattle.lrc_script.proofs.Reading.Keywords.{keyword_bytes, keyword_spelled, keyword_due_allows, keyword_due_if_allowed}
use Rattle.lrc_script.proofs.Reading.LineCases.{LineCases, Shapeless, NoNumber, Reached, line_cases_read}
use Rattle.lrc_script.proofs.Faults.LineAdds.{LineAdds, line_adds_command}

-- a refused test
refused_line_unless : {A : Type 0} (b : Bool) (x : A) (f g : ScriptFault) → cond b (Ok x) (Err f) ≡ Err g
    → (b ≡ false) × (f ≡ g)
refused_line_unless true x f g e = absurd cc
refused_line_unless false x f g e = (refl, cc)

-- the first of two tests refuses, or the second
refused_line_if : {A : Type 0} (b : Bool) (r : Result A ScriptFault) (f g : ScriptFault) → cond b (Err f) r ≡ Err g
    → ((b ≡ true) × (f ≡ g)) ⊎ ((b ≡ false) × (r ≡ Err g))
refused_line_if true r f g e = inl (refl, cc)
refused_line_if false r f g e = inr (refl, e)

-- ---- the cluster line

refused_line_no_sizes : (s : Plan) → are_line_read_sizes s ≡ false → AreLawfulSizes s → ⊥
refused_line_no_sizes s e h = both_ways (are_line_read_sizes s) e (lawful_sizes_test s h)

refused_line_head : (ns : List ℕ) (g : ScriptFault) → (eqb (length ns) 4 || eqb (length ns) 5) ≡ true → line_read_cluster ns ≡ Err g
    → (fault.BadSize ≡ g) × AreScriptFaultSizes ns
refused_line_head [] g due e = absurd cc
refused_line_head (p ∷ []) g due e = absurd cc
refused_line_head (p ∷ n ∷ []) g due e = absurd cc
refused_line_head (p ∷ n ∷ w ∷ []) g due e = absurd cc
refused_line_head (p ∷ n ∷ w ∷ l ∷ []) g due e =
    let s = plan_of_sizes p n w l 0 in
    let t = refused_line_unless (are_line_read_sizes s) (Headed s) _ g e in
    (t.1, refused_line_no_sizes s t.0)
refused_line_head (p ∷ n ∷ w ∷ l ∷ k ∷ []) g due e =
    let s = plan_of_sizes p n w l k in
    let t = refused_line_unless (ltb 0 k && are_line_read_sizes s) (Headed s) _ g e in (
      t.1,
      elim (and_cases (ltb 0 k) (are_line_read_sizes s) t.0)
          [ inl z ↦ inl (grind (arith, nat_tests, z)) | inr z ↦ inr (refused_line_no_sizes s z) ],
    )
refused_line_head (p ∷ n ∷ w ∷ l ∷ k ∷ m ∷ ns) g due e = absurd (grind (arith, nat_tests, due))

-- ---- a section line

refused_line_first_section : (s : Plan) (ns : List ℕ) (g : ScriptFault) → eqb (length ns) 1 ≡ true → line_read_first_section s ns ≡ Err g
    → (fault.BadLine ≡ g) × (k : ℕ)
    × (script_line_bytes (record { word = codes "p"; numbers = ns }) ≡ script_line_bytes (script_section_line k)) × (k ≢ 0)
refused_line_first_section s [] g due e = absurd cc
refused_line_first_section s (k ∷ []) g due e =
    let t = refused_line_unless (eqb k 0) (Within s []) _ g e in let test = t.0 in
    (t.1, k, refl, λ z. grind (arith, nat_tests, test, z))
refused_line_first_section s (k ∷ m ∷ ns) g due e = absurd (grind (arith, nat_tests, due))

refused_line_next_section : (s : Plan) (is : List Instruction) (ns : List ℕ) (g : ScriptFault) → eqb (length ns) 1 ≡ true
    → line_read_next_section s is ns ≡ Err g
    → (fault.BadLine ≡ g) × (k : ℕ)
    × (script_line_bytes (record { word = codes "p"; numbers = ns }) ≡ script_line_bytes (script_section_line k))
    × IsScriptFaultOutOfTurn (Within s is) k
refused_line_next_section s is [] g due e = absurd cc
refused_line_next_section s is (k ∷ []) g due e =
    let t = refused_line_unless (eqb k (length s.sections + 1) && ltb k s.processors) (Within (line_read_section_closed s is) []) _ g e in (
      t.1,
      k,
      refl,
      elim (and_cases (eqb k (length s.sections + 1)) (ltb k s.processors) t.0)
          [ inl z ↦ inl (λ same. grind (arith, nat_tests, z, same)) | inr z ↦ inr (grind (arith, nat_tests, z)) ],
    )
refused_line_next_section s is (k ∷ m ∷ ns) g due e = absurd (grind (arith, nat_tests, due))

-- ---- the show line

refused_line_some_past : (n : ℕ) (xs : List ℕ) → list_any (λ a. leb n a) xs ≡ true → Any (λ a. n ≤ a) xs
refused_line_some_past n [] e = absurd cc
refused_line_some_past n (x ∷ xs) e = past_cases n x xs (leb n x) refl e (refused_line_some_past n xs)
  where
    past_cases : (n x : ℕ) (xs : List ℕ) (b : Bool) → leb n x ≡ b → (b || list_any (λ a. leb n a) xs) ≡ true
        → (list_any (λ a. leb n a) xs ≡ true → Any (λ a. n ≤ a) xs) → Any (λ a. n ≤ a) (x ∷ xs)
    past_cases n x xs true t e rest = (0, x, omega arith, refl, grind (arith, nat_tests, t))
    past_cases n x xs false t e rest = let r = rest e in (suc r.0, r.1, omega (arith, r.2), r.3, r.4)

refused_line_shown : (s : Plan) (is : List Instruction) (ns : List ℕ) (g : ScriptFault) → line_read_shown s is ns ≡ Err g
    → ScriptFaultSaysWithin g s is (script_line_bytes (script_show_line ns))
refused_line_shown s is ns g e = elim (refused_line_if (list_any (λ a. leb (plan_addresses s) a) ns) _ _ g e) [
  | inl t ↦ subst (λ (x : ScriptFault). ScriptFaultSaysWithin x s is (script_line_bytes (script_show_line ns))) t.1
      (inr (ns, refl, refused_line_some_past (plan_addresses s) ns t.0))
  | inr t ↦ elim (refused_line_if (ltb 64 (length ns)) _ _ g t.1) [
    | inl u ↦ let long = u.0 in
        subst (λ (x : ScriptFault). ScriptFaultSaysWithin x s is (script_line_bytes (script_show_line ns))) u.1
        (inr (ns, refl, grind (arith, nat_tests, long)))
    | inr u ↦ absurd (let none = u.1 in cc)
  ]
]

-- ---- an instruction

refused_line_past : (o : Option ℕ) (n : ℕ) → is_line_read_past o n ≡ true → IsSomeAnd o (λ a. n ≤ a)
refused_line_past None n e = absurd cc
refused_line_past (Some a) n e = grind (arith, nat_tests, e)

refused_line_held : (is : List Instruction) (i : Instruction) → line_read_takes_held is i ≡ true
    → (l : ℕ) × (i ≡ instruction.Acquire l) × (holds is l ≡ true)
refused_line_held is (instruction.Acquire l) e = (l, refl, e)
refused_line_held is _ e = absurd cc

refused_line_unheld : (is : List Instruction) (i : Instruction) → line_read_gives_unheld is i ≡ true
    → (l : ℕ) × (i ≡ instruction.Release l) × (holds is l ≡ false)
refused_line_unheld is (instruction.Release l) e = (l, refl, not-true _ e)
refused_line_unheld is _ e = absurd cc

refused_line_some_if : (b : Bool) (f g : ScriptFault) (rest : Option ScriptFault) → cond b (Some f) rest ≡ Some g
    → ((b ≡ true) × (f ≡ g)) ⊎ ((b ≡ false) × (rest ≡ Some g))
refused_line_some_if true f g rest e = inl (refl, cc)
refused_line_some_if false f g rest e = inr (refl, e)

refused_line_by_test : (s : Plan) (is : List Instruction) (i : Instruction) (g : ScriptFault) → line_read_refusal s is i ≡ Some g
    → ScriptFaultSaysWithin g s is (script_line_bytes (script_instruction_line i))
refused_line_by_test s is i g e = let P : ScriptFault → Type 0 = λ x. ScriptFaultSaysWithin x s is (script_line_bytes (script_instruction_line i)) in
    elim (refused_line_some_if (is_line_read_past (instruction_address i) (plan_addresses s)) _ g _ e) [
      | inl t ↦ subst P t.1 (inl (i, refl, refused_line_past (instruction_address i) (plan_addresses s) t.0))
      | inr t ↦ elim (refused_line_some_if (is_line_read_past (instruction_lock i) s.locks) _ g _ t.1) [
        | inl u ↦ subst P u.1 (i, refl, refused_line_past (instruction_lock i) s.locks u.0)
        | inr u ↦ elim (refused_line_some_if (is_line_read_past (instruction_flag i) s.flags) _ g _ u.1) [
          | inl v ↦ subst P v.1 (i, refl, refused_line_past (instruction_flag i) s.flags v.0)
          | inr v ↦ elim (refused_line_some_if (line_read_takes_held is i) _ g _ v.1) [
            | inl w ↦ subst P w.1 (i, refl, refused_line_held is i w.0)
            | inr w ↦ elim (refused_line_some_if (line_read_gives_unheld is i) _ g _ w.1) [
              | inl x ↦ subst P x.1 (i, refl, refused_line_unheld is i x.0)
              | inr x ↦ elim (refused_line_some_if (leb 10000 (length is)) _ g None x.1) [
                | inl y ↦ let long = y.0 in subst P y.1 (inl (i, refl, grind (arith, nat_tests, long)))
                | inr y ↦ absurd (let none = y.1 in cc)
              ]
            ]
          ]
        ]
      ]
    ]

refused_line_instruction : (s : Plan) (is : List Instruction) (i : Instruction) (g : ScriptFault) (o : Option ScriptFault)
    → line_read_refusal s is i ≡ o → line_read_instruction s is i o ≡ Err g → ScriptFaultSaysWithin g s is (script_line_bytes (script_instruction_line i))
refused_line_instruction s is i g None refused e = absurd cc
refused_line_instruction s is i g (Some f) refused e =
    let same : f ≡ g = cc in refused_line_by_test s is i g (refused ∙ ap (λ (x : ScriptFault). Some x) same)

-- what stands within a section's faults stands in the table
refused_line_within : (g : ScriptFault) (s : Plan) (is : List Instruction) (line : List ℕ) → ScriptFaultSaysWithin g s is line
    → ScriptFaultSays g (Within s is) line
refused_line_within fault.BadLine s is line h = absurd h
refused_line_within fault.BadNumber s is line h = absurd h
refused_line_within _ s is line h = h

pub refused_line_command : (f : ScriptFront) (k : LineKeyword) (ns : List ℕ) (g : ScriptFault) → is_read_line_due f k (length ns) ≡ true
    → line_read_step f k ns ≡ Err g → ScriptFaultSays g f (script_line_bytes (record { word = keyword_bytes k; numbers = ns }))
unfolding line_read_step
refused_line_command Nothing keyword.Cluster ns g due e =
    let t = refused_line_head ns g due e in
    subst (λ (x : ScriptFault). ScriptFaultSays x Nothing (script_line_bytes (record { word = codes "cluster"; numbers = ns }))) t.0
    (ns, refl, t.1)
refused_line_command Nothing _ ns g due e = absurd cc
refused_line_command (Headed s) keyword.Section ns g due e =
    let t = refused_line_first_section s ns g due e in
    subst (λ (x : ScriptFault). ScriptFaultSays x (Headed s) (script_line_bytes (record { word = codes "p"; numbers = ns }))) t.0
    (inr (t.1, t.2, t.3))
refused_line_command (Headed s) _ ns g due e = absurd cc
refused_line_command (Within s is) keyword.Section ns g due e =
    let t = refused_line_next_section s is ns g due e in
    subst (λ (x : ScriptFault). ScriptFaultSays x (Within s is) (script_line_bytes (record { word = codes "p"; numbers = ns }))) t.0
    (inr (t.1, t.2, t.3))
refused_line_command (Within s is) keyword.Show ns g due e = refused_line_within g s is _ (refused_line_shown s is ns g e)
refused_line_command (Within s is) keyword.Load (a ∷ []) g due e =
    refused_line_within g s is _ (refused_line_instruction s is (instruction.Load a) g _ refl e)
refused_line_command (Within s is) keyword.Load [] g due e = absurd cc
refused_line_command (Within s is) keyword.Load (a ∷ b ∷ ns) g due e = absurd (grind (arith, nat_tests, due))
refused_line_command (Within s is) keyword.Store (a ∷ v ∷ []) g due e =
    refused_line_within g s is _ (refused_line_instruction s is (instruction.Store a v) g _ refl e)
refused_line_command (Within s is) keyword.Store [] g due e = absurd cc
refused_line_command (Within s is) keyword.Store (a ∷ []) g due e = absurd cc
refused_line_command (Within s is) keyword.Store (a ∷ b ∷ c ∷ ns) g due e = absurd (grind (arith, nat_tests, due))
refused_line_command (Within s is) keyword.Add (a ∷ v ∷ []) g due e =
    refused_line_within g s is _ (refused_line_instruction s is (instruction.Add a v) g _ refl e)
refused_line_command (Within s is) keyword.Add [] g due e = absurd cc
refused_line_command (Within s is) keyword.Add (a ∷ []) g due e = absurd cc
refused_line_command (Within s is) keyword.Add (a ∷ b ∷ c ∷ ns) g due e = absurd (grind (arith, nat_tests, due))
refused_line_command (Within s is) keyword.Acquire (l ∷ []) g due e =
    refused_line_within g s is _ (refused_line_instruction s is (instruction.Acquire l) g _ refl e)
refused_line_command (Within s is) keyword.Acquire [] g due e = absurd cc
refused_line_command (Within s is) keyword.Acquire (a ∷ b ∷ ns) g due e = absurd (grind (arith, nat_tests, due))
refused_line_command (Within s is) keyword.Release (l ∷ []) g due e =
    refused_line_within g s is _ (refused_line_instruction s is (instruction.Release l) g _ refl e)
refused_line_command (Within s is) keyword.Release [] g due e = absurd cc
refused_line_command (Within s is) keyword.Release (a ∷ b ∷ ns) g due e = absurd (grind (arith, nat_tests, due))
refused_line_command (Within s is) keyword.Barrier [] g due e =
    refused_line_within g s is _ (refused_line_instruction s is instruction.Barrier g _ refl e)
refused_line_command (Within s is) keyword.Barrier (a ∷ ns) g due e = absurd (grind (arith, nat_tests, due))
refused_line_command (Within s is) keyword.Set (f ∷ []) g due e =
    refused_line_within g s is _ (refused_line_instruction s is (instruction.Set f) g _ refl e)
refused_line_command (Within s is) keyword.Set [] g due e = absurd cc
refused_line_command (Within s is) keyword.Set (a ∷ b ∷ ns) g due e = absurd (grind (arith, nat_tests, due))
refused_line_command (Within s is) keyword.Await (f ∷ []) g due e =
    refused_line_within g s is _ (refused_line_instruction s is (instruction.Await f) g _ refl e)
refused_line_command (Within s is) keyword.Await [] g due e = absurd cc
refused_line_command (Within s is) keyword.Await (a ∷ b ∷ ns) g due e = absurd (grind (arith, nat_tests, due))
refused_line_command (Within s is) keyword.Cut [] g due e =
    refused_line_within g s is _ (refused_line_instruction s is instruction.Cut g _ refl e)
refused_line_command (Within s is) keyword.Cut (a ∷ ns) g due e = absurd (grind (arith, nat_tests, due))
refused_line_command (Within s is) keyword.Cluster ns g due e = absurd cc
refused_line_command (Whole s) k ns g due e = absurd cc

-- ---- any line

-- the line that was read, and what it adds
pub record IsNoRefusedLine (f : ScriptFront) (line : List ℕ) (g : ScriptFront) : Type 0 where
  pub added : ScriptLine
  pub line_is : line ≡ script_line_bytes added
  pub adds : LineAdds f added g

no_refused_line_if_read : (f : ScriptFront) (line : List ℕ) (g : ScriptFront) → IsScriptFrontLawful f → LineCases f line (Ok g) → IsNoRefusedLine f line g
no_refused_line_if_read f line g begun (Shapeless h e) = absurd cc
no_refused_line_if_read f line g begun (NoNumber fault' m e) = absurd cc
no_refused_line_if_read f line g begun (Reached c e) =
    let word = keyword_spelled c.word c.key c.key_is in
    record {
      added = record { word = keyword_bytes c.key; numbers = c.numbers };
      line_is = c.line_is ∙ ap (λ (w : List ℕ). script_line_bytes (record { word = w; numbers = c.numbers })) word;
      adds = line_adds_command f c.key c.numbers g begun c.due c.small (sym e);
    }

pub no_refused_line_adds : (f : ScriptFront) (line : List ℕ) (g : ScriptFront) → IsScriptFrontLawful f → line_read_after f line ≡ Ok g → IsNoRefusedLine f line g
no_refused_line_adds f line g begun e = no_refused_line_if_read f line g begun (line_cases_read f line (Ok g) e)

refused_line_cases : (f : ScriptFront) (line : List ℕ) (g : ScriptFault) → LineCases f line (Err g) → ScriptFaultSays g f line
refused_line_cases f line g (Shapeless h e) =
    let same : fault.BadLine ≡ g = cc in
    subst (λ (x : ScriptFault). ScriptFaultSays x f line) same (inl (λ word words split allowed. let d = keyword_due_if_allowed f word
    (length words) allowed in
    h word words d.0 split d.1 d.2))
refused_line_cases f line g (NoNumber other m e) =
    let same : fault.BadNumber ≡ g = sym m.refused.fault_is ∙ (let err : other ≡ g = cc in err) in
    let allowed =
    subst (λ (w : List ℕ). AllowsScriptLine f w (length m.words)) (sym (keyword_spelled m.word m.key m.key_is))
    (keyword_due_allows f m.key (length m.words) m.due) in
    subst (λ (x : ScriptFault). ScriptFaultSays x f line) same
    (m.word, m.words, m.split, allowed, m.refused.word, m.refused.within, m.refused.none)
refused_line_cases f line g (Reached c e) =
    let word = keyword_spelled c.word c.key c.key_is in
    let line-is : line ≡ script_line_bytes (record { word = keyword_bytes c.key; numbers = c.numbers }) =
    c.line_is ∙ ap (λ (w : List ℕ). script_line_bytes (record { word = w; numbers = c.numbers })) word in
    subst (λ (x : List ℕ). ScriptFaultSays g f x) (sym line-is) (refused_line_command f c.key c.numbers g c.due (sym e))

pub refused_line_says : (f : ScriptFront) (line : List ℕ) (g : ScriptFault) → line_read_after f line ≡ Err g → ScriptFaultSays g f line
refused_line_says f line g e = refused_line_cases f line g (line_cases_read f line (Err g) e)

-- reading a line is never refused as if the bytes ended
refused_line_never_truncated : (f : ScriptFront) (line : List ℕ) → ScriptFaultSays fault.Truncated f line → ⊥
refused_line_never_truncated Nothing line h = h
refused_line_never_truncated (Headed s) line h = h
refused_line_never_truncated (Within s is) line h = h
refused_line_never_truncated (Whole s) line h = h

pub refused_line_fault_behind : (g : ScriptFault) (f : ScriptFront) (rest : List ℕ) → IsScriptFaultOfLine g f rest → IsScriptFaultBehind g f rest
refused_line_fault_behind fault.Truncated f rest h = absurd (refused_line_never_truncated f h.line h.says)
refused_line_fault_behind fault.NoMemory f rest h =
    record { line = h.line; more = h.more; rest_is = h.rest_is; one_line = h.one_line }
refused_line_fault_behind _ f rest h = h

-- nor as if its sections differed
refused_line_never_uneven : (f : ScriptFront) (line : List ℕ) → ScriptFaultSays fault.Uneven f line → ⊥
refused_line_never_uneven Nothing line h = h
refused_line_never_uneven (Headed s) line h = h
refused_line_never_uneven (Within s is) line h = h
refused_line_never_uneven (Whole s) line h = h

pub refused_line_fault_from : (bytes : List ℕ) (n : ℕ) (g : ScriptFault) → IsScriptFaultAt bytes n g → IsScriptFault bytes n g
refused_line_fault_from bytes n fault.Uneven h = absurd (refused_line_never_uneven h.front h.behind.line h.behind.says)
refused_line_fault_from bytes n _ h = h
