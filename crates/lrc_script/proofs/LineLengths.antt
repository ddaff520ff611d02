-- How long the lines of a lawful script are at most, and its text.
use Rattle.std.proofs.Common.{◌≡◌, ◌∙◌, ◌+◌, ◌*◌, ◌-◌, ◌^◌, ◌<◌, ◌≤◌, ℕ, suc, List, [], ◌∷◌, ◌++◌, length, map, ap, inl, inr, arith}
use Rattle.std.specs.Prelude.{◌==◌, if◌then◌else◌, Bool, true, false, All}
use Rattle.std.specs.List.{flat_map, sum_by, AllByRecursion}
use Rattle.std.proofs.lemmas.Bool.{cases_lt}
use Rattle.std.proofs.lemmas.Fmt.{length-decimal-le}
use Rattle.std.proofs.lemmas.List.{length-append, length-map}
use Rattle.std.proofs.lemmas.List.Concat.{length-flat_map}
use Rattle.std.proofs.lemmas.List.Elements.{All-map, All-weaker, recursion_from_All}
use Rattle.std.proofs.lemmas.List.Sums.{sum_by-le}
use Rattle.std.proofs.lemmas.Grind.{flat_map-append}
use Rattle.lrc_script.specs.declared.script.Instruction.{Instruction}
use Rattle.lrc_script.specs.declared.script.Instruction.TheVariants.{Load, Store, Add, Acquire, Release, Barrier, Set, Await, Cut}
use Rattle.lrc_script.specs.Plan.{Plan}
use Rattle.lrc_script.specs.Lawful.{plan_addresses, IsInstructionInRange, IsLawfulSection, IsLawful}
use Rattle.lrc_script.specs.ScriptLines.{ScriptLine, script_line_spaced, script_line_bytes, script_line_text, script_cluster_line, script_section_line, script_instruction_line, script_show_line, script_section_lines, text}
use Rattle.lrc_script.proofs.LawfulSizes.{AreLawfulSizesSmall, lawful_sizes_small}

-- the bytes of a line: its word's, its numbers' and its line feed
line_length : (l : ScriptLine)
    → length (script_line_text l) ≡ (length l.word + sum_by (λ n. length (script_line_spaced n)) l.numbers) + 1
line_length l =
    length-append (script_line_bytes l) (10 ∷ [])
    ∙ ap (λ n. n + 1) (length-append l.word (flat_map script_line_spaced l.numbers)
    ∙ ap (λ n. length l.word + n) (length-flat_map script_line_spaced l.numbers))

-- a number below 4096, and the space before it
line_length_of_address : (n : ℕ) → n < 4096 → length (script_line_spaced n) ≤ 5
line_length_of_address n lt = omega (arith, length-decimal-le 4 n (omega arith) (omega (arith, lt)) (omega (arith, lt)))

-- a word
line_length_of_word : (n : ℕ) → n < 2 ^ 32 → length (script_line_spaced n) ≤ 11
line_length_of_word n lt = omega (arith, length-decimal-le 10 n (omega arith) (omega (arith, lt)) (omega (arith, lt)))

-- a number below 100
line_length_of_short_number : (n : ℕ) → n < 100 → length (script_line_spaced n) ≤ 3
line_length_of_short_number n lt = omega (arith, length-decimal-le 2 n (omega arith) (omega (arith, lt)) (omega (arith, lt)))

-- and one below 10
line_length_of_digit : (n : ℕ) → n < 10 → length (script_line_spaced n) ≤ 2
line_length_of_digit n lt = omega (arith, length-decimal-le 1 n (omega arith) (omega (arith, lt)) (omega (arith, lt)))

-- an instruction's line
line_length_of_instruction : (s : Plan) → AreLawfulSizesSmall s → (i : Instruction) → IsInstructionInRange s i
    → length (script_line_text (script_instruction_line i)) ≤ 22
line_length_of_instruction s small (Load a) lt =
    omega (arith, line_length (script_instruction_line (Load a)), line_length_of_address a (omega (arith, lt, small.addresses_fit)))
line_length_of_instruction s small (Store a v) lt =
    omega (
      arith,
      line_length (script_instruction_line (Store a v)),
      line_length_of_address a (omega (arith, lt.0, small.addresses_fit)),
      line_length_of_word v lt.1,
    )
line_length_of_instruction s small (Add a v) lt =
    omega (
      arith,
      line_length (script_instruction_line (Add a v)),
      line_length_of_address a (omega (arith, lt.0, small.addresses_fit)),
      line_length_of_word v lt.1,
    )
line_length_of_instruction s small (Acquire l) lt =
    omega (arith, line_length (script_instruction_line (Acquire l)), line_length_of_short_number l (omega (arith, lt, small.locks)))
line_length_of_instruction s small (Release l) lt =
    omega (arith, line_length (script_instruction_line (Release l)), line_length_of_short_number l (omega (arith, lt, small.locks)))
line_length_of_instruction s small Barrier lt = omega arith
line_length_of_instruction s small (Set f) lt =
    omega (arith, line_length (script_instruction_line (Set f)), line_length_of_short_number f (omega (arith, lt, small.flags)))
line_length_of_instruction s small (Await f) lt =
    omega (arith, line_length (script_instruction_line (Await f)), line_length_of_short_number f (omega (arith, lt, small.flags)))
line_length_of_instruction s small Cut lt = omega arith

-- a section's instructions
line_length_of_instructions : (s : Plan) → AreLawfulSizesSmall s → (is : List Instruction) → IsLawfulSection s is
    → length (flat_map script_line_text (map script_instruction_line is)) ≤ 220000
line_length_of_instructions s small is section =
    let each : All (λ l. length (script_line_text l) ≤ 22) (map script_instruction_line is) =
    All-map (λ l. length (script_line_text l) ≤ 22) script_instruction_line is
    (All-weaker (IsInstructionInRange s) (λ i. length (script_line_text (script_instruction_line i)) ≤ 22) (line_length_of_instruction s small) is
    section.in_range) in
    omega (
      arith,
      length-flat_map script_line_text (map script_instruction_line is),
      sum_by-le (λ l. length (script_line_text l)) 22 (map script_instruction_line is) each,
      length-map is script_instruction_line,
      section.most,
    )

-- the head of section k: one byte less where k has one digit
line_length_of_section_head : (k : ℕ) → k < 16 → length (script_line_text (script_section_line k)) + (10 - k) ≤ 5 + (10 - suc k)
line_length_of_section_head k lt =
    elim (cases_lt k 10) [
      | inl few ↦ omega (arith, line_length (script_section_line k), line_length_of_digit k few)
      | inr many ↦ omega (arith, line_length (script_section_line k), line_length_of_short_number k (omega (arith, lt)), many)
    ]

-- the sections from k on
line_length_of_sections : (s : Plan) → AreLawfulSizesSmall s → (k : ℕ) (sections : List (List Instruction)) → k + length sections ≤ 16
    → AllByRecursion (IsLawfulSection s) sections
    → length (flat_map script_line_text (script_section_lines k sections)) + (10 - k)
    ≤ length sections * 220005 + (10 - (k + length sections))
line_length_of_sections s small k [] few each = omega arith
line_length_of_sections s small k (is ∷ sections) few each =
    omega (
      arith,
      length-append (script_line_text (script_section_line k))
          (flat_map script_line_text (map script_instruction_line is ++ script_section_lines (suc k) sections)),
      ap length (flat_map-append script_line_text (map script_instruction_line is) (script_section_lines (suc k) sections)),
      length-append (flat_map script_line_text (map script_instruction_line is))
          (flat_map script_line_text (script_section_lines (suc k) sections)),
      line_length_of_section_head k (omega (arith, few)),
      line_length_of_instructions s small is each.0,
      line_length_of_sections s small (suc k) sections (omega (arith, few)) each.1,
    )

-- the sizes, where the number of flags may be left out
line_length_of_sizes : (none : Bool) (p n w l f : ℕ) → p < 100 → n < 100 → w < 100 → l < 100 → f < 100
    → sum_by (λ n. length (script_line_spaced n)) (p ∷ n ∷ w ∷ l ∷ (if none then [] else f ∷ [])) ≤ 15
line_length_of_sizes none p n w l f pl nl wl ll fl =
    elim none as (λ b. sum_by (λ n. length (script_line_spaced n)) (p ∷ n ∷ w ∷ l ∷ (if b then [] else f ∷ [])) ≤ 15) [
      | true ↦ omega (arith, line_length_of_short_number p pl, line_length_of_short_number n nl, line_length_of_short_number w wl, line_length_of_short_number l ll)
      | false ↦
          omega (arith, line_length_of_short_number p pl, line_length_of_short_number n nl, line_length_of_short_number w wl, line_length_of_short_number l ll, line_length_of_short_number f fl)
    ]

-- the line of the sizes
line_length_of_cluster : (s : Plan) → AreLawfulSizesSmall s → length (script_line_text (script_cluster_line s)) ≤ 23
line_length_of_cluster s small =
    omega (
      arith,
      line_length (script_cluster_line s),
      line_length_of_sizes (s.flags == 0) s.processors s.pages s.words s.locks s.flags (omega (arith, small.processors))
          (omega (arith, small.pages)) (omega (arith, small.words)) (omega (arith, small.locks))
          (omega (arith, small.flags)),
    )

-- the shown addresses
line_length_of_shown : (s : Plan) → AreLawfulSizesSmall s → (shown : List ℕ) → length shown ≤ 64 → All (λ a. a < plan_addresses s) shown
    → length (script_line_text (script_show_line shown)) ≤ 325
line_length_of_shown s small shown few each =
    omega (
      arith,
      line_length (script_show_line shown),
      sum_by-le (λ n. length (script_line_spaced n)) 5 shown
          (All-weaker (λ a. a < plan_addresses s) (λ a. length (script_line_spaced a) ≤ 5)
          (λ a lt. line_length_of_address a (omega (arith, lt, small.addresses_fit))) shown each),
      few,
    )

-- the whole text: the sum of the longest lines
pub line_lengths_of_text : (s : Plan) → IsLawful s → length (text s) ≤ 3520418
line_lengths_of_text s lawful =
    let small = lawful_sizes_small s lawful.but_uneven.sizes in
    let parts = script_section_lines 0 s.sections in
    omega (
      arith,
      length-append (script_line_text (script_cluster_line s)) (flat_map script_line_text (parts ++ script_show_line s.shown ∷ [])),
      ap length (flat_map-append script_line_text parts (script_show_line s.shown ∷ [])),
      length-append (flat_map script_line_text parts) (flat_map script_line_text (script_show_line s.shown ∷ [])),
      length-append (script_line_text (script_show_line s.shown)) [],
      line_length_of_cluster s small,
      line_length_of_sections s small 0 s.sections (omega (arith, lawful.but_uneven.one_each, small.processors))
          (recursion_from_All (IsLawfulSection s) s.sections lawful.but_uneven.sections),
      line_length_of_shown s small s.shown lawful.but_uneven.most_shown lawful.but_uneven.shown,
      lawful.but_uneven.one_each,
      small.processors,
    )
