-- What lawful sizes and sections give.
use Rattle.std.proofs.Common.{◌≡◌, ℕ, ◌*◌, ◌<◌, ◌≤◌, true, ◌&&◌, leb, List, [], ◌∷◌, length, ap, arith}
use Rattle.std.proofs.lemmas.Bool.{leb-true, and_parts}
use Rattle.std.proofs.lemmas.Bool.Decides.{nat_tests}
use Rattle.std.proofs.Math.Nat.{mul-le-mul}
use Rattle.std.proofs.lemmas.List.{length-append}
use Rattle.std.proofs.lemmas.List.Elements.{All-nil}
use Rattle.lrc_script.specs.declared.script.Instruction.{Instruction}
use Rattle.lrc_script.specs.Plan.{Plan}
use Rattle.lrc_script.specs.Lawful.{plan_addresses, AreLawfulSizes, IsInstructionInRange, IsLawfulSection}
use Rattle.lrc_script.specs.LineReading.{are_line_read_sizes}

-- the test for sizes
pub lawful_sizes_test : (s : Plan) → AreLawfulSizes s → are_line_read_sizes s ≡ true
lawful_sizes_test s h =
    grind (
      arith,
      nat_tests,
      h.some_processors,
      h.most_processors,
      h.some_pages,
      h.most_pages,
      h.some_words,
      h.most_words,
      h.locks,
      h.flags,
    )

pub lawful_sizes_from_test : (s : Plan) → are_line_read_sizes s ≡ true → AreLawfulSizes s
lawful_sizes_from_test s e =
    let h =
    and_parts (leb 1 s.processors && leb s.processors 16 && leb 1 s.pages && leb s.pages 64 && leb 1 s.words &&
    leb s.words 64 && leb s.locks 32)
    (leb s.flags 32) e in
    let g =
    and_parts (leb 1 s.processors && leb s.processors 16 && leb 1 s.pages && leb s.pages 64 && leb 1 s.words &&
    leb s.words 64)
    (leb s.locks 32) h.0 in
    let f =
    and_parts (leb 1 s.processors && leb s.processors 16 && leb 1 s.pages && leb s.pages 64 && leb 1 s.words)
    (leb s.words 64) g.0 in
    let d =
    and_parts (leb 1 s.processors && leb s.processors 16 && leb 1 s.pages && leb s.pages 64) (leb 1 s.words) f.0
    in
    let c = and_parts (leb 1 s.processors && leb s.processors 16 && leb 1 s.pages) (leb s.pages 64) d.0 in
    let b = and_parts (leb 1 s.processors && leb s.processors 16) (leb 1 s.pages) c.0 in
    let a = and_parts (leb 1 s.processors) (leb s.processors 16) b.0 in
    record {
      some_processors = leb-true 1 s.processors a.0;
      most_processors = leb-true s.processors 16 a.1;
      some_pages = leb-true 1 s.pages b.1;
      most_pages = leb-true s.pages 64 c.1;
      some_words = leb-true 1 s.words d.1;
      most_words = leb-true s.words 64 f.1;
      locks = leb-true s.locks 32 g.1;
      flags = leb-true s.flags 32 h.1;
    }

-- how large sizes are
pub record AreLawfulSizesSmall (s : Plan) : Type 0 where
  pub some : 0 < s.processors
  pub processors : s.processors ≤ 16
  pub pages : s.pages ≤ 64
  pub words : s.words ≤ 64
  pub locks : s.locks ≤ 32
  pub flags : s.flags ≤ 32
  pub address : 0 < plan_addresses s
  pub addresses_fit : plan_addresses s ≤ 4096

lawful_sizes_product_small : (a b : ℕ) → 1 ≤ a → a ≤ 64 → 1 ≤ b → b ≤ 64 → (0 < a * b) × (a * b ≤ 4096)
lawful_sizes_product_small a b some_a most_a some_b most_b = (grind (arith, mul-le-mul), grind (arith, mul-le-mul))

pub lawful_sizes_small : (s : Plan) → AreLawfulSizes s → AreLawfulSizesSmall s
lawful_sizes_small s h =
    let product = lawful_sizes_product_small s.pages s.words h.some_pages h.most_pages h.some_words h.most_words in
    record {
      some = h.some_processors;
      processors = h.most_processors;
      pages = h.most_pages;
      words = h.most_words;
      locks = h.locks;
      flags = h.flags;
      address = product.0;
      addresses_fit = product.1;
    }

-- sections and shown addresses don't change what sizes and sections need
pub lawful_sizes_over : (s : Plan) (sections : List (List Instruction)) (shown : List ℕ) → AreLawfulSizes s
    → AreLawfulSizes (record s { sections = sections; shown = shown })
lawful_sizes_over s sections shown h = record {
  some_processors = h.some_processors;
  most_processors = h.most_processors;
  some_pages = h.some_pages;
  most_pages = h.most_pages;
  some_words = h.some_words;
  most_words = h.most_words;
  locks = h.locks;
  flags = h.flags;
}

pub lawful_sizes_section_over : (s : Plan) (sections : List (List Instruction)) (shown : List ℕ) (is : List Instruction)
    → IsLawfulSection s is → IsLawfulSection (record s { sections = sections; shown = shown }) is
lawful_sizes_section_over s sections shown is h = record { most = h.most; in_range = h.in_range; holding = h.holding }

-- the same sizes, with other sections
abbrev pub lawful_sizes_with_sections : Plan → List (List Instruction) → Plan
lawful_sizes_with_sections s sections = record s { sections = sections }

pub lawful_sizes_section_with : (s : Plan) (sections : List (List Instruction)) (is : List Instruction) → IsLawfulSection s is
    → IsLawfulSection (lawful_sizes_with_sections s sections) is
lawful_sizes_section_with s sections is h = lawful_sizes_section_over s sections s.shown is h

pub lawful_sizes_with : (s : Plan) (sections : List (List Instruction)) → AreLawfulSizes s → AreLawfulSizes (lawful_sizes_with_sections s sections)
lawful_sizes_with s sections h = lawful_sizes_over s sections s.shown h

-- an empty section
pub lawful_sizes_section_none : (s : Plan) → IsLawfulSection s []
lawful_sizes_section_none s = record {
  most = omega arith;
  in_range = All-nil (IsInstructionInRange s);
  holding =
      λ before i after e. absurd
      (omega (arith, ap (λ (is : List Instruction). length is) e, length-append before (i ∷ after)));
}
